-- What a plan stands for: a value of the code before its texts are copied.
use Rattle.std.specs.Prelude.{List, [], Option, map, option_map, unwrap_or}
use Rattle.std.specs.Borrow.{Bor}
use Rattle.clap.specs.Words.{Text}
use Rattle.oth_words.specs.CommandLine.{Meaning, add, run, verify}
use Rattle.oth_words.specs.declared.plan.Plan.{Plan}
use Rattle.oth_words.specs.declared.plan.Plan.TheVariants as plan

-- the texts of a list of words, or none where there is no list
abbrev pub listed : Option (Bor (List (Bor Text))) → List Text
listed words = unwrap_or (option_map (λ list. map (λ t. t.now) list.now) words) []

-- a file's name is the text that the words have
abbrev pub plan_meaning : Plan → Meaning
plan_meaning (plan.Run settings telling book files) = run settings telling (option_map (λ t. t.now) book) (listed files)
plan_meaning (plan.Verify telling file) = verify telling file.now
plan_meaning (plan.Add settings telling file) = add settings telling file.now
