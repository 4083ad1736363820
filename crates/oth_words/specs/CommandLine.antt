-- The command line. A `Text` is a list of bytes, and the words of a line are a list of texts, of which the first names the program.
-- `othsolve` is the command as clap sees it: its subcommands, and the rule of each of their arguments. By clap's exact meaning
-- `takes` says whether the words are a lawful call of it, `fault_of` which fault they have, and `subcommand_of` which subcommand
-- they name, with a row of texts for each argument, the default where none is given. `Means` says what that stands for.
use Rattle.std.specs.Prelude.{◌≡◌, ◌≢◌, ◌≤◌, ℕ, pos, Bool, true, false, List, [], ◌∷◌, Option, Some, None, Result, Ok, Err, codes, map}
use Rattle.std.specs.Prelude.{option_map, unwrap_or}
use Rattle.clap.specs.declared.error.Error.{Error}
use Rattle.clap.specs.declared.error.kind.ErrorKind.TheVariants.{OutOfMemory}
use Rattle.std.specs.Borrow.{Bor}
use Rattle.std.specs.Str.{bytes_eq}
use Rattle.std.specs.Str.Parse.{IsNumeral, digits_value, without_leading_plus}
use Rattle.std.specs.String.{string_bytes}
use Rattle.clap.specs.Kinds.{HasKind}
use Rattle.clap.specs.Lexer.{usize_max}
use Rattle.clap.specs.Walk.{texts}
use Rattle.clap.specs.Words.{App, Row, Rule, Text, all_of, fault_of, first_of, kind_of, new_app, new_rule, one_of, subcommand_of, takes}
use Rattle.clap.specs.Words.{with_rule, with_subcommand}
use Rattle.clap.specs.declared.builder.action.ArgAction.TheVariants.{Append, Set, SetTrue}
use Rattle.clap.specs.declared.builder.texts.Texts.{Texts}
use Rattle.clap.specs.declared.builder.texts.Texts.TheVariants.{One, Many}
use Rattle.clap.specs.declared.builder.value_parser.ValueParser.TheVariants as parser
use Rattle.oth_rules.specs.declared.scoring.Scoring.{Scoring}
use Rattle.oth_rules.specs.declared.scoring.Scoring.TheVariants.{Winner, Discs}
use Rattle.oth_words.specs.declared.settings.Settings.{Settings}
use Rattle.oth_words.specs.declared.settings.Command.{Command}
use Rattle.oth_words.specs.declared.settings.Command.TheVariants.{Solve, Scores, Moves, Transcript, Play, Analyse}
use Rattle.oth_words.specs.declared.settings.Telling.{Telling}
use Rattle.oth_words.specs.declared.settings.Words.{Words}
use Rattle.oth_words.specs.declared.settings.Words.TheVariants.{Run, Verify, Add}

-- ---- the command

-- an option with one value, which has a name in help
abbrev pub option_rule : Text → Rule
option_rule name = record (new_rule name) { long = Some name; action = Some Set; value_names = 1 }

-- what help calls the value of an option
abbrev pub IsCalled : Texts → Text → Type 0
IsCalled (One name) called = name.now ≡ called
IsCalled (Many names) called = ⊥

-- an option with a number, which has a default
abbrev pub number_option : Text → ℕ → ℕ → Text → Rule
number_option name least most default = record (option_rule name) {
  parser = Some (parser.Signed (pos least) (pos most));
  defaults = default ∷ [];
}

abbrev pub workers_rule : Rule
workers_rule = number_option (codes "workers") 1 16 (codes "1")

abbrev pub cells_rule : Rule
cells_rule = number_option (codes "cells") 0 262144 (codes "65536")

abbrev pub last_rule : Rule
last_rule = number_option (codes "last") 1 30 (codes "20")

-- references to the words of the two scorings
abbrev pub ScoringWords : Type 0
ScoringWords = Bor (List (Bor Text))

abbrev pub AreScorings : ScoringWords → Type 0
AreScorings scorings = texts scorings.now ≡ codes "winner" ∷ codes "discs" ∷ []

abbrev pub scoring_rule : ScoringWords → Rule
scoring_rule scorings = record (option_rule (codes "scoring")) {
  parser = Some (parser.Names scorings);
  defaults = codes "winner" ∷ [];
}

abbrev pub book_rule : Rule
book_rule = option_rule (codes "book")

-- FILE .. : any number of words that are no options
abbrev pub files_rule : Rule
files_rule = record (new_rule (codes "files")) {
  action = Some Append;
  range = Some (record { start_inclusive = 1; end_inclusive = usize_max });
  value_names = 1;
}

-- an option without a value
abbrev pub switch_rule : Text → Rule
switch_rule name = record (new_rule name) { long = Some name; action = Some SetTrue }

abbrev pub file_rule : Rule
file_rule = record (new_rule (codes "file")) { action = Some Set; required = true; value_names = 1 }

-- a subcommand that reports lines
abbrev pub lines_app : App → App
lines_app titled =
    with_rule (with_rule (with_rule titled (switch_rule (codes "explain"))) (switch_rule (codes "strict"))) files_rule

-- a subcommand with the options of a search
abbrev pub searcher_app : App → ScoringWords → App
searcher_app titled scorings = with_rule (with_rule (with_rule titled workers_rule) cells_rule) (scoring_rule scorings)

abbrev pub solve_app : ScoringWords → App
solve_app scorings = lines_app (with_rule (searcher_app (new_app (codes "solve")) scorings) book_rule)

abbrev pub scores_app : ScoringWords → App
scores_app scorings = lines_app (searcher_app (new_app (codes "scores")) scorings)

abbrev pub analyse_app : ScoringWords → App
analyse_app scorings = lines_app (with_rule (searcher_app (new_app (codes "analyse")) scorings) last_rule)

-- a subcommand that searches no board
abbrev pub plain_app : Text → App
plain_app name = lines_app (new_app name)

abbrev pub verify_app : App
verify_app = with_rule (with_rule (new_app (codes "book-verify")) (switch_rule (codes "explain"))) file_rule

abbrev pub add_app : App
add_app = with_rule
    (with_rule (with_rule (with_rule (new_app (codes "book-add")) workers_rule) cells_rule) (switch_rule (codes "explain")))
    file_rule

-- the program's name, and that it has a version
abbrev pub titled : App
titled = let a = new_app (codes "othsolve") in record a { top = record a.top { has_version = true } }

abbrev pub program : App
program = record titled { top = record titled.top { subcommand_required = true } }

-- the command with its eight subcommands
unfoldable pub othsolve : ScoringWords → App
othsolve scorings =
    with_subcommand (with_subcommand (with_subcommand (with_subcommand (with_subcommand (with_subcommand (with_subcommand (with_subcommand
    program
    (solve_app scorings).top)
    (scores_app scorings).top)
    (plain_app (codes "moves")).top)
    (plain_app (codes "transcript")).top)
    (plain_app (codes "play")).top)
    (analyse_app scorings).top)
    verify_app.top)
    add_app.top

-- ---- what the words mean

-- the words of a command line, with a file's name as its text
pub data Meaning : Type 0 where
  run : Settings → Telling → Option Text → List Text → Meaning
  verify : Telling → Text → Meaning
  add : Settings → Telling → Text → Meaning

abbrev pub meaning_of : Words → Meaning
meaning_of (Run settings telling book files) = run settings telling (option_map string_bytes book) (map string_bytes files.items)
meaning_of (Verify telling file) = verify telling (string_bytes file)
meaning_of (Add settings telling file) = add settings telling (string_bytes file)

-- the text is the number, in decimal digits, where a plus may stand first
pub record IsNumber (text : Option Text) (n : ℕ) : Type 0 where
  pub digits : Text
  pub given : text ≡ Some digits
  pub numeral : IsNumeral 10 (without_leading_plus digits)
  pub value : digits_value 10 (without_leading_plus digits) ≡ n

-- the options give the numbers
pub record HasNumbers (rows : List Row) (s : Settings) : Type 0 where
  pub workers : IsNumber (one_of (codes "workers") rows) s.workers
  pub cells : IsNumber (one_of (codes "cells") rows) s.cells
  pub some_workers : 1 ≤ s.workers
  pub most_workers : s.workers ≤ 16
  pub most_cells : s.cells ≤ 262144

-- the option gives the number
pub record HasLast (rows : List Row) (last : ℕ) : Type 0 where
  pub number : IsNumber (one_of (codes "last") rows) last
  pub some : 1 ≤ last
  pub most : last ≤ 30

abbrev pub scoring_word : Scoring → Text
scoring_word Winner = codes "winner"
scoring_word Discs = codes "discs"

-- one worker, no cells and the first scoring
abbrev pub IsPlain : Settings → Type 0
IsPlain s = (s.workers ≡ 1) × (s.cells ≡ 0) × (s.scoring ≡ Winner)

abbrev pub MeansRun : Command → Text × List Row → Settings → Option Text → Type 0
MeansRun Solve sub s book = (sub.0 ≡ codes "solve") × HasNumbers sub.1 s
    × (first_of (codes "scoring") sub.1 ≡ Some (scoring_word s.scoring)) × (first_of (codes "book") sub.1 ≡ book)
MeansRun Scores sub s book = (sub.0 ≡ codes "scores") × HasNumbers sub.1 s
    × (first_of (codes "scoring") sub.1 ≡ Some (scoring_word s.scoring)) × (book ≡ None)
MeansRun Moves sub s book = (sub.0 ≡ codes "moves") × IsPlain s × (book ≡ None)
MeansRun Transcript sub s book = (sub.0 ≡ codes "transcript") × IsPlain s × (book ≡ None)
MeansRun Play sub s book = (sub.0 ≡ codes "play") × IsPlain s × (book ≡ None)
MeansRun (Analyse last) sub s book = (sub.0 ≡ codes "analyse") × HasNumbers sub.1 s
    × (first_of (codes "scoring") sub.1 ≡ Some (scoring_word s.scoring)) × (book ≡ None) × HasLast sub.1 last

-- the words that are no options, in their order
abbrev pub files_of : List Row → List Text
files_of rows = unwrap_or (all_of (codes "files") rows) []

-- an option without a value has the text of a truth value: true where it is given
abbrev pub is_yes : Option Text → Bool
is_yes None = false
is_yes (Some text) = bytes_eq text (codes "true")

abbrev pub telling_of : List Row → Telling
telling_of rows = record { explains = is_yes (first_of (codes "explain") rows); is_strict = is_yes (first_of (codes "strict") rows) }

-- a subcommand, by its name and its matches, stands for this
abbrev pub Means : Option (Text × List Row) → Meaning → Type 0
Means None m = ⊥
Means (Some sub) (run s telling book files) = MeansRun s.command sub s book × (files_of sub.1 ≡ files) × (telling_of sub.1 ≡ telling)
Means (Some sub) (verify telling file) =
    (sub.0 ≡ codes "book-verify") × (first_of (codes "file") sub.1 ≡ Some file) × (telling_of sub.1 ≡ telling)
Means (Some sub) (add s telling file) = (sub.0 ≡ codes "book-add") × HasNumbers sub.1 s × (s.command ≡ Solve) × (s.scoring ≡ Winner)
    × (first_of (codes "file") sub.1 ≡ Some file) × (telling_of sub.1 ≡ telling)

-- why the words are not read: where the command takes them, when out of memory alone; where it finds a fault in them, for that too, or
-- by an error of that fault's kind
pub record IsUnread (app : App) (words : List Text) (e : Error) : Type 0 where
  pub taken : takes app words ≡ true → kind_of e ≡ OutOfMemory
  pub faulty : fault_of app words ≢ [] → HasKind (fault_of app words) e

-- at Ok the command finds no fault in the words and they stand for the value
abbrev pub IsReading : App → List Text → Result Words Error → Type 0
IsReading app words (Ok value) = (fault_of app words ≡ []) × Means (subcommand_of app words) (meaning_of value)
IsReading app words (Err e) = IsUnread app words e
