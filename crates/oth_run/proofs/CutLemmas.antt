-- Cutting an input byte by byte, from the left.
use Rattle.std.proofs.Common.{◌≡◌, ◌==◌, ◌≢◌, ◌||◌, ℕ, List, [], ◌∷◌, ◌++◌, Bool, true, false, cond, Option, Result, Err, refl, sym, ap, ◌∙◌, subst, append_assoc, append-nil}
use Rattle.std.specs.Prelude.{All}
use Rattle.std.specs.List.{AllByRecursion}
use Rattle.std.proofs.lemmas.List.Elements.{recursion_from_All}
use Rattle.std.proofs.lemmas.Bool.{ne_eqb}
use Rattle.std.specs.Io.KnownBytes.{Appends, Consumes}
use Rattle.std.proofs.KnownBytes.{Appends-nil, Consumes-trans}
use Rattle.oth_text.specs.Transcript.{is_nil}
use Rattle.oth_device.specs.Device.{AppendsBeginning, IsBeginning}
use Rattle.std.proofs.lemmas.List.Folds.{list_any-append}
use Rattle.oth_words.specs.declared.settings.Command.{Command}
use Rattle.oth_words.specs.declared.settings.Settings.{Settings}
use Rattle.oth_run.specs.declared.engine.Engine.{Engine}
use Rattle.oth_run.specs.declared.fault.RunFault.{RunFault}
use Rattle.oth_run.specs.declared.line.Line.{Line}
use Rattle.oth_run.specs.declared.fault.RunFault.TheVariants.{Read, Write, Workers, Cells}
use Rattle.oth_run.specs.Gathered.{IsGathered}
use Rattle.oth_run.specs.Reply.{reply}
use Rattle.oth_run.specs.Report.{Cut, after_end, cut, ended_report, last_line, last_report, line_number, lines_of, next_number, number_behind, onto_first, report, report_from, with_end}
use Rattle.oth_run.specs.Faulty.{has_faulty, is_faulty}
use Rattle.oth_run.specs.Halfway.{IsAt, IsBehind, IsUpTo, RunsOn, WritesEnded}
use Rattle.oth_run.specs.Line.{Holds}
use Rattle.oth_run.specs.Run.{AreLawful, RefusesBy, Writes}
use Rattle.oth_run.proofs.GatherLemmas.{beginning_within}

-- ---- what was cut

-- a byte at the end of what was cut
abbrev pub push : Bool → Cut → ℕ → Cut
push true c b = record { lines = c.lines ++ c.rest ∷ []; rest = [] }
push false c b = record { lines = c.lines; rest = c.rest ++ b ∷ [] }

abbrev put : Bool → ℕ → Cut → Cut
put is_end b c = cond is_end (after_end c) (onto_first b c.lines c.rest)

put_push : (p q : Bool) (a b : ℕ) (lines : List (List ℕ)) (rest : List ℕ) → put p a (push q (record { lines = lines; rest = rest }) b) ≡ push q (put p a (record { lines = lines; rest = rest })) b
put_push true true a b lines rest = refl
put_push true false a b lines rest = refl
put_push false true a b [] rest = refl
put_push false true a b (l ∷ ls) rest = refl
put_push false false a b [] rest = refl
put_push false false a b (l ∷ ls) rest = refl

-- the byte ends the line that has begun, or goes on it
pub cut_push : (xs : List ℕ) (b : ℕ) → cut (xs ++ b ∷ []) ≡ push (b == 10) (cut xs) b
unfolding cut
cut_push [] b = elim (b == 10) as (λ q. put q b (record { lines = []; rest = [] }) ≡ push q (record { lines = []; rest = [] }) b) [ true ↦ refl | false ↦ refl ]
cut_push (a ∷ xs) b = ap (put (a == 10) a) (cut_push xs b) ∙ put_push (a == 10) (b == 10) a b (cut xs).lines (cut xs).rest

cut_end : (xs : List ℕ) (b : ℕ) → (b == 10) ≡ true → cut (xs ++ b ∷ []) ≡ record { lines = (cut xs).lines ++ (cut xs).rest ∷ []; rest = [] }
cut_end xs b is = cut_push xs b ∙ ap (λ q. push q (cut xs) b) is

cut_more : (xs : List ℕ) (b : ℕ) → (b == 10) ≡ false → cut (xs ++ b ∷ []) ≡ record { lines = (cut xs).lines; rest = (cut xs).rest ++ b ∷ [] }
cut_more xs b is = cut_push xs b ∙ ap (λ q. push q (cut xs) b) is

-- ---- numbers of lines

number_more : (n : ℕ) (lines : List (List ℕ)) (line : List ℕ) → number_behind n (lines ++ line ∷ []) ≡ next_number (number_behind n lines)
number_more n [] line = refl
number_more n (l ∷ lines) line = number_more (next_number n) lines line

module _ (reply : ℕ → List ℕ → List ℕ) where
  report_more : (n : ℕ) (lines : List (List ℕ)) (line : List ℕ) → report_from reply n (lines ++ line ∷ []) ≡ report_from reply n lines ++ with_end reply (number_behind n lines) line
  report_more n [] line = append-nil (with_end reply n line)
  report_more n (l ∷ lines) line =
      ap (λ t. with_end reply n l ++ t) (report_more (next_number n) lines line)
      ∙ sym (append_assoc (with_end reply n l) (report_from reply (next_number n) lines) (with_end reply (number_behind (next_number n) lines) line))

  -- a byte 10 adds the report of the line that has begun
  pub ended_report_end : (xs : List ℕ) (b : ℕ) → (b == 10) ≡ true → ended_report reply (xs ++ b ∷ []) ≡ ended_report reply xs ++ with_end reply (line_number xs) (cut xs).rest
  unfolding ended_report
  ended_report_end xs b is = ap (λ (c : Cut). report_from reply 1 c.lines) (cut_end xs b is) ∙ report_more 1 (cut xs).lines (cut xs).rest

  -- another byte adds none
  pub ended_report_more : (xs : List ℕ) (b : ℕ) → (b == 10) ≡ false → ended_report reply (xs ++ b ∷ []) ≡ ended_report reply xs
  unfolding ended_report
  ended_report_more xs b is = ap (λ (c : Cut). report_from reply 1 c.lines) (cut_more xs b is)

  ended_begins_one : (xs : List ℕ) (b : ℕ) (q : Bool) → (b == 10) ≡ q → IsBeginning (ended_report reply xs) (ended_report reply (xs ++ b ∷ []))
  ended_begins_one xs b true is = (with_end reply (line_number xs) (cut xs).rest, ended_report_end xs b is)
  ended_begins_one xs b false is = ([], ended_report_more xs b is ∙ sym (append-nil _))

  begins_trans : (xs ys zs : List ℕ) → IsBeginning xs ys → IsBeginning ys zs → IsBeginning xs zs
  begins_trans xs ys zs p q = (p.0 ++ q.0, q.1 ∙ ap (λ l. l ++ q.0) p.1 ∙ append_assoc xs p.0 q.0)

  -- what was reported of a front stays
  pub ended_begins : (xs ys : List ℕ) → IsBeginning (ended_report reply xs) (ended_report reply (xs ++ ys))
  ended_begins xs [] = ([], ap (ended_report reply) (append-nil xs) ∙ sym (append-nil _))
  ended_begins xs (y ∷ ys) =
      subst (λ l. IsBeginning (ended_report reply xs) (ended_report reply l)) (append_assoc xs (y ∷ []) ys)
      (begins_trans _ _ _ (ended_begins_one xs y (y == 10) refl) (ended_begins (xs ++ y ∷ []) ys))

-- ---- the parts of a line

abbrev pub HasNoEnd : List ℕ → Type 0
HasNoEnd part = All (λ b. b ≢ 10) part

cut_plain : (xs ys : List ℕ) → AllByRecursion (λ b. b ≢ 10) ys → cut (xs ++ ys) ≡ record { lines = (cut xs).lines; rest = (cut xs).rest ++ ys }
cut_plain xs [] all = ap cut (append-nil xs) ∙ ap (λ (r : List ℕ). let c : Cut = record { lines = (cut xs).lines; rest = r } in c) (sym (append-nil (cut xs).rest))
cut_plain xs (y ∷ ys) all =
    ap cut (sym (append_assoc xs (y ∷ []) ys)) ∙ cut_plain (xs ++ y ∷ []) ys all.1
    ∙ ap (λ (c : Cut). let d : Cut = record { lines = c.lines; rest = c.rest ++ ys } in d) (cut_more xs y (ne_eqb _ _ all.0))
    ∙ ap (λ (r : List ℕ). let c : Cut = record { lines = (cut xs).lines; rest = r } in c) (append_assoc (cut xs).rest (y ∷ []) ys)

-- a part of a line goes on the line that has begun
pub cut_part : (xs part : List ℕ) → HasNoEnd part → cut (xs ++ part) ≡ record { lines = (cut xs).lines; rest = (cut xs).rest ++ part }
cut_part xs part none = cut_plain xs part (recursion_from_All (λ b. b ≢ 10) part none)

number_part : (xs part : List ℕ) → HasNoEnd part → line_number (xs ++ part) ≡ line_number xs
number_part xs part none = ap (λ (c : Cut). number_behind 1 c.lines) (cut_part xs part none)

-- the last part of a line and its end end the line
cut_line : (xs part : List ℕ) → HasNoEnd part → cut (xs ++ (part ++ 10 ∷ [])) ≡ record { lines = (cut xs).lines ++ ((cut xs).rest ++ part) ∷ []; rest = [] }
cut_line xs part none =
    ap cut (sym (append_assoc xs part (10 ∷ []))) ∙ cut_end (xs ++ part) 10 refl
    ∙ ap (λ (c : Cut). let d : Cut = record { lines = c.lines ++ c.rest ∷ []; rest = [] } in d) (cut_part xs part none)

module _ (reply : ℕ → List ℕ → List ℕ) where
  ended_report_part : (xs part : List ℕ) → HasNoEnd part → ended_report reply (xs ++ part) ≡ ended_report reply xs
  unfolding ended_report
  ended_report_part xs part none = ap (λ (c : Cut). report_from reply 1 c.lines) (cut_part xs part none)

  -- the last part of a line and its end add its report
  ended_report_line : (xs part : List ℕ) → HasNoEnd part → ended_report reply (xs ++ (part ++ 10 ∷ [])) ≡ ended_report reply xs ++ with_end reply (line_number xs) ((cut xs).rest ++ part)
  ended_report_line xs part none =
      ap (ended_report reply) (sym (append_assoc xs part (10 ∷ []))) ∙ ended_report_end reply (xs ++ part) 10 refl
      ∙ ap (λ l. l ++ with_end reply (line_number (xs ++ part)) (cut (xs ++ part)).rest) (ended_report_part xs part none)
      ∙ ap (λ n. ended_report reply xs ++ with_end reply n (cut (xs ++ part)).rest) (number_part xs part none)
      ∙ ap (λ (c : Cut). ended_report reply xs ++ with_end reply (line_number xs) c.rest) (cut_part xs part none)

  module _ (before : Option (List ℕ)) (xs part : List ℕ) (none : HasNoEnd part) where
    -- the line goes on
    pub up_to_part : (behind behind' : List (List ℕ) → List ℕ → Type 0) (a : Option (List ℕ)) (waiting : List ℕ) → IsUpTo reply behind before a waiting xs
        → behind' (cut xs).lines ((cut xs).rest ++ part) → IsUpTo reply behind' before a waiting (xs ++ part)
    up_to_part behind behind' a waiting so_far more = record {
      lines = subst (λ (c : Cut). behind' c.lines c.rest) (sym (cut_part xs part none)) more;
      gathered = subst (IsGathered before a waiting) (sym (ended_report_part xs part none)) so_far.gathered;
    }

    -- the line ends, and its report is gathered
    pub up_to_line : (behind : List (List ℕ) → List ℕ → Type 0) (a : Option (List ℕ)) (waiting : List ℕ)
        → IsGathered before a waiting (ended_report reply xs ++ with_end reply (line_number xs) ((cut xs).rest ++ part))
        → behind ((cut xs).lines ++ ((cut xs).rest ++ part) ∷ []) [] → IsUpTo reply behind before a waiting (xs ++ (part ++ 10 ∷ []))
    up_to_line behind a waiting gathered ended = record {
      lines = subst (λ (c : Cut). behind c.lines c.rest) (sym (cut_line xs part none)) ended;
      gathered = subst (IsGathered before a waiting) (sym (ended_report_line xs part none)) gathered;
    }

    -- its report is written in part
    pub part_of_line : (a : Option (List ℕ)) → AppendsBeginning before a (ended_report reply xs ++ with_end reply (line_number xs) ((cut xs).rest ++ part))
        → AppendsBeginning before a (ended_report reply (xs ++ (part ++ 10 ∷ [])))
    part_of_line a written = subst (AppendsBeginning before a) (sym (ended_report_line xs part none)) written

-- ---- faults of lines

or_none : (b : Bool) → (b || false) ≡ b
or_none true = refl
or_none false = refl

-- one line more
pub faulty_more : (command : Command) (lines : List (List ℕ)) (line : List ℕ) → has_faulty command (lines ++ line ∷ []) ≡ (has_faulty command lines || is_faulty command line)
faulty_more command lines line =
    list_any-append (is_faulty command) lines (line ∷ []) ∙ ap (λ b. has_faulty command lines || b) (or_none (is_faulty command line))

-- the engine behind the line that it ended
pub behind_line : (settings : Settings) (kept : Line) (found found' : Bool) (lines : List (List ℕ)) (line : List ℕ) → found ≡ has_faulty settings.command lines
    → Holds settings.command kept (next_number (number_behind 1 lines)) [] → found' ≡ (found || is_faulty settings.command line)
    → IsBehind settings kept found' (lines ++ line ∷ []) []
behind_line settings kept found found' lines line so_far held more = record {
  held = subst (λ n. Holds settings.command kept n []) (sym (number_more 1 lines line)) held;
  faulty = more ∙ ap (λ b. b || is_faulty settings.command line) so_far ∙ sym (faulty_more settings.command lines line);
}

-- of a last line, unless it is empty
pub last_faulty_some : (command : Command) (text : List ℕ) (b : Bool) → b ≡ is_nil text → b ≡ false → has_faulty command (last_line text) ≡ is_faulty command text
last_faulty_some command [] b is isnt = absurd (let bad : true ≡ false = sym is ∙ isnt in cc)
last_faulty_some command (x ∷ xs) b is isnt = or_none (is_faulty command (x ∷ xs))

pub last_faulty_none : (command : Command) (text : List ℕ) (b found : Bool) → b ≡ is_nil text → b ≡ true → found ≡ (found || has_faulty command (last_line text))
last_faulty_none command [] b found is empty = sym (or_none found)
last_faulty_none command (x ∷ xs) b found is empty = absurd (let bad : true ≡ false = sym empty ∙ is in cc)

-- of all lines
pub faulty_all : (command : Command) (input : List ℕ) (found found' : Bool) → found ≡ has_faulty command (cut input).lines
    → found' ≡ (found || has_faulty command (last_line (cut input).rest)) → found' ≡ has_faulty command (lines_of input)
faulty_all command input found found' so_far last =
    last ∙ ap (λ b. b || has_faulty command (last_line (cut input).rest)) so_far
    ∙ sym (list_any-append (is_faulty command) (cut input).lines (last_line (cut input).rest))

-- ---- a loop over the lines of further bytes

-- what is written of the lines so far begins the report
pub stops_within : (reply : ℕ → List ℕ → List ℕ) (before a : Option (List ℕ)) (input bytes front line others : List ℕ) → bytes ≡ (front ++ line) ++ others
    → AppendsBeginning before a (ended_report reply ((input ++ front) ++ line)) → AppendsBeginning before a (ended_report reply (input ++ bytes))
stops_within reply before a input bytes front line others same part =
    let joined : ((input ++ front) ++ line) ++ others ≡ input ++ bytes =
    ap (λ l. l ++ others) (append_assoc input front line) ∙ append_assoc input (front ++ line) others ∙ ap (λ l. input ++ l) (sym same) in
    beginning_within before a _ _ part (subst (λ l. IsBeginning (ended_report reply ((input ++ front) ++ line)) (ended_report reply l)) joined (ended_begins reply ((input ++ front) ++ line) others))

-- the report of a last line that is not empty
pub last-some : (reply : ℕ → List ℕ → List ℕ) (n : ℕ) (text : List ℕ) (b : Bool) → b ≡ is_nil text → b ≡ false → last_report reply n text ≡ with_end reply n text
last-some reply n [] b is isnt = absurd (let bad : true ≡ false = sym is ∙ isnt in cc)
last-some reply n (x ∷ xs) b is isnt = refl

pub last-none : (reply : ℕ → List ℕ → List ℕ) (n : ℕ) (text : List ℕ) (b : Bool) → b ≡ is_nil text → b ≡ true → last_report reply n text ≡ []
last-none reply n [] b is empty = refl
last-none reply n (x ∷ xs) b is empty = absurd (let bad : true ≡ false = sym empty ∙ is in cc)

-- ---- a run

-- nothing is read and gathered yet
pub up_to_none : (reply : ℕ → List ℕ → List ℕ) (behind : List (List ℕ) → List ℕ → Type 0) (a : Option (List ℕ)) → behind [] [] → IsUpTo reply behind a a [] []
unfolding cut ended_report
up_to_none reply behind a empty = record { lines = empty; gathered = ([], Appends-nil a, refl) }

-- nothing waits
module _ (reply : ℕ → List ℕ → List ℕ) (behind : List (List ℕ) → List ℕ → Type 0) (before : Option (List ℕ)) where
  pub up_to_waiting : (a : Option (List ℕ)) (waiting input : List ℕ) → waiting ≡ [] → IsUpTo reply behind before a [] input → IsUpTo reply behind before a waiting input
  up_to_waiting a waiting input none so_far = subst (λ w. IsUpTo reply behind before a w input) (sym none) so_far

  pub up_to_no_waiting : (a : Option (List ℕ)) (waiting input : List ℕ) → waiting ≡ [] → IsUpTo reply behind before a waiting input → IsUpTo reply behind before a [] input
  up_to_no_waiting a waiting input none so_far = subst (λ w. IsUpTo reply behind before a w input) none so_far

  -- what was gathered is written
  pub up_to_written : (a b : Option (List ℕ)) (waiting waiting' input : List ℕ) → IsUpTo reply behind before a waiting input
      → Appends before b (ended_report reply input) → waiting' ≡ [] → IsUpTo reply behind before b waiting' input
  up_to_written a b waiting waiting' input so_far written none =
      record { lines = so_far.lines; gathered = (ended_report reply input, written, sym (ap (λ l. ended_report reply input ++ l) none ∙ append-nil _)) }

-- the whole report, of the lines that ended and the last one
pub written_report : (reply : ℕ → List ℕ → List ℕ) (before now : Option (List ℕ)) (input : List ℕ)
    → Appends before now (ended_report reply input ++ last_report reply (line_number input) (cut input).rest)
    → Appends before now (report reply input)
unfolding report
written_report reply before now input written = written

-- a beginning of it
pub written_beginning : (reply : ℕ → List ℕ → List ℕ) (before now : Option (List ℕ)) (input : List ℕ)
    → AppendsBeginning before now (ended_report reply input ++ last_report reply (line_number input) (cut input).rest)
    → AppendsBeginning before now (report reply input)
unfolding report
written_beginning reply before now input part = part

-- the report of the lines that ended begins the whole one
pub ended_begins_report : (reply : ℕ → List ℕ → List ℕ) (before b : Option (List ℕ)) (input : List ℕ) → AppendsBeginning before b (ended_report reply input)
    → AppendsBeginning before b (report reply input)
unfolding report
ended_begins_report reply before b input part = beginning_within before b _ _ part (last_report reply (line_number input) (cut input).rest, refl)

-- a run that is refused wrote nothing
pub refused_writes : (settings : Settings) (fault : RunFault) → (AreLawful settings → ⊥) → RefusesBy {T = Settings} settings.workers settings.cells (Err fault)
    → Writes (reply settings) (Err fault) [] []
refused_writes settings Read unlawful by = absurd (unlawful (record { workers = by.0; cells = by.1 }))
refused_writes settings Write unlawful by = absurd (unlawful (record { workers = by.0; cells = by.1 }))
refused_writes settings Workers unlawful by = (refl, refl)
refused_writes settings Cells unlawful by = (refl, refl)

-- what a run that failed wrote
pub after_fault : (settings : Settings) (kept : Line) (found : Bool) (before b : Option (List ℕ)) (fault : RunFault) (input : List ℕ) → WritesEnded settings kept found before b (Err fault) input
    → (written : List ℕ) × Appends before b written × Writes (reply settings) (Err fault) input written
after_fault settings kept found before b Read input done = (ended_report (reply settings) input, done, refl)
after_fault settings kept found before b Write input done = let part = ended_begins_report (reply settings) before b input done in (part.0, part.1, part.2)
after_fault settings kept found before b Workers input done = absurd done
after_fault settings kept found before b Cells input done = absurd done

-- no report of no line is written
pub none_written : (reply : ℕ → List ℕ → List ℕ) (a : Option (List ℕ)) → Appends a a (ended_report reply [])
unfolding cut ended_report
none_written reply a = Appends-nil a

-- an engine at the start of an input
pub at_start : (settings : Settings) (engine : Engine) (a : Option (List ℕ)) → Holds settings.command engine.line 1 [] → engine.is_faulty ≡ false
    → engine.waiting.bytes.items ≡ [] → IsAt settings engine a a []
at_start settings engine a held faulty waiting =
    up_to_waiting _ _ _ _ _ _ waiting (up_to_none _ _ _ (record { held = held; faulty = faulty }))

-- a run from the start of an input: over what is read first, and on
pub runs_from_start : (settings : Settings) (old : Engine) (kept : Line) (found : Bool) (a b x y z : Option (List ℕ)) (result : Result (Unit {0}) RunFault) (first : List ℕ)
    → IsAt settings old a a [] → Consumes x y first → (more : List ℕ) × Consumes y z more × RunsOn settings old kept found a b result (first ++ more)
    → (input : List ℕ) × Consumes x z input × WritesEnded settings kept found a b result input
runs_from_start settings old kept found a b x y z result first start begins on = (first ++ on.0, Consumes-trans x y z first on.0 begins on.1, on.2 a [] start)

-- what is taken first and what comes next go on by the same bytes
pub goes_on : (taken next front last more : List ℕ) → taken ++ next ≡ front ++ last → taken ++ (next ++ more) ≡ (front ++ last) ++ more
goes_on taken next front last more same = sym (append_assoc taken next more) ∙ ap (λ l. l ++ more) same
