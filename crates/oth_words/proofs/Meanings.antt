-- What a subcommand and its matches stand for.
use Rattle.std.proofs.Common.{[], ◌≡◌, ◌∙◌, ℕ, List, Option, Some, None, true, refl, sym, ap, codes, subst, slice_index, arith, is_some, true≢false, inl}
use Rattle.std.specs.Prelude.{option_map, unwrap_or}
use Rattle.std.specs.Borrow.{Bor}
use Rattle.oth_rules.specs.declared.scoring.Scoring.{Scoring}
use Rattle.oth_rules.specs.declared.scoring.Scoring.TheVariants.{Winner, Discs}
use Rattle.clap.specs.declared.error.Error.{Error}
use Rattle.clap.specs.Kinds.{HasKind}
use Rattle.clap.specs.declared.error.kind.ErrorKind.TheVariants.{OutOfMemory}
use Rattle.clap.specs.Walk.{first_of}
use Rattle.clap.specs.Words.{App, HasMatchesOf, Row, Text, fault_of, is_simple_and_free, kind_of, subcommand_of, subcommand_rows_of, is_simple, one_of, one_text, rows_of}
use Rattle.clap.proofs.WalkLemmas.{one_text-rows}
use Rattle.clap.specs.declared.parser.matches.Found.{Found}
use Rattle.clap.specs.declared.parser.matches.ArgMatches.{ArgMatches}
use Rattle.oth_words.specs.CommandLine.{HasLast, HasNumbers, IsNumber, IsUnread, Meaning, Means, MeansRun, ScoringWords, add, othsolve, run, scoring_word, verify}
use Rattle.oth_words.specs.declared.settings.Settings.{Settings}
use Rattle.oth_words.specs.declared.settings.Command.{Command}
use Rattle.oth_words.specs.declared.settings.Command.TheVariants.{Solve, Scores, Moves, Transcript, Play, Analyse}

-- two texts with different bytes at a place
differ : (a b : Text) (k : ℕ) → a ≡ b → slice_index a k ≡ slice_index b k
differ a b k e = ap (λ t. slice_index t k) e

pub solve_means : (rows : List Row) (m : Meaning) → Means (Some (codes "solve", rows)) m
    → (s : Settings) × HasNumbers rows s × (first_of (codes "scoring") rows ≡ Some (scoring_word s.scoring))
solve_means rows (verify telling file) m = absurd (let bad : 115 ≡ 98 = differ _ _ 0 m.0 in omega arith)
solve_means rows (add s telling file) m = absurd (let bad : 115 ≡ 98 = differ _ _ 0 m.0 in omega arith)
solve_means rows (run s telling book files) m = go s.command m.0
  where
    go : (t : Command) → MeansRun t (codes "solve", rows) s book
        → (s : Settings) × HasNumbers rows s × (first_of (codes "scoring") rows ≡ Some (scoring_word s.scoring))
    go Solve m = (s, m.1, m.2)
    go Scores m = absurd (let bad : 111 ≡ 99 = differ _ _ 1 m.0 in omega arith)
    go Moves m = absurd (let bad : 115 ≡ 109 = differ _ _ 0 m.0 in omega arith)
    go Transcript m = absurd (let bad : 115 ≡ 116 = differ _ _ 0 m.0 in omega arith)
    go Play m = absurd (let bad : 115 ≡ 112 = differ _ _ 0 m.0 in omega arith)
    go (Analyse last) m = absurd (let bad : 115 ≡ 97 = differ _ _ 0 m.0 in omega arith)

pub scores_means : (rows : List Row) (m : Meaning) → Means (Some (codes "scores", rows)) m
    → (s : Settings) × HasNumbers rows s × (first_of (codes "scoring") rows ≡ Some (scoring_word s.scoring))
scores_means rows (verify telling file) m = absurd (let bad : 115 ≡ 98 = differ _ _ 0 m.0 in omega arith)
scores_means rows (add s telling file) m = absurd (let bad : 115 ≡ 98 = differ _ _ 0 m.0 in omega arith)
scores_means rows (run s telling book files) m = go s.command m.0
  where
    go : (t : Command) → MeansRun t (codes "scores", rows) s book
        → (s : Settings) × HasNumbers rows s × (first_of (codes "scoring") rows ≡ Some (scoring_word s.scoring))
    go Scores m = (s, m.1, m.2)
    go Solve m = absurd (let bad : 99 ≡ 111 = differ _ _ 1 m.0 in omega arith)
    go Moves m = absurd (let bad : 115 ≡ 109 = differ _ _ 0 m.0 in omega arith)
    go Transcript m = absurd (let bad : 115 ≡ 116 = differ _ _ 0 m.0 in omega arith)
    go Play m = absurd (let bad : 115 ≡ 112 = differ _ _ 0 m.0 in omega arith)
    go (Analyse last) m = absurd (let bad : 115 ≡ 97 = differ _ _ 0 m.0 in omega arith)

pub analyse_means : (rows : List Row) (m : Meaning) → Means (Some (codes "analyse", rows)) m
    → (s : Settings) × HasNumbers rows s × (first_of (codes "scoring") rows ≡ Some (scoring_word s.scoring)) × ((last : ℕ) × HasLast rows last)
analyse_means rows (verify telling file) m = absurd (let bad : 97 ≡ 98 = differ _ _ 0 m.0 in omega arith)
analyse_means rows (add s telling file) m = absurd (let bad : 97 ≡ 98 = differ _ _ 0 m.0 in omega arith)
analyse_means rows (run s telling book files) m = go s.command m.0
  where
    go : (t : Command) → MeansRun t (codes "analyse", rows) s book
        → (s : Settings) × HasNumbers rows s × (first_of (codes "scoring") rows ≡ Some (scoring_word s.scoring)) × ((last : ℕ) × HasLast rows last)
    go (Analyse last) m = (s, m.1, m.2, (last, m.4))
    go Solve m = absurd (let bad : 97 ≡ 115 = differ _ _ 0 m.0 in omega arith)
    go Scores m = absurd (let bad : 97 ≡ 115 = differ _ _ 0 m.0 in omega arith)
    go Moves m = absurd (let bad : 97 ≡ 109 = differ _ _ 0 m.0 in omega arith)
    go Transcript m = absurd (let bad : 97 ≡ 116 = differ _ _ 0 m.0 in omega arith)
    go Play m = absurd (let bad : 97 ≡ 112 = differ _ _ 0 m.0 in omega arith)

-- the word of a command that reports lines doesn't begin as those of the book
reports : (t : Command) (sub : Text × List Row) (s : Settings) (book : Option Text) → MeansRun t sub s book → slice_index sub.0 0 ≡ 98 → ⊥
reports Solve sub s book m b = let other : slice_index sub.0 0 ≡ 115 = differ _ _ 0 m.0 in omega arith
reports Scores sub s book m b = let other : slice_index sub.0 0 ≡ 115 = differ _ _ 0 m.0 in omega arith
reports Moves sub s book m b = let other : slice_index sub.0 0 ≡ 109 = differ _ _ 0 m.0 in omega arith
reports Transcript sub s book m b = let other : slice_index sub.0 0 ≡ 116 = differ _ _ 0 m.0 in omega arith
reports (Analyse last) sub s book m b = let other : slice_index sub.0 0 ≡ 97 = differ _ _ 0 m.0 in omega arith
reports Play sub s book m b = let other : slice_index sub.0 0 ≡ 112 = differ _ _ 0 m.0 in omega arith

pub verify_means : (rows : List Row) (m : Meaning) → Means (Some (codes "book-verify", rows)) m → (file : Text) × (first_of (codes "file") rows ≡ Some file)
verify_means rows (verify telling file) m = (file, m.1)
verify_means rows (add s telling file) m = absurd (let bad : 118 ≡ 97 = differ _ _ 5 m.0 in omega arith)
verify_means rows (run s telling book files) m = absurd (reports s.command (codes "book-verify", rows) s book m.0 refl)

pub add_means : (rows : List Row) (m : Meaning) → Means (Some (codes "book-add", rows)) m
    → ((s : Settings) × HasNumbers rows s) × ((file : Text) × (first_of (codes "file") rows ≡ Some file))
add_means rows (add s telling file) m = ((s, m.1), (file, m.4))
add_means rows (verify telling file) m = absurd (let bad : 97 ≡ 118 = differ _ _ 5 m.0 in omega arith)
add_means rows (run s telling book files) m = absurd (reports s.command (codes "book-add", rows) s book m.0 refl)

-- by the entries, as the getters read them
pub number_rows : (f : Found) (id : Text) (n : ℕ) → IsNumber (one_text f id) n → IsNumber (one_of id (rows_of f)) n
number_rows f id n = subst (λ (t : Option Text). IsNumber t n) (one_text-rows f id)

pub number_text : (f : Found) (id : Text) (n : ℕ) → IsNumber (one_of id (rows_of f)) n → IsNumber (one_text f id) n
number_text f id n = subst (λ (t : Option Text). IsNumber t n) (sym (one_text-rows f id))

othsolve_is_simple : (scorings : ScoringWords) → is_simple (othsolve scorings) ≡ true
unfolding othsolve
othsolve_is_simple scorings = refl

othsolve_is_free : (scorings : ScoringWords) → is_simple_and_free (othsolve scorings) ≡ true
unfolding othsolve
othsolve_is_free scorings = refl

-- the subcommand that the parse met is the one that the words name
pub exact : (scorings : ScoringWords) (app : App) (words : List Text) (m : ArgMatches) → app ≡ othsolve scorings → HasMatchesOf app words m
    → subcommand_rows_of m ≡ subcommand_of (othsolve scorings) words
exact scorings app words m is matches =
    (matches (ap is_simple is ∙ othsolve_is_simple scorings)).1 ∙ ap (λ (a : App). subcommand_of a words) is

-- the text that a getter gave
pub no_text : (r : Option (Bor Text)) (o : Option Text) (t : Text) → option_map (λ x. x.now) r ≡ o → r ≡ None → o ≡ Some t → ⊥
no_text r o t e none is = true≢false (sym (ap is_some (sym (ap (option_map (λ x. x.now)) none) ∙ e ∙ is)))

pub some_text : (r : Option (Bor Text)) (o : Option Text) (t : Bor Text) → option_map (λ x. x.now) r ≡ o → r ≡ Some t → o ≡ Some t.now
some_text r o t e some = sym e ∙ ap (option_map (λ x. x.now)) some

pub not_scoring : (s : Scoring) (o : Option Text) (t : Text) → (t ≡ codes "winner" → ⊥) → (t ≡ codes "discs" → ⊥) → o ≡ Some t → o ≡ Some (scoring_word s) → ⊥
not_scoring Winner o t first second is other = first (ap (λ x. unwrap_or x t) (sym is ∙ other))
not_scoring Discs o t first second is other = second (ap (λ x. unwrap_or x t) (sym is ∙ other))

-- a parse that succeeds finds no fault
pub no_fault : (scorings : ScoringWords) (app : App) (words : List Text) → app ≡ othsolve scorings
    → (is_simple_and_free app ≡ true → fault_of app words ≡ []) → fault_of (othsolve scorings) words ≡ []
no_fault scorings app words is none = ap (λ (a : App). fault_of a words) (sym is) ∙ none (ap is_simple_and_free is ∙ othsolve_is_free scorings)

-- a parse that fails does so when out of memory, or by an error of a fault's kind
pub fault_kind : (scorings : ScoringWords) (app : App) (words : List Text) (e : Error) → app ≡ othsolve scorings
    → (is_simple_and_free app ≡ true → HasKind (fault_of app words) e) → HasKind (fault_of (othsolve scorings) words) e
fault_kind scorings app words e is fails =
    subst (λ (a : App). HasKind (fault_of a words) e) is (fails (ap is_simple_and_free is ∙ othsolve_is_free scorings))

-- out of memory
pub unread : (app : App) (words : List Text) (e : Error) → kind_of e ≡ OutOfMemory → IsUnread app words e
unread app words e wants = record { taken = λ taken. wants; faulty = λ any. inl wants }
