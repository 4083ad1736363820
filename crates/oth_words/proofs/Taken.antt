-- The words that clap takes stand for something.
use Rattle.std.proofs.Common.{◌≡◌, ◌∙◌, ◌≤◌, ◌||◌, Bool, ℕ, true, false, inl, inr, List, [], ◌∷◌, Option, Some, None, refl, sym, ap, subst, codes, true≢false}
use Rattle.std.specs.Prelude.{pos, unwrap_or}
use Rattle.std.specs.List.{list_any}
use Rattle.std.specs.Str.{bytes_eq}
use Rattle.std.proofs.lemmas.Slice.Eq.{bytes_eq-Decides}
use Rattle.clap.proofs.WalkLemmas.{both, list_any-map}
use Rattle.clap.proofs.ValueTestLemmas.{accepts-Accepts}
use Rattle.clap.specs.Facts.{parser_of_value}
use Rattle.clap.specs.Lexer.{without_minus}
use Rattle.clap.specs.Simple.{App, Shape, argument_words, built, built_leaf, inherited, is_simple, label_of, new_rule, rows_at, subcommand_of}
use Rattle.clap.specs.Takes.{level_passes, takes}
use Rattle.clap.specs.Values.{IsSignedIn, read_as, reading_of, same_text}
use Rattle.clap.specs.ValueTests.{accepts}
use Rattle.clap.specs.Walk.{Row, Rule, Text, answers_to, arg_by_id, first_of, one_of, nothing_held}
use Rattle.clap.specs.declared.builder.value_parser.ValueParser.TheVariants as parser
use Rattle.oth_words.proofs.RowsPass.{HasText}
use Rattle.oth_words.proofs.Levels.{IsOrdinary, enters, number_of, ordinary, text_of}
use Rattle.oth_words.proofs.WalkKeeps.{Each, MayEnter}
use Rattle.oth_words.specs.CommandLine.{AreScorings, HasLast, HasNumbers, IsNumber, Meaning, Means, ScoringWords, add, add_app, files_of, telling_of}
use Rattle.oth_words.specs.CommandLine.{analyse_app, othsolve, plain_app, program, run, scores_app, scoring_word, solve_app, verify, verify_app}
use Rattle.oth_rules.specs.declared.scoring.Scoring.{Scoring}
use Rattle.oth_rules.specs.declared.scoring.Scoring.TheVariants.{Winner, Discs}
use Rattle.oth_words.specs.declared.settings.Settings.{Settings}
use Rattle.oth_words.specs.declared.settings.Command.{Command}
use Rattle.oth_words.specs.declared.settings.Command.TheVariants.{Solve, Scores, Moves, Transcript, Play, Analyse}

-- ---- values

-- the text of an option whose parser is a range of numbers
number_text : (a : Rule) (low high : ℕ) (rows : List Row) → a.parser ≡ Some (parser.Signed (pos low) (pos high)) → HasText a rows
    → (n : ℕ) × IsNumber (one_of a.id rows) n × (low ≤ n) × (n ≤ high)
number_text a low high rows is text =
    let passed : IsSignedIn (pos low) (pos high) text.text =
    accepts-Accepts a.ignore_case (parser.Signed (pos low) (pos high)) text.text
    (subst (λ p. accepts a.ignore_case (parser_of_value p) text.text ≡ true) is text.passes) in
    let number = number_of low high text.text passed in
    let one : one_of a.id rows ≡ Some (without_minus text.text) =
    text.one ∙ ap (λ p. Some (read_as (reading_of (parser_of_value p)) text.text)) is in
    (number.0, subst (λ (t : Option Text). IsNumber t number.0) (sym one) number.1, number.2, number.3)

-- a text that is among the words of the scorings
scoring_among : (text : Text) → list_any (λ t. same_text false t text) (codes "winner" ∷ codes "discs" ∷ []) ≡ true → (s : Scoring) × (text ≡ scoring_word s)
scoring_among text e = go (bytes_eq (codes "winner") text) refl (bytes_eq (codes "discs") text) refl e
  where
    go : (first : Bool) → bytes_eq (codes "winner") text ≡ first → (second : Bool) → bytes_eq (codes "discs") text ≡ second
        → (first || (second || false)) ≡ true → (s : Scoring) × (text ≡ scoring_word s)
    go true is second other e = (Winner, sym ((bytes_eq-Decides (codes "winner") text).0 is))
    go false is true other e = (Discs, sym ((bytes_eq-Decides (codes "discs") text).0 other))
    go false is false other e = absurd (true≢false (sym e))

scoring_text : (scorings : ScoringWords) → AreScorings scorings → (text : Text) → list_any (λ name. same_text false name.now text) scorings.now ≡ true
    → (s : Scoring) × (text ≡ scoring_word s)
scoring_text scorings are text e =
    scoring_among text
    (subst (λ (ts : List Text). list_any (λ t. same_text false t text) ts ≡ true) are
    (sym (list_any-map (λ t. same_text false t text) (λ s. s.now) scorings.now) ∙ e))

-- ---- the subcommands, as clap builds them

abbrev built_sub : App → Shape
built_sub a = built_leaf (inherited program.top a.top)

abbrev built_rule : Shape → Text → Rule
built_rule s id = unwrap_or (arg_by_id s.rules id) (new_rule id)

abbrev MeansSome : Text × List Row → Type 0
MeansSome sub = (m : Meaning) × Means (Some sub) m

abbrev add_shape : Shape
add_shape = built_sub add_app

-- the settings of a command without options
abbrev plain_settings : Command → Settings
plain_settings command = record { command = command; workers = 1; cells = 0; scoring = Winner }

-- the numbers of a search for this command, with this scoring
numbers_taken : (command : Command) (scoring : Scoring) (rows : List Row) → HasText (built_rule add_shape (codes "workers")) rows → HasText (built_rule add_shape (codes "cells")) rows
    → (s : Settings) × HasNumbers rows s × (s.command ≡ command) × (s.scoring ≡ scoring)
numbers_taken command scoring rows workers_text cells_text =
    let workers = number_text (built_rule add_shape (codes "workers")) 1 16 rows refl workers_text in
    let cells = number_text (built_rule add_shape (codes "cells")) 0 262144 rows refl cells_text in
    let settings : Settings = record { command = command; workers = workers.0; cells = cells.0; scoring = scoring } in
    let numbers : HasNumbers rows settings =
    record { workers = workers.1; cells = cells.1; some_workers = workers.2; most_workers = workers.3; most_cells = cells.3 } in
    (settings, numbers, refl, refl)

module _ (scorings : ScoringWords) (are : AreScorings scorings) where
  abbrev solve_shape : Shape
  solve_shape = built_sub (solve_app scorings)

  solve_ordinary : Each (IsOrdinary solve_shape.rules) solve_shape.rules
  solve_ordinary = ordinary solve_shape.rules refl

  solve_taken : (words : List Text) → level_passes solve_shape [] nothing_held words false ≡ true → MeansSome (rows_at solve_shape words)
  solve_taken words e =
      let rows = (rows_at solve_shape words).1 in
      let text = text_of solve_shape words e solve_ordinary in
      let scoring_is = text (built_rule solve_shape (codes "scoring")) refl (inl tt) in
      let scoring = scoring_text scorings are scoring_is.text scoring_is.passes in
      let numbers = numbers_taken Solve scoring.0 rows (text (built_rule solve_shape (codes "workers")) refl (inl tt)) (text (built_rule solve_shape (codes "cells")) refl (inl tt)) in (
        run (record { command = Solve; workers = numbers.0.workers; cells = numbers.0.cells; scoring = scoring.0 }) (telling_of rows) (first_of (codes "book") rows) (files_of rows),
        (
          (
            refl,
            record { workers = numbers.1.workers; cells = numbers.1.cells; some_workers = numbers.1.some_workers; most_workers = numbers.1.most_workers; most_cells = numbers.1.most_cells },
            scoring_is.first ∙ ap Some scoring.1,
            refl,
          ),
          refl,
          refl,
        ),
      )

  abbrev scores_shape : Shape
  scores_shape = built_sub (scores_app scorings)

  scores_ordinary : Each (IsOrdinary scores_shape.rules) scores_shape.rules
  scores_ordinary = ordinary scores_shape.rules refl

  scores_taken : (words : List Text) → level_passes scores_shape [] nothing_held words false ≡ true → MeansSome (rows_at scores_shape words)
  scores_taken words e =
      let rows = (rows_at scores_shape words).1 in
      let text = text_of scores_shape words e scores_ordinary in
      let scoring_is = text (built_rule scores_shape (codes "scoring")) refl (inl tt) in
      let scoring = scoring_text scorings are scoring_is.text scoring_is.passes in
      let numbers = numbers_taken Scores scoring.0 rows (text (built_rule scores_shape (codes "workers")) refl (inl tt)) (text (built_rule scores_shape (codes "cells")) refl (inl tt)) in (
        run (record { command = Scores; workers = numbers.0.workers; cells = numbers.0.cells; scoring = scoring.0 }) (telling_of rows) None (files_of rows),
        (
          (
            refl,
            record { workers = numbers.1.workers; cells = numbers.1.cells; some_workers = numbers.1.some_workers; most_workers = numbers.1.most_workers; most_cells = numbers.1.most_cells },
            scoring_is.first ∙ ap Some scoring.1,
            refl,
          ),
          refl,
          refl,
        ),
      )

module _ (scorings : ScoringWords) (are : AreScorings scorings) where
  abbrev analyse_shape : Shape
  analyse_shape = built_sub (analyse_app scorings)

  analyse_ordinary : Each (IsOrdinary analyse_shape.rules) analyse_shape.rules
  analyse_ordinary = ordinary analyse_shape.rules refl

  analyse_taken : (words : List Text) → level_passes analyse_shape [] nothing_held words false ≡ true → MeansSome (rows_at analyse_shape words)
  analyse_taken words e =
      let rows = (rows_at analyse_shape words).1 in
      let text = text_of analyse_shape words e analyse_ordinary in
      let scoring_is = text (built_rule analyse_shape (codes "scoring")) refl (inl tt) in
      let scoring = scoring_text scorings are scoring_is.text scoring_is.passes in
      let last = number_text (built_rule analyse_shape (codes "last")) 1 30 rows refl (text (built_rule analyse_shape (codes "last")) refl (inl tt)) in
      let numbers = numbers_taken (Analyse last.0) scoring.0 rows (text (built_rule analyse_shape (codes "workers")) refl (inl tt)) (text (built_rule analyse_shape (codes "cells")) refl (inl tt)) in (
        run (record { command = Analyse last.0; workers = numbers.0.workers; cells = numbers.0.cells; scoring = scoring.0 }) (telling_of rows) None (files_of rows),
        (
          (
            refl,
            record { workers = numbers.1.workers; cells = numbers.1.cells; some_workers = numbers.1.some_workers; most_workers = numbers.1.most_workers; most_cells = numbers.1.most_cells },
            scoring_is.first ∙ ap Some scoring.1,
            refl,
            record { number = last.1; some = last.2; most = last.3 },
          ),
          refl,
          refl,
        ),
      )

verify_ordinary : Each (IsOrdinary (built_sub verify_app).rules) (built_sub verify_app).rules
verify_ordinary = ordinary (built_sub verify_app).rules refl

verify_taken : (words : List Text) → level_passes (built_sub verify_app) [] nothing_held words false ≡ true → MeansSome (rows_at (built_sub verify_app) words)
verify_taken words e =
    let file = text_of (built_sub verify_app) words e verify_ordinary (built_rule (built_sub verify_app) (codes "file")) refl (inr refl) in
    (verify (telling_of (rows_at (built_sub verify_app) words).1) file.text, (refl, file.first, refl))

add_ordinary : Each (IsOrdinary add_shape.rules) add_shape.rules
add_ordinary = ordinary add_shape.rules refl

add_taken : (words : List Text) → level_passes add_shape [] nothing_held words false ≡ true → MeansSome (rows_at add_shape words)
add_taken words e =
    let rows = (rows_at add_shape words).1 in
    let text = text_of add_shape words e add_ordinary in
    let file = text (built_rule add_shape (codes "file")) refl (inr refl) in
    let numbers = numbers_taken Solve Winner rows (text (built_rule add_shape (codes "workers")) refl (inl tt)) (text (built_rule add_shape (codes "cells")) refl (inl tt)) in
    (add numbers.0 (telling_of rows) file.text, (refl, numbers.1, numbers.2, numbers.3, file.first, refl))

or_false : (b : Bool) → (b || false) ≡ true → b ≡ true
or_false true e = refl
or_false false e = e

module _ (scorings : ScoringWords) (are : AreScorings scorings) where
  help_refused : (name : Text) → bytes_eq (codes "help") name ≡ true → MayEnter (built (othsolve scorings)).top name → ⊥
  unfolding othsolve
  help_refused name e may =
      let is : codes "help" ≡ name = (bytes_eq-Decides (codes "help") name).0 e in
      true≢false (sym (subst (MayEnter (built (othsolve scorings)).top) (sym is) may))

  -- where clap takes the words, they stand for something
  pub taken_means : (words : List Text) → takes (othsolve scorings) words ≡ true → (m : Meaning) × Means (subcommand_of (othsolve scorings) words) m
  unfolding othsolve
  taken_means words e =
      let got = enters (built (othsolve scorings)) (argument_words (othsolve scorings) words) MeansSome refl each (both (is_simple (othsolve scorings)) _ e).1 in
      (got.2.0, subst (λ (o : Option (Text × List Row)). Means o got.2.0) (sym got.1) got.2.1)
    where
      each : (p : Text × List Text) → MayEnter (built (othsolve scorings)).top p.0
          → Each (λ s. answers_to p.0 (label_of s) ≡ true → level_passes s [] nothing_held p.1 false ≡ true → MeansSome (rows_at s p.1)) (built (othsolve scorings)).subs
      each p may = (
        λ hit e. solve_taken scorings are p.1 e,
        (
          λ hit e. scores_taken scorings are p.1 e,
          (
            λ hit e. let rows = (rows_at (built_sub (plain_app (codes "moves"))) p.1).1 in
                (run (plain_settings Moves) (telling_of rows) None (files_of rows), ((refl, (refl, refl, refl), refl), refl, refl)),
            (
              λ hit e. let rows = (rows_at (built_sub (plain_app (codes "transcript"))) p.1).1 in
                  (run (plain_settings Transcript) (telling_of rows) None (files_of rows), ((refl, (refl, refl, refl), refl), refl, refl)),
              (
                λ hit e. let rows = (rows_at (built_sub (plain_app (codes "play"))) p.1).1 in
                    (run (plain_settings Play) (telling_of rows) None (files_of rows), ((refl, (refl, refl, refl), refl), refl, refl)),
                (
                  λ hit e. analyse_taken scorings are p.1 e,
                  (
                    λ hit e. verify_taken p.1 e,
                    (
                      λ hit e. add_taken p.1 e,
                      (λ hit e. absurd (help_refused p.0 (or_false _ hit) may), tt),
                    ),
                  ),
                ),
              ),
            ),
          ),
        ),
      )

  -- so what stands for nothing isn't taken
  pub nothing_meant : (words : List Text) (met : Option (Text × List Row)) → ((m : Meaning) → Means met m → ⊥) → met ≡ subcommand_of (othsolve scorings) words
      → takes (othsolve scorings) words ≡ true → ⊥
  nothing_meant words met none same taken =
      let means = taken_means words taken in
      none means.0 (subst (λ (o : Option (Text × List Row)). Means o means.0) (sym same) means.1)
