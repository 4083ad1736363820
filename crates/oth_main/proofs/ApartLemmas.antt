-- The lines of a text that is ended, and of what follows it.
use Rattle.std.proofs.Common.{◌≡◌, ◌∙◌, ◌++◌, ◌==◌, ℕ, Bool, true, false, not, cond, List, [], ◌∷◌, map, Option, Some, None, is_some, refl, sym, ap, ap₂, append_assoc, append-nil, true≢false}
use Rattle.std.specs.Prelude.{option_map, unwrap_or}
use Rattle.std.specs.List.{flat_map}
use Rattle.std.specs.Io.KnownBytes.{prepend_known}
use Rattle.std.proofs.lemmas.List.Concat.{flat_map-append}
use Rattle.oth_run.specs.Report.{Cut, after_end, cut, ended_report, last_line, last_report, line_number, lines_of, next_number, onto_first, report, report_from, with_end}
use Rattle.oth_main.specs.Joined.{ended, joined}

abbrev put : Bool → ℕ → Cut → Cut
put is_end b c = cond is_end (after_end c) (onto_first b c.lines c.rest)

-- the lines of a text before which a line has begun: its rest ends that line, even if it is empty
closed : List (List ℕ) → List ℕ → List (List ℕ)
closed [] rest = rest ∷ []
closed (l ∷ ls) rest = (l ∷ ls) ++ last_line rest

abbrev all : Bool → Cut → List (List ℕ)
all begun c = cond begun (closed c.lines c.rest) (c.lines ++ last_line c.rest)

-- of a text that isn't empty it makes no difference
all_put : (begun q : Bool) (b : ℕ) (ls : List (List ℕ)) (rest : List ℕ) → let c = put q b (record { lines = ls; rest = rest }) in
    all begun c ≡ c.lines ++ last_line c.rest
unfolding closed
all_put false q b ls rest = refl
all_put true true b ls rest = refl
all_put true false b [] rest = refl
all_put true false b (l ∷ ls) rest = refl

step : (q : Bool) (b : ℕ) (ls : List (List ℕ)) (rest : List ℕ) (others : List (List ℕ)) (left : List ℕ)
    → put q b (record { lines = all (not q) (record { lines = ls; rest = rest }) ++ others; rest = left })
    ≡ record { lines = ((put q b (record { lines = ls; rest = rest })).lines ++ last_line (put q b (record { lines = ls; rest = rest })).rest) ++ others; rest = left }
unfolding closed
step true b ls rest others left = refl
step false b [] rest others left = refl
step false b (l ∷ ls) rest others left = refl

cut_ended : (begun : Bool) (text rest : List ℕ)
    → cut (ended begun text ++ rest) ≡ record { lines = all begun (cut text) ++ (cut rest).lines; rest = (cut rest).rest }
unfolding cut ended closed
cut_ended true [] rest = refl
cut_ended false [] rest = refl
cut_ended begun (b ∷ bs) rest =
    ap (put (b == 10) b) (cut_ended (not (b == 10)) bs rest)
    ∙ step (b == 10) b (cut bs).lines (cut bs).rest (cut rest).lines (cut rest).rest
    ∙ ap (λ (ls : List (List ℕ)). record { lines = ls ++ (cut rest).lines; rest = (cut rest).rest }) (sym (all_put begun (b == 10) b (cut bs).lines (cut bs).rest))

pub apart : (text rest : List ℕ) → lines_of (ended false text ++ rest) ≡ lines_of text ++ lines_of rest
apart text rest =
    ap (λ (c : Cut). c.lines ++ last_line c.rest) (cut_ended false text rest)
    ∙ append_assoc (lines_of text) (cut rest).lines (last_line (cut rest).rest)

-- ---- reports

module _ (reply : List ℕ → List ℕ) where
  -- the reply doesn't look at the number of its line
  abbrev told : List ℕ → List ℕ
  told line = with_end (λ number. reply) 1 line

  unnumbered : (n : ℕ) (lines : List (List ℕ)) → report_from (λ number. reply) n lines ≡ flat_map told lines
  unnumbered n [] = refl
  unnumbered n (line ∷ lines) = ap (λ t. told line ++ t) (unnumbered (next_number n) lines)

  report_lines : (input : List ℕ) → report (λ number. reply) input ≡ flat_map told (lines_of input)
  unfolding report ended_report
  report_lines input =
      ap (λ t. t ++ last_report (λ number. reply) (line_number input) (cut input).rest) (unnumbered 1 (cut input).lines)
      ∙ go (cut input).rest ∙ sym (flat_map-append told (cut input).lines (last_line (cut input).rest))
    where
      go : (rest : List ℕ) → flat_map told (cut input).lines ++ last_report (λ number. reply) (line_number input) rest
          ≡ flat_map told (cut input).lines ++ flat_map told (last_line rest)
      go [] = refl
      go (b ∷ bs) = ap (λ l. flat_map told (cut input).lines ++ l) (sym (append-nil (told (b ∷ bs))))

  report_apart : (text rest : List ℕ) → report (λ number. reply) (ended false text ++ rest) ≡ report (λ number. reply) text ++ report (λ number. reply) rest
  report_apart text rest =
      report_lines (ended false text ++ rest)
      ∙ ap (flat_map told) (apart text rest)
      ∙ flat_map-append told (lines_of text) (lines_of rest)
      ∙ sym (ap₂ ◌++◌ (report_lines text) (report_lines rest))

  -- the report of several sources is the report of each
  pub reports : (first : List ℕ) (others : List (List ℕ))
      → option_map (report (λ number. reply)) (joined false (Some first) (map (λ text. Some text) others)) ≡ Some (flat_map (report (λ number. reply)) (first ∷ others))
  unfolding joined
  reports first [] = ap Some (sym (append-nil (report (λ number. reply) first)))
  reports first (text ∷ texts) = go (joined false (Some text) (map (λ t. Some t) texts)) (reports text texts)
    where
      go : (o : Option (List ℕ)) → option_map (report (λ number. reply)) o ≡ Some (flat_map (report (λ number. reply)) (text ∷ texts))
          → option_map (report (λ number. reply)) (prepend_known (ended false first) o) ≡ Some (report (λ number. reply) first ++ flat_map (report (λ number. reply)) (text ∷ texts))
      go None is = absurd (true≢false (sym (ap is_some is)))
      go (Some r) is = ap Some (report_apart first r ∙ ap (λ l. report (λ number. reply) first ++ l) (ap (λ o. unwrap_or o []) is))
