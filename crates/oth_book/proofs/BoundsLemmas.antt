-- The bounds of an entry, as they are read.
use Rattle.std.proofs.Common.{◌≡◌, ◌≢◌, ℕ, ◌+◌, ◌<◌, ◌↔◌, ℤ, unsigned_abs, true, false, List, ◌∷◌, ◌++◌, arith, sym, ap, ◌∙◌, refl, append-nil, lit<, eqb-true, IsSome, IfSome, IfNone}
use Rattle.std.specs.Prelude.{Option, Some, None}
use Rattle.std.proofs.lemmas.List.{drop_all}
use Rattle.oth_search.specs.Bounds.Interval.{IsInterval}
use Rattle.oth_search.specs.declared.bounds.interval.Interval.{Interval}
use Rattle.oth_rules.specs.declared.scoring.Scoring.{Scoring}
use Rattle.oth_book.specs.declared.version.Version.{Version}
use Rattle.oth_book.specs.declared.version.Version.TheVariants.{One, Two}
use Rattle.oth_book.specs.Shape.{AreBoundsBytes}
use Rattle.oth_book.specs.Text.{signed, bounds_text, AreBounds}
use Rattle.oth_book.proofs.LineLemmas.{part, length-part, drop-byte, drop-part}
use Rattle.oth_book.proofs.EntryLemmas.{append_same, length-signed, IsSmall, are_small, bounds_text-injective}

-- what an interval of the two numbers, or none, says of the text
pub bounds_read : (v : Version) (text : List ℕ) (l u : ℤ) (r : Option Interval) → IsSmall v l u → text ≡ bounds_text v l u → IsSome r ↔ IsInterval l u
    → IfSome r (λ i. (i.lower ≡ l) × (i.upper ≡ u))
    → IfSome r (λ b. text ≡ bounds_text v b.lower b.upper) × IfNone r ((lower upper : ℤ) → AreBounds v lower upper → text ≢ bounds_text v lower upper)
bounds_read v text l u (Some i) small is both values = (is ∙ ap (bounds_text v l) (sym values.1) ∙ ap (λ x. bounds_text v x i.upper) (sym values.0), tt)
bounds_read v text l u None small is both values = (
  tt,
  λ lower upper h e.
      let same = bounds_text-injective v lower upper l u (are_small h) small (sym e ∙ is) in
      let no : false ≡ true = both.1 (rw (← same.0, ← same.1) h.interval) in
      absurd (let clash : false ≡ true = no in cc),
)

two_parts : (g : Scoring) (text : List ℕ) → AreBoundsBytes (Two g) text → text ≡ part 0 3 text ++ 32 ∷ part 4 3 text
two_parts g text h =
    let len = h.len in
    drop-part 0 3 3 text refl
    ∙ ap (λ xs. part 0 3 text ++ xs) (drop-byte 3 4 32 text (omega arith) refl (eqb-true _ _ (h.places 3 (lit< tt)))
    ∙ ap (λ xs. 32 ∷ xs) (drop-part 4 3 7 text refl ∙ ap (λ xs. part 4 3 text ++ xs) (drop_all 7 text (omega arith)) ∙ append-nil (part 4 3 text)))

pub two_read : (g : Scoring) (text : List ℕ) (l u : ℤ) → AreBoundsBytes (Two g) text → part 0 3 text ≡ signed l → part 4 3 text ≡ signed u → text ≡ bounds_text (Two g) l u
unfolding bounds_text
two_read g text l u h e f = two_parts g text h ∙ ap (λ xs. xs ++ 32 ∷ part 4 3 text) e ∙ ap (λ xs. signed l ++ 32 ∷ xs) f

pub two_same : (g : Scoring) (text : List ℕ) (l u : ℤ) → AreBoundsBytes (Two g) text → text ≡ bounds_text (Two g) l u → (part 0 3 text ≡ signed l) × (part 4 3 text ≡ signed u)
unfolding bounds_text
two_same g text l u h e =
    let len = h.len in
    let parts = append_same (part 0 3 text) (signed l) _ _ (length-part 0 3 text (omega arith) ∙ sym (length-signed l)) (sym (two_parts g text h) ∙ e) in
    let second : part 4 3 text ≡ signed u = cc (parts.1) in
    (parts.0, second)

pub no_first : (g : Scoring) (text first : List ℕ) → AreBoundsBytes (Two g) text → first ≡ part 0 3 text → ((z : ℤ) → unsigned_abs z < 100 → first ≢ signed z)
    → (lower upper : ℤ) → AreBounds (Two g) lower upper → text ≢ bounds_text (Two g) lower upper
no_first g text first h is none lower upper are e = none lower (are_small are).lower_fits (is ∙ (two_same g text lower upper h e).0)

pub no_second : (g : Scoring) (text second : List ℕ) → AreBoundsBytes (Two g) text → second ≡ part 4 3 text → ((z : ℤ) → unsigned_abs z < 100 → second ≢ signed z)
    → (lower upper : ℤ) → AreBounds (Two g) lower upper → text ≢ bounds_text (Two g) lower upper
no_second g text second h is none lower upper are e = none upper (are_small are).upper_fits (is ∙ (two_same g text lower upper h e).1)

pub no_score : (text : List ℕ) → ((z : ℤ) → unsigned_abs z < 100 → text ≢ signed z) → (lower upper : ℤ) → AreBounds One lower upper → text ≢ bounds_text One lower upper
unfolding bounds_text
no_score text none lower upper are e = none lower (are_small are).lower_fits e

pub one_read : (text : List ℕ) (z : ℤ) → text ≡ signed z → text ≡ bounds_text One z z
unfolding bounds_text
one_read text z e = e

pub small_one : {z : ℤ} → unsigned_abs z < 100 → IsSmall One z z
small_one h = record { lower_fits = h; upper_fits = h; said = refl }

pub small_two : {l u : ℤ} (g : Scoring) → unsigned_abs l < 100 → unsigned_abs u < 100 → IsSmall (Two g) l u
small_two g h k = record { lower_fits = h; upper_fits = k; said = tt }
