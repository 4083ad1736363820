-- Claims that are true so far.
use Rattle.std.proofs.Common.{◌≡◌, ℕ, ◌+◌, ◌<◌, ℤ, pos, ◌≤ℤ◌, ◌-ℤ◌, ◌+ℤ◌, inl, inr, List, [], ◌∷◌, ◌++◌, length, take, get_or, All, Some, arith, sym, ap, ◌∙◌}
use Rattle.std.proofs.lemmas.List.{take_more}
use Rattle.std.proofs.lemmas.List.Elements.{All-push}
use Rattle.std.proofs.lemmas.Option.{slice_get-get_or}
use Rattle.std.proofs.lemmas.Int.{ints}
use Rattle.oth_rules.specs.declared.scoring.Scoring.{Scoring}
use Rattle.oth_search.specs.Bounds.Interval.{Encloses, Decides}
use Rattle.oth_book.specs.declared.claim.Claim.{Claim}
use Rattle.oth_book.specs.declared.wrong.Cause.{Cause}
use Rattle.oth_book.specs.True.{IsTrueClaim, IsFirstUntrue, IsCause}

pub untrue_at : (g : Scoring) (entries claims : List Claim) (i : ℕ) (c : Claim) (why : Cause) → entries ≡ take i claims → All (IsTrueClaim g) entries → i < length claims
    → c ≡ get_or claims i c → IsCause g c why
    → IsFirstUntrue (record { scoring = g; entries = claims }) i why
untrue_at g entries claims i c why same each h is cause = record {
  entry = (c, slice_get-get_or claims i c h ∙ ap Some (sym is), cause);
  before = rw (← same) each;
}

pub same_push : (entries claims : List Claim) (i : ℕ) (c : Claim) → entries ≡ take i claims → i < length claims → c ≡ get_or claims i c → entries ++ c ∷ [] ≡ take (i + 1) claims
same_push entries claims i c same h is = ap (λ xs. xs ++ c ∷ []) same ∙ ap (λ x. take i claims ++ x ∷ []) is ∙ sym (take_more claims i c h)

pub true_push : (g : Scoring) (entries : List Claim) (c : Claim) → All (IsTrueClaim g) entries → IsTrueClaim g c → All (IsTrueClaim g) (entries ++ c ∷ [])
true_push g entries c each one = All-push (IsTrueClaim g) entries c each one

-- a search with the window just round the bounds tells whether they enclose the value
pub inside : (l u a b v : ℤ) → Encloses a b v → l ≤ℤ a → b ≤ℤ u → Encloses l u v
inside l u a b v found low high = let x = found.below in let y = found.above in record { below = omega (arith, ints); above = omega (arith, ints) }

pub decided : (l u a b alpha beta v : ℤ) → alpha ≡ l -ℤ pos 1 → beta ≡ u +ℤ pos 1 → Encloses a b v → Decides a b alpha beta → Encloses l u v → (l ≤ℤ a) × (b ≤ℤ u)
decided l u a b alpha beta v ea eb found decides holds =
    let x = found.below in
    let y = found.above in
    let p = holds.below in
    let q = holds.above in
    elim decides [
      | inl e ↦ (omega (arith, ints), omega (arith, ints))
      | inr far ↦ elim far [
        | inl e ↦ absurd (omega (arith, ints))
        | inr e ↦ absurd (omega (arith, ints))
      ]
    ]
