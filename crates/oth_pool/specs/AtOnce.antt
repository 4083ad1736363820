-- Jobs that are worked on at once.
--     AcceptsEach f xs      f may be called with a `&mut` to each element of xs
--     ChangesEach f xs ys      each element of ys is what a call of f left of the element of xs at that place
use Rattle.std.specs.Prelude.{◌≡◌, ℕ, ◌<◌, List, length, slice_index_or}
use denote.Ref.{MutBor}
use denote.Param.Members.{Shared}

module _ {F T : Type 0} (g : Shared F (MutBor T × Unit {0}) (Unit {0} × (MutBor T × Unit {0}))) (f : F) where
  -- a call of f with a `&mut` to x may leave y there
  pub record Changes (x y : T) : Type 0 where
    pub argument : MutBor T
    pub argument_is : argument.now ≡ x
    pub after_call : MutBor T
    pub call : g.post f (argument, tt) (tt, (after_call, tt))
    pub left : after_call.now ≡ y

  abbrev pub AcceptsEach : List T → Type 0
  AcceptsEach xs = (i : ℕ) (p : MutBor T) → i < length xs → p.now ≡ slice_index_or xs i p.now → g.pre f (p, tt)

  -- A pair that begins with `slice_index_or ys i d ≡ slice_index_or ys i d` shows the prover the term at which to use the rest.
  pub record ChangesEach (xs ys : List T) : Type 0 where
    pub len : length ys ≡ length xs
    pub each : (i : ℕ) (d : T) → i < length xs
        → (slice_index_or ys i d ≡ slice_index_or ys i d) × Changes (slice_index_or xs i d) (slice_index_or ys i d)
