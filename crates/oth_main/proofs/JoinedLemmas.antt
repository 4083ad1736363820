-- What a read does to the bytes that several sources have left.
use Rattle.std.proofs.Common.{◌≡◌, ◌∙◌, ◌++◌, ◌<◌, ◌≤◌, ◌-◌, ◌==◌, ℕ, zero, suc, Bool}
use Rattle.std.proofs.Common.{true, false, not, List, [], ◌∷◌, Option, Some, None, length, map, take, slice_index_or, slice_set, nat_eq, refl, ap, sym, subst, append_assoc, arith}
use Rattle.std.specs.Io.KnownBytes.{Consumes, IsAtEnd, Keeps, prepend_known}
use Rattle.std.proofs.KnownBytes.{Consumes-trans}
use Rattle.oth_main.specs.Joined.{begun_after, ended, joined}

ended_append : (begun : Bool) (front rest : List ℕ) → ended begun (front ++ rest) ≡ front ++ ended (begun_after begun front) rest
unfolding ended begun_after
ended_append begun [] rest = refl
ended_append begun (b ∷ bs) rest = ap (λ l. b ∷ l) (ended_append (not (b == 10)) bs rest)

last_byte : (begun : Bool) (k : ℕ) (bs : List ℕ) → k < length bs → begun_after begun (take (suc k) bs) ≡ not (nat_eq (slice_index_or bs k 0) 10)
unfolding begun_after
last_byte begun k [] lt = absurd (omega arith)
last_byte begun zero (b ∷ bs) lt = refl
last_byte begun (suc k) (b ∷ bs) lt = last_byte (not (b == 10)) k bs (omega arith)

-- the last of some bytes says whether a line has begun
last_of : (begun : Bool) (n : ℕ) (bs : List ℕ) → 0 < n → n ≤ length bs → begun_after begun (take n bs) ≡ not (nat_eq (slice_index_or bs (n - 1) 0) 10)
last_of begun n bs some le =
    let on : n ≡ suc (n - 1) = omega arith in
    ap (λ k. begun_after begun (take k bs)) on ∙ last_byte begun (n - 1) bs (omega arith)

-- the first source gave bytes
consumes_front : (begun : Bool) (a b : Option (List ℕ)) (others : List (Option (List ℕ))) (front : List ℕ) → Consumes a b front
    → Consumes (joined begun a others) (joined (begun_after begun front) b others) front
unfolding joined
consumes_front begun a b [] front e = e
consumes_front begun None b (next ∷ others) front e = tt
consumes_front begun (Some x) None (next ∷ others) front e = absurd e
consumes_front begun (Some x) (Some y) (next ∷ others) front e = go (joined false next others)
  where
    go : (o : Option (List ℕ)) → Consumes (prepend_known (ended begun x) o) (prepend_known (ended (begun_after begun front) y) o) front
    go None = tt
    go (Some r) = ap (λ l. ended begun l ++ r) e ∙ ap (λ l. l ++ r) (ended_append begun front y) ∙ append_assoc front (ended (begun_after begun front) y) r

-- it is at its end, and the next one follows, behind a byte 10 where a line has begun
consumes_line_end : (a b next : Option (List ℕ)) (others : List (Option (List ℕ))) → Consumes a b [] → IsAtEnd b
    → Consumes (joined true a (next ∷ others)) (joined false next others) (10 ∷ [])
unfolding joined ended
consumes_line_end None b next others e end = tt
consumes_line_end (Some x) None next others e end = absurd e
consumes_line_end (Some x) (Some y) next others e end = go (joined false next others)
  where
    go : (o : Option (List ℕ)) → Consumes (prepend_known (ended true x) o) o (10 ∷ [])
    go None = tt
    go (Some r) = ap (λ l. ended true l ++ r) (e ∙ end)

consumes_end : (a b next : Option (List ℕ)) (others : List (Option (List ℕ))) → Consumes a b [] → IsAtEnd b
    → Consumes (joined false a (next ∷ others)) (joined false next others) []
unfolding joined ended
consumes_end None b next others e end = tt
consumes_end (Some x) None next others e end = absurd e
consumes_end (Some x) (Some y) next others e end = go (joined false next others)
  where
    go : (o : Option (List ℕ)) → Consumes (prepend_known (ended false x) o) o []
    go None = tt
    go (Some r) = ap (λ l. ended false l ++ r) (e ∙ end)

first_set : (bs : List ℕ) (b : ℕ) → 0 < length bs → take 1 (slice_set bs 0 b) ≡ b ∷ []
first_set [] b some = absurd (omega arith)
first_set (x ∷ xs) b some = refl

-- nothing was read
keeps_start : (p q r : Option (List ℕ)) → Consumes p q [] → Keeps q r → Keeps p r
keeps_start None q r e kept = tt
keeps_start (Some x) None r e kept = absurd e
keeps_start (Some x) (Some y) None e kept = absurd kept
keeps_start (Some x) (Some y) (Some z) e kept = kept ∙ sym e

keeps_front : (begun : Bool) (a b : Option (List ℕ)) (others : List (Option (List ℕ))) → Keeps a b → Keeps (joined begun a others) (joined begun b others)
unfolding joined
keeps_front begun a b [] kept = kept
keeps_front begun None b (next ∷ others) kept = tt
keeps_front begun (Some x) None (next ∷ others) kept = absurd kept
keeps_front begun (Some x) (Some y) (next ∷ others) kept = go (joined false next others)
  where
    go : (o : Option (List ℕ)) → Keeps (prepend_known (ended begun x) o) (prepend_known (ended begun y) o)
    go None = tt
    go (Some r) = ap (λ l. ended begun l ++ r) kept

-- ---- a read, where no byte of `start` was given before it

module _ {X : Type 0} (f : X → Option (List ℕ)) where
  pub alone : (begun : Bool) (first : Option (List ℕ)) (others : List X) → others ≡ [] → joined begun first (map f others) ≡ first
  unfolding joined
  alone begun first others none = ap (λ l. joined begun first (map f l)) none

  pub gives : (start a b : Option (List ℕ)) (begun : Bool) (others : List X) (n : ℕ) (buffer : List ℕ) → Consumes start (joined begun a (map f others)) []
      → Consumes a b (take n buffer) → 0 < n → n ≤ length buffer
      → Consumes start (joined (not (nat_eq (slice_index_or buffer (n - 1) 0) 10)) b (map f others)) (take n buffer)
  gives start a b begun others n buffer so_far read some le =
      Consumes-trans start _ _ [] (take n buffer) so_far
      (subst (λ t. Consumes (joined begun a (map f others)) (joined t b (map f others)) (take n buffer)) (last_of begun n buffer some le)
      (consumes_front begun a b (map f others) (take n buffer) read))

  nothing_read : (a b : Option (List ℕ)) (n : ℕ) (buffer : List ℕ) → n ≡ 0 → Consumes a b (take n buffer) → Consumes a b []
  nothing_read a b n buffer none = subst (λ k. Consumes a b (take k buffer)) none

  pub ends : (start a : Option (List ℕ)) (source now : X) (begun begun' : Bool) (others left : List X) (n : ℕ) (buffer : List ℕ) → others ≡ [] → left ≡ []
      → Consumes start (joined begun a (map f others)) [] → Consumes a (f source) (take n buffer) → n ≡ 0 → IsAtEnd (f source) → now ≡ source
      → Consumes start (joined begun' (f now) (map f left)) [] × IsAtEnd (joined begun' (f now) (map f left))
  ends start a source now begun begun' others left n buffer none over so_far read zero_read end same =
      let whole : Consumes start a [] = subst (λ o. Consumes start o []) (alone begun a others none) so_far in
      let done = Consumes-trans start a (f source) [] [] whole (nothing_read a (f source) n buffer zero_read read) in (
        subst (λ o. Consumes start o []) (ap f (sym same) ∙ sym (alone begun' (f now) left over)) done,
        subst IsAtEnd (ap f (sym same) ∙ sym (alone begun' (f now) left over)) end,
      )

  pub goes_on : (start a b : Option (List ℕ)) (next : X) (begun begun' : Bool) (others left : List X) (n : ℕ) (buffer : List ℕ) → others ≡ next ∷ left
      → Consumes start (joined begun a (map f others)) [] → Consumes a b (take n buffer) → n ≡ 0 → IsAtEnd b
      → begun' ≡ begun → begun' ≡ false → Consumes start (joined begun' (f next) (map f left)) []
  goes_on start a b next begun begun' others left n buffer split so_far read zero_read end same idle =
      let whole : Consumes start (joined begun a (map f (next ∷ left))) [] = subst (λ l. Consumes start (joined begun a (map f l)) []) split so_far in
      let plain : Consumes start (joined false a (map f (next ∷ left))) [] = subst (λ t. Consumes start (joined t a (map f (next ∷ left))) []) (sym same ∙ idle) whole in
      subst (λ t. Consumes start (joined t (f next) (map f left)) []) (sym idle)
      (Consumes-trans start _ _ [] [] plain (consumes_end a b (f next) (map f left) (nothing_read a b n buffer zero_read read) end))

  pub ends_line : (start a b : Option (List ℕ)) (next : X) (begun : Bool) (others left : List X) (n : ℕ) (buffer : List ℕ) → others ≡ next ∷ left
      → Consumes start (joined begun a (map f others)) [] → Consumes a b (take n buffer) → n ≡ 0 → IsAtEnd b
      → begun ≡ true → 0 < length buffer → Consumes start (joined false (f next) (map f left)) (take 1 (slice_set buffer 0 10))
  ends_line start a b next begun others left n buffer split so_far read zero_read end is_begun room =
      let whole : Consumes start (joined begun a (map f (next ∷ left))) [] = subst (λ l. Consumes start (joined begun a (map f l)) []) split so_far in
      let plain : Consumes start (joined true a (map f (next ∷ left))) [] = subst (λ t. Consumes start (joined t a (map f (next ∷ left))) []) is_begun whole in
      subst (Consumes start _) (sym (first_set buffer 10 room))
      (Consumes-trans start _ _ [] (10 ∷ []) plain (consumes_line_end a b (f next) (map f left) (nothing_read a b n buffer zero_read read) end))

  pub fails : (start a b : Option (List ℕ)) (begun : Bool) (others : List X) → Consumes start (joined begun a (map f others)) [] → Keeps a b
      → Keeps start (joined begun b (map f others))
  fails start a b begun others so_far kept = keeps_start start _ _ so_far (keeps_front begun a b (map f others) kept)

  pub stops : (start now : Option (List ℕ)) → Consumes start now [] → Keeps start now
  stops None now e = tt
  stops (Some x) None e = absurd e
  stops (Some x) (Some y) e = sym e
