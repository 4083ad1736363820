-- Each call on a deque keeps its rule.
use Rattle.std.proofs.Common.{◌≡◌, ◌≢◌, ℕ, zero, suc, ◌+◌, ◌≤◌, true, true≢false, ◌==◌, List, [], ◌∷◌, ◌++◌, set, sym, refl, ap, ◌∙◌, subst, ⊎_elim, arith, cond}
use mathlib.Core.Option.{some, some-injective, some-ne-none}
use lib.ListN.{get_elem?}
use Rattle.std.specs.List.{sum_by}
use Rattle.std.proofs.lemmas.List.Sums.{sum_by-cons, sum_by-append, sum_by_push}
use Rattle.crossbeam_deque.specs.Tasks.{Pushes, Takes, Pops, Merges, Learns, Forks}
use Rattle.crossbeam_deque.proofs.Lists.{at_set, at_snoc}
use Rattle.oth_pieces.specs.declared.tasks.share.Share.{Share}
use Rattle.oth_pieces.specs.Dealing.{times, Dealt, stranger, puts, takes, owner_of, thief_of, both, IsFair}

pub times-append : (x : ℕ) (xs ys : List ℕ) → times x (xs ++ ys) ≡ times x xs + times x ys
times-append x xs ys = sum_by-append (λ y. cond (y == x) 1 0) xs ys

-- a sum after a change of one pass
sum_set : (f : Share → ℕ) (views : List Share) (port : ℕ) (v w : Share) → get_elem? views port ≡ some v → sum_by f (set views port w) + f v ≡ sum_by f views + f w
sum_set f [] port v w e = absurd (some-ne-none v (sym e))
sum_set f (u ∷ us) zero v w e = let is : f u ≡ f v = ap f (some-injective u v e) in omega (arith, sum_by-cons f u us, sum_by-cons f w us)
sum_set f (u ∷ us) (suc port) v w e = let rest = sum_set f us port v w e in omega (arith, sum_by-cons f u us, sum_by-cons f u (set us port w))

sum_has : (f : Share → ℕ) (views : List Share) (port : ℕ) (v : Share) → get_elem? views port ≡ some v → f v ≤ sum_by f views
sum_has f [] port v e = absurd (some-ne-none v (sym e))
sum_has f (u ∷ us) zero v e = let is : f u ≡ f v = ap f (some-injective u v e) in omega (arith, sum_by-cons f u us)
sum_has f (u ∷ us) (suc port) v e = let rest = sum_has f us port v e in omega (arith, sum_by-cons f u us)

module _ (put : List ℕ) (views : List Share) where
  abbrev Alone : Type 0
  Alone = (port : ℕ) (v : Share) → get_elem? views port ≡ some v → v.pushes ≡ true → (j : ℕ) (u : Share) → get_elem? views j ≡ some u → u.knows ≡ true → j ≡ port

  knows_set : (put' : List ℕ) (port : ℕ) (w : Share) → (w.knows ≡ true → w.put ≡ put') → ((j : ℕ) (u : Share) → j ≢ port → get_elem? views j ≡ some u → u.knows ≡ true → u.put ≡ put')
      → (j : ℕ) (u : Share) → get_elem? (set views port w) j ≡ some u → u.knows ≡ true → u.put ≡ put'
  knows_set put' port w mine others j u e = let P : Share → Type 0 = λ y. y.knows ≡ true → y.put ≡ put' in
      ⊎_elim (λ (h : (j ≡ port) × (w ≡ u)). subst P h.1 mine) (λ (h : (j ≢ port) × (get_elem? views j ≡ some u)). others j u h.0 h.1) (at_set views port j w u e)

  -- what is true of a pass after one was changed into one that may do no more
  was : (port : ℕ) (v w : Share) → get_elem? views port ≡ some v → (w.pushes ≡ true → v.pushes ≡ true) → (w.knows ≡ true → v.knows ≡ true) → (j : ℕ) (u : Share)
      → get_elem? (set views port w) j ≡ some u
      → (u' : Share) × (get_elem? views j ≡ some u') × (u.pushes ≡ true → u'.pushes ≡ true) × (u.knows ≡ true → u'.knows ≡ true)
  was port v w at less_push less_know j u e = ⊎_elim
      (λ (h : (j ≡ port) × (w ≡ u)). let P : Share → Type 0 = λ y. (y.pushes ≡ true → v.pushes ≡ true) × (y.knows ≡ true → v.knows ≡ true) in let both' : P u = subst P h.1 (less_push, less_know) in
      (v, ap (get_elem? views) h.0 ∙ at, both'.0, both'.1))
      (λ (h : (j ≢ port) × (get_elem? views j ≡ some u)). (u, h.1, (λ x. x), (λ x. x)))
      (at_set views port j w u e)

  alone_set : Alone → (port : ℕ) (v w : Share) → get_elem? views port ≡ some v → (w.pushes ≡ true → v.pushes ≡ true) → (w.knows ≡ true → v.knows ≡ true)
      → (p : ℕ) (x : Share) → get_elem? (set views port w) p ≡ some x → x.pushes ≡ true → (j : ℕ) (u : Share) → get_elem? (set views port w) j ≡ some u → u.knows ≡ true → j ≡ p
  alone_set alone port v w at less_push less_know p x e pushes' j u f knows' =
      let a = was port v w at less_push less_know p x e in let b = was port v w at less_push less_know j u f in alone p a.0 a.1 (a.2 pushes') j b.0 b.1 (b.3 knows')

pub pushes : (port : ℕ) (v : Share) (xs : List ℕ) → v.pushes ≡ true → v.knows ≡ true → Pushes Dealt port v xs (puts v xs)
pushes port v xs may knows' items views h at = let w : Share = record v { put = v.put ++ xs } in (
  w,
  (
    h.0 ++ xs,
    (λ x. let b = h.1 x in let s = sum_set (λ (u : Share). times x u.taken) views port v w at in omega (arith, times-append x items xs, times-append x h.0 xs)),
    knows_set h.0 views (h.0 ++ xs) port w (λ _. ap (λ l. l ++ xs) (h.2 port v at knows')) (λ j u other e theirs. absurd (other (h.3 port v at may j u e theirs))),
    alone_set h.0 views h.3 port v w at (λ x. x) (λ x. x),
  ),
  refl,
)

-- the rule after a pass took some numbers
took : (port : ℕ) (v : Share) (xs items items' : List ℕ) (views : List Share) → ((x : ℕ) → times x items ≡ times x items' + times x xs) → Dealt items views → get_elem? views port ≡ some v
    → Dealt items' (set views port (record v { taken = v.taken ++ xs }))
took port v xs items items' views less h at = let w : Share = record v { taken = v.taken ++ xs } in (
  h.0,
  (λ x. let b = h.1 x in let l = less x in let s = sum_set (λ (u : Share). times x u.taken) views port v w at in omega (arith, times-append x v.taken xs)),
  knows_set h.0 views h.0 port w (h.2 port v at) (λ j u _ e. h.2 j u e),
  alone_set h.0 views h.3 port v w at (λ x. x) (λ x. x),
)

fair : (items : List ℕ) (views : List Share) (port : ℕ) (v : Share) → Dealt items views → get_elem? views port ≡ some v → v.knows ≡ true → IsFair v
fair items views port v h at knows' x =
    let b = h.1 x in let s = sum_has (λ (u : Share). times x u.taken) views port v at in let same : times x v.put ≡ times x h.0 = ap (times x) (h.2 port v at knows') in omega arith

there_after : (views : List Share) (port : ℕ) (v w : Share) → get_elem? views port ≡ some v → get_elem? (set views port w) port ≡ some w
there_after [] port v w e = absurd (some-ne-none v (sym e))
there_after (u ∷ us) zero v w e = refl
there_after (u ∷ us) (suc port) v w e = there_after us port v w e

pub takes_first : (port : ℕ) (v : Share) → v.knows ≡ true → Takes Dealt port v 1 (takes v)
takes_first port v knows' xs items views _ _ h at =
    let w : Share = record v { taken = v.taken ++ xs } in
    let after = took port v xs (xs ++ items) items views (λ x. omega (arith, times-append x xs items)) h at in
    (w, after, (refl, fair items (set views port w) port w after (there_after views port v w at) knows'))

pub takes_last : (port : ℕ) (v : Share) → v.knows ≡ true → Pops Dealt port v (takes v)
takes_last port v knows' y items views h at =
    let w : Share = record v { taken = v.taken ++ y ∷ [] } in
    let after = took port v (y ∷ []) (items ++ y ∷ []) items views (λ x. times-append x items (y ∷ [])) h at in
    (w, after, (refl, fair items (set views port w) port w after (there_after views port v w at) knows'))

pub splits : (port : ℕ) (v : Share) → v.knows ≡ true → Forks Dealt port v (owner_of v) (thief_of v)
splits port v knows' items views h at =
    let left : Share = owner_of v in
    let vs : List Share = set views port left in (
      h.0,
      (λ x. let b = h.1 x in let s = sum_set (λ (u : Share). times x u.taken) views port v left at in omega (arith, sum_by_push (λ (u : Share). times x u.taken) vs (thief_of v))),
      (λ j u e. ⊎_elim (λ f. knows_set h.0 views h.0 port left (h.2 port v at) (λ i y _ g. h.2 i y g) j u f)
          (λ (is : thief_of v ≡ u). let P : Share → Type 0 = λ y. y.knows ≡ true → y.put ≡ h.0 in subst P is (h.2 port v at)) (at_snoc vs (thief_of v) u j e)),
      (λ p x e pushes' j u f _. absurd (⊎_elim
          (λ g. ⊎_elim (λ (is : (p ≡ port) × (left ≡ x)). true≢false (sym (ap (λ (y : Share). y.pushes) is.1 ∙ pushes')))
          (λ (is : (p ≢ port) × (get_elem? views p ≡ some x)). is.0 (sym (h.3 p x is.1 pushes' port v at knows'))) (at_set views port p left x g))
          (λ (is : thief_of v ≡ x). true≢false (sym (ap (λ (y : Share). y.pushes) is ∙ pushes')))
          (at_snoc vs (thief_of v) x p e))),
    )

pub gathers : (port : ℕ) (v : Share) (other : ℕ) (w : Share) → Merges Dealt port v other w (both v w) stranger
gathers port v other w items views h at apart there =
    let now : List Share = set views port (both v w) in
    let mid : Alone h.0 now = alone_set h.0 views h.3 port v (both v w) at (λ x. x) (λ x. x) in (
      h.0,
      (λ x. let b = h.1 x in let s = sum_set (λ (u : Share). times x u.taken) views port v (both v w) at in let t = sum_set (λ (u : Share). times x u.taken) now other w stranger there in
          omega (arith, times-append x v.taken w.taken)),
      knows_set h.0 now h.0 other stranger (λ no'. absurd (true≢false (sym no'))) (λ j u _ e. knows_set h.0 views h.0 port (both v w) (h.2 port v at) (λ i y _ g. h.2 i y g) j u e),
      alone_set h.0 now mid other w stranger there (λ no'. absurd (true≢false (sym no'))) (λ no'. absurd (true≢false (sym no'))),
    )

pub learns : (port : ℕ) (v : Share) → v.knows ≡ true → Learns Dealt port v (λ _. IsFair v)
learns port v knows' items views h at = fair items views port v h at knows'
