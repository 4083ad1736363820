-- Jobs that are worked on at once, in two parts.
use Rattle.std.proofs.Common.{◌≡◌, ℕ, ◌+◌, ◌-◌, ◌<◌, ◌≤◌, length, get_or, List, ◌++◌, set, sym, refl, ap, ◌∙◌, subst, arith}
use mathlib.Core.Logic.{⊎_elim}
use Rattle.std.proofs.lemmas.Bool.{cases_lt}
use Rattle.std.proofs.lemmas.List.{get_or_append_left, get_or-append_right, get_or_default, get_or-set_same, length-append, length-set}
use denote.Ref.{MutBor}
use denote.Param.Members.{Shared}
use Rattle.oth_pool.specs.AtOnce.{Changes, AcceptsEach, ChangesEach}

module _ {F T : Type 0} (g : Shared F (MutBor T × Unit {0}) (Unit {0} × (MutBor T × Unit {0}))) (f : F) where
  moved : {x x' y y' : T} → x ≡ x' → y ≡ y' → Changes g f x y → Changes g f x' y'
  moved {x} {x'} {y} {y'} e l c = subst (λ u. Changes g f u y') e (subst (λ u. Changes g f x u) l c)

  -- what was done with both parts was done with the whole
  pub by_both : (all xs ys xs' ys' : List T) → all ≡ xs ++ ys → ChangesEach g f xs xs' → ChangesEach g f ys ys' → ChangesEach g f all (xs' ++ ys')
  by_both all xs ys xs' ys' e a b = record {
    len = omega (arith, ap length e, length-append xs ys, length-append xs' ys', a.len, b.len);
    each = λ i d l.
        let at : get_or (xs ++ ys) i d ≡ get_or all i d = ap (λ zs. get_or zs i d) (sym e) in (
          refl,
          ⊎_elim
              (λ p. moved (sym (get_or_append_left xs ys d i p) ∙ at) (sym (get_or_append_left xs' ys' d i (omega (arith, a.len)))) (a.each i d p).1)
              (λ p. let k = i - length xs in
              moved (sym (get_or-append_right xs ys (length xs) i d refl p) ∙ at) (sym (get_or-append_right xs' ys' (length xs) i d a.len p))
              (b.each k d (omega (arith, ap length e, length-append xs ys))).1)
              (cases_lt i (length xs)),
        );
  }

  -- what was done with the only one was done with all
  pub by_one : (xs : List T) (y d : T) → length xs ≡ 1 → Changes g f (get_or xs 0 d) y → ChangesEach g f xs (set xs 0 y)
  by_one xs y d one c = record {
    len = length-set xs 0 y;
    each = λ i e l.
        let zero : 0 ≡ i = omega arith in (
          refl,
          subst (λ k. Changes g f (get_or xs k e) (get_or (set xs 0 y) k e)) zero
              (moved (get_or_default xs 0 d e (omega arith)) (sym (get_or-set_same xs 0 y e (omega arith))) c),
        );
  }
