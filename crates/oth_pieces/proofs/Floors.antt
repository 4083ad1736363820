-- Each step of a floor keeps its rule.
use Rattle.std.proofs.Common.{◌≡◌, ◌≢◌, ℕ, zero, suc, ◌≤◌, max, ℤ, pos, ◌-ℤ◌, ◌≤ℤ◌, true, false, true≢false, ◌==◌, ◌⊎◌, List, [], ◌∷◌, ◌++◌, length, Option, Some}
use Rattle.std.proofs.Common.{None, unwrap_or, slice_index, slice_set, if◌then◌else◌, sym, refl, ap, ◌∙◌, subst, ⊎_elim, inl, inr, arith, set}
use mathlib.Core.Option.{some, none, some-injective, some-ne-none}
use lib.ListN.{get_elem?}
use Rattle.std.specs.Int.{int_max}
use Rattle.std.proofs.lemmas.Int.{ints, clamps}
use Rattle.std.proofs.lemmas.Bool.Decides.{nat_tests}
use Rattle.atomic_table.specs.Table.{State, step, keeps, stepped, opening, Allows, Splits, Joins}
use Rattle.atomic_table.proofs.Lists.{at_set}
use Rattle.oth_history.specs.History.{Name, Begins, IsUnmade, IsSeat, Since}
use Rattle.oth_history.proofs.Histories.{begins_itself, begins_empty, begins_more, since_itself, since_more, since_between, fresh, is_fresh, legal_begin, new_idle}
use Rattle.oth_rules.specs.declared.scoring.Scoring.{Scoring}
use Rattle.oth_rules.specs.Position.{Position}
use Rattle.oth_rules.specs.Score.{score_of}
use Rattle.oth_rules.specs.Value.{value}
use Rattle.oth_search.specs.Bounds.Interval.{Encloses}
use Rattle.oth_pieces.specs.declared.floor.root.Root.{Root}
use Rattle.oth_pieces.specs.declared.floor.event.Event.{Event}
use Rattle.oth_pieces.specs.declared.floor.event.Event.TheVariants.{Raise, Made}
use Rattle.oth_pieces.specs.declared.floor.view.View.{View}
use Rattle.oth_pieces.specs.History.{floor_after, author, makes, root_value, Fits, IsLegal}
use Rattle.oth_pieces.specs.Floor.{Has, Knows, IsKept, newcomer, code_of, Did, Looked, Raised, Named, longer, Learned, parent_of, child_of, silent, messenger_of, told_by, spent}
use Rattle.oth_pieces.proofs.Histories.{floor_after-true, longer_begins}

abbrev Each : Root → List Event → (Name → ℕ) → List View → Type 0
Each root log owner views = (seat : ℕ) (v : View) → get_elem? views seat ≡ some v → Knows root log owner seat v

each_set : (F : ℕ → View → Type 0) (views : List View) (seat : ℕ) (w : View) → F seat w
    → ((j : ℕ) (u : View) → j ≢ seat → get_elem? views j ≡ some u → F j u) → (j : ℕ) (u : View) → get_elem? (set views seat w) j ≡ some u → F j u
each_set F views seat w mine others j u e = ⊎_elim (λ (x : (j ≡ seat) × (w ≡ u)). subst (λ (y : ℕ × View). F y.0 y.1) (λ i. (sym x.0 i, x.1 i)) mine)
    (λ (x : (j ≢ seat) × (get_elem? views j ≡ some u)). others j u x.0 x.1) (at_set views seat j w u e)

-- the last of a longer list stands at its length
at_snoc_cases : (l : List View) (a b : View) (j : ℕ) → get_elem? (l ++ a ∷ []) j ≡ some b → (get_elem? l j ≡ some b) ⊎ ((j ≡ length l) × (a ≡ b))
at_snoc_cases [] a b zero e = inr (refl, some-injective a b e)
at_snoc_cases [] a b (suc j) e = absurd (some-ne-none b (sym e))
at_snoc_cases (x ∷ xs) a b zero e = inl e
at_snoc_cases (x ∷ xs) a b (suc j) e = ⊎_elim (λ h. inl h) (λ (h : (j ≡ length xs) × (a ≡ b)). inr (ap suc h.0, h.1)) (at_snoc_cases xs a b j e)

no_some : (n : ℕ) → (o : Option ℕ) → o ≡ None → o ≡ Some n → ⊥
no_some n o is e = cc

higher : (k third : ℕ) → int_max (pos k -ℤ pos 64) (pos third -ℤ pos 64) ≡ pos (max third k) -ℤ pos 64
higher k third = omega (arith, ints, clamps)

the_same : (m n : ℕ) → Some m ≡ Some n → m ≡ n
the_same m n e = cc

-- the rule at the start
begins_each : (root : Root) → Each root [] (λ _. 0) (newcomer root ∷ [])
begins_each root zero v e = let is : newcomer root ≡ v = some-injective _ _ e in let P : View → Type 0 = Knows root [] (λ _. 0) 0 in subst P is record {
  same_root = λ _. refl;
  seen = ([], refl);
  told = ([], refl);
  apart = λ _ none_is. no_some 0 None refl none_is;
  names = λ name has. (refl, ⊎_elim (λ (h : (true ≡ true) × (0 ≡ name)). sym h.1) (λ (h : None ≡ Some name). absurd (no_some name None refl h)) has, since_itself author name []);
}
begins_each root (suc j) v e = absurd (some-ne-none v (sym e))

pub opens : (root : Root) → IsKept root (opening (root.board.own ∷ root.board.opp ∷ 0 ∷ code_of root.scoring ∷ []) [] (newcomer root))
opens root = record {
  log = [];
  owner = λ _. 0;
  third = 0;
  legal = tt;
  words = refl;
  height = refl;
  bound = omega arith;
  each = begins_each root;
}

module _ (root : Root) (s : State ℕ View) (kept : IsKept root s) (seat : ℕ) (v : View) (at : get_elem? s.views seat ≡ some v) where
  mine : Knows root kept.log kept.owner seat v
  mine = kept.each seat v at

  found_is : slice_index s.words 2 ≡ kept.third
  found_is = ap (λ ws. slice_index ws 2) kept.words

  legal_for : (log : List Event) → v.live ≡ true → IsLegal root log → IsLegal v.root log
  legal_for log live legal = let P : Root → Type 0 = λ p. IsLegal p log in subst P (sym (mine.same_root live)) legal

  -- a load that adds no event
  unmoved : (w : View) → Knows root kept.log kept.owner seat w → IsKept root (stepped s 2 (slice_index s.words 2) seat [] w keeps)
  unmoved w knows = record {
    log = kept.log;
    owner = kept.owner;
    third = kept.third;
    legal = kept.legal;
    words = ap (λ ws. slice_set ws 2 (slice_index ws 2)) kept.words;
    height = kept.height;
    bound = kept.bound;
    each = each_set (Knows root kept.log kept.owner) s.views seat w knows (λ j u other e. kept.each j u e);
  }

  -- an event of this seat joins the history
  module _ (live : v.live ≡ true) (e : Event) (is_mine : author e ≡ v.name) (new : IsUnmade makes kept.log (makes e)) (fits : Fits root kept.log e) where
    own : (kept.owner v.name ≡ seat) × IsSeat makes kept.log v.name × Since author v.name v.seen kept.log
    own = mine.names v.name (inl (live, refl))

    legal' : IsLegal root (e ∷ kept.log)
    legal' = ((subst (IsSeat makes kept.log) (sym is_mine) own.1, new), fits, kept.legal)

    others_know : (owner : Name → ℕ) → ((n : Name) → IsSeat makes kept.log n → owner n ≡ kept.owner n)
        → (j : ℕ) (u : View) → j ≢ seat → get_elem? s.views j ≡ some u → Knows root (e ∷ kept.log) owner j u
    others_know owner same j u other there = let theirs = kept.each j u there in record {
      same_root = theirs.same_root;
      seen = begins_more u.seen kept.log (e ∷ []) theirs.seen;
      told = begins_more u.told kept.log (e ∷ []) theirs.told;
      apart = theirs.apart;
      names = λ n has. let k = theirs.names n has in (
        same n k.1 ∙ k.0,
        inr k.1,
        since_more author n u.seen kept.log (e ∷ []) ((λ is. other (sym k.0 ∙ (ap kept.owner (sym is ∙ is_mine) ∙ own.0))), tt) k.2,
      );
    }

    did : (w : View) → (w.root ≡ v.root) × (w.name ≡ v.name) × (w.live ≡ v.live) → w.seen ≡ e ∷ kept.log → Did v w e
    did w same seen = record {
      same = same;
      ends = record {
        before = kept.log;
        since = own.2;
        last = seen;
        legal = let P : List Event → Type 0 = IsLegal v.root in subst P (sym seen) (legal_for (e ∷ kept.log) live legal');
      };
    }

pub looks : (root : Root) (slots seat : ℕ) (v : View) (c : List (ℕ × ℕ)) → v.live ≡ true → Allows (IsKept root) slots seat (v, c) 2 (λ n. n) (Looked (step slots 2 0 0 none) (v, c))
looks root slots seat v c live s kept _ at _ =
    let knows = mine root s kept seat v at in
    let w : View = record v { seen = kept.log } in
    let here = found_is root s kept seat v at in (
      w,
      keeps,
      tt,
      unmoved root s kept seat v at w record {
        same_root = knows.same_root;
        seen = begins_itself kept.log;
        told = knows.told;
        apart = knows.apart;
        names = λ name has. let k = knows.names name has in (k.0, k.1, since_itself author name kept.log);
      },
      (
        record {
          same = (refl, refl, refl);
          legal = legal_for root s kept seat v at kept.log live kept.legal;
          since = (knows.names v.name (inl (live, refl))).2;
        },
        refl,
        kept.height ∙ ap (λ n. pos n -ℤ pos 64) (sym here),
        omega arith,
      ),
    )

pub raises : (root : Root) (slots seat : ℕ) (v : View) (c : List (ℕ × ℕ)) (k : ℕ) → v.live ≡ true → k ≤ 128 → (pos k -ℤ pos 64) ≤ℤ root_value root
    → Allows (IsKept root) slots seat (v, c) 2 (λ n. max n k) (Raised (step slots 2 k 0 none) (v, c))
raises root slots seat v c k live small below s kept _ at _ =
    let knows = mine root s kept seat v at in
    let e : Event = Raise v.name (pos k -ℤ pos 64) in
    let log' : List Event = e ∷ kept.log in
    let w : View = record v { seen = log' } in (
      w,
      keeps,
      tt,
      record {
        log = log';
        owner = kept.owner;
        third = max kept.third k;
        legal = legal' root s kept seat v at live e refl tt below;
        words = ap (λ ws. slice_set ws 2 (max (slice_index ws 2) k)) kept.words;
        height = ap (int_max (pos k -ℤ pos 64)) kept.height ∙ higher k kept.third;
        bound = let b = kept.bound in omega arith;
        each = each_set (Knows root log' kept.owner) s.views seat w
            record {
              same_root = knows.same_root;
              seen = begins_itself log';
              told = begins_more v.told kept.log (e ∷ []) knows.told;
              apart = knows.apart;
              names = λ name has. let k = knows.names name has in (k.0, inr k.1, since_itself author name log');
            }
            (others_know root s kept seat v at live e refl tt below kept.owner (λ _ _. refl));
      },
      (did root s kept seat v at live e refl tt below w (refl, refl, refl) refl, refl),
    )

other_owner : (n name x : ℕ) (y : ℕ) → n ≢ name → (if n == name then x else y) ≡ y
other_owner n name x y other = let test : (n == name) ≡ false = grind (arith, nat_tests) in rw test

new_owner : (name x : ℕ) (y : ℕ) → (if name == name then x else y) ≡ x
new_owner name x y = let test : (name == name) ≡ true = grind (arith, nat_tests) in rw test

pub names : (root : Root) (slots seat : ℕ) (v : View) (c : List (ℕ × ℕ)) → v.live ≡ true → Allows (IsKept root) slots seat (v, c) 2 (λ n. n) (Named (step slots 2 0 0 none) (v, c))
names root slots seat v c live s kept _ at _ =
    let knows = mine root s kept seat v at in
    let own = knows.names v.name (inl (live, refl)) in
    let name : Name = fresh makes kept.log in
    let new : ¬ IsSeat makes kept.log name = is_fresh makes kept.log in
    let e : Event = Made v.name name in
    let log' : List Event = e ∷ kept.log in
    let w : View = record v { seen = log'; spare = Some name } in
    let owner : Name → ℕ = λ n. if n == name then seat else kept.owner n in
    let same : (n : Name) → IsSeat makes kept.log n → owner n ≡ kept.owner n = λ n h. other_owner n name seat (kept.owner n) (λ is. new (subst (IsSeat makes kept.log) is h)) in
    let differ : v.name ≢ name = λ is. new (subst (IsSeat makes kept.log) is own.1) in
    let legal : IsLegal root log' = legal' root s kept seat v at live e refl new tt in (
      w,
      keeps,
      tt,
      record {
        log = log';
        owner = owner;
        third = kept.third;
        legal = legal;
        words = ap (λ ws. slice_set ws 2 (slice_index ws 2)) kept.words;
        height = kept.height;
        bound = kept.bound;
        each = each_set (Knows root log' owner) s.views seat w
            record {
              same_root = knows.same_root;
              seen = begins_itself log';
              told = begins_more v.told kept.log (e ∷ []) knows.told;
              apart = λ _ is. differ (sym (the_same name v.name is));
              names = λ n has. ⊎_elim
                  (λ (h : (v.live ≡ true) × (v.name ≡ n)). let k = knows.names n (inl h) in (same n k.1 ∙ k.0, inr k.1, since_itself author n log'))
                  (λ (h : Some name ≡ Some n). let P : Name → Type 0 = λ m. (owner m ≡ seat) × IsSeat makes log' m × Since author m log' log' in
                  subst P (the_same name n h) (new_owner name seat (kept.owner name), inl refl, since_itself author name log'))
                  has;
            }
            (others_know root s kept seat v at live e refl new tt owner same);
      },
      (
        name,
        did root s kept seat v at live e refl new tt w (refl, refl, refl) refl,
        refl,
        new_idle author makes (Fits root) e kept.log name refl legal,
        refl,
      ),
    )

pub forks : (root : Root) (seat : ℕ) (v : View) (name : ℕ) → v.live ≡ true → v.spare ≡ Some name → Splits (IsKept root) seat v (parent_of v) (child_of v)
forks root seat v name live spare s kept at =
    let knows = mine root s kept seat v at in
    let given = knows.names name (inr spare) in
    let views : List View = set s.views seat (parent_of v) in
    let owner : Name → ℕ = λ n. if n == name then length views else kept.owner n in
    let old : (n : ℕ) → n ≢ name → owner n ≡ kept.owner n = λ n differ. other_owner n name (length views) (kept.owner n) differ in
    let F : ℕ → View → Type 0 = Knows root kept.log owner in
    let parent : F seat (parent_of v) = record {
      same_root = knows.same_root;
      seen = knows.seen;
      told = knows.told;
      apart = λ _ is. no_some v.name None refl is;
      names = λ n has. ⊎_elim
          (λ (h : (v.live ≡ true) × (v.name ≡ n)). let k = knows.names n (inl h) in (old n (λ is. knows.apart live (spare ∙ ap Some (sym (h.1 ∙ is)))) ∙ k.0, k.1, k.2))
          (λ (h : None ≡ Some n). absurd (no_some n None refl h))
          has;
    } in
    let others : (j : ℕ) (u : View) → j ≢ seat → get_elem? s.views j ≡ some u → F j u = λ j u other e. let theirs = kept.each j u e in record {
      same_root = theirs.same_root;
      seen = theirs.seen;
      told = theirs.told;
      apart = theirs.apart;
      names = λ n has. let k = theirs.names n has in (old n (λ is. other (sym k.0 ∙ (ap kept.owner is ∙ given.0))) ∙ k.0, k.1, k.2);
    } in
    let child : F (length views) (child_of v) = record {
      same_root = λ _. knows.same_root live;
      seen = knows.seen;
      told = begins_empty kept.log;
      apart = λ _ is. no_some (unwrap_or v.spare 0) None refl is;
      names = λ n has. ⊎_elim
          (λ (h : (true ≡ true) × (unwrap_or v.spare 0 ≡ n)). let P : ℕ → Type 0 = λ m. (owner m ≡ length views) × IsSeat makes kept.log m × Since author m v.seen kept.log in
          subst P (ap (λ (o : Option ℕ). unwrap_or o 0) (sym spare) ∙ h.1) (new_owner name (length views) (kept.owner name), given.1, given.2))
          (λ (h : None ≡ Some n). absurd (no_some n None refl h))
          has;
    } in
    record {
      log = kept.log;
      owner = owner;
      third = kept.third;
      legal = kept.legal;
      words = kept.words;
      height = kept.height;
      bound = kept.bound;
      each = λ j u e. ⊎_elim (λ h. each_set F s.views seat (parent_of v) parent others j u h)
          (λ (h : (j ≡ length views) × (child_of v ≡ u)). subst (λ (y : ℕ × View). F y.0 y.1) (λ i. (sym h.0 i, h.1 i)) child)
          (at_snoc_cases views (child_of v) u j e);
    }

silent_knows : (root : Root) (log : List Event) (owner : Name → ℕ) (seat : ℕ) (p : Root) (seen : List Event) → Begins seen log → Knows root log owner seat (silent p seen)
silent_knows root log owner seat p seen b = record {
  same_root = λ no'. absurd (true≢false (sym no'));
  seen = b;
  told = begins_empty log;
  apart = λ no'. absurd (true≢false (sym no'));
  names = λ n has. ⊎_elim (λ (h : (false ≡ true) × (0 ≡ n)). absurd (true≢false (sym h.0))) (λ (h : None ≡ Some n). absurd (no_some n None refl h)) has;
}

pub sends : (root : Root) (seat : ℕ) (v : View) → Splits (IsKept root) seat v v (messenger_of v)
sends root seat v s kept at =
    let knows = mine root s kept seat v at in
    let views : List View = set s.views seat v in
    let F : ℕ → View → Type 0 = Knows root kept.log kept.owner in record {
      log = kept.log;
      owner = kept.owner;
      third = kept.third;
      legal = kept.legal;
      words = kept.words;
      height = kept.height;
      bound = kept.bound;
      each = λ j u e. ⊎_elim (λ h. each_set F s.views seat v knows (λ i x _ there. kept.each i x there) j u h)
          (λ (h : (j ≡ length views) × (messenger_of v ≡ u)). let P : View → Type 0 = F j in subst P h.1 (silent_knows root kept.log kept.owner j v.root v.seen knows.seen))
          (at_snoc_cases views (messenger_of v) u j e);
    }

pub tells : (root : Root) (seat : ℕ) (v : View) (other : ℕ) (w : View) → Joins (IsKept root) seat v other w (told_by v w) spent
tells root seat v other w s kept at apart there =
    let knows = mine root s kept seat v at in
    let was : get_elem? s.views other ≡ some w =
    ⊎_elim (λ (h : (other ≡ seat) × (told_by v w ≡ w)). absurd (apart h.0)) (λ (h : (other ≢ seat) × (get_elem? s.views other ≡ some w)). h.1)
    (at_set s.views seat other (told_by v w) w there) in
    let theirs = kept.each other w was in
    let F : ℕ → View → Type 0 = Knows root kept.log kept.owner in
    let both : F seat (told_by v w) = record { same_root = knows.same_root; seen = knows.seen; told = theirs.seen; apart = knows.apart; names = knows.names } in record {
      log = kept.log;
      owner = kept.owner;
      third = kept.third;
      legal = kept.legal;
      words = kept.words;
      height = kept.height;
      bound = kept.bound;
      each = each_set F (set s.views seat (told_by v w)) other spent (silent_knows root kept.log kept.owner other spent.root [] (begins_empty kept.log))
          (λ j u _ e. each_set F s.views seat (told_by v w) both (λ i x _ h. kept.each i x h) j u e);
    }

pub learns : (root : Root) (slots seat : ℕ) (v : View) (c : List (ℕ × ℕ)) → v.live ≡ true → Allows (IsKept root) slots seat (v, c) 2 (λ n. n) (Learned (step slots 2 0 0 none) (v, c))
learns root slots seat v c live s kept _ at _ =
    let knows = mine root s kept seat v at in
    let both = longer_begins v.seen v.told kept.log knows.seen knows.told in
    let w : View = record v { seen = longer v.seen v.told } in
    let stays : (n : Name) → Has v n → Since author n v.seen (longer v.seen v.told) × Since author n (longer v.seen v.told) kept.log = λ n has.
    since_between author n v.seen (longer v.seen v.told) kept.log (knows.names n has).2 both.0 both.2 in (
      w,
      keeps,
      tt,
      unmoved root s kept seat v at w record {
        same_root = knows.same_root;
        seen = both.2;
        told = knows.told;
        apart = knows.apart;
        names = λ n has. let k = knows.names n has in (k.0, k.1, (stays n has).1);
      },
      (
        record {
          same = (refl, refl, refl);
          legal = legal_for root s kept seat v at (longer v.seen v.told) live (legal_begin author makes (Fits root) (longer v.seen v.told) kept.log both.2 kept.legal);
          since = (stays v.name (inl (live, refl))).0;
        },
        refl,
        both.1,
        refl,
      ),
    )

-- a true bound of the root, as the floor wants it
pub below_root : (g : Scoring) (p : Position) (root : Root) (lower upper number : ℤ) → p ≡ root.board → g ≡ root.scoring → number ≡ lower → Encloses lower upper (value (score_of g) p)
    → number ≤ℤ root_value root
below_root g p root lower upper number e f is h =
    let V : Scoring × Position → Type 0 = λ q. Encloses lower upper (value (score_of q.0) q.1) in
    let v : Encloses lower upper (root_value root) = subst V (λ i. (f i, e i)) h in
    let P : ℤ → Type 0 = λ n. n ≤ℤ root_value root in
    subst P (sym is) v.below

-- what a seat has seen is not above the value of the floor's root
pub low_enough : (p root : Root) (log : List Event) → IsLegal p log → p ≡ root → floor_after log ≤ℤ root_value root
low_enough p root log legal is = let P : Root → Type 0 = λ r. floor_after log ≤ℤ root_value r in subst P is (floor_after-true p log legal)
