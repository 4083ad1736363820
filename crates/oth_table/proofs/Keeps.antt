-- A step of one seat keeps the rule.
use Rattle.std.proofs.Common.{◌≡◌, ◌≢◌, ℕ, zero, suc, ◌+◌, ◌*◌, ◌<◌, ◌≤◌, List, [], ◌∷◌, ◌++◌, length, set, sym, refl, ap, ◌∙◌, subst, ⊎_elim, arith}
use Rattle.std.specs.Prelude.{Some, None}
use mathlib.Core.Option.{some, some-injective, some-ne-none}
use mathlib.Core.Logic.{dite}
use native.Mathlib.Decide.{ℕ_discrete}
use lib.ListN.{get_elem?}
use Rattle.atomic_table.specs.Table.{State}
use Rattle.atomic_table.proofs.Lists.{at_set, set_else}
use Rattle.oth_search.specs.Bounds.Entry.{Bounded}
use Rattle.oth_history.specs.History.{Name, HasNone}
use Rattle.oth_history.proofs.Histories.{none_append, seat_past, made_past, since_more, begins_more}
use Rattle.oth_table.specs.History.{author, makes, content, owner, publishes, IsLegal}
use Rattle.oth_table.specs.Cells.{version, word, held, HasWords, IsSeated, IsNew, Knows, IsFit, IsKept}
use Rattle.oth_table.specs.declared.history.Event.{Event}
use Rattle.oth_table.specs.declared.history.Limits.{Limits}
use Rattle.oth_table.specs.declared.history.Stage.{Stage}
use Rattle.oth_table.specs.declared.history.Stage.TheVariants.{Idle, Reading, Writing, Making, Note}
use Rattle.oth_table.specs.declared.history.View.{View}

abbrev pub St : Type 0
St = State Bounded View

-- the table with these words, where the seat id has the view w
abbrev pub turned : St → List ℕ → ℕ → View → St
turned s ws id w = record { words = ws; homes = s.homes; views = set s.views id w }

abbrev pub went : View → List Event → Stage → View
went v h st = record { terms = v.terms; name = v.name; seen = h; told = v.told; stage = st }

pub at_here : (views : List View) (id : ℕ) (v w : View) → get_elem? views id ≡ some v → get_elem? (set views id w) id ≡ some w
at_here [] id v w e = absurd (some-ne-none v (sym e))
at_here (x ∷ xs) zero v w e = refl
at_here (x ∷ xs) (suc i) v w e = at_here xs i v w e

-- The seat n adds the events es, and the words ws become ws'. No other seat finds what it knows changed.
pub record Goes (about : Limits) (log : List Event) (ws : List ℕ) (n : Name) (es : List Event) (ws' : List ℕ) : Type 0 where
  pub legal : IsLegal about.terms (es ++ log)
  pub wide : length ws' ≡ length ws
  pub alone : (m : Name) → m ≢ n → HasNone author m es
  pub counted : (c : ℕ) → version ws' c ≡ 2 * publishes c (es ++ log) + held (owner c (es ++ log))
  pub stored : (c : ℕ) (x : Bounded) → owner c (es ++ log) ≡ None → content c (es ++ log) ≡ Some x → HasWords ws' c 0 3 x
  pub grows : (c : ℕ) → version ws c ≤ version ws' c
  pub same : (c : ℕ) → version ws c ≡ version ws' c → content c (es ++ log) ≡ content c log
  pub theirs : (c : ℕ) (m : Name) → m ≢ n → owner c log ≡ Some m → (version ws' c ≡ version ws c) × (owner c (es ++ log) ≡ Some m) × ((j : ℕ) → j < 3 → word ws' c j ≡ word ws c j)

module _ (about : Limits) (log : List Event) (ws : List ℕ) (n : Name) (es : List Event) (ws' : List ℕ) (g : Goes about log ws n es ws') (views : List View) (id : ℕ) (v w : View)
    (at : get_elem? views id ≡ some v) (seated : IsSeated v.stage) (mine : v.name ≡ n) (still : w.name ≡ n) where
  new_stays : (t : Name) → IsNew views t → IsNew (set views id w) t
  new_stays t new j y e sits = ⊎_elim
      (λ (k : (j ≡ id) × (w ≡ y)). λ (same : y.name ≡ t). new id v at seated (mine ∙ (sym still ∙ (ap (λ (z : View). z.name) k.1 ∙ same))))
      (λ (k : (j ≢ id) × (get_elem? views j ≡ some y)). new j y k.1 sits) (at_set views id j w y e)

  others_know : (u : View) (st : Stage) → (IsSeated st → u.name ≢ n) → Knows log ws views u st → Knows (es ++ log) ws' (set views id w) u st
  others_know u Idle apart k = tt
  others_know u (Reading c at' last x) apart k = let a = k.1 in let b = k.2 in let up = g.grows c in
      (k.0, k.1, omega arith, k.3, λ is. g.same c (omega arith) ∙ k.4 (omega arith))
  others_know u (Writing c at' old given i) apart k = let t = g.theirs c u.name (apart tt) k.1 in let most = k.4 in (
    t.0 ∙ k.0,
    t.1,
    g.same c (sym t.0) ∙ k.2,
    k.3,
    k.4,
    λ j lo hi. t.2 j (omega arith) ∙ k.5 j lo hi,
    λ x is j lo hi. t.2 j hi ∙ k.6 x is j lo hi,
  )
  others_know u (Making t) apart k = (made_past author makes es log u.name t k.0, new_stays t k.1)
  others_know u Note apart k = tt

  pub other_fits : (u : View) → (IsSeated u.stage → u.name ≢ n) → IsFit log ws views about.terms u → IsFit (es ++ log) ws' (set views id w) about.terms u
  other_fits u apart f = record {
    worn = f.worn;
    told = begins_more u.told log es f.told;
    seat = λ sits. seat_past makes es log u.name (f.seat sits);
    seen = λ sits. since_more author u.name u.seen log es (g.alone u.name (apart sits)) (f.seen sits);
    knows = others_know u u.stage apart f.knows;
  }

module _ (about : Limits) (s : St) (r : IsKept about s) (id : ℕ) (v w : View) (at : get_elem? s.views id ≡ some v) (seated : IsSeated v.stage) (sits : IsSeated w.stage) (still : w.name ≡ v.name)
    (es : List Event) (ws' : List ℕ) (g : Goes about r.log s.words v.name es ws') where
  pub one_of : (i j : ℕ) (x y : View) → get_elem? (set s.views id w) i ≡ some x → get_elem? (set s.views id w) j ≡ some y → IsSeated x.stage → IsSeated y.stage → x.name ≡ y.name → i ≡ j
  one_of i j x y ex ey sx sy same = ⊎_elim
      (λ (k : (i ≡ id) × (w ≡ x)). ⊎_elim (λ (l : (j ≡ id) × (w ≡ y)). k.0 ∙ sym l.0)
      (λ (l : (j ≢ id) × (get_elem? s.views j ≡ some y)). k.0 ∙ r.one id j v y at l.1 seated sy (sym still ∙ (ap (λ (z : View). z.name) k.1 ∙ same))) (at_set s.views id j w y ey))
      (λ (k : (i ≢ id) × (get_elem? s.views i ≡ some x)). ⊎_elim (λ (l : (j ≡ id) × (w ≡ y)). r.one i id x v k.1 at sx seated (same ∙ (sym (ap (λ (z : View). z.name) l.1) ∙ still)) ∙ sym l.0)
      (λ (l : (j ≢ id) × (get_elem? s.views j ≡ some y)). r.one i j x y k.1 l.1 sx sy same) (at_set s.views id j w y ey))
      (at_set s.views id i w x ex)

  here : get_elem? (set s.views id w) id ≡ some w
  here = at_here s.views id v w at

  new_before : (t : Name) → IsNew (set s.views id w) t → IsNew s.views t
  new_before t new j y e sy = dite (ℕ_discrete j id)
      (λ is. let same : v ≡ y = some-injective v y (sym at ∙ (ap (λ k. get_elem? s.views k) (sym is) ∙ e)) in λ named. new id w here sits (still ∙ (ap (λ (z : View). z.name) same ∙ named)))
      (λ other. new j y (set_else s.views id j w other ∙ e) sy)

  pub heard_of : (t : Name) → IsNew (set s.views id w) t → HasNone author t (es ++ r.log)
  heard_of t new = none_append author t es r.log (g.alone t (λ is. new id w here sits (still ∙ sym is))) (r.heard t (new_before t new))

  abbrev pub kept : IsFit (es ++ r.log) ws' (set s.views id w) about.terms w → IsKept about (turned s ws' id w)
  kept own = record {
    log = es ++ r.log;
    legal = g.legal;
    wide = g.wide ∙ r.wide;
    counted = g.counted;
    stored = g.stored;
    each = λ j u e. ⊎_elim (λ (k : (j ≡ id) × (w ≡ u)). subst (IsFit (es ++ r.log) ws' (set s.views id w) about.terms) k.1 own)
        (λ (k : (j ≢ id) × (get_elem? s.views j ≡ some u)). other_fits about r.log s.words v.name es ws' g s.views id v w at seated refl still u
        (λ su same. k.0 (r.one j id u v k.1 at su seated same)) (r.each j u k.1))
        (at_set s.views id j w u e);
    one = one_of;
    heard = heard_of;
  }
