-- Views are cut and joined: a new seat comes, or a note goes from one seat to another.
use Rattle.std.proofs.Common.{◌≡◌, ◌≢◌, ℕ, zero, suc, ◌⊎◌, List, [], ◌∷◌, ◌++◌, append-nil, length, set, sym, refl, ap, ◌∙◌, subst, inl, inr, ⊎_elim}
use mathlib.Core.Option.{some, some-injective, some-ne-none}
use lib.ListN.{get_elem?}
use Rattle.atomic_table.specs.Table.{Splits, Joins}
use Rattle.atomic_table.proofs.Lists.{at_set, set_again, set_else, at_longer}
use Rattle.oth_history.specs.History.{Name, Begins, WasMadeBy, HasNone}
use Rattle.oth_history.proofs.Histories.{none_left, made_is_seat, one_maker}
use Rattle.oth_table.specs.History.{author, makes, Fits}
use Rattle.oth_table.specs.Cells.{IsSeated, IsNew, Knows, IsFit, IsKept, note_of, new_seat, resting, hearing}
use Rattle.oth_table.specs.declared.history.Limits.{Limits}
use Rattle.oth_table.specs.declared.history.Stage.{Stage}
use Rattle.oth_table.specs.declared.history.Stage.TheVariants.{Idle, Reading, Writing, Making, Note}
use Rattle.oth_table.specs.declared.history.View.{View}
use Rattle.oth_table.proofs.Keeps.{St, turned, kept}
use Rattle.oth_table.proofs.Moves.{rests}
use Rattle.oth_table.proofs.Allowed.{seated_idle, still_fits}

at_end : (l : List View) (a b : View) (j : ℕ) → get_elem? (l ++ a ∷ []) j ≡ some b → (get_elem? l j ≡ some b) ⊎ ((a ≡ b) × (j ≡ length l))
at_end [] a b zero e = inr (some-injective a b e, refl)
at_end [] a b (suc j) e = absurd (some-ne-none b (sym e))
at_end (x ∷ xs) a b zero e = inl e
at_end (x ∷ xs) a b (suc j) e = ⊎_elim inl (λ (t : (a ≡ b) × (j ≡ length xs)). inr (t.0, ap suc t.1)) (at_end xs a b j e)

abbrev with_views : St → List View → St
with_views s vs = record { words = s.words; homes = s.homes; views = vs }

-- a seat n comes
module _ (about : Limits) (s : St) (r : IsKept about s) (n : View) (sits : IsSeated n.stage) (new : IsNew s.views n.name)
    (apart : (t : Name) (j : ℕ) (u : View) → get_elem? s.views j ≡ some u → u.stage ≡ Making t → t ≢ n.name) where
  others_know : (u : View) (st : Stage) → ((t : Name) → st ≡ Making t → t ≢ n.name) → Knows r.log s.words s.views u st → Knows r.log s.words (s.views ++ n ∷ []) u st
  others_know u Idle other k = tt
  others_know u (Reading c a last x) other k = k
  others_know u (Writing c a old given i) other k = k
  others_know u (Making t) other k = (
    k.0,
    λ j y e sy. ⊎_elim (λ (old : get_elem? s.views j ≡ some y). k.1 j y old sy)
        (λ (is : (n ≡ y) × (j ≡ length s.views)). λ named. other t refl (sym named ∙ ap (λ (z : View). z.name) (sym is.0))) (at_end s.views n y j e),
  )
  others_know u Note other k = tt

  arrived_one : (i j : ℕ) (u v : View) → get_elem? (s.views ++ n ∷ []) i ≡ some u → get_elem? (s.views ++ n ∷ []) j ≡ some v → IsSeated u.stage → IsSeated v.stage → u.name ≡ v.name → i ≡ j
  arrived_one i j u v a b su sv same = ⊎_elim
      (λ (old : get_elem? s.views i ≡ some u). ⊎_elim (λ (other : get_elem? s.views j ≡ some v). r.one i j u v old other su sv same)
      (λ (is : (n ≡ v) × (j ≡ length s.views)). absurd (new i u old su (same ∙ ap (λ (z : View). z.name) (sym is.0)))) (at_end s.views n v j b))
      (λ (is : (n ≡ u) × (i ≡ length s.views)). ⊎_elim (λ (other : get_elem? s.views j ≡ some v). absurd (new j v other sv (sym same ∙ ap (λ (z : View). z.name) (sym is.0))))
      (λ (too : (n ≡ v) × (j ≡ length s.views)). is.1 ∙ sym too.1) (at_end s.views n v j b))
      (at_end s.views n u i a)

  arrives : IsFit r.log s.words (s.views ++ n ∷ []) about.terms n → IsKept about (with_views s (s.views ++ n ∷ []))
  arrives own = record {
    log = r.log;
    legal = r.legal;
    wide = r.wide;
    counted = r.counted;
    stored = r.stored;
    each = λ j u e. ⊎_elim
        (λ (old : get_elem? s.views j ≡ some u). let f = r.each j u old in
        record { worn = f.worn; told = f.told; seat = f.seat; seen = f.seen; knows = others_know u u.stage (λ t is. apart t j u old is) f.knows })
        (λ (is : (n ≡ u) × (j ≡ length s.views)). subst (IsFit r.log s.words (s.views ++ n ∷ []) about.terms) is.0 own) (at_end s.views n u j e);
    one = arrived_one;
    heard = λ t none_has. r.heard t (λ j y e sy. none_has j y (at_longer s.views (n ∷ []) j y e) sy);
  }

pub cuts : (about : Limits) (id : ℕ) (v : View) (q : Name) → v.stage ≡ Making q → Splits (IsKept about) id v (resting v) (new_seat v v.stage)
cuts about id v q is s r at =
    let seated : IsSeated v.stage = subst IsSeated (sym is) tt in let f = r.each id v at in let known = subst (Knows r.log s.words s.views v) is f.knows in
    let vs : List View = set s.views id (resting v) in let n : View = new_seat v (Making q) in
    let r' : IsKept about (turned s s.words id (resting v)) =
    kept about s r id v (resting v) at seated tt refl [] s.words (rests about s r v.name)
    (still_fits about s r id v at seated s.words vs Idle tt) in
    let new : IsNew vs q = λ j y e sy.
    ⊎_elim (λ (k : (j ≡ id) × (resting v ≡ y)). λ named. known.1 id v at seated (ap (λ (z : View). z.name) k.1 ∙ named))
    (λ (k : (j ≢ id) × (get_elem? s.views j ≡ some y)). known.1 j y k.1 sy) (at_set s.views id j (resting v) y e) in
    let apart : (t : Name) (j : ℕ) (u : View) → get_elem? vs j ≡ some u → u.stage ≡ Making t → t ≢ q = λ t j u e is_making same.
    ⊎_elim
    (λ (k : (j ≡ id) × (resting v ≡ u)).
    let idle : Idle ≡ u.stage = ap (λ (z : View). z.stage) k.1 in
    let two : Idle ≡ Making t = idle ∙ is_making in absurd (cc))
    (λ (k : (j ≢ id) × (get_elem? s.views j ≡ some u)).
    let g = subst (Knows r.log s.words s.views u) is_making (r.each j u k.1).knows in
    let maker = subst (λ z. WasMadeBy author makes r.log u.name z) same g.0 in
    let names : u.name ≡ v.name =
    one_maker author makes (Fits about.terms) r.log u.name v.name q r.legal maker known.0 in
    k.0 (r.one j id u v k.1 at (subst IsSeated (sym is_making) tt) seated names))
    (at_set s.views id j (resting v) u e) in
    let seen = f.seen seated in
    subst (λ st. IsKept about (with_views s (vs ++ new_seat v st ∷ []))) (sym is) (arrives about (turned s s.words id (resting v)) r' n tt new apart record {
      worn = λ _. f.worn seated;
      told = (r.log, sym (append-nil r.log));
      seat = λ _. made_is_seat author makes r.log v.name q known.0;
      seen = λ _. (seen.0, seen.1, none_left author q seen.0 v.seen (subst (HasNone author q) seen.1 (r.heard q known.1)));
      knows = tt;
    })

-- only notes change
module _ (about : Limits) (s : St) (r : IsKept about s) (vs : List View)
    (same : (j : ℕ) (u : View) → get_elem? vs j ≡ some u → IsSeated u.stage → get_elem? s.views j ≡ some u)
    (back : (j : ℕ) (u : View) → get_elem? s.views j ≡ some u → IsSeated u.stage → get_elem? vs j ≡ some u)
    (each : (j : ℕ) (u : View) → get_elem? vs j ≡ some u → (get_elem? s.views j ≡ some u) ⊎ ((u.stage ≡ Note) × Begins u.told r.log)) where
  still_know : (u : View) (st : Stage) → Knows r.log s.words s.views u st → Knows r.log s.words vs u st
  still_know u Idle k = tt
  still_know u (Reading c a last x) k = k
  still_know u (Writing c a old given i) k = k
  still_know u (Making t) k = (k.0, λ j y e sy. k.1 j y (same j y e sy) sy)
  still_know u Note k = tt

  notes_change : IsKept about (with_views s vs)
  notes_change = record {
    log = r.log;
    legal = r.legal;
    wide = r.wide;
    counted = r.counted;
    stored = r.stored;
    each = λ j u e. ⊎_elim
        (λ (old : get_elem? s.views j ≡ some u). let f = r.each j u old in record { worn = f.worn; told = f.told; seat = f.seat; seen = f.seen; knows = still_know u u.stage f.knows })
        (λ (note : (u.stage ≡ Note) × Begins u.told r.log). let none_sits : IsSeated u.stage → ⊥ = λ sits. subst IsSeated note.0 sits in record {
          worn = λ sits. absurd (none_sits sits);
          told = note.1;
          seat = λ sits. absurd (none_sits sits);
          seen = λ sits. absurd (none_sits sits);
          knows = subst (Knows r.log s.words vs u) (sym note.0) tt;
        })
        (each j u e);
    one = λ i j u v a b su sv names. r.one i j u v (same i u a su) (same j v b sv) su sv names;
    heard = λ t new. r.heard t (λ j y e sy. new j y (back j y e sy) sy);
  }

no_seat : (u : View) → u.stage ≡ Note → IsSeated u.stage → ⊥
no_seat u is sits = subst IsSeated is sits

pub tells_note : (about : Limits) (id : ℕ) (v : View) → v.stage ≡ Idle → Splits (IsKept about) id v v (note_of v.seen)
tells_note about id v idle s r at = let n : View = note_of v.seen in let seen = (r.each id v at).seen (seated_idle v.stage idle) in
    subst (λ vs. IsKept about (with_views s (vs ++ n ∷ []))) (sym (set_again s.views id v at)) (notes_change about s r (s.views ++ n ∷ [])
    (λ j u e su. ⊎_elim (λ (old : get_elem? s.views j ≡ some u). old)
    (λ (is : (n ≡ u) × (j ≡ length s.views)). absurd (no_seat u (ap (λ (z : View). z.stage) (sym is.0)) su)) (at_end s.views n u j e))
    (λ j u e _. at_longer s.views (n ∷ []) j u e)
    (λ j u e. ⊎_elim inl
    (λ (is : (n ≡ u) × (j ≡ length s.views)). inr (subst (λ (z : View). (z.stage ≡ Note) × Begins z.told r.log) is.0 (refl, (seen.0, seen.1)))) (at_end s.views n u j e)))

pub hears_note : (about : Limits) (id : ℕ) (v : View) (other : ℕ) (w : View) → v.stage ≡ Idle → w.stage ≡ Note → Joins (IsKept about) id v other w (hearing v w) (note_of [])
hears_note about id v other w idle note s r at apart there =
    let seated = seated_idle v.stage idle in let f = r.each id v at in let before : get_elem? s.views other ≡ some w = sym (set_else s.views id other (hearing v w) apart) ∙ there in
    let vs : List View = set s.views id (hearing v w) in
    let r' : IsKept about (turned s s.words id (hearing v w)) = kept about s r id v (hearing v w) at seated seated refl [] s.words (rests about s r v.name) record {
      worn = f.worn;
      told = (r.each other w before).told;
      seat = f.seat;
      seen = f.seen;
      knows = subst (Knows r.log s.words vs (hearing v w)) (sym idle) tt;
    } in
    notes_change about (turned s s.words id (hearing v w)) r' (set vs other (note_of []))
    (λ j u e su. ⊎_elim (λ (is : (j ≡ other) × (note_of [] ≡ u)). absurd (no_seat u (ap (λ (z : View). z.stage) (sym is.1)) su))
    (λ (old : (j ≢ other) × (get_elem? vs j ≡ some u)). old.1) (at_set vs other j (note_of []) u e))
    (λ j u e su. set_else vs other j (note_of []) (λ is. let same : u ≡ w = some-injective u w (sym e ∙ (ap (λ k. get_elem? vs k) is ∙ there)) in
    no_seat u (ap (λ (z : View). z.stage) same ∙ note) su) ∙ e)
    (λ j u e. ⊎_elim (λ (is : (j ≡ other) × (note_of [] ≡ u)). inr (subst (λ (z : View). (z.stage ≡ Note) × Begins z.told r.log) is.1 (refl, (r.log, sym (append-nil r.log)))))
    (λ (old : (j ≢ other) × (get_elem? vs j ≡ some u)). inl old.1) (at_set vs other j (note_of []) u e))
