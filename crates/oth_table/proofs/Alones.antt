-- Whoever has seen only its own events meets no other seat's claim.
use Rattle.std.proofs.Common.{◌≡◌, ◌≢◌, inl, inr, ⊎_elim, ℕ, List, [], ◌∷◌, ◌++◌, sym, refl, ap, ◌∙◌, subst, arith}
use Rattle.std.specs.Prelude.{Some, None, if◌then◌else◌}
use Rattle.oth_table.specs.declared.history.Terms.{Terms}
use Rattle.oth_history.specs.History.{Name, IsSeat, HasNone}
use Rattle.oth_table.specs.History.{makes, author, owner, claims, IsLegal, Ends, GoesAway}
use Rattle.oth_table.specs.Cells.{held}
use Rattle.oth_table.specs.Alone.{IsOwn, IsAlone, IsUsedAlone, LooksAlone, PutsAlone, CountsAlone, SearchesAlone, StoresAlone}
use Rattle.oth_rules.specs.Position.{Position}
use Rattle.oth_table.specs.SharedTable.{Looks, Puts}
use Rattle.oth_table.specs.Choices.{picked_of, place_of, second_of}
use Rattle.oth_table.specs.Pairs.{LooksBoth}
use Rattle.oth_table.specs.Parts.{Use}
use Rattle.oth_table.specs.declared.table.Look.{Look as Found}
use Rattle.std.proofs.lemmas.Bool.{cases_eq}
use Rattle.oth_table.specs.declared.history.Why.{Why}
use Rattle.oth_table.specs.declared.history.Why.TheVariants as why
use Rattle.oth_table.specs.declared.history.Event.{Event}
use Rattle.oth_table.specs.declared.history.Event.TheVariants.{Claim, Publish, Look as looked, Away, Made}
use Rattle.oth_table.specs.declared.table.Look.TheVariants.{Empty, Whole, Busy}
use Rattle.oth_table.specs.declared.table.Put.TheVariants.{Stored, Skipped, Worn}
use Rattle.oth_table.proofs.Histories.{tested, claims_are}

only_first : (h : List Event) (s : Name) → IsOwn h → IsSeat makes h s → s ≡ 0
only_first [] s own seat = seat
only_first (Claim t d ∷ h) s own seat = ⊎_elim (λ (none_is : None ≡ Some s). absurd (cc)) (λ (there : IsSeat makes h s). only_first h s own.1 there) seat
only_first (Publish t d given kept ∷ h) s own seat = ⊎_elim (λ (none_is : None ≡ Some s). absurd (cc)) (λ (there : IsSeat makes h s). only_first h s own.1 there) seat
only_first (looked t d x ∷ h) s own seat = ⊎_elim (λ (none_is : None ≡ Some s). absurd (cc)) (λ (there : IsSeat makes h s). only_first h s own.1 there) seat
only_first (Away t d why ∷ h) s own seat = ⊎_elim (λ (none_is : None ≡ Some s). absurd (cc)) (λ (there : IsSeat makes h s). only_first h s own.1 there) seat
only_first (Made t u ∷ h) s own seat = absurd own

-- nobody else does anything
nothing_between : (terms : Terms) (es h : List Event) → IsOwn h → IsLegal terms (es ++ h) → HasNone author 0 es → es ≡ []
nothing_between terms [] h own l none_of_it = refl
nothing_between terms (e ∷ es) h own l none_of_it = let rest = nothing_between terms es h own l.2 none_of_it.1 in
    absurd (none_of_it.0 (only_first h (author e) own (subst (λ z. IsSeat makes (z ++ h) (author e)) rest l.0.0)))

-- so the history before the call's event is the one that was seen
same_before : (terms : Terms) (earlier later : List Event) (e : Event) → IsOwn earlier → (x : Ends terms 0 earlier later e) → later ≡ e ∷ earlier
same_before terms earlier later e own x = let l = subst (IsLegal terms) x.last x.legal in let b = x.since in
    let none_there = nothing_between terms b.0 earlier own (subst (IsLegal terms) b.1 l.2) b.2 in
    x.last ∙ ap (λ h. e ∷ h) (b.1 ∙ ap (λ z. z ++ earlier) none_there)

never_away : (terms : Terms) (c : ℕ) (reason : Why) (earlier later : List Event) → IsAlone earlier → GoesAway terms 0 c reason earlier later → ⊥
never_away terms c reason earlier later alone g = let e = same_before terms earlier later (Away 0 c reason) alone.0 g.0 in
    let l = subst (IsLegal terms) e g.0.legal in let all = claims_are terms c earlier l.2 in let free : held (owner c earlier) ≡ 0 = ap held (alone.1 c) in
    let same : claims c later ≡ claims c earlier = ap (claims c) e in let more = g.1 in omega arith

pub looks_alone : LooksAlone
looks_alone terms c earlier later Empty alone p = let e = same_before terms earlier later (looked 0 c None) alone.0 p in (subst IsAlone (sym e) ((refl, alone.0), alone.1), λ is. absurd (cc))
looks_alone terms c earlier later (Whole x) alone p = let e = same_before terms earlier later (looked 0 c (Some x)) alone.0 p in (subst IsAlone (sym e) ((refl, alone.0), alone.1), λ is. absurd (cc))
looks_alone terms c earlier later Busy alone p = absurd (never_away terms c why.Busy earlier later alone p)

pub puts_alone : PutsAlone
puts_alone terms c earlier later given Stored alone p =
    let first = same_before terms earlier p.1 (Claim 0 c) alone.0 p.2 in let own : IsOwn p.1 = subst IsOwn (sym first) (refl, alone.0) in
    let last = same_before terms p.1 later (Publish 0 c given p.0) own p.3 in let all = last ∙ ap (λ h. Publish 0 c given p.0 ∷ h) first in
    (subst IsAlone (sym all) ((refl, (refl, alone.0)), λ d. tested c d (λ b. (if b then None else (if b then Some 0 else owner d earlier)) ≡ None) (λ _. refl) (λ _. alone.1 d)), λ is. absurd (cc))
puts_alone terms c earlier later given Skipped alone p = absurd (never_away terms c why.Skipped earlier later alone p)
puts_alone terms c earlier later given Worn alone p = let e = same_before terms earlier later (Away 0 c why.Worn) alone.0 p in (subst IsAlone (sym e) ((refl, alone.0), alone.1), λ is. absurd (cc))

pub counts_alone : CountsAlone
counts_alone terms earlier later alone legal since =
    let none_there = nothing_between terms since.0 earlier alone.0 (subst (IsLegal terms) since.1 legal) since.2 in
    subst IsAlone (sym (since.1 ∙ ap (λ z. z ++ earlier) none_there)) alone

pub begins_alone : IsAlone []
begins_alone = (tt, λ c. refl)

-- ---- both cells of a board

both_alone : (u : Use) (later : List Event) (p : Position) (first other : Found) → IsUsedAlone u → LooksBoth u later p first other
    → IsAlone later × (first ≢ Busy) × (other ≢ Busy)
both_alone u later p first other used looks =
    elim (cases_eq u.table.cells 1) [
      | inl one ↦
          let once = looks.0 one in
          let a = looks_alone u.seat.terms (place_of p 1) u.seat.seen later first used.alone (subst (λ s. Looks u.seat.terms s u.seat.seen later (place_of p 1) first) used.first once.0) in
          (a.0, a.1, λ busy. a.1 (sym once.1 ∙ busy))
      | inr more ↦
          let twice = looks.1 more in
          let a =
          looks_alone u.seat.terms (place_of p u.table.cells) u.seat.seen twice.0 first used.alone
          (subst (λ s. Looks u.seat.terms s u.seat.seen twice.0 (place_of p u.table.cells) first) used.first twice.1) in
          let b = looks_alone u.seat.terms (second_of p u.table.cells) twice.0 later other a.0 (subst (λ s. Looks u.seat.terms s twice.0 later (second_of p u.table.cells) other) used.first twice.2) in
          (b.0, a.1, b.1)
    ]

pub searches_alone : SearchesAlone
searches_alone u v p answer used looks = both_alone u v.seat.seen p looks.first looks.other used looks.looks

pub stores_alone : StoresAlone
stores_alone u v given used puts =
    let a = both_alone u puts.between given.board puts.first puts.other used puts.looks in
    let cell = picked_of u.table.cells puts.first puts.other given.board in
    let b = puts_alone u.seat.terms cell puts.between v.seat.seen given puts.did a.0 (subst (λ s. Puts u.seat.terms s puts.between v.seat.seen cell given puts.did) used.first puts.put) in
    (b.0, a.1, a.2, b.1)
