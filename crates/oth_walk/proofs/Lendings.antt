-- Seats that are lent one after the other.
use Rattle.std.proofs.Common.{◌≡◌, List, [], ◌∷◌, ◌++◌, refl, sym, ap, ◌∙◌, subst, append_assoc, Option, Some, None, IfSome, IsNone}
use Rattle.std.proofs.lemmas.List.Elements.{All-nil, All-cons, All-append}
use Rattle.oth_history.specs.History.{Name, events_of, EndsBy}
use Rattle.oth_history.proofs.Histories.{begins_itself, begins_then, ends_begins, events_of-own, events_of-since}
use Rattle.oth_table.specs.Parts.{Use}
use Rattle.oth_table.specs.SharedTable.{IsSame, Makes}
use Rattle.oth_table.specs.History as tables
use Rattle.oth_table.specs.declared.history.Event as table_events
use Rattle.oth_pieces.specs.History.{author, makes, Fits, IsLegal}
use Rattle.oth_pieces.specs.Watch.{Watcher, IsMadeBy}
use Rattle.oth_pieces.specs.declared.floor.event.Event.{Event}
use Rattle.oth_pieces.specs.declared.floor.event.Event.TheVariants.{Made}
use Rattle.oth_walk.specs.Lending.{IsMaking, OnlyMakes, LendsFloor, LendsSeat, LendsTable}

module _ {E : Type 0} (author : E → Name) (makes : E → Option Name) where
  pub makes_then : (s : Name) (a b c : List E) → OnlyMakes author makes s a b → OnlyMakes author makes s b c → OnlyMakes author makes s a c
  makes_then s a b c p q = (
    q.0 ++ p.0,
    q.1 ∙ (ap (λ l. q.0 ++ l) p.1 ∙ sym (append_assoc q.0 p.0 (events_of author s a))),
    All-append (IsMaking author makes) q.0 p.0 q.2 p.2,
  )

  -- one further event of the seat, which makes another
  pub makes_one : (Fits : List E → E → Type 0) (s : Name) (earlier later : List E) (e : E) → author e ≡ s → IsMaking author makes e → EndsBy author makes Fits s earlier later e
      → OnlyMakes author makes s earlier later
  makes_one Fits s earlier later e by making x = (
    e ∷ [],
    ap (events_of author s) x.last ∙ (events_of-own author s e x.before by ∙ ap (λ l. e ∷ l) (events_of-since author s earlier x.before x.since)),
    All-cons (IsMaking author makes) e [] making (All-nil (IsMaking author makes)),
  )

-- a further seat is made
pub LendsFloor-made : (old mid new made : Watcher) → LendsFloor old mid → IsMadeBy mid new made → LendsFloor old new
LendsFloor-made old mid new made lent by =
    let e : Event = Made mid.name made.name in
    let x = by.event.ends in
    let one : OnlyMakes author makes mid.name mid.seen new.seen = makes_one author makes (Fits mid.root) mid.name mid.seen new.seen e refl (made.name, refl) x in
    record {
      same = (by.event.same.0 ∙ lent.same.0, by.event.same.1 ∙ lent.same.1, by.event.same.2 ∙ lent.same.2);
      begins = begins_then old.seen mid.seen new.seen lent.begins (ends_begins author makes (Fits mid.root) mid.name mid.seen new.seen e x);
      mine = makes_then author makes old.name old.seen mid.seen new.seen lent.mine (subst (λ n. OnlyMakes author makes n mid.seen new.seen) lent.same.2 one);
      legal = λ was. subst (λ r. IsLegal r new.seen) lent.same.1 x.legal;
    }

pub LendsSeat-then : (a b c : Use) → LendsSeat a b → LendsSeat b c → LendsSeat a c
LendsSeat-then a b c one two =
    let later : OnlyMakes tables.author tables.makes a.seat.name b.seat.seen c.seat.seen = subst (λ n. OnlyMakes tables.author tables.makes n b.seat.seen c.seat.seen) one.seat.2 two.mine in
    let stays : tables.IsLegal a.seat.terms b.seat.seen → tables.IsLegal a.seat.terms c.seat.seen = subst (λ t. tables.IsLegal t b.seat.seen → tables.IsLegal t c.seat.seen) one.seat.1 two.legal in
    record {
      table = two.table ∙ one.table;
      seat = (two.seat.0 ∙ one.seat.0, two.seat.1 ∙ one.seat.1, two.seat.2 ∙ one.seat.2);
      begins = begins_then a.seat.seen b.seat.seen c.seat.seen one.begins two.begins;
      mine = makes_then tables.author tables.makes a.seat.name a.seat.seen b.seat.seen c.seat.seen one.mine later;
      legal = λ was. stays (one.legal was);
    }

-- nothing is made
pub LendsSeat-nothing : (u : Use) → LendsSeat u u
LendsSeat-nothing u = record {
  table = refl;
  seat = (refl, refl, refl);
  begins = begins_itself u.seat.seen;
  mine = ([], refl, All-nil (IsMaking tables.author tables.makes));
  legal = λ was. was;
}

pub LendsTable-then : (a b c : Option Use) → LendsTable a b → LendsTable b c → LendsTable a c
LendsTable-then None None None one two = tt
LendsTable-then None None (Some c) one two = two
LendsTable-then None (Some b) c one two = absurd one
LendsTable-then (Some a) None c one two = absurd one
LendsTable-then (Some a) (Some b) None one two = two
LendsTable-then (Some a) (Some b) (Some c) one two = LendsSeat-then a b c one two

-- a further seat of the table is made, or there is no memory for one
pub LendsSeat-another : (u v : Use) (another : Option Use) → v.table ≡ u.table → IsSame u.seat v.seat
    → IfSome another (λ c. (c.table ≡ u.table) × Makes u.seat v.seat c.seat) → (IsNone another → v ≡ u) → LendsSeat u v
LendsSeat-another u v None table same made none = subst (LendsSeat u) (sym (none refl)) (LendsSeat-nothing u)
LendsSeat-another u v (Some c) table same made none =
    let e : table_events.Event = table_events.TheVariants.Made u.seat.name c.seat.name in
    let ends = made.1.ends in
    record {
      table = table;
      seat = same;
      begins = ends_begins tables.author tables.makes (tables.Fits u.seat.terms) u.seat.name u.seat.seen v.seat.seen e ends;
      mine = makes_one tables.author tables.makes (tables.Fits u.seat.terms) u.seat.name u.seat.seen v.seat.seen e refl (c.seat.name, refl) ends;
      legal = λ was. ends.legal;
    }
