use Rattle.std.proofs.Common.{◌≡◌, ◌∙◌, ap, subst, List}
use Rattle.oth_history.specs.History.{Begins}
use Rattle.oth_history.proofs.Histories.{since_begins}
use Rattle.oth_pieces.specs.History.{author}
use Rattle.oth_pieces.specs.declared.floor.event.Event.{Event}
use Rattle.oth_pieces.specs.Floor.{longer}
use Rattle.oth_pieces.specs.Watch.{Watcher}
use Rattle.oth_pieces.proofs.Histories.{longer_both}
use Rattle.oth_pieces.proofs.floor.Floor.meet.Goals as goal

-- what one seat learns of the other, where the names of both are put right
along : (a a' b b' c : List Event) → a' ≡ a → b' ≡ b → c ≡ longer a' b' → c ≡ longer a b
along a a' b b' c p q e = e ∙ (λ i. longer (p i) (q i))

pub returns-clause-same : goal.returns-clause-same
returns-clause-same c =
    let one = c.messenger-from_one.ensures in
    let other = c.messenger-from_other.ensures in
    let a : List Event = c.args.one.now.seen in
    let b : List Event = c.args.other.now.seen in
    let same_a : c.messenger-from_one.new.seat.seen ≡ a = ap (λ (w : Watcher). w.seen) one.same in
    let same_b : c.messenger-from_other.new.seat.seen ≡ b = ap (λ (w : Watcher). w.seen) other.same in
    let told_one : c.messenger-from_one.result.seat.me.0.seen ≡ a = one.messenger.1 in
    let told_other : c.messenger-from_other.result.seat.me.0.seen ≡ b = other.messenger.1 in
    let x : List Event = c.learn.new.seat.seen in
    let y : List Event = c.learn-2.new.seat.seen in
    let at_x : List Event → Type 0 = λ l. Begins l x in
    let at_y : List Event → Type 0 = λ l. Begins l y in
    longer_both a b x y (along a _ b _ x same_a told_other c.learn.ensures.seen) (along b _ a _ y same_b told_one c.learn-2.ensures.seen)
    (subst at_x same_a (since_begins author c.messenger-from_one.new.seat.name c.messenger-from_one.new.seat.seen x c.learn.ensures.goes.since))
    (subst at_x told_other c.learn.ensures.told)
    (subst at_y told_one c.learn-2.ensures.told)
    (subst at_y same_b (since_begins author c.messenger-from_other.new.seat.name c.messenger-from_other.new.seat.seen y c.learn-2.ensures.goes.since))
