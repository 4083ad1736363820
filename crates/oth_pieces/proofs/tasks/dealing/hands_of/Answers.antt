use Rattle.std.proofs.Common.{◌≡◌, ◌∙◌, List, [], ◌∷◌, ◌++◌, ℕ, length, sym, subst}
use Rattle.oth_pieces.specs.declared.tasks.state.Hand.{Hand}
use Rattle.oth_pieces.specs.Hands.{Owner, IsNewHand}
use Rattle.oth_pieces.specs.Settling.{Pile}
use Rattle.oth_pieces.proofs.Handouts.{Making, making_steps}
use Rattle.oth_pieces.proofs.tasks.dealing.hands_of.Goals as goal

pub loop-owner-preserved : goal.loop-owner-preserved
loop-owner-preserved c =
    let os : List Owner = c.pop.new.self.items in
    let ps : List Pile = c.pop-in-Some.new.self.items in
    let is : c.loop-owner.owners.items ≡ os ++ c.in-Some.owner ∷ [] = c.in-Some.ensures.items in
    let are : c.loop-owner.piles.items ≡ ps ++ c.in-Some-pop.passes ∷ [] = c.in-Some-pop.ensures.items in
    let put : c.insert.new.self.items ≡ c.in_ok-hand.hand ∷ c.loop-owner.hands.items = c.in_ok-insert.ensures.items in
    let N : ℕ → Type 0 = λ n. IsNewHand c.args.tasks.now n c.in_ok-hand.hand in
    let new : IsNewHand c.args.tasks.now (length os) c.in_ok-hand.hand = subst N (c.len-number.ensures ∙ c.pop.new.self.ok.0) c.in_ok-hand.ensures in
    let M : List Hand → Type 0 = Making c.args.tasks.now os ps in
    subst M (sym put)
    (making_steps c.args.tasks.now c.loop-owner.owners.items os c.loop-owner.piles.items ps c.loop-owner.hands.items c.in-Some.owner c.in-Some-pop.passes c.in_ok-hand.hand
    c.loop-owner.invariant is are new)
