use Rattle.std.proofs.Common.{◌≡◌, refl, rules}
use Rattle.std.specs.declared.option.Option.TheVariants.{None}
use Rattle.std.proofs.lemmas.Bool.{false≢true}
use Rattle.std.proofs.lemmas.List.Elements.{All-contains}
use Rattle.oth_rules.proofs.SearchLaws.{can_move-legal}
use Rattle.oth_search.specs.Root.Moves.{IsRootMove}
use Rattle.oth_search.proofs.RootLemmas.Surest.{some-move, surest-listed}
use Rattle.oth_search.proofs.root.moves.RootMoves.surest.Goals as goal

pub returns-in_err-root_move-clause-variant : goal.returns-in_err-root_move-clause-variant
returns-in_err-root_move-clause-variant c =
    let none = rw c.in_err-root_move.was at c.surest_of.ensures in
    let gone : c.from_residual.result ≡ None = search rules in
    rw gone ((λ s. absurd (false≢true s)), (λ some. absurd (some-move _ _ c.as_slice.ensures.moves none some)))

pub returns-clause-variant : goal.returns-clause-variant
returns-clause-variant c =
    let surest = rw c.in_ok-root_move.was at c.surest_of.ensures in
    let one = All-contains (IsRootMove _) _ _ c.as_slice.ensures.moves.moves (surest-listed _ _ surest) in
    ((λ s. can_move-legal _ _ one.legal), (λ s. refl))

pub returns-clause-legal : goal.returns-clause-legal
returns-clause-legal c =
    let surest = rw c.in_ok-root_move.was at c.surest_of.ensures in
    (All-contains (IsRootMove _) _ _ c.as_slice.ensures.moves.moves (surest-listed _ _ surest)).legal
