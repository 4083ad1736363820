use Rattle.std.proofs.Common.{refl}
use Rattle.std.proofs.lemmas.Bool.{false≢true}
use Rattle.oth_rules.proofs.SearchLaws.{flips-legal, legal-flips}
use Rattle.oth_rules.proofs.Twins.{none_of_parts, parts_of_none}
use Rattle.oth_rules.proofs.twin.Twin.legal_flips.Goals as goal

pub returns-then-first-second-eq0-clause-legal : goal.returns-then-first-second-eq0-clause-legal
returns-then-first-second-eq0-clause-legal c = (
  λ e. absurd (false≢true e),
  λ h. absurd (legal-flips c.args.self c.args.square _ c.risen-risen.ensures.flips h (none_of_parts _ _ c.if-first-second-eq0.true)),
)

pub returns-clause-legal : goal.returns-clause-legal
returns-clause-legal c = (
  λ _. flips-legal c.args.self c.args.square _ c.risen-risen.ensures.on_board c.risen-risen.ensures.flips
      (λ e. c.if-first-second-eq0.false (parts_of_none _ _ c.risen-risen.ensures.fits e)),
  λ _. refl,
)
