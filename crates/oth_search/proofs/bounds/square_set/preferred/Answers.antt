use Rattle.std.proofs.Common.{ap, ◌∙◌, not, nat_eq}
use mir.Val.{bool_byte}
use Rattle.oth_search.proofs.BoundsLemmas.SquareSets.{In-parts, some_part}
use Rattle.oth_search.proofs.bounds.square_set.preferred.Goals as goal

pub first_of-requires : goal.first_of-requires
first_of-requires c =
    some_part c.args.set c.args.early c.from-all_or_none.result c.ranges.set.fits c.requires (λ e. c.from-all_or_none.ensures ∙ ap (λ x. bool_byte (not (nat_eq x 0))) e)

pub returns : goal.returns
returns c = In-parts c.args.set c.args.early _ _ c.first_of.ensures.below c.first_of.ensures.member
