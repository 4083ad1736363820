use Rattle.std.proofs.Common.{◌∙◌, subst, sym}
use Rattle.oth_pieces.specs.declared.tasks.share.Share.{Share}
use Rattle.oth_pieces.specs.Dealing.{IsFair}
use Rattle.oth_pieces.proofs.Dealings.{learns}
use Rattle.oth_pieces.proofs.tasks.balance.collect_passes.Goals as goal

pub len_as-requires : goal.len_as-requires
len_as-requires c = learns _ _ (c.loop-i.invariant.same.1 ∙ c.requires.knows)

pub returns-clause-fair : goal.returns-clause-fair
returns-clause-fair c = let P : Share → Type 0 = IsFair in subst P (sym c.len_as.ensures.same.2) c.len_as.ensures.rule.2
