use Rattle.oth_pool.proofs.AtOnce.{by_both}
use Rattle.oth_pool.proofs.at_once.for_each_at_once.Goals as goal

pub returns : goal.returns
returns g c = by_both g.F.Fn c.args.f.now _ _ _ _ _ c.split_at_mut-none.ensures.value c.start_both.ensures.first c.start_both.ensures.rest
