use borrow.Author.Rules.{rules}
use Rattle.std.proofs.Common.{◌≡◌, ◌<◌, get_or, length, arith}
use Rattle.std.proofs.lemmas.List.{get_or_default}
use Rattle.oth_pool.specs.AtOnce.{Changes}
use Rattle.oth_pool.proofs.AtOnce.{by_both, by_one}
use Rattle.oth_pool.proofs.at_once.+starting.Goals as goal

pub start_from-f-requires : goal.start_from-f-requires
start_from-f-requires g t c =
    let one : length c.args.jobs.now ≡ 1 = c.if-jobs-eq1.true in
    c.requires 0 _ (omega arith) (get_or_default c.args.jobs.now 0 _ _ (omega arith))

pub start_from-returns-then-jobs-eq1 : goal.start_from-returns-then-jobs-eq1
start_from-returns-then-jobs-eq1 g t c =
    let done : Changes g.F.Fn c.args.f.now (get_or c.args.jobs.now 0 c.index-jobs-0.result) c.f.new.arg2 = search rules in
    by_one g.F.Fn c.args.f.now c.args.jobs.now c.f.new.arg2 c.index-jobs-0.result c.if-jobs-eq1.true done

pub start_from-returns : goal.start_from-returns
start_from-returns g t c = by_both g.F.Fn c.args.f.now _ _ _ _ _ c.split_at_mut-first.ensures.value c.start_both.ensures.first c.start_both.ensures.rest
