use Rattle.std.proofs.Common.{arith}
use Rattle.std.proofs.lemmas.Int.{ints}
use Rattle.oth_search.proofs.root.pace.Pace.onward.Goals as goal

pub returns-else-bounds-start : goal.returns-else-bounds-start
returns-else-bounds-start c =
    let l = c.lesser.ensures in
    let range = c.args.self.range in
    let bounds = c.args.bounds.is_interval in
    record {
      threshold = record { low = omega (arith, ints, l, range, bounds, c.if-bounds-start.false); high = omega (arith, ints, l, range, bounds) };
      low = λ h. omega (arith, ints, h, l, range, bounds, c.if-bounds-lt64.false, c.if-bounds-start.false);
      high = λ h. omega (arith, ints, h, l, range, bounds, c.if-bounds-lt64.false);
    }
