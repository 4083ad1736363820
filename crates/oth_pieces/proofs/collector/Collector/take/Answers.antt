use Rattle.std.proofs.Common.{◌<◌, ap, arith, length, sym, ◌∙◌}
use Rattle.std.proofs.lemmas.Option.{slice_get_within}
use Rattle.oth_pieces.proofs.collector.Collector.take.Goals as goal

pub bounds-deref_mut-at : goal.bounds-deref_mut-at
bounds-deref_mut-at c =
    let inside : c.args.reply.number < length c.self.inside.frontier.now = slice_get_within c.self.inside.frontier.now c.args.reply.number c.in-Some.item (sym c.entry.ensures ∙ c.in-Some.is) in
    let many = c.self.invariant in
    omega (arith, ap length c.deref_mut.ensures.value)
