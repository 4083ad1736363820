use Rattle.std.proofs.Common.{arith}
use Rattle.oth_pieces.proofs.Handouts.{one_drew}
use Rattle.oth_pieces_tests.proofs.tests.draw_out_at.Goals as goal

pub returns : goal.returns
returns c =
    let long = c.len.ensures in
    let size = c.args.hands.now.ok.0 in
    one_drew c.args.tasks.now c.args.hands.now.items c.args.at c.index_mut.result.now c.draw_out.new.hand c.requires (omega arith) c.index_mut.ensures.value c.draw_out.ensures.hand
    c.draw_out.ensures.number
