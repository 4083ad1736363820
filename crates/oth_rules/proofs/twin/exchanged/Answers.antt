use Rattle.std.proofs.Common.{arith}
use Rattle.oth_rules.proofs.Exchanges.{exchanged_word}
use Rattle.oth_rules.proofs.HalfTurns.{two_lanes, same_lanes}
use Rattle.oth_rules.proofs.twin.exchanged.Goals as goal

pub returns : goal.returns
returns c =
    let w = two_lanes c.args.words c.fits-words.0 c.fits-words.1 in
    rw w.are
    (same_lanes _ _ _ _ (exchanged_word w.first c.args.mask c.args.shift w.first_fits (omega arith) c.requires.apart)
    (exchanged_word w.second c.args.mask c.args.shift w.second_fits (omega arith) c.requires.apart))
