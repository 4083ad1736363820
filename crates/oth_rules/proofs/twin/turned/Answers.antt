use Rattle.oth_rules.proofs.HalfTurns.{turned_lanes}
use Rattle.oth_rules.proofs.twin.turned.Goals as goal

pub returns : goal.returns
returns c =
    turned_lanes c.args.words c.exchanged-words.result c.exchanged-words-2.result c.exchanged-words-3.result c.exchanged-words-4.result c.exchanged-words-5.result
    c.exchanged.result c.fits-words.0 c.fits-words.1 c.exchanged-words.ensures c.exchanged-words-2.ensures c.exchanged-words-3.ensures c.exchanged-words-4.ensures
    c.exchanged-words-5.ensures c.exchanged.ensures
