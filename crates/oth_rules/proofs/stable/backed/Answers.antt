use Rattle.oth_rules.specs.Line.{direction_of}
use Rattle.oth_rules.proofs.StableWords.{backed_word}
use Rattle.oth_rules.proofs.stable.backed.Goals as goal

pub returns : goal.returns
returns c =
    backed_word (direction_of c.args.line) (direction_of c.reversed-back.result) c.args.reached c.args.stable
    c.shifted.result c.shifted-2.result c.shifted-3.result c.shifted-4.result c.ranges.reached.fits
    c.reversed-back.ensures c.shifted.ensures c.shifted-2.ensures c.shifted-3.ensures c.shifted-4.ensures
