use Rattle.oth_rules.proofs.Words.{legal_empty}
use Rattle.oth_rules.proofs.SearchLaws.{empty_count-after, empty_count-pass}
use Rattle.oth_rules.proofs.laws.moves_fill_the_board.Goals as goal

pub returns : goal.returns
returns c = record { empty = λ p s h. legal_empty p s h.legal; move_takes_one = empty_count-after; pass_takes_none = empty_count-pass }
