use Rattle.oth_rules.specs.Square.{Back, Stay, Forth}
use Rattle.oth_rules.proofs.StableWords.{Covered}
use Rattle.oth_rules.proofs.stable.Reach.of.Given as goal

-- each word has what is in line with the empty squares that were taken
abbrev pub invariant-loop-rest : goal.invariant-loop-rest
invariant-loop-rest l = record {
  row : Covered l.board l.rest (record { columns = Forth; rows = Stay }) l.reach.row;
  falling : Covered l.board l.rest (record { columns = Forth; rows = Forth }) l.reach.falling;
  column : Covered l.board l.rest (record { columns = Stay; rows = Forth }) l.reach.column;
  rising : Covered l.board l.rest (record { columns = Back; rows = Forth }) l.reach.rising;
}

abbrev pub decreases-loop-rest : goal.decreases-loop-rest
decreases-loop-rest l = l.rest
