-- At first each empty square is left, and in the end none.
use Rattle.oth_rules.specs.Square.{Back, Stay, Forth}
use Rattle.oth_rules.proofs.StableWords.{Covered-all, Covered-more, Covered-none, less-without}
use Rattle.oth_rules.proofs.stable.Reach.of.Goals as goal

pub loop-rest-init : goal.loop-rest-init
loop-rest-init c =
    let p = c.args.board.now in
    let left = c.empty_squares-rest.result in
    let is = c.empty_squares-rest.ensures in
    record {
      row = Covered-all p left 0 (record { columns = Forth; rows = Stay }) is;
      falling = Covered-all p left 0 (record { columns = Forth; rows = Forth }) is;
      column = Covered-all p left 0 (record { columns = Stay; rows = Forth }) is;
      rising = Covered-all p left 0 (record { columns = Back; rows = Forth }) is;
    }

pub loop-rest-smaller : goal.loop-rest-smaller
loop-rest-smaller c =
    less-without c.loop-rest.rest c.first_of-square.result c.word.result c.word.ensures.below c.word.ensures.value c.first_of-square.ensures.member

pub loop-rest-preserved : goal.loop-rest-preserved
loop-rest-preserved c =
    let p = c.args.board.now in
    let left = c.loop-rest.rest in
    let k = c.first_of-square.result in
    let bit = c.word.result in
    let below = c.word.ensures.below in
    let is = c.word.ensures.value in
    let old = c.loop-rest.reach in
    let new = c.with-reach.result in
    let adds = c.with-reach.ensures in
    let covered = c.loop-rest.invariant in
    record {
      row = Covered-more p left k bit old.row new.row (record { columns = Forth; rows = Stay }) below is adds.row covered.row;
      falling = Covered-more p left k bit old.falling new.falling (record { columns = Forth; rows = Forth }) below is adds.falling covered.falling;
      column = Covered-more p left k bit old.column new.column (record { columns = Stay; rows = Forth }) below is adds.column covered.column;
      rising = Covered-more p left k bit old.rising new.rising (record { columns = Back; rows = Forth }) below is adds.rising covered.rising;
    }

pub returns : goal.returns
returns c =
    let p = c.args.board.now in
    let left = c.loop-rest.rest in
    let reach = c.loop-rest.reach in
    let none = c.loop-rest-test.false in
    let covered = c.loop-rest.invariant in
    record {
      along_row = Covered-none p left reach.row (record { columns = Forth; rows = Stay }) none covered.row;
      along_falling = Covered-none p left reach.falling (record { columns = Forth; rows = Forth }) none covered.falling;
      along_column = Covered-none p left reach.column (record { columns = Stay; rows = Forth }) none covered.column;
      along_rising = Covered-none p left reach.rising (record { columns = Back; rows = Forth }) none covered.rising;
    }
