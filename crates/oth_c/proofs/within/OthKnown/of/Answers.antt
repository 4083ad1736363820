use Rattle.std.proofs.Common.{rules}
use Rattle.oth_c.proofs.Known.{told-bounded, told-first}
use Rattle.oth_c.proofs.within.OthKnown.of.Goals as goal

pub returns-clause-known : goal.returns-clause-known
returns-clause-known c =
    let moves = c.as_slice-moves.ensures.moves in
    record {
      interval = search rules;
      encloses = search rules;
      moves = c.moves.ensures;
      first = rw (← c.requires.board) (told-first _ _ _ c.by_square.result.1 _ moves c.by_square.ensures c.first_of.ensures);
      bounded = rw (← c.requires.board, ← c.requires.scoring) (told-bounded _ _ _ _ moves c.by_square.ensures);
    }
