use Rattle.oth_search.proofs.BoundsLemmas.Enclosing.{IsScore-answer}
use Rattle.std.proofs.Common.{arith}
use Rattle.std.proofs.lemmas.Int.{ints}
use Rattle.oth_search.proofs.bounds.solved.Solved.of_answer.Goals as goal

pub exactly-requires : goal.exactly-requires
exactly-requires c = let a = c.args.answer.now in IsScore-answer a.scoring a.board _ (omega (arith, ints, a.is_value))
