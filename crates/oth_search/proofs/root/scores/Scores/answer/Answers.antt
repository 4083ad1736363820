use Rattle.std.proofs.Common.{refl}
use Rattle.oth_search.proofs.BoundsLemmas.Fulls.{full_minimax}
use Rattle.oth_search.proofs.root.scores.Scores.answer.Goals as goal

pub returns-clause-full : goal.returns-clause-full
returns-clause-full c = full_minimax c.args.self.now.answer c.args.self.now.answer.board c.args.self.now.answer.scoring refl refl
