use Rattle.oth_search.proofs.BoundsLemmas.Enclosing.{IsCanonical-canonical}
use Rattle.oth_workers_tests.proofs.tests.telling.knows.Goals as goal

pub look-requires : goal.look-requires
look-requires c = IsCanonical-canonical _ c.canonical-least.result.0 c.canonical-least.ensures.board
