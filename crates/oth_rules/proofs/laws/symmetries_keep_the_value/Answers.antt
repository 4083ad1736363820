use Rattle.oth_rules.specs.Score.{score_of}
use Rattle.oth_rules.specs.Laws.{IsValueOfImages}
use Rattle.oth_rules.specs.declared.scoring.Scoring.{Scoring}
use Rattle.oth_rules.proofs.Symmetries.{value-image, best-image-word}
use Rattle.oth_rules.proofs.Canonical.{value-canonical, canonical-canonical}
use Rattle.oth_rules.proofs.laws.symmetries_keep_the_value.Goals as goal

images : (g : Scoring) → IsValueOfImages (score_of g)
images g = record { value = λ s p l. value-image g s l p; best = λ s p l. best-image-word g s l p }

pub returns : goal.returns
returns c = record { images = images; canonical = value-canonical; once = canonical-canonical }
