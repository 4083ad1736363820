use Rattle.oth_rules.proofs.StableWords.{row_adds, falling_adds, column_adds, rising_adds}
use Rattle.oth_rules.proofs.stable.Reach.with.Goals as goal

pub returns-clause-row : goal.returns-clause-row
returns-clause-row c = row_adds c.args.square c.args.self.row c.line_masks.result.now c.line_masks.ensures.below c.line_masks.ensures.value

pub returns-clause-falling : goal.returns-clause-falling
returns-clause-falling c = falling_adds c.args.square c.args.self.falling c.line_masks.result.now c.line_masks.ensures.below c.line_masks.ensures.value

pub returns-clause-column : goal.returns-clause-column
returns-clause-column c = column_adds c.args.square c.args.self.column c.line_masks.result.now c.line_masks.ensures.below c.line_masks.ensures.value

pub returns-clause-rising : goal.returns-clause-rising
returns-clause-rising c = rising_adds c.args.square c.args.self.rising c.line_masks.result.now c.line_masks.ensures.below c.line_masks.ensures.value
