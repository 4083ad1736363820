use Rattle.std.proofs.Common.{◌≤◌, ℕ, List, map, take}
use Rattle.std.specs.List.{All}
use Rattle.oth_rules.specs.declared.scoring.Scoring.{Scoring}
use Rattle.oth_pieces.specs.declared.frontier.item.Item.{Item}
use Rattle.oth_pieces.specs.Dealing.{times}
use Rattle.oth_pool.specs.Working.{IsReplyOf, Holds, numbers_of, times_by}
use Rattle.oth_pool.proofs.work.collect_replies.Given as goal

abbrev pub invariant-loop-duty : goal.invariant-loop-duty
invariant-loop-duty g l = (items : List Item) (scoring : Scoring) → All (λ j. Holds items scoring j.work) l.duties
    → All (IsReplyOf items scoring) l.replies.items
    × ((x : ℕ) → times x (numbers_of l.replies.items) ≤ times_by x (map (λ j. j.work) (take l.duty-index l.duties)))
