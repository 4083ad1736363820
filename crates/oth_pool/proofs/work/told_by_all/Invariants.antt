use Rattle.std.proofs.Common.{◌≤◌, ℕ, List, take}
use Rattle.std.specs.List.{All}
use Rattle.oth_rules.specs.declared.scoring.Scoring.{Scoring}
use Rattle.oth_pieces.specs.declared.frontier.item.Item.{Item}
use Rattle.oth_pieces.specs.Dealing.{times}
use Rattle.oth_pool.specs.Working.{IsReplyOf, numbers_of}
use Rattle.oth_pool.proofs.work.told_by_all.Given as goal

abbrev pub invariant-loop-reply : goal.invariant-loop-reply
invariant-loop-reply g l =
    ((items : List Item) (scoring : Scoring) → All (IsReplyOf items scoring) l.replies → All (IsReplyOf items scoring) l.told.items)
    × ((x : ℕ) → times x (numbers_of l.told.items) ≤ times x (numbers_of (take l.reply-index l.replies)))
