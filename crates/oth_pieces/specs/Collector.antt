-- What a collector has, and when it takes a reply.
--     refusal c r      why the reply isn't taken, by the first cause that holds: no such item; a reply is there; another board; the
--                      other scoring
--     with_reply c r      the collector with this reply
use Rattle.std.specs.Prelude.{Bool, ◌&&◌, ◌==◌, not, true, false, if◌then◌else◌, List, length, slice_get}
use Rattle.std.specs.Prelude.{slice_set, Option, Some, None, Result, Ok, Err, replicate}
use Rattle.oth_rules.specs.Position.{Position}
use Rattle.oth_rules.specs.declared.scoring.Scoring.{Scoring}
use Rattle.oth_rules.specs.declared.scoring.Scoring.TheVariants.{Winner, Discs}
use Rattle.oth_search.specs.declared.bounds.solved.Solved.{Solved}
use Rattle.oth_pieces.specs.declared.frontier.item.Item.{Item}
use Rattle.oth_pieces.specs.declared.reply.Reply.{Reply}
use Rattle.oth_pieces.specs.declared.reply.Refusal.{Refusal}
use Rattle.oth_pieces.specs.declared.reply.Refusal.TheVariants.{Stranger, Double, OtherBoard, OtherScoring}

-- the items, the scoring, and what was found of each item
pub record Collected : Type 0 where
  pub items : List Item
  pub scoring : Scoring
  pub found : List (Option Solved)

abbrev pub nothing_of : List Item → Scoring → Collected
nothing_of items scoring = record { items = items; scoring = scoring; found = replicate (length items) None }

abbrev pub same_board : Position → Position → Bool
same_board p q = (p.own == q.own) && (p.opp == q.opp)

abbrev pub is_winner : Scoring → Bool
is_winner Winner = true
is_winner Discs = false

abbrev pub same_scoring : Scoring → Scoring → Bool
same_scoring Winner h = is_winner h
same_scoring Discs h = not (is_winner h)

-- for a known item of this board
abbrev pub refusal_at : Position → Scoring → Option (Option Solved) → Solved → Option Refusal
refusal_at board scoring (Some (Some _)) s = Some Double
refusal_at board scoring (Some None) s =
    if same_board board s.board then if same_scoring scoring s.scoring then None else Some OtherScoring else Some OtherBoard
refusal_at board scoring None s = Some Stranger

abbrev pub refusal_of : Option Item → Scoring → Option (Option Solved) → Solved → Option Refusal
refusal_of None scoring found s = Some Stranger
refusal_of (Some item) scoring found s = refusal_at item.board scoring found s

abbrev pub refusal : Collected → Reply → Option Refusal
refusal c r = refusal_of (slice_get c.items r.number) c.scoring (slice_get c.found r.number) r.solved

abbrev pub with_reply : Collected → Reply → Collected
with_reply c r = record { items = c.items; scoring = c.scoring; found = slice_set c.found r.number (Some r.solved) }

-- what is there of an item
abbrev pub joined : Option (Option Solved) → Option Solved
joined (Some found) = found
joined None = None

abbrev pub err_of : Result (Unit {0}) Refusal → Option Refusal
err_of (Ok _) = None
err_of (Err e) = Some e
