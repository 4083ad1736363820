-- What workers found.
--     IsReplyOf items scoring reply      the reply is of the board of its number's item, under the scoring
--     CanWork items scoring tasks work      the hand is one of these tasks, and each reply is of a number that the hand drew, once
--     HasLists workers drawn      a list of drawn numbers for each of the workers, or none at all
--     AreGathered items scoring gathered      each number was drawn once or is left; each reply is of a drawn number, once, and of
--                                             its item's board
use Rattle.std.specs.Prelude.{◌≡◌, ℕ, ◌≤◌, ◌⊎◌, List, length, map, All, slice_get, sum_by, Some, option_map}
use Rattle.oth_rules.specs.declared.scoring.Scoring.{Scoring}
use Rattle.oth_pieces.specs.declared.frontier.item.Item.{Item}
use Rattle.oth_pieces.specs.declared.reply.Reply.{Reply}
use Rattle.oth_pool.specs.declared.work.Work.{Work}
use Rattle.oth_pool.specs.declared.run.Gathered.{Gathered}
use Rattle.oth_pieces.specs.declared.tasks.state.Tasks.{Tasks}
use Rattle.oth_pieces.specs.declared.tasks.state.Hand.{Hand}
use Rattle.oth_pieces.specs.Frontier.{board_of}
use Rattle.oth_pieces.specs.Hands.{IsHandOf, list_of}
use Rattle.oth_pieces.specs.Dealing.{times}
use Rattle.oth_pieces.specs.Drawn.{lists_of, times_in_all, AreOnce}
use Rattle.oth_pieces.specs.declared.tasks.state.Drawn.{Drawn}

pub record IsReplyOf (items : List Item) (scoring : Scoring) (r : Reply) : Type 0 where
  pub board : option_map board_of (slice_get items r.number) ≡ Some r.solved.board
  pub by : r.solved.scoring ≡ scoring

abbrev pub numbers_of : List Reply → List ℕ
numbers_of replies = map (λ (r : Reply). r.number) replies

-- each reply is of a number that the hand drew, once, and of its item's board under the scoring
pub record Holds (items : List Item) (scoring : Scoring) (w : Work) : Type 0 where
  pub replies : All (IsReplyOf items scoring) w.replies.items
  pub once : (x : ℕ) → times x (numbers_of w.replies.items) ≤ times x (list_of w.hand)

pub record CanWork (items : List Item) (scoring : Scoring) (tasks : Tasks) (w : Work) : Type 0 where
  pub hand : IsHandOf tasks w.hand
  pub holds : Holds items scoring w

abbrev pub hand_of : Work → Hand
hand_of w = w.hand

-- how often the hands drew x
abbrev pub times_by : ℕ → List Work → ℕ
times_by x works = sum_by (λ w. times x (list_of (hand_of w))) works

abbrev pub HasLists : ℕ → Drawn → Type 0
HasLists workers drawn = (length (lists_of drawn) ≡ 0) ⊎ (length (lists_of drawn) ≡ workers)

pub record AreGathered (items : List Item) (scoring : Scoring) (g : Gathered) : Type 0 where
  pub drawn : AreOnce (length items) g.drawn
  pub replies : All (IsReplyOf items scoring) g.replies.items
  pub once : (x : ℕ) → times x (numbers_of g.replies.items) ≤ times_in_all x g.drawn.lists.items
