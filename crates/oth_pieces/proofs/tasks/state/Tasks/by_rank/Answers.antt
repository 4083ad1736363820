use Rattle.oth_pieces.proofs.Handouts.{all_hands, all_fresh, all_have_room}
use Rattle.oth_pieces.proofs.tasks.state.Tasks.by_rank.Goals as goal

pub returns-clause-hands : goal.returns-clause-hands
returns-clause-hands c = all_hands _ _ _ c.requires.0 c.in_ok-made.ensures.hands

pub returns-clause-fresh : goal.returns-clause-fresh
returns-clause-fresh c = all_fresh _ _ _ c.in_ok-made.ensures.hands

pub returns-clause-room : goal.returns-clause-room
returns-clause-room c = all_have_room _ _ _ c.in_ok-made.ensures.hands
