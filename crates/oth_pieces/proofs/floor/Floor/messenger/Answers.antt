use Rattle.std.proofs.Common.{rules}
use Rattle.oth_pieces.proofs.Floors.{sends}
use Rattle.oth_pieces.proofs.floor.Floor.messenger.Goals as goal

pub split_seat-seat-requires : goal.split_seat-seat-requires
split_seat-seat-requires c = (search rules, search rules, sends _ _ _)
