-- A seat may go to another thread, as what its box holds may.
use mir.Raw.{raw}
use base.Fraction.{full_share}
use base.Shift.{Keyless}
use denote.Memory.{lone}
use denote.RawPtr.{Ptr, block_ptr, null_ptr}
use denote.Param.Send.{IsSend, part_keyless}
use Rattle.std.specs.declared.alloc.Global.{Global}
use Rattle.std.specs.declared.option.Option.{Option}
use Rattle.std.proofs.alloc.Global.TheSendSync as heap
use Rattle.std.proofs.Crossing.{frees}
use Rattle.oth_table.specs.Parts.{Use}
use Rattle.oth_c.specs.Owned.{owned}
use Rattle.oth_c.specs.contracts.seated.SeatSlot as place
use Rattle.oth_c.proofs.seated.SeatSlot.TheSendSync as sent
use Rattle.oth_c.specs.contracts.seat.OthSeat.{the_row}

owned_keyless : (a : Global) (p : Ptr) (x : Option Use) → Keyless (owned a p x)
owned_keyless a null_ptr x = λ _. tt
owned_keyless a (block_ptr b o) x = λ y. ((λ _. tt), (part_keyless place.the_row sent.the_send full_share y b o, frees.frees a (raw (lone place.the_row.mir)) (block_ptr b o)))

pub send : IsSend the_row
send = record { owned = λ s vs. ((λ vss. (tt, (tt, (heap.the_field_send.owned ((s.alloc.memory.seal, tt), tt) vss.1.0, tt)))), owned_keyless s.alloc s.at s.held); leaving = λ k d w. tt }
