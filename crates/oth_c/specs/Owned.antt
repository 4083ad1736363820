-- What a seat in C's hands owns.
--     owned a p x      at null nothing, and x is None; else the box at p, whose place holds x
use Rattle.std.specs.Prelude.{◌≡◌, Option, None}
use base.Fml.{Fml, ftrue, fsep, fex}
use denote.RawPtr.{Ptr, block_ptr, null_ptr}
use Rattle.std.specs.declared.alloc.Global.{Global}
use Rattle.std.specs.contracts.impls.GlobalAllocator.TheImpl.{ghosts}
use Rattle.std_alloc.specs.Box.Ownership.{box_owns}
use Rattle.oth_table.specs.Parts.{Use}
use Rattle.oth_c.specs.declared.seated.SeatSlot.{SeatSlot}
use Rattle.oth_c.specs.contracts.seated.SeatSlot.{the_row}

abbrev pub boxed : Global → Ptr → SeatSlot → Fml
boxed a = box_owns (ghosts.dealloc_token a) the_row

abbrev pub owned : Global → Ptr → Option Use → Fml
owned a null_ptr x = fex (x ≡ None) (λ _. ftrue)
owned a (block_ptr b o) x = fex SeatSlot (λ y. fsep (fex (x ≡ y.seated) (λ _. ftrue)) (boxed a (block_ptr b o) y))
