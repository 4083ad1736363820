-- what the reader stood for, it stands for with the bytes so far
use Rattle.std.proofs.Common.{ℕ, List, ◌++◌, take}
use Rattle.oth_text.specs.Game.{KeepsGame}
use Rattle.oth_text.proofs.game.GameReader.push.Given as goal

abbrev pub invariant-loop-byte : goal.invariant-loop-byte
invariant-loop-byte l = (line : List ℕ) → KeepsGame l.fn.self line → KeepsGame l.self (line ++ take l.byte-index l.bytes)
