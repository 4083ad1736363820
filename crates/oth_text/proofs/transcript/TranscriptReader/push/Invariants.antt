-- what the reader stood for, it stands for with the bytes so far
use Rattle.std.proofs.Common.{ℕ, List, ◌++◌, take}
use Rattle.oth_text.specs.declared.position.Position.{Position}
use Rattle.oth_text.specs.Transcript.{StandsFrom}
use Rattle.oth_text.proofs.transcript.TranscriptReader.push.Given as goal

abbrev pub invariant-loop-byte : goal.invariant-loop-byte
invariant-loop-byte l = (from : Position) (text : List ℕ) → StandsFrom from l.fn.self text → StandsFrom from l.self (text ++ take l.byte-index l.bytes)
