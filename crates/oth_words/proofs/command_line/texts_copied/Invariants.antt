-- the texts before this place are owned
use Rattle.std.proofs.Common.{◌≡◌, map, take}
use Rattle.std.specs.String.{string_bytes}
use Rattle.oth_words.proofs.command_line.texts_copied.Given as goal

abbrev pub invariant-loop-at : goal.invariant-loop-at
invariant-loop-at l = map string_bytes l.copies.items ≡ map (λ t. t.now) (take l.at l.texts)
