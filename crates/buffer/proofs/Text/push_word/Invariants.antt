-- The bytes passed are put.
use lib.ListN.{take}
use Rattle.buffer.specs.Taken.{Takes}
use Rattle.buffer.proofs.Text.push_word.Given as goal

abbrev pub invariant-loop-byte : goal.invariant-loop-byte
invariant-loop-byte l = Takes (take l.byte-index l.word) l.initial.self l.self
