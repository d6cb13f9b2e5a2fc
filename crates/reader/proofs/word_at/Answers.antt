-- `reader::word_at` gives the big-endian 16-bit number at a place. Assumes nothing.
use mathlib.Core.Path.{sym}
use native.Mathlib.Omega.{arith}
use Rattle.base.proofs.Bytes.{word_at_past}
use Rattle.base.specs.Bytes.{word_at}
use Rattle.reader.proofs.word_at.Goals as goal

pub returns-then-at-b : goal.returns-then-at-b
unfolding word_at
returns-then-at-b c = (rw (c.byte_at.ensures.0, c.byte_at-then-at-b.ensures.0), omega arith)

pub returns-else-at-b : goal.returns-else-at-b
returns-else-at-b c = (sym (word_at_past c.args.b.now c.args.at c.if-at-b.false), omega arith)
