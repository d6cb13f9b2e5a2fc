-- `reader::word_inside` gives the big-endian 16-bit number at a place whose bytes are inside. Assumes nothing.
use native.Mathlib.Omega.{arith}
use Rattle.base.specs.Bytes.{word_at}
use Rattle.reader.proofs.word_inside.Goals as goal

pub returns : goal.returns
unfolding word_at
returns c = (rw (c.byte_inside.ensures.0, c.byte_inside-2.ensures.0), omega arith)
