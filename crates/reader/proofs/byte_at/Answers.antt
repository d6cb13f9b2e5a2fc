-- `reader::byte_at` gives the byte at a place, 0 past the end. Assumes nothing.
use mathlib.Core.Path.{sym}
use native.Mathlib.Omega.{arith}
use Rattle.base.proofs.Bytes.{byte_at_past}
use Rattle.reader.proofs.byte_at.Goals as goal

pub returns-else-at-b : goal.returns-else-at-b
returns-else-at-b c = (sym (byte_at_past c.args.b.now c.args.at c.if-at-b.false), omega arith)
