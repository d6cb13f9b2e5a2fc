-- `domains::push_code` puts nothing where the row's lowest bit is not set. Assumes nothing.
use Prim.Native.Nat.{◌%◌}
use borrow.Author.Tests.{ne_eqb}
use Rattle.buffer.proofs.Puts.{takes_none}
use Rattle.domains.proofs.push_code.Goals as goal

pub returns-else-row-eq1 : goal.returns-else-row-eq1
returns-else-row-eq1 c = rw (ne_eqb (c.args.row % 2) 1 c.if-row-eq1.false) takes_none
