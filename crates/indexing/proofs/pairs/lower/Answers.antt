-- `indexing::pairs::lower` puts a limit for a pair, unless one stands there that is as low. Assumes nothing.
use Rattle.cells.specs.Memory.{mem_of}
use Rattle.index.proofs.Stages.{lower_passed, lower_put}
use Rattle.indexing.proofs.pairs.lower.Goals as goal

pub returns-then-not-is_low : goal.returns-then-not-is_low
returns-then-not-is_low c =
    let a = c.args in
    lower_put a.p a.limit (mem_of a.cells.now) _ c.is_low.ensures c.if-not-is_low.true _ _ c.put.ensures c.put-then-not-is_low.ensures

pub returns-else-not-is_low : goal.returns-else-not-is_low
returns-else-not-is_low c =
    let a = c.args in
    lower_passed a.p a.limit (mem_of a.cells.now) _ c.is_low.ensures c.if-not-is_low.false
