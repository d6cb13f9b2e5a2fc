-- `indexing::lead` puts a variable in front of a row's chain for another one that it is linked with. Assumes nothing.
use native.Mathlib.Omega.{arith}
use Rattle.cells.specs.Memory.{mem_of}
use Rattle.index.proofs.Leads.{lead_passed, lead_put}
use Rattle.indexing.proofs.lead.Goals as goal

pub returns-then-get-ne0 : goal.returns-then-get-ne0
returns-then-get-ne0 c =
    let a = c.args in
    lead_put a.i a.x a.y (mem_of a.cells.now) _ _ _ _ c.get.ensures.0 c.if-get-ne0.true c.get-first.ensures.0
    c.put.ensures c.put-then-get-ne0.ensures

pub returns-else-get-ne0 : goal.returns-else-get-ne0
returns-else-get-ne0 c =
    let a = c.args in
    lead_passed a.i a.x a.y (mem_of a.cells.now) _ c.get.ensures.0 (omega (arith, c.if-get-ne0.false))
