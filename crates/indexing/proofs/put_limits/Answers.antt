-- `indexing::put_limits` puts a limit over each two variables of its scope. Invariant: over each two of the first j. Assumes nothing.
use native.Mathlib.Omega.{arith}
use Rattle.cells.proofs.Done.{done_none, done_more, done_all}
use Rattle.index.specs.Index.{limits_m}
use Rattle.indexing.proofs.put_limits.Goals as goal

pub loop-j-init : goal.loop-j-init
loop-j-init c = done_none

pub loop-j-preserved : goal.loop-j-preserved
loop-j-preserved c =
    done_more c.loop-j.invariant c.put_beside.auto.cells c.put_beside.ensures

pub returns : goal.returns
unfolding limits_m
returns c = done_all _ c.loop-j.invariant (omega (arith, c.further_count-size.ensures.0))
