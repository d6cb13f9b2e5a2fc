-- `counting::count_variable` counts a variable and each one before it. Invariant: the first y of them are counted. Assumes
-- nothing.
use native.Mathlib.Omega.{arith}
use Rattle.cells.proofs.Done.{done_none, done_more, done_all}
use Rattle.counting.proofs.Kept.{counters_alone, both_else}
use Rattle.counting.specs.Count.{count_variable_m}
use Rattle.index.proofs.Kept.{ready_done}
use Rattle.counting.proofs.count_variable.Goals as goal

pub loop-y-init : goal.loop-y-init
loop-y-init c = done_none

pub count_both-requires : goal.count_both-requires
count_both-requires c = (
  ready_done c.args.plan.now c.requires.0 c.loop-y.invariant (λ y m. counters_alone (both_else _ y c.args.x m)),
  omega (arith, c.loop-y-test.true, c.requires.1),
  c.requires.1,
)

pub loop-y-preserved : goal.loop-y-preserved
loop-y-preserved c =
    done_more c.loop-y.invariant c.count_both.auto.cells c.count_both.ensures

pub returns : goal.returns
unfolding count_variable_m
returns c = done_all _ c.loop-y.invariant (omega arith)
