-- `counting::count_supports` counts each two variables. Invariant: each two of the first x are counted. Assumes nothing.
use native.Mathlib.Omega.{arith}
use Rattle.cells.proofs.Done.{done_none, done_more, done_all}
use Rattle.counting.proofs.Kept.{counters_alone, variable_else}
use Rattle.counting.specs.Count.{count_supports_m}
use Rattle.index.proofs.Kept.{ready_done}
use Rattle.index.proofs.Labels.{variables_are}
use Rattle.counting.proofs.count_supports.Goals as goal

pub loop-x-init : goal.loop-x-init
loop-x-init c = done_none

pub count_variable-requires : goal.count_variable-requires
count_variable-requires c = (
  ready_done c.args.plan.now c.requires c.loop-x.invariant (λ x m. counters_alone (variable_else _ x m)),
  omega (arith, c.loop-x-test.true, c.variable_count-n.ensures.0),
)

pub loop-x-preserved : goal.loop-x-preserved
loop-x-preserved c =
    done_more c.loop-x.invariant c.count_variable.auto.cells c.count_variable.ensures

pub returns : goal.returns
unfolding count_supports_m
returns c =
    done_all _ c.loop-x.invariant (omega (arith, c.variable_count-n.ensures.0, variables_are c.args.plan.now))
