-- `loading::list_plan` lists the values of all variables. Invariant: those of the first x are listed. Assumes nothing.
use native.Mathlib.Omega.{arith}
use Rattle.cells.proofs.Done.{done_none, done_more, done_all}
use Rattle.index.proofs.Kept.{ready_done}
use Rattle.loading.proofs.Kept.{index_behind, list_variable_kept}
use Rattle.index.proofs.Labels.{variables_are}
use Rattle.loading.specs.Load.{list_m}
use Rattle.loading.proofs.list_plan.Goals as goal

pub loop-x-init : goal.loop-x-init
loop-x-init c = done_none

pub list_variable-requires : goal.list_variable-requires
list_variable-requires c = (
  ready_done c.args.plan.now c.requires c.loop-x.invariant (λ x m. index_behind (list_variable_kept _ x m)),
  omega (arith, c.variable_count-n.ensures.0),
)

pub loop-x-preserved : goal.loop-x-preserved
loop-x-preserved c =
    done_more c.loop-x.invariant c.list_variable.auto.cells c.list_variable.ensures

pub returns : goal.returns
unfolding list_m
returns c =
    done_all _ c.loop-x.invariant (omega (arith, c.variable_count-n.ensures.0, variables_are c.args.plan.now))
