-- `loading::list_values` lists the values of a variable. Assumes nothing.
use mathlib.Core.Bool.{Bool}
use mathlib.Core.Path.{◌∙◌, ap}
use native.Mathlib.Omega.{arith}
use Rattle.disac4.specs.System.{system_at}
use Rattle.cells.proofs.Done.{done_none, done_more, done_all}
use Rattle.cells.specs.Memory.{mem_of}
use Rattle.index.proofs.Kept.{ready_done}
use Rattle.index.proofs.Labels.{size_is}
use Rattle.loading.proofs.Kept.{index_behind, list_label_kept}
use Rattle.loading.specs.Load.{list_label_m, list_values_m}
use Rattle.loading.proofs.list_values.Goals as goal

pub loop-v-init : goal.loop-v-init
loop-v-init c = done_none

pub list_label-requires : goal.list_label-requires
list_label-requires c = (
  ready_done c.args.plan.now c.requires.0 c.loop-v.invariant (λ v m. index_behind (list_label_kept _ c.args.x v _ m)),
  record { variable = c.requires.1; value = omega (arith, c.loop-v-test.true, c.size-n.ensures.0) },
)

pub loop-v-preserved : goal.loop-v-preserved
loop-v-preserved c =
    let a = c.args in
    done_more c.loop-v.invariant c.list_label.auto.cells
    (c.list_label.ensures
    ∙ ap (λ (t : Bool). list_label_m (system_at a.plan.now) a.x c.loop-v.v t (mem_of c.loop-v.cells))
    c.row_holds.ensures)

pub returns : goal.returns
unfolding list_values_m
returns c =
    let a = c.args in
    done_all _ c.loop-v.invariant (omega (arith, c.size-n.ensures.0, size_is a.plan.now a.x))
