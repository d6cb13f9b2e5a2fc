-- `loading::load_plan` counts the supports, then lists the values. Assumes nothing.
use mathlib.Core.Path.{◌∙◌, ap}
use Rattle.counting.proofs.Kept.{counters_alone, count_else}
use Rattle.disac4.specs.System.{system_at}
use Rattle.index.proofs.Kept.{ready_kept}
use Rattle.loading.specs.Load.{list_m, load_m}
use Rattle.loading.proofs.load_plan.Goals as goal

pub list_plan-requires : goal.list_plan-requires
list_plan-requires c =
    ready_kept c.args.plan.now c.args.cells.now _ c.requires c.count_supports.auto.cells
    c.count_supports.ensures
    (counters_alone (count_else _ _))

pub returns : goal.returns
unfolding load_m
returns c =
    let a = c.args in
    c.list_plan.ensures ∙ ap (list_m (system_at a.plan.now)) c.count_supports.ensures
