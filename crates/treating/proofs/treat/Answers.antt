-- `treating::treat` treats the oldest label of a work list. Assumes nothing.
use mathlib.Core.Path.{◌∙◌, ap}
use native.Mathlib.Omega.{arith}
use Rattle.disac4.specs.System.{system_at}
use Rattle.cells.proofs.RegionsKept.{kept_same, kept_stored}
use Rattle.index.proofs.Kept.{ready_kept}
use Rattle.cells.proofs.Acting.{idle, acts}
use Rattle.treating.proofs.TreatLaws.{treat_goes, treat_idle, head_loaded}
use Rattle.cells.specs.Layout.{WORKERS, HEAD}
use Rattle.cells.specs.Memory.{mem_of}
use Rattle.treating.specs.Treat.{touch_variables_m}
use Rattle.treating.proofs.treat.Goals as goal

pub returns-then-head-tail : goal.returns-then-head-tail
returns-then-head-tail c = idle _ _ (treat_idle _ _ _ (λ has. omega arith))

pub touch_variables-requires : goal.touch_variables-requires
touch_variables-requires c = (
  ready_kept c.args.plan.now c.args.cells.now _ c.requires.0 c.put.auto.cells c.put.ensures
      (kept_stored WORKERS c.args.i HEAD _ (omega arith) kept_same),
  c.requires.1,
  head_loaded c.args.plan.now c.args.i (mem_of c.args.cells.now) c.get-head.ensures.0
      c.get-tail.ensures.0 c.if-head-tail.false c.get-c.ensures.0 c.requires.2,
)

pub returns : goal.returns
returns c =
    let a = c.args in
    let sys = system_at a.plan.now in
    acts _ _ _ _
    (treat_goes sys a.i _ c.get-head.ensures.0 c.get-c.ensures.0 (record {
      untreated = omega (arith, c.get-head.ensures.0, c.get-tail.ensures.0, c.if-head-tail.false);
      head_room = omega (arith, c.get-head.ensures.0, c.if-head-ge-LABELROOM.false);
    }))
    (c.touch_variables.ensures ∙ ap (touch_variables_m sys a.i _ _) c.put.ensures)
