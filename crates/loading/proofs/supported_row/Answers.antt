-- `loading::supported_row` gives the row of the values that have no counter of 0. Invariant: the row holds those that suit
-- the first y variables. Assumes nothing.
use mathlib.Core.Path.{◌≡◌, ◌∙◌}
use native.Mathlib.Omega.{arith}
use Rattle.cells.specs.Memory.{mem_of}
use Rattle.disac4.specs.System.{system_at}
use Rattle.index.proofs.Labels.{variables_are, size_is}
use Rattle.loading.proofs.LoadLaws.{suited_all}
use Rattle.loading.proofs.supported_row.Goals as goal

pub loop-y-init : goal.loop-y-init
loop-y-init c =
    let a = c.args in
    suited_all (system_at a.plan.now) (mem_of a.cells.now) a.x c.power-row.result c.size.result
    (c.size.ensures.0 ∙ size_is a.plan.now a.x) c.power-row.ensures

pub returns : goal.returns
returns c =
    let b = c.args.plan.now in
    let e : c.loop-y.y ≡ (system_at b).net.variables =
    omega (arith, c.variable_count-n.ensures.0, variables_are b) in
    rw e at c.loop-y.invariant
