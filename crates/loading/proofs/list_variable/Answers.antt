-- `loading::list_variable` lists a variable's values by its counters. Assumes nothing.
use Prim.Native.Nat.{ℕ}
use mathlib.Core.Path.{◌∙◌, ap}
use Rattle.disac4.specs.System.{system_at}
use Rattle.cells.specs.Memory.{mem_of}
use Rattle.loading.specs.Load.{list_values_m, list_variable_m}
use Rattle.loading.proofs.list_variable.Goals as goal

pub returns : goal.returns
unfolding list_variable_m
returns c =
    let a = c.args in
    c.list_values.ensures
    ∙ ap (λ (row : ℕ). list_values_m (system_at a.plan.now) a.x row (mem_of a.cells.now)) c.supported_row-row.ensures
