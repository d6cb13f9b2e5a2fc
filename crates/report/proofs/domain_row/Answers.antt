-- `report::domain_row` gives the row of a variable's domain. Assumes nothing.
use mathlib.Core.Path.{refl}
use native.Mathlib.Omega.{arith}
use Rattle.cells.proofs.Ranges.{may_get}
use Rattle.index.proofs.Places.{few_sections}
use Rattle.report.proofs.domain_row.Goals as goal

pub row_holding-requires : goal.row_holding-requires
row_holding-requires c =
    (may_get _ _ _ refl _ (omega (arith, few_sections c.args.plan.now c.requires.0.sound, c.requires.0.long, c.requires.1)), c.size-values.ensures.1)
