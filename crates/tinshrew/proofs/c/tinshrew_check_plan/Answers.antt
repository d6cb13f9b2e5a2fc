-- `tinshrew::c::tinshrew_check_plan` writes the numbers of the plan check. Assumes nothing.
use mathlib.Core.Path.{◌∙◌, ap}
use Rattle.numbers.specs.Numbers.{checked_numbers}
use Rattle.tinshrew.proofs.c.tinshrew_check_plan.Goals as goal

pub returns : goal.returns
returns c = c.checked_numbers.ensures ∙ ap checked_numbers c.check_plan.ensures
