-- `index::parts::owner` reads a variable's owner at the variable's place. Assumes nothing.
use mathlib.Core.Path.{◌∙◌, ap}
use native.Mathlib.Numerals.{add-one}
use native.Mathlib.Omega.{arith}
use Rattle.format.specs.Format.{section_start}
use Rattle.index.proofs.Labels.{owner_there}
use Rattle.index.proofs.Places.{few_sections}
use Rattle.index.proofs.parts.owner.Goals as goal

pub overflow_add-x : goal.overflow_add-x
overflow_add-x c = omega (arith, few_sections c.args.plan.now c.requires.0.sound)

pub returns : goal.returns
returns c =
    let b = c.args.plan.now in
    owner_there b c.requires.0.sound c.args.x _ _ c.requires.1
    (c.place.ensures.start ∙ ap (section_start b) (add-one c.args.x)) c.owner.ensures.0
