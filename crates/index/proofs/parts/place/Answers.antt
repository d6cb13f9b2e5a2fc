-- `index::parts::place` reads where a section starts. Assumes nothing.
use mathlib.Core.Path.{refl, ◌∙◌}
use native.Mathlib.Omega.{arith}
use Rattle.cells.proofs.Ranges.{may_get}
use Rattle.index.proofs.Places.{few_sections, start_inside}
use Rattle.index.proofs.parts.place.Goals as goal

pub get-requires : goal.get-requires
get-requires c =
    may_get _ _ _ refl _ (omega (arith, c.requires.0.long, c.requires.1, few_sections c.args.plan.now c.requires.0.sound))

pub returns : goal.returns
returns c =
    let b = c.args.plan.now in
    let start = c.get.ensures.0 ∙ c.requires.0.places c.args.k (omega (arith, c.requires.1)) in
    record {
      start = start;
      within = omega (arith, start, start_inside b c.requires.0.sound c.args.k (omega (arith, c.requires.1)));
    }
