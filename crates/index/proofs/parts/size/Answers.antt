-- `index::parts::size` gives how many values a variable has. Assumes nothing.
use Prim.Native.Nat.{suc}
use mathlib.Core.Path.{◌≡◌, sym, ◌∙◌, ap}
use native.Mathlib.Numerals.{add-one}
use native.Mathlib.Omega.{arith}
use Rattle.index.proofs.Places.{few_sections, few_values}
use Rattle.plan.proofs.Parts.{size_read}
use Rattle.format.specs.Format.{size_at, numbered_size}
use Rattle.index.proofs.parts.size.Goals as goal

pub overflow_add-x : goal.overflow_add-x
overflow_add-x c = omega (arith, few_sections c.args.plan.now c.requires.0.sound)

pub returns : goal.returns
returns c =
    let b = c.args.plan.now in
    let e : c.size.result ≡ numbered_size b (suc c.args.x) =
    c.size.ensures.0 ∙ ap (size_at b) c.place.ensures.start ∙ ap (numbered_size b) (add-one c.args.x) in (
      e ∙ sym (size_read b c.args.x c.requires.1),
      omega (arith, few_values b c.requires.0.sound c.args.x c.requires.1),
    )
