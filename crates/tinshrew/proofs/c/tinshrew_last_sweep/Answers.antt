-- `tinshrew::c::tinshrew_last_sweep` writes the numbers that tell the part that `last_sweep` returns. Assumes nothing.
use Prim.Native.Nat.{ℕ}
use mathlib.Core.List.{List}
use mathlib.Core.Path.{◌∙◌, ap}
use lib.ListN.{length}
use Rattle.numbers.specs.Numbers.{part_numbers}
use Rattle.tinshrew.proofs.c.tinshrew_last_sweep.Goals as goal

pub returns : goal.returns
returns c =
    c.part_numbers.ensures
    ∙ ap (λ (part : List ℕ). part_numbers c.args.sweeps (length part)) c.last_sweep.ensures
