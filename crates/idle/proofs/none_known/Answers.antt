-- `idle::none_known` gives a table with no flag set. Assumes nothing.
use Prim.Native.Nat.{◌+◌, ◌*◌}
use mathlib.Core.Bool.{false}
use mathlib.Core.Path.{refl}
use native.Mathlib.Omega.{arith}
use lib.ListN.{get_or-replicate}
use Rattle.flags.specs.Flags.{actions, cell_count}
use Rattle.idle.proofs.none_known.Goals as goal

pub returns : goal.returns
returns c = (refl, λ k d h e. get_or-replicate cell_count (k * actions + d) false false (omega arith))
