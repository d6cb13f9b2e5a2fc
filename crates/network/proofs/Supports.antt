-- The count of a label's supports.
use Prim.Native.Nat.{ℕ}
use mathlib.Core.Path.{◌≡◌}
use Rattle.base.proofs.Row.{row_count_counts}
use Rattle.base.specs.Below.{count_below}
use Rattle.network.specs.Network.{Network, supports, support_count}

-- the count by rows is the number of the label's supports
pub support_count_lem : (net : Network) (x v y : ℕ) → support_count net x v y ≡ count_below (net.size y) (supports net x v y)
unfolding support_count
support_count_lem net x v y = row_count_counts (net.size y) (supports net x v y)
