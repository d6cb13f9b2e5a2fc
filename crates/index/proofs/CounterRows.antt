-- Each side of a pair of variables has its own row of counters.
use Prim.Native.Nat.{ℕ, ◌*◌, ◌-◌, ◌<◌, ◌≤◌}
use mathlib.Core.Path.{◌≡◌, ap}
use native.Mathlib.Omega.{arith}
use borrow.Author.Tests.{lt-ltb, le-ltb}
use Rattle.base.specs.Below.{one}
use Rattle.cells.specs.Layout.{PAIRS}
use Rattle.cells.specs.Memory.{Mem}
use Rattle.cells.specs.View.{counter_row}

module _ (m : Mem) (x y : ℕ) where
  pub row_higher : 0 < m PAIRS x y → y < x → counter_row m x y ≡ 2 * m PAIRS x y
  unfolding counter_row
  row_higher low h = omega (arith, ap one (lt-ltb y x h))

  pub row_lower : x ≤ y → counter_row m x y ≡ 2 * m PAIRS x y - 1
  unfolding counter_row
  row_lower h = omega (arith, ap one (le-ltb y x h))
