use Prim.Native.Nat.{ℕ, ◌^◌, ◌<◌, ◌≤◌}
use mathlib.Core.Path.{◌≡◌}
use lib.ListN.{length}
use Rattle.cells.specs.Memory.{Mem, mem_of}
use Rattle.cells.specs.View.{counter_row}
use Rattle.treating.specs.Treat.{lose_row_m}
use Rattle.treating.proofs.lose_values.Given as goal

-- what is left of the row and the counters' row, against those at the start
pub record Left (n i x y losing row : ℕ) (m₀ : Mem) (rest : ℕ) (m : Mem) : Type 0 where
  pub counted : row ≡ counter_row m x y
  pub same : lose_row_m n i x y rest m ≡ lose_row_m n i x y losing m₀

abbrev pub invariant-loop-rest : goal.invariant-loop-rest
invariant-loop-rest l =
    (l.rest ≤ l.losing) × (length l.cells ≡ length l.initial.cells)
    × ((n y : ℕ) → l.losing < 2 ^ n → l.row ≡ counter_row (mem_of l.initial.cells) l.x y → Left n l.i l.x y l.losing l.row (mem_of l.initial.cells) l.rest (mem_of l.cells))

abbrev pub decreases-loop-rest : goal.decreases-loop-rest
decreases-loop-rest l = l.rest
