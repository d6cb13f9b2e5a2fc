-- How many list cells rows take: as many as a row has words, each.
use Prim.Native.Nat.{ℕ, ◌*◌}
use mathlib.Core.List.{List}
use mathlib.Core.Path.{◌≡◌}
use lib.ListN.{length}
use Rattle.base.proofs.Below.{gather_even}
use Rattle.base.proofs.Digits.{length_digits}
use Rattle.base.specs.Below.{gather_below}
use Rattle.format.specs.Limits.{word_bits}
use Rattle.format.specs.Lists.{row_cells}

module _ (words : ℕ) (row : ℕ → ℕ) where
  -- one row
  pub cells_each : (x : ℕ) → length (row_cells words (row x)) ≡ words
  unfolding row_cells
  cells_each x = length_digits word_bits words (row x)

  -- the cells of the first `k` rows
  abbrev pub first_rows : ℕ → List ℕ
  first_rows k = gather_below k (λ x. row_cells words (row x))

  pub cells_first : (k : ℕ) → length (first_rows k) ≡ words * k
  cells_first k = gather_even k words (λ x. row_cells words (row x)) cells_each
