-- How a row of values stands in list cells: its 16-bit words, the higher first, in as many cells as a row has words.
use Rattle.std.specs.Prelude.{ℕ, ◌*◌, List}
use Rattle.base.specs.Digits.{number_at, digits}
use Rattle.format.specs.Limits.{word_bits}

-- the cells of a row of so many words
unfoldable pub row_cells : ℕ → ℕ → List ℕ
row_cells words row = digits word_bits words row

-- the row of variable `x`, where each variable has a row of so many words
unfoldable pub row_in : ℕ → List ℕ → ℕ → ℕ
row_in words cells x = number_at word_bits cells (words * x) words
