-- How rows of values stand in list cells, one variable's behind the other's.
use Rattle.std.specs.Prelude.{ℕ, ◌+◌, ◌*◌, ◌<◌, ◌≤◌, ◌&&◌, List, ◌++◌, ◌≡◌, take, drop}
use Rattle.base.specs.Row.{bit}
use Rattle.disac4.specs.Report.{row_from}
use Rattle.format.specs.Limits.{word_bits}
use Rattle.format.specs.Lists.{row_cells, row_in}
use Rattle.network.specs.Network.{Network, Domains, loaded}

-- the cells with another row of variable `x`, of so many words
unfoldable pub put_row : ℕ → ℕ → ℕ → List ℕ → List ℕ
put_row words x row cells = take (words * x) cells ++ (row_cells words row ++ drop (words * x + words) cells)

-- rows of so many words have a bit for each value
abbrev pub WideEnough : ℕ → Network → Type 0
WideEnough words net = (x : ℕ) → x < net.variables → net.size x ≤ word_bits * words

-- the cells hold these domains
unfoldable pub Shows : ℕ → Network → Domains → List ℕ → Type 0
Shows words net d cells = (x : ℕ) → x < net.variables → row_in words cells x ≡ row_from net d x

-- the domains that cells hold: bit `v` of the row of `x`, for each label of the plan
unfoldable pub listed_in : ℕ → Network → List ℕ → Domains
listed_in words net cells x v = loaded net x v && bit (row_in words cells x) v
