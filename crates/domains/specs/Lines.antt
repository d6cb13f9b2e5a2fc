-- The lines of the variables' domains, as ASCII bytes.
use Rattle.std.specs.Prelude.{ℕ, suc, cond, List, [], ◌∷◌, ◌++◌, length}
use Rattle.base.specs.Below.{gather_below}
use Rattle.base.specs.Row.{bit}
use Rattle.format.specs.Lists.{row_in}
use Rattle.plan.specs.Plan.{Plan, variable_of, value_of, size_of}
use Rattle.buffer.specs.Decimal.{decimal, spaced}

-- the end of each line
abbrev pub newline : List ℕ
newline = 10 ∷ []

-- what stands behind a slot's kitchen
abbrev pub colon : List ℕ
colon = 58 ∷ []

-- each listed code after a space; the row has a bit for each listed value
unfoldable pub listed_codes : ℕ → (ℕ → ℕ) → ℕ → List ℕ
listed_codes size code row = gather_below size (λ v. cond (bit row v) (spaced (code v)) [])

-- the variable's number, its worker, a colon, the listed codes
unfoldable pub domain_line : ℕ → ℕ → ℕ → (ℕ → ℕ) → ℕ → List ℕ
domain_line number owner size code row = decimal number ++ spaced owner ++ colon ++ listed_codes size code row ++ newline

-- the line of variable `x`, whose domain is its row, of so many words, in the list cells
unfoldable pub variable_line : ℕ → Plan → List ℕ → ℕ → List ℕ
variable_line words plan lists x =
    domain_line (suc x) (variable_of plan x).owner (size_of plan x) (λ v. (value_of plan x v).code) (row_in words lists x)

-- a line for each variable, ascending
unfoldable pub variable_lines : ℕ → Plan → List ℕ → List ℕ
variable_lines words plan lists = gather_below (length plan.variables) (variable_line words plan lists)
