-- Rows of bits: the set of the values `w` whose bit is set, lowest bit for value 0. Everything holds at any width.
use Rattle.std.specs.Prelude.{ℕ, zero, suc, ◌-◌, ◌*◌, ◌/◌, ◌%◌, ◌^◌, Bool, cond, eqb}
use Rattle.base.specs.Below.{sum_below}

-- the lowest bit is set
abbrev pub is_odd : ℕ → Bool
is_odd r = eqb (r % 2) 1

-- value `w` is in the row
unfoldable pub bit : ℕ → ℕ → Bool
bit r w = is_odd (r / 2 ^ w)

-- the row of the values below `n` that pass the test
unfoldable pub row_of : ℕ → (ℕ → Bool) → ℕ
row_of n t = sum_below n (λ w. cond (t w) (2 ^ w) 0)

-- a row of values below `width` without its lowest one
unfoldable pub without_lowest : ℕ → ℕ → ℕ
without_lowest zero r = 0
without_lowest (suc width) r = cond (is_odd r) (r - 1) (2 * without_lowest width (r / 2))

-- Document 01: "a row of supports without a dish counts 0, any other row counts one more than the row without its
-- lowest dish". The second number bounds the calls: a row has at most `width` values.
unfoldable pub row_count_in : ℕ → ℕ → ℕ → ℕ
row_count_in width zero r = 0
row_count_in width (suc calls) r = cond (eqb r 0) 0 (suc (row_count_in width calls (without_lowest width r)))

-- how many values a row has, counted in this way; so loading counts supports
unfoldable pub row_count : ℕ → ℕ → ℕ
row_count width r = row_count_in width width r
