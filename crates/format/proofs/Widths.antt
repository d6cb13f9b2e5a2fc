-- How wide a row may be, whatever the version.
use Prim.Native.Nat.{ℕ, ◌+◌, ◌*◌, ◌^◌, ◌<◌, ◌≤◌}
use mathlib.Core.Bool.{Bool, true, false, cond}
use mathlib.Core.List.{List}
use mathlib.Core.Path.{◌≡◌, ap}
use native.Mathlib.Nat.{mul-le-mul_right}
use native.Mathlib.Omega.{arith}
use lib.Dec.{eqb}
use lib.Pow.{pow-add, pow_mono}
use Rattle.format.specs.Format.{rows_room}
use Rattle.format.specs.Limits.{word_bits, word_bytes, max_words, max_values}
use Rattle.format.specs.Version.{version, row_words, max_size, row_bytes}

-- a number of words and one word more
module _ (row k word : ℕ) (small : row < 2 ^ (word_bits * k)) (low : word < 65536) where
  pub word_more : row * 65536 + word < 2 ^ (word_bits * (k + 1))
  word_more =
      let e : word_bits * (k + 1) ≡ word_bits * k + word_bits = omega arith in
      omega (arith, ap (λ (n : ℕ). 2 ^ n) e, pow-add 2 (word_bits * k) word_bits)

  -- the words of a row together fit 64 bits
  pub word_fits : k < max_words → row * 65536 + word < 2 ^ 64
  word_fits h = omega (arith, word_more, pow_mono {i = word_bits * (k + 1)} {j = 64} (omega arith))

module _ (b : List ℕ) where
  -- a row has a word, and no more of them than there is room for
  pub words_range : (1 ≤ row_words b) × (row_words b ≤ max_words)
  unfolding row_words
  words_range = go (eqb (version b) 2)
    where
      go : (t : Bool) → (1 ≤ cond t 2 1) × (cond t 2 1 ≤ max_words)
      go true = (omega arith, omega arith)
      go false = (omega arith, omega arith)

  -- so a slot has no more dishes than there is room for
  pub size_range : max_size b ≤ max_values
  size_range = omega (arith, words_range)

  -- the rows before that of dish `v`, a number of a byte, take no more than 256 rows
  pub rows_short : (bytes v : ℕ) → bytes ≡ row_bytes b → v < 256 → bytes * v ≤ rows_room
  rows_short bytes v e h =
      let few : bytes ≤ word_bytes * max_words = omega (arith, words_range.1) in
      omega (arith, mul-le-mul_right v few)
