-- Reads past the end of the bytes give 0; and a number read word after word.
use Prim.Native.Nat.{ℕ, zero, suc, ◌+◌, ◌*◌, ◌≤◌}
use mathlib.Core.List.{List}
use mathlib.Core.Path.{◌≡◌, refl, ◌∙◌, ap}
use native.Mathlib.Omega.{arith}
use lib.ListN.{length, get_or, get_or-eq_default}
use Rattle.base.specs.Bytes.{byte_at, word_at}
use Rattle.base.specs.Digits.{number_of, number_at}

pub byte_at_past : (b : List ℕ) (i : ℕ) → length b ≤ i → byte_at b i ≡ 0
unfolding byte_at
byte_at_past b i h = get_or-eq_default b 0 h

pub word_at_past : (b : List ℕ) (i : ℕ) → length b ≤ i → word_at b i ≡ 0
unfolding word_at
word_at_past b i h = omega (arith, byte_at_past b i h, byte_at_past b (i + 1) (omega arith))

-- a word more is two bytes more
pub number_word : (b : List ℕ) (i k : ℕ) → number_at 8 b i (2 * k) * 65536 + word_at b (i + 2 * k) ≡ number_at 8 b i (2 * (k + 1))
unfolding number_at word_at byte_at
number_word b i k =
    let e : suc (suc (2 * k)) ≡ 2 * (k + 1) = omega arith in
    let f : i + 2 * k + 1 ≡ i + suc (2 * k) = omega arith in
    omega (arith, ap (λ (j : ℕ). get_or b j 0) f) ∙ ap (number_at 8 b i) e

-- so words one after the other make the number of their bytes
pub number_words : (b : List ℕ) (i n : ℕ) → number_of 16 (λ k. word_at b (i + 2 * k)) n ≡ number_at 8 b i (2 * n)
unfolding number_at
number_words b i zero = refl
number_words b i (suc n) =
    let e : 2 * (n + 1) ≡ 2 * suc n = omega arith in
    ap (λ (m : ℕ). m * 65536 + word_at b (i + 2 * n)) (number_words b i n) ∙ number_word b i n ∙ ap (number_at 8 b i) e
