-- Laws of numbers made of several parts, for parts of any number of bits and any number of them.
use Prim.Native.Nat.{ℕ, zero, suc, ◌+◌, ◌-◌, ◌*◌, ◌/◌, ◌%◌, ◌^◌, ◌<◌}
use mathlib.Core.List.{List, [], ◌∷◌, ◌++◌}
use mathlib.Core.Path.{◌≡◌, refl, ◌∙◌, ap, ap₂}
use native.Mathlib.Nat.{not-suc-le-zero, le_step, le_refl, le_of_suc-le-suc, mul-le-mul_right, mul-zero, mul-suc}
use native.Mathlib.Omega.{arith}
use lib.ListN.{length, get_or, length-append, get_or-append}
use lib.Pow.{pow-add, shr_lt, split}
use lib.Seq.{get_or_at}
use Rattle.base.proofs.Row.{bit_low, bit_high}
use Rattle.base.specs.Digits.{number_at, digits}
use Rattle.base.specs.Row.{bit}

module _ (bits : ℕ) where
  -- one part more is so many bits more
  wider : (k : ℕ) → 2 ^ (bits * suc k) ≡ 2 ^ (bits * k) * 2 ^ bits
  wider k = ap (λ (n : ℕ). 2 ^ n) (mul-suc bits k ∙ omega arith) ∙ pow-add 2 (bits * k) bits

  -- no part has no bit
  empty : 2 ^ (bits * 0) ≡ 1
  empty = ap (λ (n : ℕ). 2 ^ n) (mul-zero bits)

  -- equal parts make equal numbers
  pub number_same : (l m : List ℕ) (i j k : ℕ) → ((d : ℕ) → d < k → get_or l (i + d) 0 ≡ get_or m (j + d) 0)
      → number_at bits l i k ≡ number_at bits m j k
  unfolding number_at
  number_same l m i j zero h = refl
  number_same l m i j (suc k) h =
      ap₂ (λ (n d : ℕ). n * 2 ^ bits + d) (number_same l m i j k (λ d p. h d (le_step p))) (h k (le_refl (suc k)))

  -- a number has the bits of its parts together
  pub number_small : (l : List ℕ) (i k : ℕ) → ((d : ℕ) → d < k → get_or l (i + d) 0 < 2 ^ bits) → number_at bits l i k < 2 ^ (bits * k)
  unfolding number_at
  number_small l i zero h = omega (arith, empty)
  number_small l i (suc k) h =
      omega (
        arith,
        wider k,
        mul-le-mul_right (2 ^ bits) (number_small l i k (λ d p. h d (le_step p))),
        h k (le_refl (suc k)),
      )

  -- a bit of a number stands in the part that has it
  pub number_bit : (l : List ℕ) (i k : ℕ) → ((d : ℕ) → d < k → get_or l (i + d) 0 < 2 ^ bits) → (part v : ℕ) → part < k → v < bits
      → bit (number_at bits l i k) (bits * part + v) ≡ bit (get_or l (i + (k - 1 - part)) 0) v
  unfolding number_at
  number_bit l i zero h part v p q = absurd (not-suc-le-zero p)
  number_bit l i (suc k) h zero v p q =
      let e : bits * 0 + v ≡ v = omega (arith, mul-zero bits) in
      let f : k ≡ suc k - 1 - 0 = omega arith in
      ap (bit (number_at bits l i (suc k))) e
      ∙ bit_low bits (number_at bits l i k) (get_or l (i + k) 0) v q
      ∙ ap (λ (n : ℕ). bit (get_or l (i + n) 0) v) f
  number_bit l i (suc k) h (suc part) v p q =
      let e : bits * suc part + v ≡ bits + (bits * part + v) = omega (arith, mul-suc bits part) in
      let f : k - 1 - part ≡ suc k - 1 - suc part = omega arith in
      ap (bit (number_at bits l i (suc k))) e
      ∙ bit_high bits (number_at bits l i k) (get_or l (i + k) 0) (bits * part + v) (h k (le_refl (suc k)))
      ∙ number_bit l i k (λ d s. h d (le_step s)) part v (le_of_suc-le-suc p) q
      ∙ ap (λ (n : ℕ). bit (get_or l (i + n) 0) v) f

  pub length_digits : (k n : ℕ) → length (digits bits k n) ≡ k
  unfolding digits
  length_digits zero n = refl
  length_digits (suc k) n = rw length-append (omega (arith, length_digits k (n / 2 ^ bits)))

  -- a number that fits is made of its parts
  pub number_digits : (k n : ℕ) → n < 2 ^ (bits * k) → number_at bits (digits bits k n) 0 k ≡ n
  unfolding number_at digits
  number_digits zero n h = omega (arith, empty)
  number_digits (suc k) n h =
      let up = n / 2 ^ bits in
      let low = n % 2 ^ bits in
      let front : (d : ℕ) → d < k → get_or (digits bits k up ++ (low ∷ [])) (0 + d) 0 ≡ get_or (digits bits k up) (0 + d) 0 =
      λ d p. get_or-append (digits bits k up) (low ∷ []) 0 (0 + d) (omega (arith, length_digits k up)) in
      let small : up < 2 ^ (bits * k) = shr_lt (bits * k) bits (omega (arith, wider k, pow-add 2 (bits * k) bits)) in
      ap₂ (λ (a c : ℕ). a * 2 ^ bits + c)
      (number_same (digits bits k up ++ (low ∷ [])) (digits bits k up) 0 0 k front ∙ number_digits k up small)
      (get_or_at (digits bits k up) low [] 0 (0 + k) (length_digits k up ∙ omega arith))
      ∙ split n bits
