-- Laws of rows of bits, at any width: which values a row holds, and how many.
use Prim.Native.Nat.{ℕ, zero, suc, ◌+◌, ◌-◌, ◌*◌, ◌/◌, ◌%◌, ◌^◌, ◌<◌, ◌≤◌, min}
use mathlib.Core.Bool.{Bool, true, false, cond, ◌&&◌, ◌||◌, not}
use mathlib.Core.Logic.{⊎_elim}
use mathlib.Core.Path.{◌≡◌, refl, sym, ◌∙◌, ap, ap₂}
use native.Mathlib.Decide.{ℕ_discrete, dec_lt}
use native.Mathlib.Nat.{not-suc-le-zero, le_of_suc-le-suc, two-pow-succ, pow-succ', div-one, div-div-eq-div-mul, div-eq_of_lt}
use native.Mathlib.Omega.{arith}
use borrow.Author.Tests.{eqb-true, eqb-false, eq-eqb, ne_eqb}
use lib.Dec.{eqb}
use lib.Bits.{bit_and, bit_or, and_step, and_le_l, or_step, or_shr}
use lib.Pow.{pow_mono, pow_pos, shr-shr, high}
use Rattle.base.proofs.Below.{some_below, any_below_lem}
use Rattle.base.proofs.Bools.{decided, refuted, or_left}
use Rattle.base.proofs.Choice.{cond_true, cond_false}
use Rattle.base.proofs.Sums.{sum_ext, sum_more, sum_times, sum_first, sum_none, sum_some, count_ext, count_le}
use Rattle.base.specs.Below.{any_below, count_below, one}
use Rattle.base.specs.Row.{is_odd, bit, row_of, without_lowest, row_count_in, row_count}

-- ---- a row by halves: whether it is odd, and the rest

odd_rest : (r : ℕ) → one (is_odd r) ≡ r % 2
odd_rest r =
    ⊎_elim (λ p. ap one p ∙ sym (eqb-true (r % 2) 1 p)) (λ p. ap one p ∙ omega (arith, eqb-false (r % 2) 1 p))
    (decided (is_odd r))

-- odd and even numbers take turns
pub odd_next : (k : ℕ) → is_odd (suc k) ≡ not (is_odd k)
odd_next k =
    ⊎_elim (λ e. ne_eqb (suc k % 2) 1 (λ p. omega (arith, eqb-true (k % 2) 1 e)) ∙ sym (ap not e))
    (λ e. eq-eqb (suc k % 2) 1 (omega (arith, eqb-false (k % 2) 1 e)) ∙ sym (ap not e)) (decided (is_odd k))

-- a row whose lowest bit and rest are known
odd_of : (r q : ℕ) (b : Bool) → r ≡ one b + 2 * q → is_odd r ≡ b
odd_of r q true e = eq-eqb (r % 2) 1 (omega arith)
odd_of r q false e = ne_eqb (r % 2) 1 (λ p. omega arith)

half_of : (r q : ℕ) (b : Bool) → r ≡ one b + 2 * q → r / 2 ≡ q
half_of r q true e = omega arith
half_of r q false e = omega arith

-- value 0 is in the odd rows
pub bit_zero : (r : ℕ) → bit r 0 ≡ is_odd r
unfolding bit
bit_zero r = ap is_odd (div-one r)

-- the other values, moved down by one, are in the row's half
pub bit_suc : (r w : ℕ) → bit r (suc w) ≡ bit (r / 2) w
unfolding bit
bit_suc r w = ap (λ (k : ℕ). is_odd (r / k)) (pow-succ' 2 w) ∙ ap is_odd (sym (div-div-eq-div-mul r 2 (2 ^ w)))

row_halves : (n : ℕ) (t : ℕ → Bool) → row_of (suc n) t ≡ one (t 0) + 2 * row_of n (λ w. t (suc w))
unfolding row_of
row_halves n t =
    sum_first n (λ w. cond (t w) (2 ^ w) 0)
    ∙ ap (λ (k : ℕ). one (t 0) + k)
    (sum_ext n (λ w. cond (t (suc w)) (2 ^ suc w) 0) (λ w. 2 * cond (t (suc w)) (2 ^ w) 0) (λ w p. double w (t (suc w)))
    ∙ sum_times n 2 (λ w. cond (t (suc w)) (2 ^ w) 0))
  where
    double : (w : ℕ) (b : Bool) → cond b (2 ^ suc w) 0 ≡ 2 * cond b (2 ^ w) 0
    double w true = pow-succ' 2 w
    double w false = refl

row_half : (n : ℕ) (t : ℕ → Bool) → row_of (suc n) t / 2 ≡ row_of n (λ w. t (suc w))
row_half n t = half_of (row_of (suc n) t) (row_of n (λ w. t (suc w))) (t 0) (row_halves n t)

pub half_small : (n r : ℕ) → r < 2 ^ suc n → r / 2 < 2 ^ n
half_small n r h = omega (arith, two-pow-succ n)

-- ---- a row in two parts, the lower one of n values

-- the values below n are in the lower part
pub bit_low : (n upper lower v : ℕ) → v < n → bit (upper * 2 ^ n + lower) v ≡ bit lower v
bit_low zero upper lower v h = absurd (not-suc-le-zero h)
bit_low (suc n) upper lower zero h =
    let e : (upper * 2 ^ suc n + lower) % 2 ≡ lower % 2 = omega (arith, ap (λ (k : ℕ). upper * k) (two-pow-succ n)) in
    bit_zero (upper * 2 ^ suc n + lower) ∙ ap (λ (k : ℕ). eqb k 1) e ∙ sym (bit_zero lower)
bit_low (suc n) upper lower (suc v) h =
    let e : (upper * 2 ^ suc n + lower) / 2 ≡ upper * 2 ^ n + lower / 2 =
    omega (arith, ap (λ (k : ℕ). upper * k) (two-pow-succ n)) in
    bit_suc (upper * 2 ^ suc n + lower) v
    ∙ ap (λ (k : ℕ). bit k v) e
    ∙ bit_low n upper (lower / 2) v (le_of_suc-le-suc h)
    ∙ sym (bit_suc lower v)

-- the others, moved down by n, are in the upper part
pub bit_high : (n upper lower v : ℕ) → lower < 2 ^ n → bit (upper * 2 ^ n + lower) (n + v) ≡ bit upper v
unfolding bit
bit_high n upper lower v h =
    ap is_odd (sym (shr-shr (upper * 2 ^ n + lower) n v)) ∙ ap (λ (k : ℕ). is_odd (k / 2 ^ v)) (high upper n h)

-- ---- which values a row holds

-- a row holds exactly the values below its width that pass the test
pub row_bit : (n : ℕ) (t : ℕ → Bool) (w : ℕ) → w < n → bit (row_of n t) w ≡ t w
row_bit zero t w h = absurd (not-suc-le-zero h)
row_bit (suc n) t zero h =
    bit_zero (row_of (suc n) t) ∙ odd_of (row_of (suc n) t) (row_of n (λ w. t (suc w))) (t 0) (row_halves n t)
row_bit (suc n) t (suc w) h =
    bit_suc (row_of (suc n) t) w
    ∙ ap (λ (r : ℕ). bit r w) (row_half n t)
    ∙ row_bit n (λ u. t (suc u)) w (le_of_suc-le-suc h)

-- and so does a number that is this row
pub row_held : (n r : ℕ) (t : ℕ → Bool) → r ≡ row_of n t → (w : ℕ) → w < n → bit r w ≡ t w
row_held n r t e w h = ap (λ (r : ℕ). bit r w) e ∙ row_bit n t w h

-- a row below 2 ^ n, with value n or without, is below the next power
pub put_small : (n r : ℕ) (b : Bool) → r < 2 ^ n → r + cond b (2 ^ n) 0 < 2 ^ suc n
put_small n r true h = omega (arith, two-pow-succ n)
put_small n r false h = omega (arith, two-pow-succ n)

-- a row of n values is below 2 ^ n
pub row_small : (n : ℕ) (t : ℕ → Bool) → row_of n t < 2 ^ n
unfolding row_of
row_small zero t = omega arith
row_small (suc n) t = put_small n (row_of n t) (t n) (row_small n t)

-- a row below 2 ^ n holds no value from n on
pub bit_past : (n r w : ℕ) → r < 2 ^ n → n ≤ w → bit r w ≡ false
unfolding bit
bit_past n r w h l =
    let small : r < 2 ^ w = omega (arith, pow_mono l) in
    ap is_odd (div-eq_of_lt small)

-- tests that agree below the width give the same row
pub row_ext : (n : ℕ) (t u : ℕ → Bool) → ((w : ℕ) → w < n → t w ≡ u w) → row_of n t ≡ row_of n u
unfolding row_of
row_ext n t u h =
    sum_ext n (λ w. cond (t w) (2 ^ w) 0) (λ w. cond (u w) (2 ^ w) 0) (λ w p. ap (λ (b : Bool). cond b (2 ^ w) 0) (h w p))

-- a row is the row of the values that it holds
pub row_of_bits : (n r : ℕ) → r < 2 ^ n → row_of n (bit r) ≡ r
row_of_bits zero r h = none ∙ omega arith
  where
    none : row_of 0 (bit r) ≡ 0
    none = omega (arith, row_small 0 (bit r))
row_of_bits (suc n) r h =
    omega (
      arith,
      row_halves n (bit r),
      ap one (bit_zero r),
      odd_rest r,
      row_ext n (λ w. bit r (suc w)) (bit (r / 2)) (λ w p. bit_suc r w),
      row_of_bits n (r / 2) (half_small n r h),
    )

-- a row of values from n on, counted from there: doubled, it has room for value n
pub row_doubled : (n r : ℕ) (t : ℕ → Bool) → (2 * r + one (t n)) * 2 ^ n + row_of n t ≡ r * 2 ^ suc n + row_of (suc n) t
unfolding row_of
row_doubled n r t = omega (arith, doubled (t n), ap (λ (k : ℕ). r * k) (two-pow-succ n))
  where
    doubled : (b : Bool) → (2 * r + one b) * 2 ^ n ≡ r * (2 * 2 ^ n) + cond b (2 ^ n) 0
    doubled true = omega arith
    doubled false = omega arith

-- a row with one value more
pub row_more : (n r p : ℕ) (t : ℕ → Bool) → r ≡ row_of n t → p ≡ cond (t n) (2 ^ n) 0 → r + p ≡ row_of (n + 1) t
unfolding row_of
row_more n r p t e q = sum_more r p n (λ w. cond (t w) (2 ^ w) 0) e q

-- and below 2 to the power of any width that it fits
pub row_low : (width n : ℕ) (t : ℕ → Bool) → n ≤ width → row_of n t < 2 ^ width
row_low width n t h = omega (arith, row_small n t, pow_mono h)

module _ (n : ℕ) (t : ℕ → Bool) where
  -- an empty row is of no value
  pub row_none : row_of n t ≡ 0 → any_below n t ≡ false
  unfolding row_of
  row_none e =
      refuted (any_below n t) (λ p.
      let r = some_below n t p in
      omega (
        arith,
        sum_none n (λ w. cond (t w) (2 ^ w) 0) e r.0 r.1,
        cond_true (2 ^ r.0) 0 r.2,
        pow_pos r.0,
      ))

  -- any other row has one
  pub row_some : (row_of n t ≡ 0 → ⊥) → any_below n t ≡ true
  unfolding row_of
  row_some h =
      let r = sum_some n (λ w. cond (t w) (2 ^ w) 0) (omega arith) in
      any_below_lem n t r.0 r.1 (held r.0 (t r.0) r.2)
    where
      held : (w : ℕ) (b : Bool) → 0 < cond b (2 ^ w) 0 → b ≡ true
      held w true l = refl
      held w false l = absurd (omega arith)

-- a row is not 0 exactly if some value passes its test
pub row_any : (n : ℕ) (t : ℕ → Bool) → not (eqb (row_of n t) 0) ≡ any_below n t
row_any n t =
    ⊎_elim (λ e. ap not e ∙ sym (row_none n t (eqb-true (row_of n t) 0 e)))
    (λ e. ap not e ∙ sym (row_some n t (eqb-false (row_of n t) 0 e))) (decided (eqb (row_of n t) 0))

-- `2 ^ n - 1` is the row of all values below n
pub row_full : (n : ℕ) → 2 ^ n - 1 ≡ row_of n (λ w. true)
unfolding row_of
row_full zero = refl
row_full (suc n) = omega (arith, row_full n, two-pow-succ n, pow_pos n)

-- the values that fail a test are the rest of all values below n
pub row_rest : (n : ℕ) (t : ℕ → Bool) → 2 ^ n - 1 - row_of n t ≡ row_of n (λ w. not (t w))
unfolding row_of
row_rest zero t = refl
row_rest (suc n) t = omega (arith, row_rest n t, row_small n t, two-pow-succ n, either (t n))
  where
    either : (b : Bool) → cond b (2 ^ n) 0 + cond (not b) (2 ^ n) 0 ≡ 2 ^ n
    either true = omega arith
    either false = omega arith

and_halves : (r q : ℕ) → bit_and r q ≡ one (is_odd r && is_odd q) + 2 * bit_and (r / 2) (q / 2)
and_halves r q = omega (arith, and_step r q, ap₂ min (odd_rest r) (odd_rest q), lower (is_odd r) (is_odd q))
  where
    lower : (a b : Bool) → min (one a) (one b) ≡ one (a && b)
    lower true true = refl
    lower true false = refl
    lower false true = refl
    lower false false = refl

-- `r & q` holds the values that both rows hold
pub bit-bit_and : (r q w : ℕ) → bit (bit_and r q) w ≡ bit r w && bit q w
bit-bit_and r q zero =
    bit_zero (bit_and r q)
    ∙ odd_of (bit_and r q) (bit_and (r / 2) (q / 2)) (is_odd r && is_odd q) (and_halves r q)
    ∙ sym (ap₂ ◌&&◌ (bit_zero r) (bit_zero q))
bit-bit_and r q (suc w) =
    bit_suc (bit_and r q) w
    ∙ ap (λ (k : ℕ). bit k w)
    (half_of (bit_and r q) (bit_and (r / 2) (q / 2)) (is_odd r && is_odd q) (and_halves r q))
    ∙ bit-bit_and (r / 2) (q / 2) w
    ∙ sym (ap₂ ◌&&◌ (bit_suc r w) (bit_suc q w))

-- so `&` of two rows is the row of both tests
pub row_both : (n : ℕ) (t u : ℕ → Bool) → bit_and (row_of n t) (row_of n u) ≡ row_of n (λ w. t w && u w)
row_both n t u =
    sym (row_of_bits n (bit_and (row_of n t) (row_of n u)) (omega (arith, and_le_l (row_of n t) (row_of n u), row_small n t)))
    ∙ row_ext n (bit (bit_and (row_of n t) (row_of n u))) (λ w. t w && u w)
    (λ w h. bit-bit_and (row_of n t) (row_of n u) w ∙ ap₂ ◌&&◌ (row_bit n t w h) (row_bit n u w h))

odd_or : (p q : ℕ) → is_odd (bit_or p q) ≡ is_odd p || is_odd q
odd_or p q =
    ⊎_elim
    (λ e.
    let odd : p % 2 ≡ 1 = eqb-true (p % 2) 1 e in
    eq-eqb (bit_or p q % 2) 1 (omega (arith, or_step p q)) ∙ sym (or_left (is_odd q) e))
    (λ e.
    let even : p % 2 ≡ 0 = omega (arith, eqb-false (p % 2) 1 e) in
    let same : bit_or p q % 2 ≡ q % 2 = omega (arith, or_step p q) in
    ap (λ (k : ℕ). eqb k 1) same ∙ sym (ap (λ (a : Bool). a || is_odd q) e))
    (decided (is_odd p))

-- `r | q` holds the values that either row holds
pub bit-bit_or : (r q w : ℕ) → bit (bit_or r q) w ≡ bit r w || bit q w
unfolding bit
bit-bit_or r q w = ap is_odd (or_shr r q w) ∙ odd_or (r / 2 ^ w) (q / 2 ^ w)

-- a power of 2 holds one value
pub bit_power : (x w : ℕ) → bit (2 ^ x) w ≡ eqb w x
unfolding bit
bit_power x w =
    let whole : 2 ^ x ≡ 1 * 2 ^ x + 0 = omega arith in
    elim (dec_lt w x) [
      | yes l ↦ ap (λ (k : ℕ). bit k w) whole ∙ bit_low x 1 0 w l ∙ bit_past 0 0 w (omega arith) (omega arith) ∙ sym (ne_eqb w x (λ e. omega arith))
      | no l ↦ elim (ℕ_discrete w x) [
        | yes e ↦
            let here : w ≡ x + 0 = omega arith in
            ap (λ (k : ℕ). bit k w) whole ∙ ap (bit (1 * 2 ^ x + 0)) here ∙ bit_high x 1 0 0 (pow_pos x) ∙ sym (eq-eqb w x e)
        | no d ↦ bit_past (suc x) (2 ^ x) w (omega (arith, two-pow-succ x, pow_pos x)) (omega arith) ∙ sym (ne_eqb w x d)
      ]
    ]

-- ---- how many values a row holds

count_halves : (n r : ℕ) → count_below (suc n) (bit r) ≡ r % 2 + count_below n (bit (r / 2))
count_halves n r =
    omega (
      arith,
      sum_first n (λ w. one (bit r w)),
      ap one (bit_zero r),
      odd_rest r,
      count_ext n (λ w. bit r (suc w)) (bit (r / 2)) (λ w p. bit_suc r w),
    )

-- the empty row holds no value
count_empty : (n : ℕ) → count_below n (bit 0) ≡ 0
count_empty zero = refl
count_empty (suc n) = omega (arith, count_halves n 0, count_empty n)

-- a row that is not empty holds one value more than it does without its lowest
lowest_count : (n r : ℕ) → 0 < r → r < 2 ^ n
    → count_below n (bit r) ≡ suc (count_below n (bit (without_lowest n r)))
unfolding without_lowest
lowest_count zero r l h = omega arith
lowest_count (suc n) r l h =
    ⊎_elim
    (λ p.
    let e : without_lowest (suc n) r ≡ r - 1 = cond_true (r - 1) (2 * without_lowest n (r / 2)) p in
    let odd : r % 2 ≡ 1 = eqb-true (r % 2) 1 p in
    omega
    (arith, counts r (r / 2) refl, counts (without_lowest (suc n) r) (r / 2) (omega arith)))
    (λ p.
    let e : without_lowest (suc n) r ≡ 2 * without_lowest n (r / 2) =
    cond_false (r - 1) (2 * without_lowest n (r / 2)) p in
    let even : r % 2 ≡ 0 = omega (arith, eqb-false (r % 2) 1 p) in
    omega (
      arith,
      counts r (r / 2) refl,
      counts (without_lowest (suc n) r) (without_lowest n (r / 2)) (omega arith),
      lowest_count n (r / 2) (omega arith) (half_small n r h),
    ))
    (decided (is_odd r))
  where
    counts : (q a : ℕ) → q / 2 ≡ a → count_below (suc n) (bit q) ≡ q % 2 + count_below n (bit a)
    counts q a e = count_halves n q ∙ ap (λ (k : ℕ). q % 2 + count_below n (bit k)) e

-- a row without its lowest value stays within its width
lowest_small : (n r : ℕ) → r < 2 ^ n → without_lowest n r < 2 ^ n
unfolding without_lowest
lowest_small zero r h = omega arith
lowest_small (suc n) r h =
    ⊎_elim
    (λ p.
    omega (arith, cond_true (r - 1) (2 * without_lowest n (r / 2)) p))
    (λ p.
    omega (
      arith,
      cond_false (r - 1) (2 * without_lowest n (r / 2)) p,
      two-pow-succ n,
      lowest_small n (r / 2) (half_small n r h),
    ))
    (decided (is_odd r))

counts_in : (n calls r : ℕ) → r < 2 ^ n → count_below n (bit r) ≤ calls → row_count_in n calls r ≡ count_below n (bit r)
unfolding row_count_in
counts_in n zero r h l = omega arith
counts_in n (suc calls) r h l =
    let low = without_lowest n r in
    ⊎_elim
    (λ p.
    let e : r ≡ 0 = eqb-true r 0 p in
    ap (row_count_in n (suc calls)) e ∙ sym (count_empty n) ∙ ap (λ (k : ℕ). count_below n (bit k)) (sym e))
    (λ p.
    let pos : 0 < r = omega (arith, eqb-false r 0 p) in
    let more : count_below n (bit r) ≡ suc (count_below n (bit low)) = lowest_count n r pos h in
    omega
    (arith, cond_false 0 (suc (row_count_in n calls low)) p, counts_in n calls low (lowest_small n r h) (omega arith)))
    (decided (eqb r 0))

-- the count of a row is the number of the values that it holds
row_count_bits : (n r : ℕ) → r < 2 ^ n → row_count n r ≡ count_below n (bit r)
unfolding row_count
row_count_bits n r h = counts_in n n r h (count_le n (bit r))

-- the row of a test counts the values that pass it
pub row_count_counts : (n : ℕ) (t : ℕ → Bool) → row_count n (row_of n t) ≡ count_below n t
row_count_counts n t =
    row_count_bits n (row_of n t) (row_small n t) ∙ count_ext n (bit (row_of n t)) t (row_bit n t)

-- the empty row counts 0
pub row_count_empty : (n : ℕ) → row_count n 0 ≡ 0
row_count_empty n = row_count_bits n 0 (pow_pos n) ∙ count_empty n

-- a row counts at most its width
pub row_count_small : (n r : ℕ) → r < 2 ^ n → row_count n r ≤ n
row_count_small n r h = omega (arith, row_count_bits n r h, count_le n (bit r))

-- ---- counting four values at a time

-- a row counts what its half does at the same width, and one more where it has value 0
row_count_half : (n r half : ℕ) → r < 2 ^ n → half ≡ r / 2 → row_count n r ≡ r % 2 + row_count n half
row_count_half zero r half h e =
    let none : r ≡ 0 = omega arith in
    let none_half : half ≡ 0 = omega arith in
    omega (arith, ap (row_count 0) none, ap (row_count 0) none_half, row_count_empty 0)
row_count_half (suc n) r half h e =
    let small : half < 2 ^ n = omega (arith, half_small n r h) in
    row_count_bits (suc n) r h
    ∙ count_halves n r
    ∙ ap (λ (k : ℕ). r % 2 + count_below n (bit k)) (sym e)
    ∙ omega (
      arith,
      row_count_bits (suc n) half (omega (arith, two-pow-succ n)),
      ap one (bit_past n half n small (omega arith)),
    )

-- how many of the values 0 to 3 a row has
unfoldable of_four : ℕ → ℕ
of_four r = r % 2 + r / 2 % 2 + r / 4 % 2 + r / 8 % 2

-- a row counts these, and what the others do, moved down by four
row_count_lower : (n r : ℕ) → r < 2 ^ n → row_count n r ≡ of_four r + row_count n (r / 16)
unfolding of_four
row_count_lower n r h =
    omega (
      arith,
      row_count_half n r (r / 2) h refl,
      row_count_half n (r / 2) (r / 4) (omega arith) (omega arith),
      row_count_half n (r / 4) (r / 8) (omega arith) (omega arith),
      row_count_half n (r / 8) (r / 16) (omega arith) (omega arith),
    )

-- cut to four values, it has as many of them
four_alone : (r : ℕ) → of_four (r % 16) ≡ of_four r
unfolding of_four
four_alone r = ap₂ ◌+◌ (ap₂ ◌+◌ (ap₂ ◌+◌ (omega arith) (omega arith)) (omega arith)) (omega arith)

-- so a row counts what its values 0 to 3 count by themselves, and what the others do
pub row_count_four : (n r : ℕ) → r < 2 ^ n → row_count n r ≡ row_count 4 (r % 16) + row_count n (r / 16)
row_count_four n r h =
    let none : r % 16 / 16 ≡ 0 = omega arith in
    omega (
      arith,
      row_count_lower n r h,
      row_count_lower 4 (r % 16) (omega arith),
      four_alone r,
      ap (row_count 4) none,
      row_count_empty 4,
    )
