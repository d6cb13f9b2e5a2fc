-- Laws of sums below a bound.
use Prim.Native.Nat.{ℕ, zero, suc, ◌+◌, ◌*◌, ◌<◌, ◌≤◌}
use mathlib.Core.Bool.{Bool, true, false, cond, ◌&&◌, not}
use mathlib.Core.Logic.{⊎_elim}
use mathlib.Core.Path.{◌≡◌, refl, sym, ap, ap₂}
use native.Mathlib.Nat.{not-suc-le-zero, eq-or-lt_of_le, le_of_suc-le-suc, le_step, le_refl}
use native.Mathlib.Numerals.{add-one}
use mir.Val.{bool_byte}
use native.Mathlib.Omega.{arith}
use Rattle.base.proofs.Below.{below_cases}
use Rattle.base.proofs.Choice.{update_same, update_other, update_each}
use Rattle.base.specs.Below.{sum_below, one, count_below}
use Rattle.base.specs.Choice.{update}

-- equal summands have equal sums
pub sum_ext : (n : ℕ) (f g : ℕ → ℕ) → ((i : ℕ) → i < n → f i ≡ g i) → sum_below n f ≡ sum_below n g
sum_ext zero f g h = refl
sum_ext (suc n) f g h = ap₂ ◌+◌ (sum_ext n f g (λ i p. h i (le_step p))) (h n (le_refl (suc n)))

-- one summand more
pub sum_more : (s a n : ℕ) (f : ℕ → ℕ) → s ≡ sum_below n f → a ≡ f n → s + a ≡ sum_below (n + 1) f
sum_more s a n f p q = rw add-one (omega arith)

-- a sum of zeros is 0
pub sum_zero : (n : ℕ) (f : ℕ → ℕ) → ((i : ℕ) → i < n → f i ≡ 0) → sum_below n f ≡ 0
sum_zero zero f h = refl
sum_zero (suc n) f h = omega (arith, sum_zero n f (λ i p. h i (le_step p)), h n (le_refl (suc n)))

-- the sum of two sums
pub sum_add : (n : ℕ) (f g : ℕ → ℕ) → sum_below n (λ i. f i + g i) ≡ sum_below n f + sum_below n g
sum_add zero f g = refl
sum_add (suc n) f g = omega (arith, sum_add n f g)

-- summands that are at most as large have a sum that is
pub sum_le : (n : ℕ) (f g : ℕ → ℕ) → ((i : ℕ) → i < n → f i ≤ g i) → sum_below n f ≤ sum_below n g
sum_le zero f g h = le_refl 0
sum_le (suc n) f g h = omega (arith, sum_le n f g (λ i p. h i (le_step p)), h n (le_refl (suc n)))

-- a common factor
pub sum_times : (n k : ℕ) (f : ℕ → ℕ) → sum_below n (λ i. k * f i) ≡ k * sum_below n f
sum_times zero k f = omega arith
sum_times (suc n) k f = omega (arith, sum_times n k f)

-- a sum of equal summands
pub sum_const : (n k : ℕ) → sum_below n (λ i. k) ≡ n * k
sum_const zero k = omega arith
sum_const (suc n) k = omega (arith, sum_const n k)

-- a sum is at least each of its summands
pub sum_part : (n : ℕ) (f : ℕ → ℕ) (i : ℕ) → i < n → f i ≤ sum_below n f
sum_part zero f i h = absurd (not-suc-le-zero h)
sum_part (suc n) f i h =
    ⊎_elim (λ p. omega (arith, ap f p)) (λ p. omega (arith, sum_part n f i p)) (below_cases h)

-- a sum of 0 has no summand above 0
pub sum_none : (n : ℕ) (f : ℕ → ℕ) → sum_below n f ≡ 0 → (i : ℕ) → i < n → f i ≡ 0
sum_none n f e i h = omega (arith, sum_part n f i h)

-- a sum above 0 has a summand above 0
pub sum_some : (n : ℕ) (f : ℕ → ℕ) → 0 < sum_below n f → (i : ℕ) × (i < n) × (0 < f i)
sum_some zero f h = absurd (not-suc-le-zero h)
sum_some (suc n) f h = go (f n) refl (sum_some n f)
  where
    go : (k : ℕ) → f n ≡ k → (0 < sum_below n f → (i : ℕ) × (i < n) × (0 < f i)) → (i : ℕ) × (i < suc n) × (0 < f i)
    go zero e ih =
        let r : (i : ℕ) × (i < n) × (0 < f i) = ih (omega arith) in
        (r.0, le_step r.1, r.2)
    go (suc k) e ih = (n, le_refl (suc n), omega arith)

-- two sums that differ in one summand
pub sum_change : (n : ℕ) (f g : ℕ → ℕ) (i : ℕ) → i < n → ((j : ℕ) → j < n → (j ≡ i → ⊥) → f j ≡ g j)
    → sum_below n g + f i ≡ sum_below n f + g i
sum_change zero f g i h e = absurd (not-suc-le-zero h)
sum_change (suc n) f g i h e =
    ⊎_elim
    (λ p.
    omega
    (arith, ap f p, ap g p, sum_ext n f g (λ j q. e j (le_step q) (λ r. omega arith))))
    (λ p.
    omega
    (arith, sum_change n f g i p (λ j q. e j (le_step q)), e n (le_refl (suc n)) (λ r. omega arith)))
    (below_cases h)

-- one summand of the larger sum, and the others of the smaller one
pub sum_beside : (n : ℕ) (f g : ℕ → ℕ) (i : ℕ) → i < n → f i ≡ 0 → ((j : ℕ) → j < n → f j ≤ g j)
    → g i + sum_below n f ≤ sum_below n g
sum_beside n f g i h e le =
    omega (
      arith,
      sum_change n f (update f i (g i)) i h (λ j p q. sym (update_other f i (g i) j q)),
      update_same f i (g i),
      sum_le n (update f i (g i)) g
          (λ j. update_each (λ j a. j < n → a ≤ g j) f i (g i) (λ p. le_refl (g i)) (λ j q p. le j p) j),
    )

-- a sum with one summand that is not 0
pub sum_single : (n : ℕ) (f : ℕ → ℕ) (i : ℕ) → i < n → ((j : ℕ) → j < n → (j ≡ i → ⊥) → f j ≡ 0)
    → sum_below n f ≡ f i
sum_single n f i h e = omega (arith, sum_change n f (λ j. 0) i h e, sum_zero n (λ j. 0) (λ j p. refl))

-- the order of two sums
pub sum_swap : (n m : ℕ) (f : ℕ → ℕ → ℕ)
    → sum_below n (λ i. sum_below m (λ j. f i j)) ≡ sum_below m (λ j. sum_below n (λ i. f i j))
sum_swap zero m f = sym (sum_zero m (λ j. 0) (λ j p. refl))
sum_swap (suc n) m f =
    omega (arith, sum_swap n m f, sum_add m (λ j. sum_below n (λ i. f i j)) (λ j. f n j))

-- the lowest summand apart
pub sum_first : (n : ℕ) (f : ℕ → ℕ) → sum_below (suc n) f ≡ f 0 + sum_below n (λ i. f (suc i))
sum_first zero f = omega arith
sum_first (suc n) f = omega (arith, sum_first n f)

-- summands that are at most as large, one of them smaller
pub sum_less : (n : ℕ) (f g : ℕ → ℕ) → ((i : ℕ) → i < n → f i ≤ g i) → (i : ℕ) → i < n → f i < g i
    → sum_below n f < sum_below n g
sum_less zero f g h i l s = absurd (not-suc-le-zero l)
sum_less (suc n) f g h i l s =
    ⊎_elim
    (λ p.
    omega (arith, ap f p, ap g p, sum_le n f g (λ j q. h j (le_step q))))
    (λ p.
    omega (arith, sum_less n f g (λ j q. h j (le_step q)) i p s, h n (le_refl (suc n))))
    (below_cases l)

-- a test as a number
pub one_byte : (b : Bool) → bool_byte b ≡ one b
one_byte true = refl
one_byte false = refl

-- a test counts at most 1
pub one_le : (b : Bool) → one b ≤ 1
one_le true = le_refl 1
one_le false = le_step (le_refl 0)

-- two tests count as the second does, where the first holds
pub one_and : (c a : Bool) → one (c && a) ≡ cond c (one a) 0
one_and true a = refl
one_and false a = refl

-- a count is at most its bound
pub count_le : (n : ℕ) (t : ℕ → Bool) → count_below n t ≤ n
count_le n t = omega (arith, sum_le n (λ i. one (t i)) (λ i. 1) (λ i p. one_le (t i)), sum_const n 1)

-- a longer count is no smaller
pub count_more : (n n' : ℕ) (t : ℕ → Bool) → n ≤ n' → count_below n t ≤ count_below n' t
count_more n zero t h = let e : n ≡ 0 = omega arith in omega (arith, ap (λ (k : ℕ). count_below k t) e)
count_more n (suc n') t h =
    ⊎_elim (λ e. omega (arith, ap (λ (k : ℕ). count_below k t) e)) (λ l. omega (arith, count_more n n' t (le_of_suc-le-suc l)))
    (eq-or-lt_of_le h)

-- tests that agree below the bound count alike
pub count_ext : (n : ℕ) (t u : ℕ → Bool) → ((i : ℕ) → i < n → t i ≡ u i) → count_below n t ≡ count_below n u
count_ext n t u h = sum_ext n (λ i. one (t i)) (λ i. one (u i)) (λ i p. ap one (h i p))

-- a test that implies another counts at most as much
pub one_mono : (a b : Bool) → (a ≡ true → b ≡ true) → one a ≤ one b
one_mono true b f = omega (arith, ap one (f refl))
one_mono false b f = omega arith

-- and less where it fails alone
pub one_less : (a b : Bool) → a ≡ false → b ≡ true → one a < one b
one_less a b p q = omega (arith, ap one p, ap one q)

-- what is kept and what is taken out of a whole
pub one_split : (d t : Bool) → (t ≡ true → d ≡ true) → one (d && not t) + one t ≡ one d
one_split true true f = refl
one_split true false f = refl
one_split false true f = omega (arith, ap one (f refl))
one_split false false f = refl

-- a test that counts is passed
pub one_passes : (b : Bool) → 0 < one b → b ≡ true
one_passes true h = refl
one_passes false h = absurd (not-suc-le-zero h)
