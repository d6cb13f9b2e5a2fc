-- A row that is put together from its highest value down. Which test its values pass is known only to who asks for the row, so the
-- row's bound is kept beside it.
use Prim.Native.Nat.{ℕ, suc, ◌+◌, ◌-◌, ◌*◌, ◌^◌, ◌<◌, ◌≤◌}
use mathlib.Core.Bool.{Bool, true, false}
use mathlib.Core.Path.{◌≡◌, ◌∙◌, ap}
use native.Mathlib.Nat.{mul-le-mul_left, two-pow-succ}
use native.Mathlib.Omega.{arith}
use lib.Pow.{pow_mono}
use Rattle.base.proofs.Below.{at_suc}
use Rattle.base.proofs.Row.{row_doubled}
use Rattle.base.specs.Below.{one}
use Rattle.base.specs.Row.{row_of}

-- the row holds the values from `k` on that pass, counted from there, whichever of these tests is asked for; those below `k` make it
-- whole
pub record Upper (Asked : (ℕ → Bool) → Type 0) (n row k : ℕ) : Type 0 where
  pub small : (row + 1) * 2 ^ k ≤ 2 ^ n
  pub whole : (t : ℕ → Bool) → Asked t → row * 2 ^ k + row_of k t ≡ row_of n t

module _ (Asked : (ℕ → Bool) → Type 0) (n : ℕ) where
  pub upper_start : Upper Asked n 0 n
  upper_start = record { small = omega arith; whole = λ t a. omega arith }

  upper_next : (row k : ℕ) (held : Bool) → ((t : ℕ → Bool) → Asked t → held ≡ t k) → Upper Asked n row (suc k)
      → Upper Asked n (2 * row + one held) k
  upper_next row k held is u = record {
    small = room held;
    whole = λ t a. ap (λ (b : Bool). (2 * row + one b) * 2 ^ k + row_of k t) (is t a) ∙ row_doubled k row t ∙ u.whole t a;
  }
    where
      room : (b : Bool) → (2 * row + one b + 1) * 2 ^ k ≤ 2 ^ n
      room true = omega (arith, u.small, ap (λ (p : ℕ). (row + 1) * p) (two-pow-succ k))
      room false = omega (arith, u.small, ap (λ (p : ℕ). (row + 1) * p) (two-pow-succ k))

  -- the next value down
  pub upper_more : (row k : ℕ) (held : Bool) → 0 < k → ((t : ℕ → Bool) → Asked t → held ≡ t (k - 1)) → Upper Asked n row k
      → Upper Asked n (2 * row + one held) (k - 1)
  upper_more row k held some is u = upper_next row (k - 1) held is (at_suc (Upper Asked n row) k (λ e. omega arith) u)

  -- there is room for it
  pub upper_room : (row k : ℕ) → 0 < k → n ≤ 64 → Upper Asked n row k → 2 * row + 1 < 2 ^ 64
  upper_room row k some few u =
      let doubles : 2 ^ 1 ≤ 2 ^ k = pow_mono {i = 1} {j = k} (omega arith) in
      omega (arith, u.small, pow_mono {i = n} {j = 64} few, mul-le-mul_left (row + 1) doubles)

  -- when all are through
  pub upper_all : (row k : ℕ) → k ≡ 0 → Upper Asked n row k → (t : ℕ → Bool) → Asked t → row ≡ row_of n t
  unfolding row_of
  upper_all row k e u t a = omega (arith, rw e at u.whole t a)
