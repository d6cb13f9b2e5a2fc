-- The nearest number that passes a test: the steps of the search, and what the last one below a bound says of all of them.
use Prim.Native.Nat.{ℕ, zero, suc, ◌≤◌}
use mathlib.Core.Bool.{Bool, true, false, cond, ◌||◌, not, or_comm}
use mathlib.Core.Logic.{⊎_elim}
use mathlib.Core.Path.{◌≡◌, refl, sym, ◌∙◌, ap, ap₂}
use borrow.Author.Tests.{ne_eqb}
use native.Mathlib.Omega.{arith}
use lib.Dec.{eqb}
use Rattle.base.proofs.Bools.{decided, and_true, or_right}
use Rattle.base.proofs.Choice.{cond_true, cond_false}
use Rattle.base.specs.Below.{all_below, any_below}
use Rattle.index.specs.Index.{nearest}

module _ (at : ℕ → ℕ) (t : ℕ → Bool) where
  -- of none, none is nearest
  pub near_none : nearest at t 0 ≡ 0
  unfolding nearest
  near_none = refl

  -- one that passes is nearest
  pub near_here : (n : ℕ) → t (at n) ≡ true → nearest at t (suc n) ≡ suc (at n)
  unfolding nearest
  near_here n p = cond_true (suc (at n)) (nearest at t n) p

  -- one that fails is passed over
  pub near_past : (n : ℕ) → t (at n) ≡ false → nearest at t (suc n) ≡ nearest at t n
  unfolding nearest
  near_past n p = cond_false (suc (at n)) (nearest at t n) p

-- equal tests have the same nearest number
pub near_ext : (at : ℕ → ℕ) (t u : ℕ → Bool) → ((k : ℕ) → t k ≡ u k) → (n : ℕ) → nearest at t n ≡ nearest at u n
unfolding nearest
near_ext at t u h zero = refl
near_ext at t u h (suc n) = ap₂ (λ (s : Bool) (k : ℕ). cond s (suc (at n)) k) (h (at n)) (near_ext at t u h n)

-- ---- the last number below a bound

module _ (t : ℕ → Bool) where
  abbrev last : ℕ → ℕ
  last n = nearest (λ k. k) t n

  abbrev last_here : (n : ℕ) → t n ≡ true → last (suc n) ≡ suc n
  last_here = near_here (λ k. k) t

  abbrev last_past : (n : ℕ) → t n ≡ false → last (suc n) ≡ last n
  last_past = near_past (λ k. k) t

  -- it is below the bound
  pub last_low : (n : ℕ) → last n ≤ n
  last_low zero = omega (arith, near_none (λ k. k) t)
  last_low (suc n) =
      ⊎_elim (λ p. omega (arith, last_here n p)) (λ p. omega (arith, last_past n p, last_low n)) (decided (t n))

  -- it is the last one up to itself
  pub last_settled : (n : ℕ) → last (last n) ≡ last n
  last_settled zero = ap last (near_none (λ k. k) t)
  last_settled (suc n) =
      ⊎_elim (λ p. ap last (last_here n p)) (λ p. ap last (last_past n p) ∙ last_settled n ∙ sym (last_past n p))
      (decided (t n))

  -- it passes the test
  pub last_passes : (n : ℕ) → last (suc n) ≡ suc n → t n ≡ true
  last_passes n e = ⊎_elim (λ p. p) (λ p. absurd (omega (arith, last_past n p, last_low n))) (decided (t n))

  -- what holds of all that fail need only be tried up to it
  pub last_all : (u : ℕ → Bool) → ((k : ℕ) → t k ≡ false → u k ≡ true) → (n : ℕ) → all_below n u ≡ all_below (last n) u
  last_all u h zero = ap (λ (k : ℕ). all_below k u) (sym (near_none (λ k. k) t))
  last_all u h (suc n) =
      ⊎_elim (λ p. ap (λ (k : ℕ). all_below k u) (sym (last_here n p)))
      (λ p. and_true (all_below n u) (h n p) ∙ last_all u h n ∙ ap (λ (k : ℕ). all_below k u) (sym (last_past n p)))
      (decided (t n))

  -- there is one where some pass
  pub last_any : (n : ℕ) → any_below n t ≡ not (eqb (last n) 0)
  last_any zero = ap (λ (k : ℕ). not (eqb k 0)) (sym (near_none (λ k. k) t))
  last_any (suc n) =
      ⊎_elim
      (λ p.
      or_right (any_below n t) p
      ∙ sym (ap not (ap (λ (k : ℕ). eqb k 0) (last_here n p) ∙ ne_eqb (suc n) 0 (omega arith))))
      (λ p.
      ap (λ (s : Bool). any_below n t || s) p ∙ or_comm (any_below n t) false ∙ last_any n
      ∙ ap (λ (k : ℕ). not (eqb k 0)) (sym (last_past n p)))
      (decided (t n))
