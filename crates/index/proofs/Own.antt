-- What the chain of a worker's own variables goes through.
use Prim.Native.Nat.{ℕ, zero, suc, ◌-◌, ◌<◌}
use mathlib.Core.Bool.{true, false}
use mathlib.Core.List.{List}
use mathlib.Core.Logic.{◌⊎◌, inl, inr, ⊎_elim}
use mathlib.Core.Path.{◌≡◌, ◌∙◌}
use native.Mathlib.Omega.{arith}
use Rattle.base.proofs.Bools.{decided}
use Rattle.format.specs.Format.{variable_count}
use Rattle.index.proofs.Nearest.{near_none, near_here, near_past}
use Rattle.index.specs.Index.{own_linked, next_own}

module _ (b : List ℕ) (i y : ℕ) where
  -- a variable that the row owns and that is linked
  pub next_here : (n : ℕ) → own_linked b i y (variable_count b - suc n) ≡ true
      → next_own b i y (suc n) ≡ suc (variable_count b - suc n)
  next_here = near_here (λ k. variable_count b - suc k) (own_linked b i y)

  -- no other
  pub next_past : (n : ℕ) → own_linked b i y (variable_count b - suc n) ≡ false → next_own b i y (suc n) ≡ next_own b i y n
  next_past = near_past (λ k. variable_count b - suc k) (own_linked b i y)

  -- it ends behind the last variable
  pub next_none : next_own b i y 0 ≡ 0
  next_none = near_none (λ k. variable_count b - suc k) (own_linked b i y)

  -- it goes upwards
  pub next_above : (n : ℕ) → (next_own b i y n ≡ 0) ⊎ (variable_count b - n < next_own b i y n)
  next_above zero = inl next_none
  next_above (suc n) =
      ⊎_elim (λ p. inr (omega (arith, next_here n p)))
      (λ p.
      ⊎_elim (λ e. inl (next_past n p ∙ e)) (λ l. inr (omega (arith, next_past n p))) (next_above n))
      (decided (own_linked b i y (variable_count b - suc n)))
