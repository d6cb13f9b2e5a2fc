-- The weight of a list: the sum of a number for each of its members. Lengths, occurrences and message counts are weights.
use Prim.Native.Nat.{ℕ, zero, suc, ◌+◌}
use mathlib.Core.Bool.{Bool, ◌||◌}
use mathlib.Core.List.{List, [], ◌∷◌, ◌++◌}
use mathlib.Core.Path.{◌≡◌, refl, sym, ◌∙◌, ap, ap₂}
use native.Mathlib.Nat.{zero-add}
use native.Mathlib.Omega.{arith}
use borrow.Author.Tests.{lt-ltb}
use lib.Dec.{ltb}
use lib.ListN.{length}
use Rattle.base.proofs.Bools.{or_left}
use Rattle.base.proofs.Each.{Each}
use Rattle.base.specs.Below.{sum_below, gather_below}
use Rattle.base.specs.Choice.{any_of}

-- a sum is above 0 exactly if one of its summands is
pub above_add : (m n : ℕ) → ltb 0 (m + n) ≡ ltb 0 m || ltb 0 n
above_add zero n = ap (ltb 0) (zero-add n)
above_add (suc m) n = lt-ltb 0 (suc m + n) (omega arith) ∙ sym (or_left (ltb 0 n) (lt-ltb 0 (suc m) (omega arith)))

module _ {ℓ} {A : Type ℓ} where
  -- the weight of a list
  abbrev pub weigh : (A → ℕ) → List A → ℕ
  weigh w [] = 0
  weigh w (a ∷ l) = w a + weigh w l

  -- of two lists joined
  pub weigh_append : (w : A → ℕ) (l m : List A) → weigh w (l ++ m) ≡ weigh w l + weigh w m
  weigh_append w [] m = omega arith
  weigh_append w (a ∷ l) m = omega (arith, weigh_append w l m)

  -- of many lists joined
  pub weigh_gather : (w : A → ℕ) (n : ℕ) (f : ℕ → List A) → weigh w (gather_below n f) ≡ sum_below n (λ i. weigh w (f i))
  weigh_gather w zero f = refl
  weigh_gather w (suc n) f = omega (arith, weigh_append w (gather_below n f) (f n), weigh_gather w n f)

  -- with weight 1 for each member, its length
  pub weigh_one : (l : List A) → weigh (λ a. 1) l ≡ length l
  weigh_one [] = refl
  weigh_one (a ∷ l) = omega (arith, weigh_one l)

  -- where a weight is above 0 exactly at what passes a test, a list's is exactly if it has such a member
  pub any_above : (w : A → ℕ) (t : A → Bool) → ((a : A) → t a ≡ ltb 0 (w a)) → (l : List A) → any_of t l ≡ ltb 0 (weigh w l)
  any_above w t e [] = refl
  any_above w t e (a ∷ l) = ap₂ ◌||◌ (e a) (any_above w t e l) ∙ sym (above_add (w a) (weigh w l))

  -- a list whose members weigh nothing weighs nothing
  pub weigh_zero : (w : A → ℕ) (l : List A) → Each (λ a. w a ≡ 0) l → weigh w l ≡ 0
  weigh_zero w [] h = refl
  weigh_zero w (a ∷ l) h = omega (arith, h.0, weigh_zero w l h.1)
