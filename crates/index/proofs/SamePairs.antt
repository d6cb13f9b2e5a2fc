-- The same two variables either way round, and how many pairs pass a test.
use Prim.Native.Nat.{ℕ, suc, ◌+◌, ◌<◌}
use mathlib.Core.Bool.{Bool, true, false, ◌&&◌, ◌||◌, or_comm}
use mathlib.Core.Logic.{inl, inr, ⊎_elim}
use mathlib.Core.Path.{◌≡◌, refl, sym, ◌∙◌, ap}
use native.Mathlib.Omega.{arith}
use borrow.Author.Tests.{eqb-true, eq-eqb}
use lib.Dec.{eqb}
use Rattle.base.proofs.Bools.{and_left, and_right, and_intro, or_cases, or_left, or_right, refuted}
use Rattle.base.proofs.Sums.{sum_change, count_ext}
use Rattle.base.specs.Below.{sum_below, count_below, one}
use Rattle.index.specs.Index.{SamePair}

-- `x'` and `y'` are `x` and `y`, either way round
abbrev pub same_pair : ℕ → ℕ → ℕ → ℕ → Bool
same_pair x y x' y' = eqb x' x && eqb y' y || eqb x' y && eqb y' x

module _ (x y x' y' : ℕ) where
  pub same_pair_lem : same_pair x y x' y' ≡ true → SamePair x' y' x y
  same_pair_lem e =
      ⊎_elim (λ p. inl (eqb-true x' x (and_left (eqb x' x) (eqb y' y) p), eqb-true y' y (and_right (eqb x' x) (eqb y' y) p)))
      (λ p. inr (eqb-true x' y (and_left (eqb x' y) (eqb y' x) p), eqb-true y' x (and_right (eqb x' y) (eqb y' x) p)))
      (or_cases (eqb x' x && eqb y' y) (eqb x' y && eqb y' x) e)

  pub pair_same : SamePair x' y' x y → same_pair x y x' y' ≡ true
  pair_same (inl p) = or_left (eqb x' y && eqb y' x) (and_intro (eq-eqb x' x p.0) (eq-eqb y' y p.1))
  pair_same (inr p) = or_right (eqb x' x && eqb y' y) (and_intro (eq-eqb x' y p.0) (eq-eqb y' x p.1))

-- the pairs that pass the test, and `x` and `y`
abbrev pub with_pair : (ℕ → ℕ → Bool) → ℕ → ℕ → ℕ → ℕ → Bool
with_pair t x y x' y' = t x' y' || same_pair x y x' y'

-- how many pairs of variables below `n` pass the test
abbrev pub pairs_below : ℕ → (ℕ → ℕ → Bool) → ℕ
pairs_below n t = sum_below n (λ y. count_below y (λ x. t x y))

-- with one that did not pass there is one more
pub pairs_more : (n : ℕ) (t : ℕ → ℕ → Bool) (x y : ℕ) → x < y → y < n → t x y ≡ false
    → pairs_below n (with_pair t x y) ≡ suc (pairs_below n t)
pairs_more n t x y less inside new =
    let here : column y + one (t x y) ≡ before y + one (with_pair t x y x y) =
    sum_change y (λ k. one (t k y)) (λ k. one (with_pair t x y k y)) x less
    (λ k h d. ap one (sym (apart k y (⊎_elim (λ e. d e.0) (λ e. omega (arith, e)))))) in
    let all : pairs_below n (with_pair t x y) + before y ≡ pairs_below n t + column y =
    sum_change n before column y inside
    (λ z h d. count_ext z (λ k. t k z) (λ k. with_pair t x y k z) (λ k l. sym (apart k z (⊎_elim (λ e. d e.1) (λ e. omega (arith, e)))))) in
    omega (arith, ap one new, ap one (or_right (t x y) (pair_same x y x y (inl (refl, refl)))))
  where
    before : ℕ → ℕ
    before z = count_below z (λ k. t k z)

    column : ℕ → ℕ
    column z = count_below z (λ k. with_pair t x y k z)

    -- other pairs pass as before
    apart : (k z : ℕ) → (SamePair k z x y → ⊥) → with_pair t x y k z ≡ t k z
    apart k z d = ap (λ (s : Bool). t k z || s) (refuted (same_pair x y k z) (λ e. d (same_pair_lem x y k z e))) ∙ or_comm (t k z) false
