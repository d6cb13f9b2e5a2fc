-- The pairs of variables that a scope joins, gathered variable by variable.
use Prim.Native.Nat.{ℕ, suc, ◌+◌, ◌<◌}
use mathlib.Core.Bool.{Bool, true, false, ◌&&◌, ◌||◌}
use mathlib.Core.List.{List}
use mathlib.Core.Path.{◌≡◌, refl, sym, ◌∙◌, ap}
use native.Mathlib.Decide.{ℕ_discrete, dec_lt}
use native.Mathlib.Numerals.{add-one}
use native.Mathlib.Omega.{arith}
use borrow.Author.Tests.{eqb-true, eq-eqb, ne_eqb}
use lib.Dec.{eqb}
use Rattle.base.proofs.Below.{any_below_lem, some_below}
use Rattle.base.proofs.Bools.{and_left, and_right, and_intro, and_false_left, and_false_right, bool_ext}
use Rattle.base.specs.Below.{any_below}
use Rattle.format.specs.Format.{scope_size, scope_at, scope_of}
use Rattle.plan.proofs.InOrder.{Ascends, ascends, scope_length, scope_number}
use Rattle.plan.proofs.Links.{scope_place, place_scope, joins_of, of_joins}
use Rattle.plan.specs.Network.{joins}
use Rattle.touching.specs.Known.{ScopeKnown}
use Rattle.touching.specs.Touching.{among_first, joins_at}

-- the pairs that end among the first `j` of the scope
abbrev pub joins_below : List ℕ → ℕ → ℕ → ℕ → ℕ → Bool
joins_below b at j x y = any_below j (λ k. joins_at b at k x y)

module _ (b : List ℕ) (at : ℕ) where
  -- none is among the first none
  pub among_none : (x : ℕ) → among_first b at 0 x ≡ false
  unfolding among_first
  among_none x = refl

  -- x, whose number is the next, joins those before it
  pub among_more : (i x : ℕ) → scope_at b at i ≡ suc x → (z : ℕ) → among_first b at (i + 1) z ≡ among_first b at i z || eqb z x
  unfolding among_first
  among_more i x e z =
      rw add-one
      (ap (λ (a : Bool). among_first b at i z || a)
      (bool_ext (eqb (suc z) (scope_at b at i)) (eqb z x)
      (λ p. eq-eqb z x (omega (arith, eqb-true (suc z) (scope_at b at i) p)))
      (λ p. eq-eqb (suc z) (scope_at b at i) (omega (arith, eqb-true z x p)))))

  -- the pairs of one variable have it as their second
  module _ (j y : ℕ) (e : scope_at b at j ≡ suc y) where
    pub joins_same : (x : ℕ) → joins_at b at j x y ≡ among_first b at j x
    unfolding joins_at
    joins_same x = ap (λ (a : Bool). a && among_first b at j x) (eq-eqb (suc y) (scope_at b at j) (sym e))

    pub joins_other : (x z : ℕ) → (z ≡ y → ⊥) → joins_at b at j x z ≡ false
    unfolding joins_at
    joins_other x z d = and_false_left (among_first b at j x) (ne_eqb (suc z) (scope_at b at j) (λ p. d (omega arith)))

  -- the first variable ends no pair
  pub joins_none : (x y : ℕ) → joins_below b at 1 x y ≡ false
  unfolding joins_at among_first
  joins_none x y = and_false_right (eqb (suc y) (scope_at b at 0)) refl

  module _ (up : Ascends b at) where
    numbers_ascend : (i j x y : ℕ) → i < scope_size b at → j < scope_size b at → scope_at b at i ≡ suc x → scope_at b at j ≡ suc y
        → x < y → i < j
    numbers_ascend i j x y h k p q l =
        elim (dec_lt i j) [
          | yes m ↦ m
          | no m ↦ elim (ℕ_discrete j i) [
            | yes e ↦ absurd (omega (arith, ap (scope_at b at) e))
            | no d ↦ absurd (omega (arith, up.ascending j i (omega arith) h))
          ]
        ]

    gathers : (x y : ℕ) → joins (scope_of b at) x y ≡ true → joins_below b at (scope_size b at) x y ≡ true
    unfolding joins_at among_first
    gathers x y e =
        let both = joins_of (scope_of b at) x y e in
        let p = scope_place (scope_of b at) x both.1 in
        let q = scope_place (scope_of b at) y both.2 in
        let h : p.0 < scope_size b at = omega (arith, scope_length b at) in
        let k : q.0 < scope_size b at = omega (arith, scope_length b at) in
        let u : scope_at b at p.0 ≡ suc x = sym (scope_number b at p.0 h) ∙ p.2 in
        let v : scope_at b at q.0 ≡ suc y = sym (scope_number b at q.0 k) ∙ q.2 in
        any_below_lem (scope_size b at) (λ j. joins_at b at j x y) q.0 k
        (and_intro (eq-eqb (suc y) (scope_at b at q.0) (sym v))
        (any_below_lem q.0 (λ i. eqb (suc x) (scope_at b at i)) p.0 (numbers_ascend p.0 q.0 x y h k u v both.0)
        (eq-eqb (suc x) (scope_at b at p.0) (sym u))))

    gathered : (x y : ℕ) → joins_below b at (scope_size b at) x y ≡ true → joins (scope_of b at) x y ≡ true
    unfolding joins_at among_first
    gathered x y e =
        let q = some_below (scope_size b at) (λ j. joins_at b at j x y) e in
        let j : ℕ = q.0 in
        let p = some_below j (λ i. eqb (suc x) (scope_at b at i)) (and_right (eqb (suc y) (scope_at b at j)) (among_first b at j x) q.2) in
        let i : ℕ = p.0 in
        let v : suc y ≡ scope_at b at j = eqb-true (suc y) (scope_at b at j) (and_left (eqb (suc y) (scope_at b at j)) (among_first b at j x) q.2) in
        let u : suc x ≡ scope_at b at i = eqb-true (suc x) (scope_at b at i) p.2 in
        let h : i < scope_size b at = omega (arith, p.1, q.1) in
        of_joins (scope_of b at) x y (omega (arith, up.ascending i j p.1 q.1))
        (place_scope (scope_of b at) x i (omega (arith, scope_length b at)) (scope_number b at i h ∙ sym u))
        (place_scope (scope_of b at) y j (omega (arith, scope_length b at, q.1)) (scope_number b at j q.1 ∙ sym v))

    -- all pairs of the scope
    pub joins_all : (x y : ℕ) → joins_below b at (scope_size b at) x y ≡ joins (scope_of b at) x y
    joins_all x y = bool_ext (joins_below b at (scope_size b at) x y) (joins (scope_of b at) x y) (gathered x y) (gathers x y)

-- a scope that passed its checks ascends
pub scope_ascends : (b : List ℕ) (at : ℕ) → ScopeKnown b at → Ascends b at
scope_ascends b at known = ascends b at known.in_order known.further_in_order_lem
