-- `is_tied` decides whether a chain of constraints ties two variables, and variables that no chain ties to another lose no
-- value through its domain.
use Prim.Native.Nat.{ℕ, zero, suc, ◌<◌}
use mathlib.Core.Bool.{true, ◌&&◌, not}
use mathlib.Core.Logic.{◌↔◌, ◌⊎◌, inl, inr, ⊎_elim}
use mathlib.Core.Path.{◌≡◌, refl, subst}
use native.Mathlib.Nat.{not-suc-le-zero}
use borrow.Author.Tests.{eqb-true, eq-eqb, ltb-true, lt-ltb}
use lib.Dec.{ltb, eqb}
use Rattle.base.proofs.Below.{below_cases}
use Rattle.base.proofs.Bools.{clash, refuted, and_left, and_right, and_intro, or_cases, or_left, or_right, not_of, not_of_true}
use Rattle.network.proofs.Largest.{largest_contains}
use Rattle.network.specs.Chain.{Tied, same, next, Untied, tied_below, is_tied, ConsistentApart}
use Rattle.network.specs.Consistency.{Within, Supported, ArcConsistent, ConsistentWithin, Largest}
use Rattle.network.specs.Network.{Network, Domains}

-- ---- the test

module _ (net : Network) where
  -- where `k` may stand between too, a chain goes around it, or to it and on from it
  around_or_through : (k x z : ℕ) → tied_below net (suc k) x z ≡ true
      → (tied_below net k x z ≡ true) ⊎ ((tied_below net k x k ≡ true) × (tied_below net k k z ≡ true))
  unfolding tied_below
  around_or_through k x z e =
      let to = tied_below net k x k in
      let on = tied_below net k k z in
      ⊎_elim inl (λ p. inr (and_left to on p, and_right to on p)) (or_cases (tied_below net k x z) (to && on) e)

  -- one that goes around it is found
  around : (k x z : ℕ) → tied_below net k x z ≡ true → tied_below net (suc k) x z ≡ true
  unfolding tied_below
  around k x z e = or_left (tied_below net k x k && tied_below net k k z) e

  -- and so is one to it with one on from it
  through : (k x z : ℕ) → tied_below net k x k ≡ true → tied_below net k k z ≡ true → tied_below net (suc k) x z ≡ true
  unfolding tied_below
  through k x z p q = or_right (tied_below net k x z) (and_intro p q)

  -- a chain and one on from its end are a chain
  tied_on : {x y z : ℕ} → Tied net x y → Tied net y z → Tied net x z
  tied_on same d = d
  tied_on (next h l c) d = next h l (tied_on c d)

  -- what the test finds is a chain
  tied_of : (k x z : ℕ) → tied_below net k x z ≡ true → Tied net x z
  unfolding tied_below
  tied_of zero x z e =
      let below = ltb z net.variables in
      let link = net.linked x z in
      ⊎_elim (λ p. subst (λ (y : ℕ). Tied net x y) (eqb-true x z p) same)
      (λ p. next (ltb-true z net.variables (and_left below link p)) (and_right below link p) same)
      (or_cases (eqb x z) (below && link) e)
  tied_of (suc k) x z e =
      ⊎_elim (tied_of k x z) (λ p. tied_on (tied_of k x k p.0) (tied_of k k z p.1)) (around_or_through k x z e)

  -- a chain with nothing between is found, whatever else may stand there
  direct : (k x z : ℕ) → tied_below net zero x z ≡ true → tied_below net k x z ≡ true
  direct zero x z e = e
  direct (suc k) x z e = around k x z (direct k x z e)

  -- a constraint in front of a chain that is found
  in_front : (k x y z : ℕ) → y < k → tied_below net zero x y ≡ true → tied_below net k y z ≡ true → tied_below net k x z ≡ true
  in_front zero x y z h p q = absurd (not-suc-le-zero h)
  in_front (suc k) x y z h p q =
      ⊎_elim
      (λ e.
      through k x z (direct k x k (subst (λ (w : ℕ). tied_below net zero x w ≡ true) e p))
      (⊎_elim (subst (λ (w : ℕ). tied_below net k w z ≡ true) e) (λ r. r.1) (around_or_through k y z q)))
      (λ l.
      ⊎_elim (λ r. around k x z (in_front k x y z l p r)) (λ r. through k x z (in_front k x y k l p r.0) r.1)
      (around_or_through k y z q))
      (below_cases h)

  -- every chain is found
  tied_found : {x z : ℕ} → Tied net x z → tied_below net net.variables x z ≡ true
  unfolding tied_below
  tied_found {x} same = direct net.variables x x (or_left (ltb x net.variables && net.linked x x) (eq-eqb x x refl))
  tied_found {x} {z} (next {y = y} h l c) =
      in_front net.variables x y z h
      (or_right (eqb x y) (and_intro (lt-ltb y net.variables h) l)) (tied_found c)

  -- the test holds exactly if a chain ties the two variables
  pub tied_exactly : (x z : ℕ) → (is_tied net x z ≡ true) ↔ Tied net x z
  unfolding is_tied
  tied_exactly x z = (tied_of _ x z, tied_found)

-- ---- apart from a variable

module _ (net : Network) (z : ℕ) (d : Domains) where
  -- the domains of the variables that no chain ties to `z`, the others empty
  abbrev apart : Domains
  apart x v = not (is_tied net x z) && d x v

  -- what they hold is of a variable that no chain ties to `z`
  apart_untied : (x v : ℕ) → apart x v ≡ true → Untied net x z
  unfolding Untied
  apart_untied x v h c = clash (and_left (not (is_tied net x z)) (d x v) h) (not_of_true ((tied_exactly net x z).1 c))

  -- and they hold all that such a variable has
  untied_apart : (x v : ℕ) → Untied net x z → d x v ≡ true → apart x v ≡ true
  unfolding Untied
  untied_apart x v u h = and_intro (not_of (refuted (is_tied net x z) (λ e. u ((tied_exactly net x z).0 e)))) h

  -- they are arc-consistent by themselves: no constraint leads out of them
  apart_consistent : ConsistentApart net z d → ConsistentWithin net apart
  unfolding Untied Within ArcConsistent Supported
  apart_consistent c = record {
    within = λ x v h. c.within x v (apart_untied x v h) (and_right (not (is_tied net x z)) (d x v) h);
    consistent = λ x v h y below l.
        let s = c.consistent x v (apart_untied x v h) (and_right (not (is_tied net x z)) (d x v) h) y below l in
        (s.0, untied_apart y s.0 (λ t. apart_untied x v h (next below l t)) s.1, s.2);
  }

  -- the largest domains hold what is arc-consistent apart from `z`, whatever its domain is, empty or not
  pub untied_keeps : ConsistentApart net z d → (e : Domains) → Largest net e
      → (x v : ℕ) → Untied net x z → d x v ≡ true → e x v ≡ true
  unfolding Within
  untied_keeps c e largest x v u h =
      largest_contains net e apart largest (apart_consistent c) x v (untied_apart x v u h)
