-- Solutions: each lies within the largest domains, and a choice of loaded values is one exactly if it breaks no constraint.
use Prim.Native.Nat.{ℕ, ◌<◌}
use mathlib.Core.Bool.{true, ◌&&◌}
use mathlib.Core.Path.{◌≡◌, refl}
use native.Mathlib.Omega.{arith}
use borrow.Author.Tests.{eqb-true, eq-eqb, ltb-true, lt-ltb}
use lib.Dec.{ltb, eqb}
use Rattle.base.proofs.Below.{all_below_lem, every_below}
use Rattle.base.proofs.Bools.{and_left, and_right, and_intro, implied, implies}
use Rattle.network.proofs.Largest.{largest_contains}
use Rattle.network.proofs.Loaded.{loaded_intro}
use Rattle.network.specs.Consistency.{Within, Supported, ArcConsistent, ConsistentWithin, Largest}
use Rattle.network.specs.Network.{Network, Domains, loaded}
use Rattle.network.specs.Solution.{Solution, agrees}

-- the domains that hold the values of a choice alone
abbrev chosen_only : Network → (ℕ → ℕ) → Domains
chosen_only net s x v = ltb x net.variables && eqb v (s x)

module _ (net : Network) (s : ℕ → ℕ) (sol : Solution net s) where
  -- the values of a solution are arc-consistent domains by themselves
  solution_consistent : ConsistentWithin net (chosen_only net s)
  unfolding Within Supported ArcConsistent
  solution_consistent = record { within = inner; consistent = supported }
    where
      variable_of_lem : (x v : ℕ) → chosen_only net s x v ≡ true → x < net.variables
      variable_of_lem x v p = ltb-true x net.variables (and_left (ltb x net.variables) (eqb v (s x)) p)

      value_of : (x v : ℕ) → chosen_only net s x v ≡ true → v ≡ s x
      value_of x v p = eqb-true v (s x) (and_right (ltb x net.variables) (eqb v (s x)) p)

      inner : (x v : ℕ) → chosen_only net s x v ≡ true → loaded net x v ≡ true
      inner x v p =
          loaded_intro net x v (variable_of_lem x v p) (omega (arith, value_of x v p, sol.chosen x (variable_of_lem x v p)))

      supported : (x v : ℕ) → chosen_only net s x v ≡ true → (y : ℕ) → y < net.variables → net.linked x y ≡ true
          → Supported net (chosen_only net s) x v y
      supported x v p y l q = (
        s y,
        and_intro (lt-ltb y net.variables l) (eq-eqb (s y) (s y) refl),
        rw (value_of x v p) (sol.allowed x y (variable_of_lem x v p) l q),
      )

  -- a solution lies within the largest domains
  pub solution_within : (d : Domains) → Largest net d → (x : ℕ) → x < net.variables → d x (s x) ≡ true
  unfolding Within
  solution_within d h x l =
      largest_contains net d (chosen_only net s) h solution_consistent x (s x)
      (and_intro (lt-ltb x net.variables l) (eq-eqb (s x) (s x) refl))

-- choices that agree on the variables of the network are solutions together
pub solution_ext : (net : Network) (r s : ℕ → ℕ) → ((x : ℕ) → x < net.variables → r x ≡ s x) → Solution net s
    → Solution net r
solution_ext net r s h sol =
    record {
      chosen = λ x l. omega (arith, h x l, sol.chosen x l);
      allowed = λ x y l m q. rw (h x l, h y m) (sol.allowed x y l m q);
    }

module _ (net : Network) where
  -- a solution breaks no constraint
  pub solution_agrees : (s : ℕ → ℕ) → Solution net s → agrees net net.variables s ≡ true
  unfolding agrees
  solution_agrees s sol =
      every_below net.variables _
      (λ x l.
      every_below net.variables _
      (λ y m. implies (net.linked x y) (net.allows x (s x) y (s y)) (sol.allowed x y l m)))

  -- a choice of loaded values that breaks no constraint is a solution
  pub agrees_solution : (s : ℕ → ℕ) → ((x : ℕ) → x < net.variables → s x < net.size x)
      → agrees net net.variables s ≡ true → Solution net s
  unfolding agrees
  agrees_solution s c e =
      record {
        chosen = c;
        allowed =
            λ x y l m.
            implied (net.linked x y) (net.allows x (s x) y (s y))
            (all_below_lem net.variables _ (all_below_lem net.variables _ e x l) y m);
      }
