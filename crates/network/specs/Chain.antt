-- Chains of constraints, and domains that are arc-consistent away from a variable.
use Rattle.std.specs.Prelude.{ℕ, zero, suc, ◌<◌, Bool, true, ◌&&◌, ◌||◌, ◌≡◌, ltb, eqb}
use Rattle.network.specs.Consistency.{Supported}
use Rattle.network.specs.Network.{Network, Domains, loaded}

-- a chain of constraints (rules) ties `x` to `z`: each variable on it shares a constraint with the next
pub data Tied (net : Network) : ℕ → ℕ → Type 0 where
  same : {x : ℕ} → Tied net x x
  next : {x y z : ℕ} → y < net.variables → net.linked x y ≡ true → Tied net y z → Tied net x z

-- no chain of constraints ties `x` to `z`
unfoldable pub Untied : Network → ℕ → ℕ → Type 0
Untied net x z = Tied net x z → ⊥

-- whether a chain ties `x` to `z` that has variables below `k` alone between the two
unfoldable pub tied_below : Network → ℕ → ℕ → ℕ → Bool
tied_below net zero x z = eqb x z || (ltb z net.variables && net.linked x z)
tied_below net (suc k) x z = tied_below net k x z || (tied_below net k x k && tied_below net k k z)

-- whether a chain ties `x` to `z`
unfoldable pub is_tied : Network → ℕ → ℕ → Bool
is_tied net x z = tied_below net net.variables x z

-- the domains of the variables that no chain ties to `z` are arc-consistent within the loaded ones; nothing is asked of the
-- domain of `z` and of those that are tied to it
pub record ConsistentApart (net : Network) (z : ℕ) (d : Domains) : Type 0 where
  pub within : (x v : ℕ) → Untied net x z → d x v ≡ true → loaded net x v ≡ true
  pub consistent : (x v : ℕ) → Untied net x z → d x v ≡ true → (y : ℕ) → y < net.variables → net.linked x y ≡ true
      → Supported net d x v y
