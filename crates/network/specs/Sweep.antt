-- Sweeps: the domain restriction of source document 001, section 3, on all arcs. 001 restricts in place, one arc after the other;
-- document 02 decides that a sweep reads only the domains from before it.
use Rattle.std.specs.Prelude.{ℕ, zero, suc, Bool, cond, ◌&&◌, ◌||◌, not}
use Rattle.std.proofs.Math.Option.{none, some, get_or}
use Rattle.base.specs.Below.{any_below, all_below, first_below}
use Rattle.network.specs.Network.{Network, Domains, loaded, label_count}

-- label `v` of `x` has a support in the domain of `y`: as a test
unfoldable pub has_support : Network → Domains → ℕ → ℕ → ℕ → Bool
has_support net d x v y = any_below (net.size y) (λ w. d y w && net.allows x v y w)

-- it has one against every variable that it shares a constraint with
unfoldable pub has_supports : Network → Domains → ℕ → ℕ → Bool
has_supports net d x v = all_below net.variables (λ y. not (net.linked x y) || has_support net d x v y)

-- a sweep goes through all variables and keeps each value that has its supports
unfoldable pub sweep : Network → Domains → Domains
sweep net d x v = d x v && has_supports net d x v

-- a sweep of these domains deletes nothing
unfoldable pub rests : Network → Domains → Bool
rests net d = all_below net.variables (λ x. all_below (net.size x) (λ v. not (d x v) || has_supports net d x v))

-- the domains after `k` sweeps of the loaded ones
unfoldable pub swept : Network → ℕ → Domains
swept net zero = loaded net
swept net (suc k) = sweep net (swept net k)

-- how many sweeps there are: they end with the first that deletes nothing, which is one of the first L + 1, so that 0 is never given
-- (`comes_to_rest`)
unfoldable pub sweep_count : Network → ℕ
sweep_count net =
    get_or (first_below (suc (label_count net)) (λ k. cond (rests net (swept net k)) (some (suc k)) none)) 0
