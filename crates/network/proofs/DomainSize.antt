-- How many loaded labels are in the domains.
use Prim.Native.Nat.{ℕ, ◌+◌, ◌<◌}
use mathlib.Core.Path.{◌≡◌, sym, ◌∙◌}
use Rattle.base.proofs.Sums.{sum_ext, sum_add}
use Rattle.base.specs.Below.{one}
use Rattle.network.specs.Network.{Network, Domains, domain_size}

-- domains that are made of two parts
pub size_split : (net : Network) (d e t : Domains)
    → ((x v : ℕ) → x < net.variables → v < net.size x → one (e x v) + one (t x v) ≡ one (d x v))
    → domain_size net e + domain_size net t ≡ domain_size net d
unfolding domain_size
size_split net d e t f =
    sym (sum_add net.variables _ _)
    ∙ sum_ext net.variables _ _ (λ x h.
    sym (sum_add (net.size x) _ _) ∙ sum_ext (net.size x) _ _ (λ v i. f x v h i))
