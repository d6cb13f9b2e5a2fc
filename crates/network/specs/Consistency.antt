-- Arc-consistent domains and the largest ones: definitions 4 to 7 of source document 001, as document 01 words them.
use Rattle.std.specs.Prelude.{ℕ, ◌<◌, true, ◌↔◌, ◌≡◌}
use Rattle.network.specs.Network.{Network, Domains, loaded}

-- each domain of `d` lies within that of `e`
unfoldable pub Within : Domains → Domains → Type 0
Within d e = (x v : ℕ) → d x v ≡ true → e x v ≡ true

-- label `v` of `x` has a support in `y`'s domain
unfoldable pub Supported : Network → Domains → ℕ → ℕ → ℕ → Type 0
Supported net d x v y = (w : ℕ) × (d y w ≡ true) × (net.allows x v y w ≡ true)

-- every label has, against every variable that it shares a constraint with, a support still in the domain
unfoldable pub ArcConsistent : Network → Domains → Type 0
ArcConsistent net d =
    (x v : ℕ) → d x v ≡ true → (y : ℕ) → y < net.variables → net.linked x y ≡ true → Supported net d x v y

-- arc-consistent domains, each within the loaded one
pub record ConsistentWithin (net : Network) (d : Domains) : Type 0 where
  pub within : Within d (loaded net)
  pub consistent : ArcConsistent net d

-- some arc-consistent domains within the loaded ones hold the label
unfoldable pub InSome : Network → ℕ → ℕ → Type 0
InSome net x v = (d : Domains) × ConsistentWithin net d × (d x v ≡ true)

-- the largest arc-consistent domains hold a label exactly if some arc-consistent domains within the loaded ones do
unfoldable pub Largest : Network → Domains → Type 0
Largest net d = (x v : ℕ) → (d x v ≡ true) ↔ InSome net x v
