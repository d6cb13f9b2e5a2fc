-- The largest arc-consistent domains: they are arc-consistent, contain all others, exist, and are the only ones.
use Prim.Native.Nat.{ℕ, ◌<◌}
use mathlib.Core.Bool.{true}
use mathlib.Core.Path.{◌≡◌, fun_ext}
use Rattle.base.proofs.Bools.{bool_ext}
use Rattle.network.proofs.Sweeps.{sweeps_end}
use Rattle.network.specs.Consistency.{Within, Supported, ArcConsistent, ConsistentWithin, InSome, Largest}
use Rattle.network.specs.Network.{Network, Domains, loaded}
use Rattle.network.specs.Sweep.{swept, sweep_count}

module _ (net : Network) where
  -- the largest domains are arc-consistent domains within the loaded ones themselves
  pub largest_consistent : (d : Domains) → Largest net d → ConsistentWithin net d
  unfolding Within Supported ArcConsistent InSome Largest
  largest_consistent d h = record { within = inner; consistent = supported }
    where
      supported : (x v : ℕ) → d x v ≡ true → (y : ℕ) → y < net.variables → net.linked x y ≡ true → Supported net d x v y
      supported x v p y l q =
          let s : InSome net x v = (h x v).0 p in
          let w : Supported net s.0 x v y = s.1.consistent x v s.2 y l q in
          (w.0, (h y w.0).1 (s.0, s.1, w.1), w.2)

      inner : (x v : ℕ) → d x v ≡ true → loaded net x v ≡ true
      inner x v p = let s : InSome net x v = (h x v).0 p in s.1.within x v s.2

  -- the largest domains contain all arc-consistent domains within the loaded ones
  pub largest_contains : (d e : Domains) → Largest net d → ConsistentWithin net e → Within e d
  unfolding Within InSome Largest
  largest_contains d e h c x v p = (h x v).1 (e, c, p)

  -- arc-consistent domains that contain all others are the largest
  pub largest_of : (d : Domains) → ConsistentWithin net d → ((e : Domains) → ConsistentWithin net e → Within e d)
      → Largest net d
  unfolding Within InSome Largest
  largest_of d c h x v = (λ p. (d, c, p), λ s. h s.0 s.1 x v s.2)

  -- no two domains are the largest
  pub largest_unique : (d e : Domains) → Largest net d → Largest net e → d ≡ e
  unfolding Within
  largest_unique d e h k =
      fun_ext
      (λ x.
      fun_ext
      (λ v.
      bool_ext (d x v) (e x v) (largest_contains e d k (largest_consistent d h) x v)
      (largest_contains d e h (largest_consistent e k) x v)))

  -- the sweeps end with the largest domains
  pub sweeps_largest : Largest net (swept net (sweep_count net))
  sweeps_largest =
      let r = sweeps_end net in
      largest_of (swept net (sweep_count net)) r.0 r.1.outer

  -- so there are largest domains
  pub largest_exists : (d : Domains) × Largest net d
  largest_exists = (swept net (sweep_count net), sweeps_largest)
