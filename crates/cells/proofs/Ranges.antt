-- What `get`, `put` and `push` require, each by one call of `omega` in the code's proofs.
use Prim.Native.Nat.{ℕ, ◌<◌, ◌≤◌}
use mathlib.Core.List.{List}
use mathlib.Core.Path.{◌≡◌}
use lib.ListN.{length}
use Rattle.disac4.specs.Need.{work_need}
use Rattle.cells.specs.Layout.{BEHIND, region_at, Fits, room}
use Rattle.cells.specs.declared.Region.{Region}

module _ (cells : List ℕ) (g : Region) (i : ℕ) (known : region_at g.id ≡ g) where
  pub may_get : (j : ℕ) → (g.id < BEHIND) × (i < g.rows) × (j < g.cols) × (work_need ≤ length cells) → Fits cells g i j
  may_get j h = record { known = known; writable = h.0; row = h.1; col = h.2; long = h.3 }

  pub may_put : (j v : ℕ) → (g.id < BEHIND) × (i < g.rows) × (j < g.cols) × (work_need ≤ length cells) × (v < room g)
      → Fits cells g i j × (v < room g)
  may_put j v h = (may_get j (h.0, h.1, h.2, h.3), h.4)
