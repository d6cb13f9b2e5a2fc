-- `cells::layout::put` changes one point of the memory. Assumes nothing.
use Prim.Native.Nat.{ℕ, ◌<◌}
use mathlib.Core.Path.{◌∙◌, ap}
use native.Mathlib.Omega.{arith}
use lib.ListN.{get_or, set}
use Rattle.disac4.specs.Need.{work_need}
use Rattle.cells.proofs.Regions.{place_needed, put_law}
use Rattle.cells.specs.Layout.{address}
use Rattle.cells.specs.Memory.{with_share, mem_of}
use Rattle.cells.proofs.layout.put.Goals as goal
use Rattle.cells.proofs.layout.put.Goals.{Start}

near : (c : Start) → address c.args.g c.args.i c.args.j < work_need
near c = place_needed c.args.cells.now c.args.g c.args.i c.args.j c.requires.0

pub place-at-requires : goal.place-at-requires
place-at-requires c = near (goal.at.place-at-requires c).Start

pub bounds-cells-at : goal.bounds-cells-at
bounds-cells-at c =
    omega (arith, near (goal.at.bounds-cells-at c).Start, c.place-at.ensures, c.requires.0.long)

pub bounds-cells-at-2 : goal.bounds-cells-at-2
bounds-cells-at-2 c =
    omega (arith, near (goal.at.bounds-cells-at-2 c).Start, c.place-at.ensures, c.requires.0.long)

pub returns : goal.returns
returns c =
    let a = c.args in
    let old = a.cells.now in
    let placed = c.place-at in
    ap (λ (w : ℕ). mem_of (set old placed.result w)) c.with_share.ensures.0
    ∙ ap (λ (k : ℕ). mem_of (set old k (with_share a.g a.i a.v (get_or old k 0)))) placed.ensures
    ∙ put_law old a.g a.i a.j c.requires.0 a.v c.requires.1
