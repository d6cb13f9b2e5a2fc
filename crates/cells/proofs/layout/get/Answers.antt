-- `cells::layout::get` gives what stands at a row and column of a region. Assumes nothing.
use Prim.Native.Nat.{ℕ, ◌<◌}
use mathlib.Core.Path.{sym, ◌∙◌, ap}
use native.Mathlib.Omega.{arith}
use lib.ListN.{get_or}
use Rattle.disac4.specs.Need.{work_need}
use Rattle.cells.proofs.Regions.{place_needed, get_law}
use Rattle.cells.specs.Layout.{address}
use Rattle.cells.specs.Memory.{share_of}
use Rattle.cells.proofs.layout.get.Goals as goal
use Rattle.cells.proofs.layout.get.Goals.{Start}

-- the place, which every need speaks of
near : (c : Start) → address c.args.g c.args.i c.args.j < work_need
near c = place_needed c.args.cells.now c.args.g c.args.i c.args.j c.requires

pub place-at-requires : goal.place-at-requires
place-at-requires c = near (goal.at.place-at-requires c).Start

pub bounds-cells-at : goal.bounds-cells-at
bounds-cells-at c =
    omega (arith, near (goal.at.bounds-cells-at c).Start, c.place-at.ensures, c.requires.long)

pub returns : goal.returns
returns c =
    let a = c.args in (
      c.share.ensures.0
          ∙ ap (λ (k : ℕ). share_of a.g a.i (get_or a.cells.now k 0)) c.place-at.ensures
          ∙ sym (get_law a.cells.now a.g a.i a.j c.requires),
      c.share.ensures.1,
    )
