-- `cells::clear::clear` makes the needed cells 0 and keeps the others. Assumes nothing.
use Prim.Native.Nat.{ℕ}
use mathlib.Core.List.{◌++◌}
use mathlib.Core.Path.{sym, ◌∙◌, ap}
use lib.ListN.{drop, replicate, length-replicate}
use Rattle.std.proofs.lemmas.List.{length-take-le}
use Rattle.disac4.specs.Need.{work_need}
use Rattle.lending.proofs.Overwritten.{written_all}
use Rattle.cells.proofs.clear.clear.Goals as goal

pub slice_bounds-fill-end : goal.slice_bounds-fill-end
unfolding work_need
slice_bounds-fill-end c = c.requires

pub slice_bounds-fill-end-2 : goal.slice_bounds-fill-end-2
unfolding work_need
slice_bounds-fill-end-2 c = sym (length-take-le work_need c.args.cells.now c.requires)

pub returns : goal.returns
unfolding work_need
returns c =
    let cells = c.args.cells.now in
    ap (λ p. p ++ drop work_need cells)
    (c.fill.ensures.after (λ y e. e)
    ∙ ap (λ (n : ℕ). replicate n 0) (length-take-le work_need cells c.requires))
    ∙ written_all (replicate work_need 0) work_need (length-replicate {A = ℕ} work_need 0) cells
