-- `sweeping::sweep_row` gives the values of a variable that a sweep keeps. Invariant: the row is what is left after the first
-- y variables, for any domains that the lists show. Assumes nothing.
use Prim.Native.Nat.{ℕ, ◌+◌}
use mathlib.Core.Path.{sym, ◌∙◌, ap, subst}
use native.Mathlib.Omega.{arith}
use Rattle.disac4.specs.System.{network_at}
use Rattle.format.specs.Lists.{row_in}
use Rattle.format.specs.Version.{row_words}
use Rattle.listing.specs.ListCells.{Shows}
use Rattle.plan.specs.Network.{network_of}
use Rattle.index.proofs.Counted.{counted}
use Rattle.sweeping.proofs.RowLeft.{Revised, left_none, left_past, left_next, left_all}
use Rattle.sweeping.proofs.sweep_row.Goals as goal
use Rattle.sweeping.proofs.sweep_row.Goals.{then-linked, else-linked}

pub loop-y-init : goal.loop-y-init
unfolding Shows
loop-y-init c =
    let all = counted c.requires.0 c.variable_count-variables.ensures.0 in
    λ d shows.
    c.row_at-row.ensures
    ∙ ap (λ (n : ℕ). row_in n c.args.lists.now c.args.x) c.row_words.ensures.0
    ∙ shows c.args.x (omega (arith, all, c.requires.1))
    ∙ left_none (network_at c.args.plan.now) d c.args.x

pub linked-requires : goal.linked-requires
linked-requires c =
    let all = counted c.requires.0 c.variable_count-variables.ensures.0 in
    (omega (arith, all, c.requires.1), omega (arith, all), c.requires.0.long)

pub loop-y-preserved : goal.loop-y-preserved
unfolding network_of
loop-y-preserved c =
    let plan = c.args.plan.now in
    let net = network_at plan in
    let test = c.linked.ensures plan c.requires.0.index in
    let row = c.loop-y.invariant in
    let Next : ℕ → Type 0 = λ r. Revised (row_words plan) net c.args.lists.now c.args.x r (c.loop-y.y + 1) in
    elim c.if-linked.branch [
      | then-linked w ↦
          subst Next (sym w.row-is)
          (λ d shows.
          w.revised_row-row.ensures d shows
          ∙ left_next net d c.args.x c.loop-y.y c.loop-y.row (sym test ∙ w.if-linked.true) (row d shows))
      | else-linked w ↦
          subst Next (sym w.row-is)
          (λ d shows.
          row d shows ∙ left_past net d c.args.x c.loop-y.y (sym test ∙ w.if-linked.false))
    ]

pub returns : goal.returns
unfolding network_of
returns c d shows =
    let all = counted c.requires.0 c.variable_count-variables.ensures.0 in
    let l = c.loop-y in
    l.invariant d shows
    ∙ left_all (network_at c.args.plan.now) d c.args.x l.y (omega (arith, all.all))
