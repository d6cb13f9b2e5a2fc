-- `sweeping::put_loaded` puts the loaded lists into the first cells. Invariant: the cells of the first x variables hold all
-- their values, the others are as they were. Assumes nothing.
use Prim.Native.Nat.{ℕ, ◌-◌, ◌^◌}
use mathlib.Core.Path.{◌≡◌, ◌∙◌, ap, ap₂}
use native.Mathlib.Omega.{arith}
use lib.ListN.{length}
use Rattle.disac4.specs.System.{network_at}
use Rattle.lending.specs.Call.{overwrite}
use Rattle.listing.proofs.ListCells.{rows_none, rows_length, rows_next, rows_all}
use Rattle.listing.specs.ListCells.{put_row}
use Rattle.disac4.specs.Report.{domain_cells}
use Rattle.network.specs.Network.{loaded}
use Rattle.plan.specs.Network.{network_of}
use Rattle.index.proofs.Counted.{counted}
use Rattle.sweeping.proofs.LoadedRows.{loaded_row}
use Rattle.sweeping.proofs.put_loaded.Goals as goal
use Rattle.sweeping.proofs.put_loaded.Invariants.{fullRow}
use Rattle.sweeping.proofs.put_loaded.Goals.{At-loop-x}

pub loop-x-init : goal.loop-x-init
loop-x-init c = rows_none _ _ _

-- the cells are as many as they were
long : (c : At-loop-x) → length c.loop-x.lists ≡ length c.args.lists.now
long c =
    let all = counted c.requires.0 c.variable_count-variables.ensures.0 in
    ap length c.loop-x.invariant
    ∙ rows_length _ c.row_words-words.ensures.2 (fullRow c.args.plan.now) c.loop-x.x c.args.lists.now c.requires.1
    (omega (arith, all.few))

pub put_row-requires : goal.put_row-requires
put_row-requires c = (
  c.row_words-words.ensures.2,
  omega (arith, counted c.requires.0 c.variable_count-variables.ensures.0),
  omega (arith, long (goal.at.put_row-requires c).At-loop-x, c.requires.1),
)

pub loop-x-preserved : goal.loop-x-preserved
unfolding network_of
loop-x-preserved c =
    let all = counted c.requires.0 c.variable_count-variables.ensures.0 in
    let plan = c.args.plan.now in
    let x = c.loop-x.x in
    let full : c.power.result - 1 ≡ fullRow plan x =
    ap (λ (n : ℕ). n - 1) (c.power.ensures ∙ ap (λ (n : ℕ). 2 ^ n) c.size.ensures.0)
    ∙ loaded_row (network_at plan) x (omega (arith, all.all)) in
    c.put_row.ensures
    ∙ ap₂ (put_row _ x) full c.loop-x.invariant
    ∙ rows_next _ c.row_words-words.ensures.2 (fullRow plan) x c.args.lists.now c.requires.1 (omega (arith, all))

pub returns : goal.returns
returns c =
    let all = counted c.requires.0 c.variable_count-variables.ensures.0 in
    let net = network_at c.args.plan.now in
    c.loop-x.invariant
    ∙ rows_all _ net (loaded net) c.args.lists.now c.loop-x.x (omega (arith, all.all))
    ∙ ap (λ (n : ℕ). overwrite (domain_cells n net (loaded net)) c.args.lists.now) c.row_words-words.ensures.0
