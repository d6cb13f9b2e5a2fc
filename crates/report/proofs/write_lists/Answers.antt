-- `report::write_lists` puts each variable's row into its list cell. Invariant: the cells of the first x variables
-- hold their rows, the others are as they were. Assumes nothing.
use Prim.Native.Nat.{ℕ, ◌≤◌}
use mathlib.Core.List.{List}
use mathlib.Core.Path.{◌≡◌, ◌∙◌, ap, ap₂}
use native.Mathlib.Omega.{arith}
use lib.ListN.{length}
use Rattle.cells.specs.Memory.{mem_of}
use Rattle.format.specs.Limits.{max_variables}
use Rattle.index.proofs.Counted.{counted}
use Rattle.listing.proofs.ListCells.{rows_before, rows_none, rows_length, rows_next}
use Rattle.listing.specs.ListCells.{put_row}
use Rattle.report.proofs.Reported.{domain_row, rows_written}
use Rattle.report.proofs.write_lists.Goals as goal
use Rattle.report.proofs.write_lists.Goals.{At-loop-x}

pub loop-x-init : goal.loop-x-init
loop-x-init c =
    rows_none _ (domain_row c.args.plan.now (mem_of c.args.cells.now)) c.args.lists.now

abbrev row : At-loop-x → ℕ → ℕ
row c = domain_row c.args.plan.now (mem_of c.args.cells.now)

-- no plan has more variables than there is room for
few : (c : At-loop-x) → c.variable_count-variables.result ≤ max_variables
few c = (counted c.requires.0 c.variable_count-variables.ensures.0).few

-- the cells are as many as they were
same : (c : At-loop-x) → length c.loop-x.lists ≡ length c.args.lists.now
same c =
    ap length c.loop-x.invariant
    ∙ rows_length _ c.row_words-words.ensures.2 (row c) c.loop-x.x c.args.lists.now c.requires.1 (omega (arith, few c))

pub put_row-requires : goal.put_row-requires
put_row-requires c =
    (omega (arith, c.row_words-words.ensures.2), omega (arith, few (goal.at.put_row-requires c).At-loop-x), omega (arith, same (goal.at.put_row-requires c).At-loop-x, c.requires.1))

pub loop-x-preserved : goal.loop-x-preserved
loop-x-preserved c =
    let x = c.loop-x.x in
    c.put_row.ensures
    ∙ ap₂ (λ (a : List ℕ) (v : ℕ). put_row c.row_words-words.result x v a) c.loop-x.invariant c.domain_row.ensures
    ∙ rows_next _ c.row_words-words.ensures.2 (row (goal.at.loop-x-preserved c).At-loop-x) x c.args.lists.now c.requires.1
    (omega (arith, few (goal.at.loop-x-preserved c).At-loop-x))

pub returns : goal.returns
returns c t =
    c.loop-x.invariant
    ∙ ap (λ (n : ℕ). rows_before n (row (goal.at.returns c).At-loop-x) c.loop-x.x c.args.lists.now) c.row_words-words.ensures.0
    ∙ rows_written c.args.plan.now (mem_of c.args.cells.now) c.loop-x.x c.args.lists.now
    (omega (arith, c.variable_count-variables.ensures)) t
