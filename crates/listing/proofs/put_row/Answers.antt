-- `listing::put_row` writes a row's words into the cells of its variable. Invariant: the words left, put there, make what all make;
-- the words left fall. Assumes nothing.
use Prim.Native.Nat.{ℕ, suc, ◌+◌, ◌-◌, ◌*◌, ◌≤◌}
use mathlib.Core.Path.{◌≡◌, ◌∙◌, ap}
use native.Mathlib.Nat.{mul-le-mul_right, mul-suc}
use native.Mathlib.Omega.{arith}
use lib.ListN.{length-set}
use Rattle.disac4.specs.Need.{list_need}
use Rattle.format.specs.Limits.{max_words, max_variables}
use Rattle.listing.proofs.ListCells.{put_words, row_put}
use Rattle.listing.proofs.put_row.Goals as goal
use Rattle.listing.proofs.put_row.Goals.{Start}

-- the cells of a variable are among the needed ones
low : (s : Start) → s.args.words * s.args.x + s.args.words ≤ max_words * max_variables
low s =
    let a = s.args in
    omega (arith, mul-suc a.words a.x, mul-le-mul_right (suc a.x) s.requires.0, s.requires.1)

pub bounds-lists-start : goal.bounds-lists-start
unfolding list_need
bounds-lists-start c =
    omega (arith, low (goal.at.bounds-lists-start c).Start, c.requires.2, c.loop-k.invariant, c.loop-k-test.true)

pub loop-k-preserved : goal.loop-k-preserved
unfolding put_words
loop-k-preserved c =
    let l = c.loop-k in
    let e : suc (l.k - 1) ≡ l.k = omega (arith, c.loop-k-test.true) in (
      length-set l.lists _ _ ∙ l.invariant.0,
      ap (λ (k : ℕ). put_words (c.args.words * c.args.x) k l.rest l.lists) e ∙ l.invariant.1,
    )

pub returns : goal.returns
unfolding put_words list_need
returns c =
    let l = c.loop-k in
    let none_left : 0 ≡ l.k = omega (arith, c.loop-k-test.false) in
    ap (λ (k : ℕ). put_words (c.args.words * c.args.x) k l.rest l.lists) none_left
    ∙ l.invariant.1
    ∙ row_put c.args.words c.args.x c.args.row c.args.lists.now (omega (arith, low (goal.at.returns c).Start, c.requires.2))
