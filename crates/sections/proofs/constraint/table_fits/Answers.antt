-- `sections::constraint::table_fits` says whether each row of a table fits the second variable's count. Assumes nothing.
use Prim.Native.Nat.{◌^◌}
use mathlib.Core.Bool.{Bool}
use mathlib.Core.Path.{◌≡◌}
use native.Mathlib.Omega.{arith}
use lib.Dec.{ltb}
use Rattle.base.specs.Below.{all_below}
use Rattle.format.proofs.KindTests.{other_kind}
use Rattle.format.specs.Format.{table_row_at}
use Rattle.format.specs.declared.kind.Kind.TheVariants.{Table}
use Rattle.plan.proofs.InOrder.{InOrder, ordered}
use Rattle.plan.specs.Check.{table_fits}
use Rattle.sections.proofs.constraint.table_fits.Goals as goal
use Rattle.sections.proofs.constraint.table_fits.Goals.{After-row_words, Start}

pub returns-then-ne : goal.returns-then-ne
unfolding table_fits
returns-then-ne c = rw (other_kind _ _ Table c.at.ensures c.if-ne.ensures)

-- the numbers of both variables are in order
order : (s : Start) → InOrder s.args.plan.now s.args.at
order s = ordered s.args.plan.now s.args.at s.requires.2

pub numbered_size-rows-requires : goal.numbered_size-rows-requires
numbered_size-rows-requires c =
    (c.requires.0, omega (arith, order (goal.at.numbered_size-rows-requires c).Start, c.first.ensures.0), omega (arith, order (goal.at.numbered_size-rows-requires c).Start, c.first.ensures.0))

pub numbered_size-width-requires : goal.numbered_size-width-requires
numbered_size-width-requires c =
    (c.requires.0, omega (arith, order (goal.at.numbered_size-width-requires c).Start, c.second.ensures.0), omega (arith, order (goal.at.numbered_size-width-requires c).Start, c.second.ensures.0))

-- what is left to say is whether the rows fit
module _ (c : After-row_words) where
  decides : (r : Bool)
      → r ≡ all_below c.numbered_size-rows.result
      (λ v. ltb (table_row_at c.args.plan.now c.args.at v) (2 ^ c.numbered_size-width.result))
      → r ≡ table_fits c.args.plan.now c.args.at
  unfolding table_fits
  decides r e =
      rw (
        other_kind _ _ Table c.at.ensures c.if-ne.ensures,
        ← c.first.ensures.0,
        ← c.numbered_size-rows.ensures.0,
        ← c.second.ensures.0,
        ← c.numbered_size-width.ensures.0,
      )
      e

pub returns-then-row_words-eq1 : goal.returns-then-row_words-eq1
returns-then-row_words-eq1 c = decides (goal.at.returns-then-row_words-eq1 c).After-row_words c.rows_fit.result c.rows_fit.ensures

pub returns : goal.returns
returns c = decides (goal.at.returns c).After-row_words c.rows_fit-2.result c.rows_fit-2.ensures
