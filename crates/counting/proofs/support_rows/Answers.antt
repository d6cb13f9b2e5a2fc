-- `counting::support_rows` gives the rows of a variable's values against another, and gathers those of the other's values.
-- Invariant: the rows of the first v values are there, and these values are gathered. Assumes nothing.
use Prim.Native.Nat.{ℕ, ◌^◌, ◌<◌}
use mathlib.Core.List.{List}
use mathlib.Core.Path.{◌≡◌, ◌∙◌, ap}
use native.Mathlib.Omega.{arith}
use Rattle.cells.specs.Layout.{VALUEROOM}
use Rattle.base.specs.Row.{row_of}
use Rattle.counting.proofs.CountLaws.{size_low, supports_held, supports_fit, rows_more, gathered_small, gathered_more, gathered_all}
use Rattle.counting.specs.Count.{support_row}
use Rattle.index.proofs.Linked.{linked_inside}
use Rattle.plan.specs.Decode.{plan_of}
use Rattle.plan.specs.Network.{network_of}
use Rattle.counting.proofs.support_rows.Goals as goal
use Rattle.counting.proofs.support_rows.Goals.{After-support_row-row, In-loop-v}

pub size-n-requires : goal.size-n-requires
size-n-requires c =
    (c.requires.0, (linked_inside c.args.plan.now c.requires.0.sound c.args.x c.args.y c.requires.1).0)

pub size-m-requires : goal.size-m-requires
size-m-requires c =
    (c.requires.0, (linked_inside c.args.plan.now c.requires.0.sound c.args.x c.args.y c.requires.1).1)

pub loop-v-init : goal.loop-v-init
unfolding row_of
loop-v-init c = (
  record { long = c.no_rows-rows.ensures.long; each = λ w h. absurd (omega arith) },
  c.requires.2,
)

-- the loop at value v, and what was known before it
module _ (t : In-loop-v) where
  abbrev plan-of : List ℕ
  plan-of = t.args.plan.now

  abbrev row : ℕ
  row = support_row (network_of (plan_of plan-of)) t.args.x t.args.y t.loop-v.v

  small : t.loop-v.v < VALUEROOM
  small = omega (arith, t.loop-v-test.true, t.size-n.ensures)

pub support_row-row-requires : goal.support_row-row-requires
support_row-row-requires c = (
  c.requires.0,
  record {
    variable = (linked_inside (plan-of (goal.at.support_row-row-requires c).In-loop-v) c.requires.0.sound c.args.x c.args.y c.requires.1).0;
    value = omega (arith, c.loop-v-test.true, c.size-n.ensures);
  },
  c.requires.1,
)

found : (c : After-support_row-row) → c.support_row-row.result ≡ row (goal.at.After-support_row-row c).In-loop-v
unfolding network_of
found c = c.support_row-row.ensures

pub overflow_cast-rows : goal.overflow_cast-rows
overflow_cast-rows c =
    omega (
      arith,
      supports_fit (plan-of (goal.at.overflow_cast-rows c).In-loop-v) c.requires.0.sound c.args.x c.args.y c.requires.1 c.loop-v.v _ (found (goal.at.overflow_cast-rows c).After-support_row-row),
    )

pub gather-requires : goal.gather-requires
unfolding network_of
gather-requires c =
    let g = c.loop-v.invariant.1 in
    record {
      long = g.long;
      few = omega (arith, c.size-m.ensures.1);
      value = small (goal.at.gather-requires c).In-loop-v;
      held = omega (
        arith,
        ap (λ (n : ℕ). 2 ^ n) c.size-m.ensures.0,
        supports_held (plan-of (goal.at.gather-requires c).In-loop-v) c.requires.0.sound c.args.x c.args.y c.requires.1 c.loop-v.v _ (found (goal.at.gather-requires c).After-support_row-row),
      );
      lower = gathered_small (plan_of (plan-of (goal.at.gather-requires c).In-loop-v)) c.args.x c.args.y c.loop-v.v c.loop-v.others g;
    }

pub loop-v-preserved : goal.loop-v-preserved
loop-v-preserved c =
    let at = c.loop-v in (
      rows_more _ at.v at.rows _ (small (goal.at.loop-v-preserved c).In-loop-v) at.invariant.0 (found (goal.at.loop-v-preserved c).After-support_row-row),
      gathered_more (plan_of (plan-of (goal.at.loop-v-preserved c).In-loop-v)) c.args.x c.args.y at.v at.others _ c.support_row-row.result at.invariant.1 (found (goal.at.loop-v-preserved c).After-support_row-row)
          c.gather.ensures,
    )

pub returns : goal.returns
unfolding network_of
returns c =
    let b = c.args.plan.now in
    let e : c.loop-v.v ≡ c.size-n.result = omega arith in
    let all = e ∙ c.size-n.ensures.0 in (
      rw all at c.loop-v.invariant.0,
      gathered_all (plan_of b) c.args.x c.args.y c.loop-v.others
          (size_low b c.requires.0.sound c.args.x c.args.y c.requires.1) (rw all at c.loop-v.invariant.1),
    )
