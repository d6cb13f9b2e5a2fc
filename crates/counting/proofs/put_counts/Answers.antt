-- `counting::put_counts` stores the counts of the rows that it is given. Invariant: those of the first v values are
-- stored. Assumes nothing.
use Prim.Native.Nat.{ℕ, ◌≤◌}
use lib.ListN.{get_or}
use mathlib.Core.Path.{◌≡◌, refl, ◌∙◌, ap₂}
use native.Mathlib.Omega.{arith}
use Rattle.cells.proofs.Done.{done_none, done_more, done_all}
use Rattle.cells.proofs.Ranges.{may_put}
use Rattle.cells.specs.Layout.{COUNTERS, VALUEROOM}
use Rattle.cells.specs.Memory.{mem_of, store}
use Rattle.counting.specs.Count.{support_row, count_pair_m}
use Rattle.disac4.specs.System.{system_of}
use Rattle.index.proofs.Labels.{linked_row}
use Rattle.index.proofs.Linked.{linked_inside, supports_counted}
use Rattle.network.specs.Network.{support_count}
use Rattle.plan.specs.Decode.{plan_of}
use Rattle.plan.specs.Network.{network_of}
use Rattle.counting.proofs.put_counts.Goals as goal
use Rattle.counting.proofs.put_counts.Goals.{After-row_count, In-loop-v}

pub size-n-requires : goal.size-n-requires
size-n-requires c =
    (c.requires.0, (linked_inside c.args.plan.now c.requires.0.sound c.args.x c.args.y c.requires.1).0)

pub counter_row-at-requires : goal.counter_row-at-requires
counter_row-at-requires c =
    linked_row c.args.plan.now c.args.cells.now c.requires.0 c.args.x c.args.y c.requires.1

pub loop-v-init : goal.loop-v-init
loop-v-init c = done_none

-- the value v that the loop has come to
module _ (t : In-loop-v) where
  given : get_or t.args.rows.now t.loop-v.v 0
      ≡ support_row (network_of (plan_of t.args.plan.now)) t.args.x t.args.y t.loop-v.v
  given = t.requires.2.each t.loop-v.v (omega (arith, t.loop-v-test.true, t.size-n.ensures))

-- its count
module _ (c : After-row_count) where
  counted : (c.row_count.result ≡ support_count (network_of (plan_of c.args.plan.now)) c.args.x c.loop-v.v c.args.y)
      × (c.row_count.result ≤ VALUEROOM)
  unfolding network_of
  counted =
      let a = c.args in
      supports_counted a.plan.now c.requires.0.sound a.x c.loop-v.v a.y _ c.row_count.result
      (linked_inside a.plan.now c.requires.0.sound a.x a.y c.requires.1).1 (given (goal.at.After-row_count c).In-loop-v) c.row_count.ensures

pub put-requires : goal.put-requires
put-requires c =
    may_put _ _ _ refl _ _
    (omega (
      arith,
      c.requires.0.long,
      c.loop-v.invariant.size,
      c.loop-v-test.true,
      c.size-n.ensures,
      c.counter_row-at.ensures,
      counted (goal.at.put-requires c).After-row_count,
    ))

pub loop-v-preserved : goal.loop-v-preserved
unfolding system_of
loop-v-preserved c =
    done_more c.loop-v.invariant c.put.auto.cells
    (c.put.ensures
    ∙ ap₂ (λ (at n : ℕ). store (mem_of c.loop-v.cells) COUNTERS at c.loop-v.v n) c.counter_row-at.ensures.0 (counted (goal.at.loop-v-preserved c).After-row_count).0)

pub returns : goal.returns
unfolding count_pair_m system_of network_of
returns c =
    done_all _ c.loop-v.invariant (omega (arith, c.size-n.ensures.0))
