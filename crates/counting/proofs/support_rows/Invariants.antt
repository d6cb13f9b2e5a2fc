use Rattle.cells.specs.Layout.{VALUEROOM}
use Rattle.counting.proofs.CountLaws.{gathered}
use Rattle.counting.specs.Count.{FirstRows, support_row}
use Rattle.plan.specs.Decode.{plan_of}
use Rattle.plan.specs.Network.{network_of}
use Rattle.counting.proofs.support_rows.Given as goal

abbrev pub invariant-loop-v : goal.invariant-loop-v
invariant-loop-v l =
    FirstRows (support_row (network_of (plan_of l.plan)) l.x l.y) l.v l.rows × FirstRows (gathered (plan_of l.plan) l.x l.y l.v) VALUEROOM l.others
