-- The plan check's whole outcome.
use Rattle.std.specs.Prelude.{ℕ, List, length, Result, Ok, Err}
use Rattle.std.proofs.Math.Option.{Option}
use Rattle.network.specs.Network.{label_count}
use Rattle.plan.specs.Decode.{Decoded, accepted, declined, plan_of, decoded_as, decode}
use Rattle.plan.specs.Network.{network_of}
use Rattle.plan.specs.Plan.{Plan}
use Rattle.faults.specs.declared.Decline.{Decline}
use Rattle.plan.specs.declared.Counts.{Counts}

-- p, n, the number of rules and L
unfoldable pub counts_of : Plan → Counts
counts_of plan = record {
  workers = plan.workers;
  variables = length plan.variables;
  constraints = length plan.constraints;
  labels = label_count (network_of plan);
}

-- what was decoded, as the plan check's answer: the counts of an accepted plan, or the fault and its place
abbrev pub checked_as : Decoded → Result Counts Decline
checked_as (accepted plan) = Ok (counts_of plan)
checked_as (declined d) = Err d

-- the answer of a check that finds this fault, or none
unfoldable pub check_of : List ℕ → Option Decline → Result Counts Decline
check_of b fault = checked_as (decoded_as (plan_of b) fault)

-- the plan check alone: "on success returns p, n, the number of rules and L"
unfoldable pub plan_check : List ℕ → Result Counts Decline
plan_check b = checked_as (decode b)
