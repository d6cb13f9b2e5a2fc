-- A constraint network whose variables are spread over workers (kitchens).
use Rattle.std.specs.Prelude.{ℕ, ◌+◌, ◌*◌, ◌<◌, ◌≤◌, List}
use Rattle.format.specs.Limits.{max_workers}
use Rattle.network.specs.Network.{Network, label_count}
use Rattle.plan.specs.Decode.{plan_of}
use Rattle.plan.specs.Network.{network_of}
use Rattle.plan.specs.Plan.{Plan, variable_of}

-- Actors are numbered: 0 is the controller (desk), 1 to `workers` are the workers.
pub record System : Type 0 where
  pub net : Network
  -- p
  pub workers : ℕ
  -- the worker that owns a variable
  pub owner : ℕ → ℕ

-- the system of a plan
unfoldable pub system_of : Plan → System
system_of plan = record { net = network_of plan; workers = plan.workers; owner = λ x. (variable_of plan x).owner }

-- the network of an accepted plan's bytes
abbrev pub network_at : List ℕ → Network
network_at b = network_of (plan_of b)

-- and its system
abbrev pub system_at : List ℕ → System
system_at b = system_of (plan_of b)

-- an actor that is a worker
pub record Worker (sys : System) (k : ℕ) : Type 0 where
  pub above : 0 < k
  pub within : k ≤ sys.workers

-- no more workers than a plan may have, one at least, and every variable has its owner among them: so is each accepted plan's system
pub record Sound (sys : System) : Type 0 where
  pub few : sys.workers ≤ max_workers
  pub some_worker : 0 < sys.workers
  pub owned : (x : ℕ) → x < sys.net.variables → Worker sys (sys.owner x)

-- demand 3: at most this many turns of a run change something, 5pL + 2L + 3p + 1
unfoldable pub turn_bound : ℕ → ℕ → ℕ
turn_bound p l = 5 * p * l + 2 * l + 3 * p + 1

-- the bound of a system: p its workers, L its loaded labels
unfoldable pub bound_of : System → ℕ
bound_of sys = turn_bound sys.workers (label_count sys.net)
