-- From bytes to the plan, or to the fault and its place.
use Rattle.std.specs.Prelude.{ℕ, suc, cond, List, ltb, eqb, length}
use Rattle.std.proofs.Math.Option.{Option, none, some}
use Rattle.base.specs.Below.{first_below, list_below}
use Rattle.base.specs.Choice.{between, first_of}
use Rattle.format.specs.Format.{section_start, constraint_start, worker_count, variable_count, constraint_count, section_count, owner_at, size_at, code_at, figure_at, first_at, kind_at, table_row_at, limit_at, scope_of, numbered_size}
use Rattle.format.specs.Limits.{max_version}
use Rattle.format.specs.Version.{version}
use Rattle.plan.specs.Check.{section_fault}
use Rattle.faults.specs.Fault.{decline}
use Rattle.plan.specs.Plan.{Value, Variable, Relation, table, sum_limit, Constraint, Plan}
use Rattle.faults.specs.declared.Decline.{Decline}
use Rattle.faults.specs.declared.Fault.TheVariants.{Truncated, BadVersion, TrailingBytes}

-- where the last rule ends
unfoldable pub plan_end : List ℕ → ℕ
plan_end b = section_start b (section_count b)

-- 8: bytes after the last rule
unfoldable pub trailing_fault : List ℕ → Option Decline
trailing_fault b = cond (ltb (plan_end b) (length b)) (some (decline TrailingBytes (plan_end b))) none

-- the sections in turn, 8
unfoldable pub sections_fault : List ℕ → Option Decline
sections_fault b = first_of (first_below (section_count b) (section_fault b)) (trailing_fault b)

-- the first fault of a plan: 1 for an empty plan, 2, the sections in turn, 8
unfoldable pub plan_fault : List ℕ → Option Decline
plan_fault b =
    cond (eqb (length b) 0) (some (decline Truncated 0))
    (cond (between 1 max_version (version b)) (sections_fault b) (some (decline BadVersion 0)))

-- dish `v` of the slot whose section starts at `at`
abbrev pub value_at : List ℕ → ℕ → ℕ → Value
value_at b at v = record { code = code_at b at v; figure = figure_at b at v }

-- the slot whose section starts at `at`
unfoldable pub variable_at : List ℕ → ℕ → Variable
variable_at b at = record {
  owner = owner_at b at;
  values = list_below (size_at b at) (value_at b at);
}

-- what the rule says whose section starts at `at`: kind 0 is a table, the others have a limit
unfoldable pub relation_at : List ℕ → ℕ → Relation
relation_at b at =
    cond (eqb (kind_at b at) 0) (table (list_below (numbered_size b (first_at b at)) (table_row_at b at))) (sum_limit (limit_at b at))

-- the rule whose section starts at `at`
unfoldable pub constraint_at : List ℕ → ℕ → Constraint
constraint_at b at = record { scope = scope_of b at; relation = relation_at b at }

-- the plan that the bytes hold, where no check fails
unfoldable pub plan_of : List ℕ → Plan
plan_of b = record {
  workers = worker_count b;
  variables = list_below (variable_count b) (λ x. variable_at b (section_start b (suc x)));
  constraints = list_below (constraint_count b) (λ c. constraint_at b (constraint_start b c));
}

-- an accepted plan, or the fault and its place
pub data Decoded : Type 0 where
  accepted : Plan → Decoded
  declined : Decline → Decoded

-- a plan with its first fault, if it has one
abbrev pub decoded_as : Plan → Option Decline → Decoded
decoded_as plan none = accepted plan
decoded_as plan (some d) = declined d

-- what the bytes are: an accepted plan where no check fails, else declined for the first fault
unfoldable pub decode : List ℕ → Decoded
decode b = decoded_as (plan_of b) (plan_fault b)
