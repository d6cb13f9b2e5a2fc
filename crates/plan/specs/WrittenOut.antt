-- A plan's copy with the set rules written out as sodium rules (document 02, job 5).
use Rattle.std.specs.Prelude.{ℕ, ◌<◌, List, [], ◌∷◌, ◌≡◌, length, get_or}
use Rattle.base.specs.Below.{gather_below, list_below}
use Rattle.format.specs.Version.{version}
use Rattle.plan.specs.Decode.{plan_of}
use Rattle.plan.specs.Plan.{Relation, table, sum_limit, Constraint, Plan, constraint_of}

-- the sodium rule over the two slots with these numbers
abbrev pub pair_limit : ℕ → ℕ → ℕ → Constraint
pair_limit limit s t = record { scope = s ∷ t ∷ []; relation = sum_limit limit }

-- a sodium rule over every two slots of a scope
unfoldable pub pair_limits : ℕ → List ℕ → List Constraint
pair_limits limit scope =
    gather_below (length scope) (λ j. list_below j (λ i. pair_limit limit (get_or scope i 0) (get_or scope j 0)))

-- what a rule that says this is written out as: a table as it is, a sodium or set rule as its limit over every two of its slots
unfoldable pub written_as : Constraint → Relation → List Constraint
written_as c (table rows) = c ∷ []
written_as c (sum_limit limit) = pair_limits limit c.scope

-- the plan with each of its rules written out
unfoldable pub written_out : Plan → Plan
written_out plan = record {
  workers = plan.workers;
  variables = plan.variables;
  constraints = gather_below (length plan.constraints) (λ c. written_as (constraint_of plan c) (constraint_of plan c).relation);
}

-- each rule of the one plan stands at some place of the other
unfoldable pub StandIn : Plan → Plan → Type 0
StandIn plan other =
    (i : ℕ) → i < length plan.constraints
    → (j : ℕ) × (j < length other.constraints) × (constraint_of other j ≡ constraint_of plan i)

-- the plan in `c` is a copy of the one in `b` with the set rules written out; its rules may stand in any order
pub record Copies (b c : List ℕ) : Type 0 where
  pub one_version : version b ≡ version c
  pub workers : (plan_of b).workers ≡ (plan_of c).workers
  pub variables : (plan_of b).variables ≡ (plan_of c).variables
  -- each rule that is written out is one of its rules
  pub complete : StandIn (written_out (plan_of b)) (plan_of c)
  -- and it has no others
  pub no_others : StandIn (plan_of c) (written_out (plan_of b))
