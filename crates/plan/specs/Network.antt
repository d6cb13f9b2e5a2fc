-- The constraint network of a plan.
use Rattle.std.specs.Prelude.{ℕ, suc, ◌+◌, Bool, ◌&&◌, ◌||◌, not, List, leb, ltb, eqb, length, get_or}
use Rattle.base.specs.Choice.{any_of, all_of}
use Rattle.base.specs.Row.{bit}
use Rattle.network.specs.Network.{Network}
use Rattle.plan.specs.Plan.{Plan, Relation, table, sum_limit, Constraint, value_of, size_of}

-- the sodium figure that means "not recorded"
abbrev pub UNRECORDED : ℕ
UNRECORDED = 65535

-- a figure is not recorded; zero is a recorded one
unfoldable pub unrecorded : ℕ → Bool
unrecorded figure = eqb figure UNRECORDED

-- a sodium rule allows a pair exactly if both figures are recorded and their sum is within its limit
unfoldable pub within_limit : ℕ → ℕ → ℕ → Bool
within_limit limit f g = not (unrecorded f) && not (unrecorded g) && leb (f + g) limit

-- a rule that says this allows value `v` of `x` with value `w` of `y`, where `x` is the lower of the two
unfoldable pub permits : Plan → Relation → ℕ → ℕ → ℕ → ℕ → Bool
permits plan (table rows) x v y w = bit (get_or rows v 0) w
permits plan (sum_limit limit) x v y w = within_limit limit (value_of plan x v).figure (value_of plan y w).figure

-- the variable (slot), counted from 0, is in the scope, whose slots are numbered from 1
unfoldable pub in_scope : List ℕ → ℕ → Bool
in_scope scope x = any_of (eqb (suc x)) scope

-- the scope has `x` and behind it `y`: it has both, `x` is the lower, and scopes ascend
unfoldable pub joins : List ℕ → ℕ → ℕ → Bool
joins scope x y = ltb x y && in_scope scope x && in_scope scope y

-- the constraint is over the two variables, whichever comes first
unfoldable pub ties : Constraint → ℕ → ℕ → Bool
ties c x y = joins c.scope x y || joins c.scope y x

-- if the constraint's scope has `x` and behind it `y`, it allows the pair
unfoldable pub spares : Plan → Constraint → ℕ → ℕ → ℕ → ℕ → Bool
spares plan c x v y w = not (joins c.scope x y) || permits plan c.relation x v y w

-- a constraint does not forbid the pair; it reads the same from either variable
unfoldable pub accepts : Plan → Constraint → ℕ → ℕ → ℕ → ℕ → Bool
accepts plan c x v y w = spares plan c x v y w && spares plan c y w x v

-- a pair is allowed when each constraint over its two variables allows it: they all act together
unfoldable pub pair_allowed : Plan → ℕ → ℕ → ℕ → ℕ → Bool
pair_allowed plan x v y w = all_of (λ c. accepts plan c x v y w) plan.constraints

-- the two variables share a constraint
unfoldable pub share_constraint : Plan → ℕ → ℕ → Bool
share_constraint plan x y = any_of (λ c. ties c x y) plan.constraints

-- the plan's slots as variables, and its rules as constraints between them
unfoldable pub network_of : Plan → Network
network_of plan = record {
  variables = length plan.variables;
  size = size_of plan;
  linked = share_constraint plan;
  allows = pair_allowed plan;
}
