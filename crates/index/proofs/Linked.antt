-- Linked variables of a plan, and the supports between them.
use Prim.Native.Nat.{ℕ, ◌^◌, ◌<◌, ◌≤◌}
use mathlib.Core.Bool.{Bool, true, ◌&&◌}
use mathlib.Core.List.{List}
use mathlib.Core.Option.{none}
use mathlib.Core.Path.{◌≡◌, ◌∙◌, ap}
use native.Mathlib.Omega.{arith}
use Rattle.base.proofs.Row.{row_ext, row_small, row_count_small}
use Rattle.base.specs.Row.{row_of, row_count}
use Rattle.index.proofs.Places.{few_values}
use Rattle.rows.specs.Permits.{over}
use Rattle.index.specs.Index.{any_over}
use Rattle.network.specs.Network.{supports, support_count}
use Rattle.plan.proofs.Links.{linked_in_range}
use Rattle.plan.proofs.Parts.{variables_read, size_read}
use Rattle.plan.proofs.PlanCounts.{linked_any}
use Rattle.plan.proofs.WellFormed.{read_well_formed}
use Rattle.plan.specs.Decode.{plan_fault, plan_of}
use Rattle.format.specs.Format.{variable_count}
use Rattle.format.specs.Limits.{max_values}
use Rattle.plan.specs.Network.{pair_allowed, share_constraint, network_of}
use Rattle.plan.specs.Plan.{size_of}

-- two variables are linked where a constraint is over both
pub linked_over : (b : List ℕ) (x y : ℕ) → share_constraint (plan_of b) x y ≡ any_over b x y
unfolding over
linked_over b x y = linked_any b x y

-- linked variables are the plan's own
pub linked_inside : (b : List ℕ) → plan_fault b ≡ none → (x y : ℕ) → share_constraint (plan_of b) x y ≡ true
    → (x < variable_count b) × (y < variable_count b)
linked_inside b None-found x y e =
    omega (arith, linked_in_range (plan_of b) (read_well_formed b None-found) x y e, variables_read b)

-- between linked variables, the supports are the allowed values
pub supports_allowed : (b : List ℕ) (n x v y : ℕ) → share_constraint (plan_of b) x y ≡ true
    → row_of n (supports (network_of (plan_of b)) x v y) ≡ row_of n (pair_allowed (plan_of b) x v y)
unfolding supports network_of
supports_allowed b n x v y e =
    row_ext n (λ w. share_constraint (plan_of b) x y && pair_allowed (plan_of b) x v y w) (pair_allowed (plan_of b) x v y)
    (λ w h. ap (λ (t : Bool). t && pair_allowed (plan_of b) x v y w) e)

-- the count of the row of supports is the count of supports
pub supports_counted : (b : List ℕ) → plan_fault b ≡ none → (x v y row r : ℕ) → y < variable_count b
    → row ≡ row_of (size_of (plan_of b) y) (supports (network_of (plan_of b)) x v y)
    → ((width : ℕ) → row < 2 ^ width → r ≡ row_count width row)
    → (r ≡ support_count (network_of (plan_of b)) x v y) × (r ≤ max_values)
unfolding support_count network_of
supports_counted b None-found x v y row r h e count =
    let n = size_of (plan_of b) y in
    let t = supports (network_of (plan_of b)) x v y in
    let small : row < 2 ^ n = omega (arith, row_small n t) in (
      count n small ∙ ap (row_count n) e,
      omega (arith, count n small, row_count_small n row small, size_read b y h, few_values b None-found y h),
    )
