-- Every accepted plan is well formed.
use Prim.Native.Nat.{ℕ, zero, suc, ◌-◌, ◌≤◌}
use mathlib.Core.List.{List}
use mathlib.Core.Option.{none}
use mathlib.Core.Path.{◌≡◌, refl, ap}
use native.Mathlib.Omega.{arith}
use borrow.Author.Tests.{leb-true}
use Rattle.base.proofs.Sums.{sum_zero}
use Rattle.base.specs.Below.{count_below, one}
use Rattle.format.specs.Format.{section_start, constraint_start, variable_count, constraint_count}
use Rattle.format.specs.Limits.{max_labels, max_pairs}
use Rattle.format.specs.Version.{max_size}
use Rattle.network.specs.Network.{label_count, pair_count}
use Rattle.plan.proofs.Constraints.{constraint_fits}
use Rattle.plan.proofs.Faults.{decode_plan}
use Rattle.plan.proofs.Head.{HeadFits, head_fits}
use Rattle.plan.proofs.Parts.{variables_read, constraints_read}
use Rattle.plan.proofs.Passed.{head_passed, variable_passed, constraint_passed}
use Rattle.plan.proofs.PlanCounts.{labels_read, pairs_read}
use Rattle.plan.proofs.SectionSays.{variable_says, constraint_says}
use Rattle.plan.proofs.Variables.{variable_fits}
use Rattle.plan.specs.Check.{labels_to, touched, pairs_to}
use Rattle.plan.specs.Decode.{plan_fault, plan_of, accepted, decode}
use Rattle.plan.specs.Network.{network_of}
use Rattle.plan.specs.Plan.{Plan}
use Rattle.plan.specs.WellFormed.{WellFormed}

-- the last variable's check counts the labels of all
labels_range : (b : List ℕ) → plan_fault b ≡ none → 1 ≤ variable_count b → label_count (network_of (plan_of b)) ≤ max_labels
labels_range b None-found h =
    let last : ℕ = variable_count b - 1 in
    let e : suc last ≡ variable_count b = omega arith in
    let says = variable_says b (suc last) (section_start b (suc last)) (variable_passed b None-found last (omega arith)) in
    omega (arith, labels_read b, ap (labels_to b) e, leb-true (labels_to b (suc last)) max_labels says.few_labels)

-- the last constraint's check counts the pairs of all; without one there are none
pairs_range : (b : List ℕ) → plan_fault b ≡ none → (n : ℕ) → constraint_count b ≡ n → pair_count (network_of (plan_of b)) ≤ max_pairs
unfolding pairs_to touched
pairs_range b None-found zero e =
    let none_touched : pairs_to b 0 ≡ 0 =
    sum_zero (variable_count b) (λ y. count_below y (λ x. touched b 0 x y)) (λ y h. sum_zero y (λ x. one (touched b 0 x y)) (λ x l. refl)) in
    omega (arith, pairs_read b, ap (pairs_to b) e)
pairs_range b None-found (suc last) e =
    let says = constraint_says b (suc last) (constraint_start b last) (constraint_passed b None-found last (omega arith)) in
    omega (arith, pairs_read b, ap (pairs_to b) e, leb-true (pairs_to b (suc last)) max_pairs says.few_pairs)

-- what the bytes hold is well formed where no check fails
pub read_well_formed : (b : List ℕ) → plan_fault b ≡ none → WellFormed (max_size b) (plan_of b)
unfolding plan_of
read_well_formed b None-found =
    let head : HeadFits b = head_fits b (section_start b 0) (head_passed b None-found) in
    record {
      workers_low = head.workers_low;
      workers_high = head.workers_high;
      variables_low = rw (variables_read b) head.variables_low;
      variables_high = rw (variables_read b) head.variables_high;
      constraints_high = rw (constraints_read b) head.constraints_high;
      few_labels = labels_range b None-found head.variables_low;
      few_pairs = pairs_range b None-found (constraint_count b) refl;
      each_variable = λ x h. variable_fits b None-found x (omega (arith, variables_read b));
      each_constraint = λ c h. constraint_fits b None-found c (omega (arith, constraints_read b));
    }

-- an accepted plan is well formed
pub well_formed : (b : List ℕ) (plan : Plan) → decode b ≡ accepted plan → WellFormed (max_size b) plan
well_formed b plan e = rw (decode_plan b plan e).1 (read_well_formed b (decode_plan b plan e).0)
