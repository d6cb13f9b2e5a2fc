-- The counts of a plan, read part by part.
use Prim.Native.Nat.{ℕ, suc, ◌<◌}
use mathlib.Core.List.{List}
use mathlib.Core.Path.{◌≡◌, sym, ◌∙◌, ap}
use Rattle.base.proofs.Below.{any_below_ext}
use Rattle.base.proofs.Members.{any_places}
use Rattle.base.proofs.Sums.{sum_ext, count_ext}
use Rattle.base.specs.Below.{sum_below, count_below, any_below}
use Rattle.format.specs.Format.{worker_count, variable_count, constraint_count, constraint_start, scope_of, numbered_size}
use Rattle.network.specs.Network.{label_count, pair_count}
use Rattle.plan.proofs.Links.{ties_ascending}
use Rattle.plan.proofs.Parts.{variables_read, constraints_read, constraint_read, size_read}
use Rattle.plan.specs.Answer.{counts_of}
use Rattle.plan.specs.Check.{labels_to, touched, pairs_to}
use Rattle.plan.specs.Decode.{constraint_at, plan_of}
use Rattle.plan.specs.Network.{joins, ties, share_constraint, network_of}
use Rattle.plan.specs.Plan.{Constraint, no_constraint, constraint_of}
use Rattle.plan.specs.declared.Counts.{Counts}

-- L of the decoded plan is the sum of the counts that its sections give
pub labels_read : (b : List ℕ) → label_count (network_of (plan_of b)) ≡ labels_to b (variable_count b)
unfolding label_count network_of
labels_read b =
    ap (λ (n : ℕ). sum_below n (network_of (plan_of b)).size) (variables_read b)
    ∙ sum_ext (variable_count b) (network_of (plan_of b)).size (λ x. numbered_size b (suc x)) (size_read b)

-- two variables are linked where one of the constraints is over both
pub linked_any : (b : List ℕ) (x y : ℕ)
    → share_constraint (plan_of b) x y ≡ any_below (constraint_count b) (λ c. ties (constraint_of (plan_of b) c) x y)
unfolding share_constraint constraint_of
linked_any b x y =
    any_places (λ c. ties c x y) (plan_of b).constraints no_constraint
    ∙ ap (λ (n : ℕ). any_below n (λ c. ties (constraint_of (plan_of b) c) x y)) (constraints_read b)

-- the pairs of variables that are linked are those that all constraints together touch
pub pairs_read : (b : List ℕ) → pair_count (network_of (plan_of b)) ≡ pairs_to b (constraint_count b)
unfolding pair_count network_of pairs_to touched constraint_at
pairs_read b =
    ap (λ (n : ℕ). sum_below n (λ y. count_below y (λ x. share_constraint (plan_of b) x y))) (variables_read b)
    ∙ sum_ext (variable_count b) (λ y. count_below y (λ x. share_constraint (plan_of b) x y))
    (λ y. count_below y (λ x. touched b (constraint_count b) x y))
    (λ y h. count_ext y (λ x. share_constraint (plan_of b) x y) (λ x. touched b (constraint_count b) x y) (λ x l. linked x y l))
  where
    linked : (x y : ℕ) → x < y → share_constraint (plan_of b) x y ≡ touched b (constraint_count b) x y
    linked x y l =
        linked_any b x y
        ∙ any_below_ext (constraint_count b) (λ c. ties (constraint_of (plan_of b) c) x y)
        (λ c. joins (scope_of b (constraint_start b c)) x y)
        (λ c h.
        ties_ascending (constraint_of (plan_of b) c) x y l
        ∙ ap (λ (a : Constraint). joins a.scope x y) (constraint_read b c h))

-- counts that are read part by part
pub counts_built : (b : List ℕ) (f : Counts) → f.workers ≡ worker_count b → f.variables ≡ variable_count b
    → f.constraints ≡ constraint_count b → f.labels ≡ label_count (network_of (plan_of b)) → f ≡ counts_of (plan_of b)
unfolding counts_of plan_of
counts_built b f p q r s = λ i. record {
  workers = p i;
  variables = (q ∙ sym (variables_read b)) i;
  constraints = (r ∙ sym (constraints_read b)) i;
  labels = s i;
}
