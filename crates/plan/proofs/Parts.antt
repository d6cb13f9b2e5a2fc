-- Which bytes the parts of the decoded plan are.
use Prim.Native.Nat.{ℕ, suc, ◌<◌}
use mathlib.Core.List.{List}
use mathlib.Core.Path.{◌≡◌, ◌∙◌, ap}
use lib.ListN.{length, get_or}
use Rattle.base.proofs.Below.{length_list_below, get_d_list_below}
use Rattle.format.specs.Format.{section_start, constraint_start, variable_count, constraint_count, size_at, numbered_size}
use Rattle.plan.specs.Decode.{value_at, variable_at, constraint_at, plan_of}
use Rattle.plan.specs.Plan.{Variable, no_variable, no_value, no_constraint, variable_of, value_of, size_of, constraint_of}

module _ (b : List ℕ) where
  -- n is the count that the head gives
  pub variables_read : length (plan_of b).variables ≡ variable_count b
  unfolding plan_of
  variables_read = length_list_below (variable_count b) (λ x. variable_at b (section_start b (suc x)))

  -- so is the number of constraints
  pub constraints_read : length (plan_of b).constraints ≡ constraint_count b
  unfolding plan_of
  constraints_read = length_list_below (constraint_count b) (λ c. constraint_at b (constraint_start b c))

  -- variable x is what section x + 1 holds
  pub variable_read : (x : ℕ) → x < variable_count b → variable_of (plan_of b) x ≡ variable_at b (section_start b (suc x))
  unfolding plan_of variable_of
  variable_read x h =
      get_d_list_below (variable_count b) (λ x. variable_at b (section_start b (suc x))) no_variable x h

  -- constraint c is what the section behind the variables and c more constraints holds
  pub constraint_read : (c : ℕ) → c < constraint_count b → constraint_of (plan_of b) c ≡ constraint_at b (constraint_start b c)
  unfolding plan_of constraint_of
  constraint_read c h =
      get_d_list_below (constraint_count b) (λ c. constraint_at b (constraint_start b c)) no_constraint c h

  -- a variable has as many values as its section gives
  pub size_read : (x : ℕ) → x < variable_count b → size_of (plan_of b) x ≡ numbered_size b (suc x)
  unfolding size_of variable_at
  size_read x h =
      ap (λ (a : Variable). length a.values) (variable_read x h)
      ∙ length_list_below (size_at b (section_start b (suc x))) (value_at b (section_start b (suc x)))

  -- a value is the code and the figure that its section gives
  pub value_read : (x : ℕ) → x < variable_count b → (v : ℕ) → v < numbered_size b (suc x)
      → value_of (plan_of b) x v ≡ value_at b (section_start b (suc x)) v
  unfolding value_of variable_at
  value_read x h v k =
      ap (λ (a : Variable). get_or a.values v no_value) (variable_read x h)
      ∙ get_d_list_below (size_at b (section_start b (suc x))) (value_at b (section_start b (suc x))) no_value v k
