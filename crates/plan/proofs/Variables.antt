-- A variable of a plan without fault fits.
use Prim.Native.Nat.{ℕ, suc, ◌<◌, ◌≤◌}
use mathlib.Core.Bool.{Bool, true, false}
use mathlib.Core.List.{List}
use mathlib.Core.Option.{none}
use mathlib.Core.Path.{◌≡◌, sym, ◌∙◌, ap}
use native.Mathlib.Omega.{arith}
use borrow.Author.Tests.{leb-true, eqb-false, not-true}
use lib.Dec.{eqb}
use Rattle.base.proofs.Below.{none_below}
use Rattle.base.proofs.Choice.{between_low, between_high}
use Rattle.base.specs.Below.{any_below}
use Rattle.base.specs.Choice.{between}
use Rattle.format.specs.Format.{section_start, worker_count, variable_count, size_at, code_at, numbered_size}
use Rattle.format.specs.Version.{max_size}
use Rattle.plan.proofs.Parts.{variable_read, size_read, value_read}
use Rattle.plan.proofs.Passed.{variable_passed}
use Rattle.plan.proofs.SectionSays.{VariableSays, variable_says}
use Rattle.plan.specs.Check.{repeats_code}
use Rattle.plan.specs.Decode.{plan_fault, variable_at, plan_of}
use Rattle.plan.specs.Plan.{Value, variable_of, value_of, size_of}
use Rattle.plan.specs.WellFormed.{VariableFits}

-- the variable of section x + 1
module _ (b : List ℕ) (None-found : plan_fault b ≡ none) (x : ℕ) (h : x < variable_count b) where
  abbrev variable_start : ℕ
  variable_start = section_start b (suc x)

  says : VariableSays b (suc x) variable_start
  says = variable_says b (suc x) variable_start (variable_passed b None-found x h)

  owner_range : between 1 (worker_count b) (variable_of (plan_of b) x).owner ≡ true
  unfolding variable_at
  owner_range = rw (variable_read b x h) says.owned

  size_range : size_of (plan_of b) x ≤ max_size b
  size_range = rw (size_read b x h) (leb-true (size_at b variable_start) (max_size b) says.few_values)

  code_read : (v : ℕ) → v < numbered_size b (suc x) → (value_of (plan_of b) x v).code ≡ code_at b variable_start v
  code_read v k = ap (λ (a : Value). a.code) (value_read b x h v k)

  codes_differ : (u v : ℕ) → u < v → v < size_of (plan_of b) x → (value_of (plan_of b) x u).code ≡ (value_of (plan_of b) x v).code → ⊥
  unfolding repeats_code
  codes_differ u v p q e =
      let k : v < numbered_size b (suc x) = omega (arith, size_read b x h) in
      let t : ℕ → ℕ → Bool = λ w u. eqb (code_at b variable_start u) (code_at b variable_start w) in
      let none_repeats : any_below v (t v) ≡ false =
      none_below (numbered_size b (suc x)) (λ w. any_below w (t w)) (not-true (repeats_code b variable_start) says.codes_differ) v k in
      eqb-false (code_at b variable_start u) (code_at b variable_start v) (none_below v (t v) none_repeats u p)
      (sym (code_read u (omega arith)) ∙ e ∙ code_read v k)

  -- its owner, its values and their codes are as the plan asks
  pub variable_fits : VariableFits (max_size b) (plan_of b) x
  unfolding plan_of
  variable_fits = record {
    owner_low = between_low 1 (worker_count b) (variable_of (plan_of b) x).owner owner_range;
    owner_high = between_high 1 (worker_count b) (variable_of (plan_of b) x).owner owner_range;
    few_values = size_range;
    codes_differ = codes_differ;
  }
