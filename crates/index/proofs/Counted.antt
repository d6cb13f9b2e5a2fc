-- The variables that the code counts are those of the plan's network, of which there are few.
use Prim.Native.Nat.{ℕ, ◌≤◌}
use mathlib.Core.List.{List}
use mathlib.Core.Path.{◌≡◌, sym, ◌∙◌}
use native.Mathlib.Omega.{arith}
use Rattle.disac4.specs.System.{network_at}
use Rattle.format.specs.Format.{variable_count}
use Rattle.format.specs.Limits.{max_variables}
use Rattle.index.proofs.Places.{few_sections}
use Rattle.index.specs.Index.{Ready}
use Rattle.plan.proofs.Parts.{variables_read}
use Rattle.plan.specs.Network.{network_of}

-- `n` is the number of variables of the plan
pub record Counted (b : List ℕ) (n : ℕ) : Type 0 where
  pub few : n ≤ max_variables
  pub named : n ≡ variable_count b
  pub all : n ≡ (network_at b).variables

-- the number that the head names is that
pub counted : {b cells : List ℕ} {n : ℕ} → Ready b cells → n ≡ variable_count b → Counted b n
unfolding network_of
counted {b = b} ready e =
    record { few = omega (arith, few_sections b ready.sound); named = e; all = e ∙ sym (variables_read b) }
