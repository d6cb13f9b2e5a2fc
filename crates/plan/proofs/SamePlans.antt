-- Plans that differ in nothing but how their rules are written have one network.
use Prim.Native.Nat.{ℕ}
use mathlib.Core.List.{List}
use mathlib.Core.Path.{◌≡◌, sym, ◌∙◌}
use lib.ListN.{length, get_or}
use Rattle.format.specs.Version.{row_words}
use Rattle.plan.proofs.Faults.{decode_plan}
use Rattle.plan.specs.Decode.{plan_fault, plan_of, decode, accepted}
use Rattle.plan.specs.Network.{network_of}
use Rattle.plan.specs.Plan.{no_variable, variable_of, size_of}
use Rattle.plan.specs.SamePlans.{SamePlans}

module _ (b c : List ℕ) (same : SamePlans b c) where
  pub same_network : network_of (plan_of b) ≡ network_of (plan_of c)
  unfolding network_of size_of variable_of
  same_network = λ i. record {
    variables = length (same.variables i);
    size = λ x. length (get_or (same.variables i) x no_variable).values;
    linked = λ x y. same.shared x y i;
    allows = λ x v y w. same.allowed x v y w i;
  }

  -- their rows are as wide
  pub same_words : row_words b ≡ row_words c
  unfolding row_words
  same_words = rw same.one_version

-- two accepted plans have the same fault: none
pub both_accepted : (b c : List ℕ) → decode b ≡ accepted (plan_of b) → decode c ≡ accepted (plan_of c) → plan_fault b ≡ plan_fault c
both_accepted b c here there = (decode_plan b (plan_of b) here).0 ∙ sym (decode_plan c (plan_of c) there).0
