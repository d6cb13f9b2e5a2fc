-- A plan with a set rule, and a copy of it with the set rule written out, worked by hand.
use Prim.Native.Nat.{ℕ, zero, suc}
use mathlib.Core.Bool.{true}
use mathlib.Core.List.{List}
use mathlib.Core.Option.{none}
use mathlib.Core.Path.{◌≡◌, refl}
use native.Mathlib.Omega.{arith}
use Rattle.base.specs.Bytes.{hex}
use Rattle.plan.specs.Computes.{plan_computes}
use Rattle.plan.specs.Decode.{plan_fault, plan_of}
use Rattle.plan.specs.Network.{share_constraint}
use Rattle.plan.specs.Plan.{constraint_of}
use Rattle.plan.specs.WrittenOut.{pair_limits, written_as, written_out, StandIn, Copies}

-- version 2: three variables of one value each, of figure 100, and a limit of 200 over all three
abbrev plan_set : List ℕ
plan_set = hex 39 0x02_0003010301_0006_0101_00010064_0006_0101_00010064_0006_0101_00010064_0007_010202_00C8_01_03

-- the limit over the second and third variable, the first and second, the first and third
abbrev plan_copy : List ℕ
plan_copy =
    hex 51 0x02_0003010303_0006_0101_00010064_0006_0101_00010064_0006_0101_00010064_0005_020301_00C8_0005_010201_00C8_0005_010301_00C8

-- both are accepted
pub worked_accepted : (plan_fault plan_set ≡ none) × (plan_fault plan_copy ≡ none)
unfolding plan_computes
worked_accepted = (refl, refl)

-- the set rule is over the first and the third variable too
pub worked_set : share_constraint (plan_of plan_set) 0 2 ≡ true
unfolding plan_computes
worked_set = refl

-- each of the three rules of the copy is one that the set rule is written out as, and each of those stands in it
pub worked_copy : Copies plan_set plan_copy
unfolding plan_computes constraint_of pair_limits written_as written_out StandIn
worked_copy = record { one_version = refl; workers = refl; variables = refl; complete = there; no_others = back }
  where
    there : StandIn (written_out (plan_of plan_set)) (plan_of plan_copy)
    there zero h = (1, omega arith, refl)
    there (suc zero) h = (2, omega arith, refl)
    there (suc (suc zero)) h = (0, omega arith, refl)
    there (suc (suc (suc i))) h = absurd (omega arith)

    back : StandIn (plan_of plan_copy) (written_out (plan_of plan_set))
    back zero h = (2, omega arith, refl)
    back (suc zero) h = (0, omega arith, refl)
    back (suc (suc zero)) h = (1, omega arith, refl)
    back (suc (suc (suc i))) h = absurd (omega arith)
