-- The checks that a plan without fault has passed, kind by kind.
use Prim.Native.Nat.{ℕ, suc, ◌+◌, ◌-◌, ◌<◌}
use mathlib.Core.List.{List}
use mathlib.Core.Option.{none}
use mathlib.Core.Path.{◌≡◌, sym, ap, ◌∙◌}
use native.Mathlib.Omega.{arith}
use borrow.Author.Tests.{le-leb, lt-leb, ne_eqb}
use Rattle.format.specs.Format.{section_start, constraint_start, variable_count, constraint_count}
use Rattle.plan.proofs.Faults.{sound_section}
use Rattle.faults.specs.CheckList.{first_fault}
use Rattle.plan.specs.Check.{head_checks, variable_checks, constraint_checks, section_checks}
use Rattle.plan.specs.Decode.{plan_fault}

module _ (b : List ℕ) (None-found : plan_fault b ≡ none) where
  -- the head has passed its checks
  pub head_passed : first_fault (head_checks b (section_start b 0)) ≡ none
  unfolding section_checks
  head_passed = sound_section b None-found 0 (omega arith)

  -- each variable's section has passed its checks
  pub variable_passed : (x : ℕ) → x < variable_count b → first_fault (variable_checks b (suc x) (section_start b (suc x))) ≡ none
  unfolding section_checks
  variable_passed x h =
      rw (ne_eqb (suc x) 0 (omega arith), le-leb (suc x) (variable_count b) h) at
      (sound_section b None-found (suc x) (omega arith))

  -- each constraint's section has passed its checks
  pub constraint_passed : (c : ℕ) → c < constraint_count b → first_fault (constraint_checks b (suc c) (constraint_start b c)) ≡ none
  unfolding section_checks
  constraint_passed c h =
      let number : suc (variable_count b + c) - variable_count b ≡ suc c = omega arith in
      ap (λ (r : ℕ). first_fault (constraint_checks b r (constraint_start b c))) (sym number)
      ∙ rw (ne_eqb (suc (variable_count b + c)) 0 (omega arith), lt-leb (suc (variable_count b + c)) (variable_count b) (omega arith)) at
      (sound_section b None-found (suc (variable_count b + c)) (omega arith))
