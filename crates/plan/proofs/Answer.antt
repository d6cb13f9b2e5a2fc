-- From the answer of a check to the fault that it found, and back.
use Prim.Native.Nat.{ℕ}
use mathlib.Core.List.{List}
use mathlib.Core.Option.{Option, none, some}
use mathlib.Core.Path.{◌≡◌, refl, ap}
use native.Mathlib.Omega.{arith}
use Rattle.format.specs.Format.{worker_count}
use Rattle.plan.specs.Answer.{counts_of, check_of, plan_check}
use Rattle.plan.specs.Decode.{plan_fault, plan_of, decode}
use Rattle.std.specs.Prelude.{Result, Ok, Err}
use Rattle.plan.specs.declared.Counts.{Counts}
use Rattle.faults.specs.declared.Decline.{Decline}

module _ (b : List ℕ) where
  -- the plan check finds the plan's own fault
  pub plan_check_lem : plan_check b ≡ check_of b (plan_fault b)
  unfolding plan_check decode check_of
  plan_check_lem = refl

  -- a plan is accepted where there is no fault, and the counts are its own
  pub no_fault : (o : Option Decline) (f : Counts) → Ok f ≡ check_of b o → (o ≡ none) × (f ≡ counts_of (plan_of b))
  unfolding check_of
  no_fault none f e = (refl, cc)
  no_fault (some d) f e = let z : ◌≡◌ {A = ℕ} 0 1 = cc in absurd (omega arith)

  -- the first of them is p
  pub its_workers : (o : Option Decline) (f : Counts) → Ok f ≡ check_of b o → f.workers ≡ worker_count b
  unfolding counts_of plan_of
  its_workers o f e = ap (λ (f : Counts). f.workers) (no_fault o f e).1

  -- what is declined is the fault
  pub its_fault : (o : Option Decline) (d : Decline) → Err d ≡ check_of b o → o ≡ some d
  unfolding check_of
  its_fault none d e = let z : ◌≡◌ {A = ℕ} 0 1 = cc in absurd (omega arith)
  its_fault (some c) d e = let same : c ≡ d = cc in ap {B = Option Decline} some same

  -- back: the answer to no fault
  pub answer_accepted : (o : Option Decline) (f : Counts) → f ≡ counts_of (plan_of b) → o ≡ none → Ok f ≡ check_of b o
  unfolding check_of
  answer_accepted o f is e = rw (e, is)

  -- and to a fault
  pub answer_declined : (o : Option Decline) (d : Decline) (r : Result Counts Decline) → r ≡ Err d → o ≡ some d → r ≡ check_of b o
  unfolding check_of
  answer_declined o d r is e = rw e is
