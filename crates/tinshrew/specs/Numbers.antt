-- What a call for C leaves its caller: numbers in `out`, and the lent buffers. And what a caller may conclude from them, as claims
-- that `proofs/Numbers.antt` proves.
use Rattle.std.specs.Prelude.{ℕ, List, ◌↔◌, ◌⊎◌, ◌≡◌, get_or, Ok, Err}
use Rattle.disac4.specs.Demands.{RoundCloses}
use Rattle.lending.specs.Call.{Outcome}
use Rattle.disac4.specs.Outcome.{Lent, Run, round_run}
use Rattle.disac4.specs.System.{system_at}
use Rattle.disac4.specs.declared.Status.TheVariants.{Open, Closed, Bare}
use Rattle.numbers.specs.Numbers.{answer_numbers, checked_numbers, status_number}
use Rattle.plan.specs.Decode.{decode, accepted, plan_of}
use Rattle.faults.specs.declared.Decline.{Decline}
use Rattle.tinshrew.specs.Conclusions.{AcceptedPlan, DeclinedPlan, Given, round_given, PlanAndBuffersFit, DeclinedCall, ReportedRun}

-- `Gives`, with the answer as its numbers
pub record GivesNumbers {A L : Type 0} (numbers_of : A → List ℕ) (o : Outcome A L) (out : List ℕ) (after : L) : Type 0 where
  pub numbers : out ≡ numbers_of o.answer
  pub cells : after ≡ o.left

-- what the numbers of an answer tell. `numbers` writes a success and a decline; `Fitting` is that nothing is at fault, and `Told` and
-- `Refused` are what follows from each
pub record NumbersTell {A S : Type 0} (numbers : A → List ℕ) (success : S → A) (decline : Decline → A) (out : List ℕ)
    (Fitting : Type 0) (Told : S → Type 0) (Refused : Decline → Type 0) : Type 0 where
  -- the first is 0 exactly if nothing is at fault
  pub first_zero : (get_or out 0 0 ≡ 0) ↔ Fitting
  -- and then they are those of a success
  pub zero_told : get_or out 0 0 ≡ 0 → (s : S) × Told s × (out ≡ numbers (success s))
  -- otherwise those of a decline
  pub other_declined : (get_or out 0 0 ≡ 0 → ⊥) → (d : Decline) × Refused d × (out ≡ numbers (decline d))

-- those of the plan check: 0 and the counts exactly if the plan is accepted
abbrev pub CheckNumbers : List ℕ → List ℕ → Type 0
CheckNumbers b out =
    NumbersTell checked_numbers Ok Err out (decode b ≡ accepted (plan_of b))
    (AcceptedPlan b) (DeclinedPlan b)

-- those of a run: 0 and the report exactly if plan, turns and buffers are fit for it
abbrev pub RunNumbers : List ℕ → Type 0 → Run → Given Lent → Lent → Type 0
RunNumbers out Fitting run g after =
    NumbersTell answer_numbers Ok Err out Fitting (ReportedRun run g.before after) (DeclinedCall g after)

-- those of a round run
pub record RoundNumbers (b : List ℕ) (l : Lent) (out : List ℕ) (after : Lent) : Type 0 where
  -- as of any run
  pub run : RunNumbers out (PlanAndBuffersFit (round_given b l)) (round_run b) (round_given b l) after
  -- where the first is 0, the plan is closed after its turns
  pub closes : get_or out 0 0 ≡ 0 → RoundCloses (system_at b)
  -- and the second, the status, has the number of closed or of bare, never that of open
  pub ended : get_or out 0 0 ≡ 0
      → ((get_or out 1 0 ≡ status_number Closed) ⊎ (get_or out 1 0 ≡ status_number Bare)) × (get_or out 1 0 ≡ status_number Open → ⊥)
