-- From an answer to its numbers, and back.
use Prim.Native.Nat.{ℕ}
use mathlib.Core.List.{List}
use mathlib.Core.Logic.{◌⊎◌, inl, inr, ⊎_elim}
use mathlib.Core.Path.{◌≡◌, refl, sym, ◌∙◌, ap}
use native.Mathlib.Omega.{arith}
use lib.ListN.{get_or}
use Rattle.lending.proofs.Outcome.{Answers}
use Rattle.lending.specs.Call.{Outcome, outcome, Gives, Call}
use Rattle.disac4.proofs.Outcome.{run_answers}
use Rattle.disac4.specs.Outcome.{Lent, Run, call_of, run_of, turn_run, round_run}
use Rattle.disac4.specs.declared.Status.{Status}
use Rattle.disac4.specs.declared.Status.TheVariants.{Open, Closed, Bare}
use Rattle.plan.specs.Answer.{plan_check}
use Rattle.faults.specs.Fault.{number_of}
use Rattle.disac4.specs.declared.Report.{Report}
use Rattle.plan.specs.declared.Counts.{Counts}
use Rattle.faults.specs.declared.Decline.{Decline}
use Rattle.faults.proofs.FaultNumbers.{number_range}
use Rattle.numbers.specs.Numbers.{answer_numbers, checked_numbers, status_number}
use Rattle.std.specs.Prelude.{Result, Ok, Err}
use Rattle.tinshrew.proofs.Conclusions.{check_accepts, check_accepted, check_declined, turn_run_tells, round_run_tells, round_ends}
use Rattle.tinshrew.specs.Conclusions.{Given, turn_given, PlanAndBuffersFit, TurnsFit, DeclinedCall, CallTells, RunTells}
use Rattle.tinshrew.specs.Numbers.{GivesNumbers, NumbersTell, CheckNumbers, RunNumbers, RoundNumbers}

-- what a call gives, with its answer written as numbers
module _ {A L : Type 0} (numbers_of : A → List ℕ) (o : Outcome A L) (out : List ℕ) (after : L) where
  pub as_numbers : (r : A) → out ≡ numbers_of r → Gives o r after → GivesNumbers numbers_of o out after
  as_numbers r e g = record { numbers = e ∙ ap numbers_of g.answer; cells = g.cells }

  -- and back
  pub with_answer : GivesNumbers numbers_of o out after → Gives o o.answer after
  with_answer g = record { answer = refl; cells = g.cells }

-- ---- the calls for C

-- what an answer tells, its numbers tell: those of a success begin with 0, those of a decline with its number
module _ {A S : Type 0} {numbers : A → List ℕ} {success : S → A} {decline : Decline → A} {Fitting : Type 0} {Told : S → Type 0}
    {Refused : Decline → Type 0} (zero : (s : S) → get_or (numbers (success s)) 0 0 ≡ 0)
    (number : (d : Decline) → get_or (numbers (decline d)) 0 0 ≡ number_of d.fault) where
  -- of a success
  success_tells : (s : S) → Fitting → Told s → NumbersTell numbers success decline (numbers (success s)) Fitting Told Refused
  success_tells s fits told = record {
    first_zero = (λ z. fits, λ h. zero s);
    zero_told = λ z. (s, told, refl);
    other_declined = λ n. absurd (n (zero s));
  }

  -- of a decline, which is no success
  decline_tells : (d : Decline) → (Fitting → (s : S) × (decline d ≡ success s)) → Refused d
      → NumbersTell numbers success decline (numbers (decline d)) Fitting Told Refused
  decline_tells d succeeds refused =
      let not_zero : get_or (numbers (decline d)) 0 0 ≡ 0 → ⊥ = λ z. omega (arith, number_range d.fault, number d) in record {
        first_zero = (
          λ z. absurd (not_zero z),
          λ h. let s = succeeds h in ap (λ (a : A). get_or (numbers a) 0 0) s.1 ∙ zero s.0,
        );
        zero_told = λ z. absurd (not_zero z);
        other_declined = λ n. (d, refused, refl);
      }

-- so what a call tells, the numbers of its answer tell
module _ {A L S : Type 0} (c : Call A L) (success : S → A) (answers : Answers c success) (numbers_of : A → List ℕ)
    (zero : (s : S) → get_or (numbers_of (success s)) 0 0 ≡ 0)
    (number : (d : Decline) → get_or (numbers_of (c.declines d)) 0 0 ≡ number_of d.fault) where
  pub call_numbers : {Fitting : Type 0} {Told : S → Type 0} {g : Given L} {after : L} (a : A)
      → CallTells g success c.declines Fitting Told (outcome a after)
      → NumbersTell numbers_of success c.declines (numbers_of a) Fitting Told (DeclinedCall g after)
  call_numbers a tells =
      ⊎_elim (λ s. rw s.1 (success_tells zero number s.0 (tells.succeeds.0 s) (tells.told s.0 s.1)))
      (λ d.
      rw d.1
      (decline_tells zero number d.0 (λ h. let s = tells.succeeds.1 h in (s.0, sym d.1 ∙ s.1))
      (tells.declined_call d.0 d.1))) (answers.each a)

-- those of any run
run_numbers : {Fitting : Type 0} {run : Run} {g : Given Lent} {after : Lent} (a : Result Report Decline) → RunTells Fitting run g (outcome a after)
    → RunNumbers (answer_numbers a) Fitting run g after
unfolding answer_numbers
run_numbers {run = run} = call_numbers (call_of run) Ok (run_answers run) answer_numbers (λ r. refl) (λ d. refl)

-- of the turn run
pub turn_numbers : (b ts : List ℕ) (l : Lent) (out : List ℕ) (after : Lent) → GivesNumbers answer_numbers (run_of (turn_run b ts) l) out after
    → let here = turn_given b ts l in RunNumbers out (PlanAndBuffersFit here × TurnsFit here) (turn_run b ts) here after
turn_numbers b ts l out after g = rw g.numbers (run_numbers _ (turn_run_tells b ts l _ after (with_answer _ _ out after g)))

-- a status other than open has the number of closed or of bare, not that of open
ended_number : (s : Status) → (s ≡ Open → ⊥)
    → ((status_number s ≡ status_number Closed) ⊎ (status_number s ≡ status_number Bare)) × (status_number s ≡ status_number Open → ⊥)
ended_number Open not_open = absurd (not_open refl)
ended_number Closed not_open = (inl refl, λ e. omega arith)
ended_number Bare not_open = (inr refl, λ e. omega arith)

-- of the round run, which leaves no plan open
pub round_numbers : (b : List ℕ) (l : Lent) (out : List ℕ) (after : Lent) → GivesNumbers answer_numbers (run_of (round_run b) l) out after
    → RoundNumbers b l out after
unfolding answer_numbers
round_numbers b l out after g =
    rw g.numbers
    (let run = run_numbers _ (round_run_tells b l _ after (with_answer _ _ out after g)) in record {
      run = run;
      closes = λ z. let told = run.zero_told z in (round_ends b l after told.0 told.1).0;
      ended = λ z.
          let told = run.zero_told z in
          rw told.2 (ended_number told.0.status (round_ends b l after told.0 told.1).1);
    })

-- and of the plan check
pub check_numbers : (b out : List ℕ) → out ≡ checked_numbers (plan_check b) → CheckNumbers b out
unfolding checked_numbers
check_numbers b out e = rw e (go (plan_check b) refl)
  where
    go : (r : Result Counts Decline) → r ≡ plan_check b → CheckNumbers b (checked_numbers r)
    go (Ok f) is =
        let plan = check_accepted b f is in
        success_tells (λ f. refl) (λ d. refl) f plan.accepts plan
    go (Err d) is =
        decline_tells (λ f. refl) (λ d. refl) d (check_accepts b _ is).1 (check_declined b d is)
