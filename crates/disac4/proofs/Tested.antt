-- A call that tests its buffers first and then its other inputs: what the answers of the two tests say of its outcome.
use Prim.Native.Nat.{ℕ}
use mathlib.Core.List.{List}
use mathlib.Core.Option.{none, some}
use mathlib.Core.Path.{◌≡◌, ◌∙◌}
use Rattle.faults.proofs.Placed.{placed_passes, placed_fails}
use Rattle.faults.specs.CheckList.{first_fault, fault_at, verdict_of}
use Rattle.faults.specs.Fault.{decline}
use Rattle.faults.specs.declared.Decline.{Decline}
use Rattle.faults.specs.declared.Fault.{Fault}
use Rattle.lending.proofs.Buffers.{buffers_long, buffers_pass, buffers_fail}
use Rattle.lending.proofs.Outcome.{call_does, call_refused}
use Rattle.lending.specs.Call.{Gives, buffer_checks, LongEnough, Call, call_fault, outcome_of}
use Rattle.plan.proofs.Answer.{no_fault, its_fault}
use Rattle.plan.specs.Answer.{check_of}
use Rattle.plan.specs.declared.Counts.{Counts}
use Rattle.std.specs.Prelude.{Result, Ok, Err, MatchResult, IsErrAnd}

-- what the answer of the first test says, in which a fault has its place, 0
pub record Tested {A L : Type 0} (c : Call A L) (l : L) (r : Result (Unit {0}) Decline) : Type 0 where
  pub short : (d : Decline) → r ≡ Err d → fault_at 0 (first_fault (buffer_checks c.buffers l)) ≡ some d
  pub long : (u : Unit {0}) → r ≡ Ok u → first_fault (buffer_checks c.buffers l) ≡ none

-- from what the test gives, `v`, and what the closure does that gives a fault its place
pub tested : {A L : Type 0} (c : Call A L) (l : L) (v : Result (Unit {0}) Fault) → v ≡ verdict_of (first_fault (buffer_checks c.buffers l))
    → (r : Result (Unit {0}) Decline) {Places : Fault → Decline → Type 0} → MatchResult v (λ u. r ≡ Ok u) (λ f. IsErrAnd r (Places f))
    → ((f : Fault) (d : Decline) → Places f d → d ≡ decline f 0) → Tested c l r
tested c l v buffers r mapped places =
    let checks = buffer_checks c.buffers l in record {
      short = placed_fails 0 (first_fault checks) v buffers r mapped places;
      long = placed_passes 0 (first_fault checks) v buffers r mapped places;
    }

module _ {A L : Type 0} (c : Call A L) (l : L) {r : Result (Unit {0}) Decline} (t : Tested c l r) where
  -- a buffer is too short: the call declines that
  pub short_refused : (d : Decline) → r ≡ Err d → Gives (outcome_of c l) (c.declines d) l
  short_refused d fails = call_refused c l d (buffers_fail c l d (t.short d fails))

  -- they are long enough, so that the other inputs decide
  module _ (u : Unit {0}) (passes : r ≡ Ok u) where
    pub all_long : LongEnough c.buffers l
    all_long = buffers_long c l (t.long u passes)

    -- one of them is at fault: the call declines that
    pub fault_refused : (b : List ℕ) (d : Decline) → Err d ≡ check_of b c.fault → Gives (outcome_of c l) (c.declines d) l
    fault_refused b d found = call_refused c l d (buffers_pass c l (t.long u passes) ∙ its_fault b c.fault d found)

    -- none is
    pub nothing_found : (b : List ℕ) (f : Counts) → Ok f ≡ check_of b c.fault → call_fault c l ≡ none
    nothing_found b f found = buffers_pass c l (t.long u passes) ∙ (no_fault b c.fault f found).0

    -- and then it does its work
    pub found_does : (b : List ℕ) (f : Counts) → Ok f ≡ check_of b c.fault → outcome_of c l ≡ c.does l
    found_does b f found = call_does c l (nothing_found b f found)
