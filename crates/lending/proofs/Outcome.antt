-- The outcome of any call: it does its work exactly if no fault is found, and otherwise declines that fault.
use Prim.Native.Nat.{ℕ}
use mathlib.Core.Logic.{◌↔◌, ◌⊎◌, inl, inr}
use mathlib.Core.Option.{Option, none, some}
use mathlib.Core.Path.{◌≡◌, refl, sym, ◌∙◌, ap}
use native.Mathlib.Omega.{arith}
use Rattle.base.proofs.Choice.{none≢some, some_same}
use Rattle.faults.specs.declared.Decline.{Decline}
use Rattle.std.specs.Prelude.{Result, Ok, Err}
use Rattle.lending.specs.Call.{Outcome, Gives, Call, call_fault, outcome_by, outcome_of}

module _ {A L : Type 0} (c : Call A L) (l : L) where
  -- without a fault it does its work
  pub call_does : call_fault c l ≡ none → outcome_of c l ≡ c.does l
  unfolding outcome_of
  call_does e = ap (outcome_by c l) e

  -- with one it is declined, and no lent cell is changed
  pub call_refused : (d : Decline) → call_fault c l ≡ some d → Gives (outcome_of c l) (c.declines d) l
  unfolding outcome_of
  call_refused d e = rw e (record { answer = refl; cells = refl })

-- two calls of the same outcome give their callers the same answer and leave the same in the buffers
pub same_gives : {A L : Type 0} {o o' : Outcome A L} (r r' : A) (after after' : L) → o ≡ o' → Gives o r after → Gives o' r' after'
    → (r ≡ r') × (after ≡ after')
same_gives {A} {L} r r' after after' e g g' = (
  g.answer ∙ ap (λ (k : Outcome A L). k.answer) e ∙ sym g'.answer,
  g.cells ∙ ap (λ (k : Outcome A L). k.left) e ∙ sym g'.cells,
)

-- calls that need the same buffers, have the same fault in their other inputs, and do and decline alike give the same
pub same_outcome : {A L : Type 0} (c d : Call A L) → c.buffers ≡ d.buffers → c.fault ≡ d.fault
    → ((l : L) → c.does l ≡ d.does l) → ((e : Decline) → c.declines e ≡ d.declines e)
    → (l : L) → outcome_of c l ≡ outcome_of d l
same_outcome {A} {L} c d buffers fault does declines l =
    ap (λ (k : Call A L). outcome_of k l)
    (λ i. record { buffers = buffers i; fault = fault i; does = λ m. does m i; declines = λ e. declines e i })

-- a call's answers: each is a success or a decline and not both, each decline is an answer of its own, and where nothing is at fault
-- it succeeds
pub record Answers {A L S : Type 0} (c : Call A L) (success : S → A) : Type 0 where
  pub each : (a : A) → ((s : S) × (a ≡ success s)) ⊎ ((d : Decline) × (a ≡ c.declines d))
  pub apart : (s : S) (d : Decline) → success s ≡ c.declines d → ⊥
  pub own : (d e : Decline) → c.declines d ≡ c.declines e → d ≡ e
  pub does : (l : L) → (s : S) × ((c.does l).answer ≡ success s)

-- a call whose answer is a `Result` has such answers: its successes are `Ok`, its declines `Err`
pub result_answers : {L S : Type 0} (c : Call (Result S Decline) L) → ((d : Decline) → c.declines d ≡ Err d)
    → ((l : L) → (s : S) × ((c.does l).answer ≡ Ok s)) → Answers c Ok
result_answers {L} {S} c is does = record {
  each = each;
  apart = λ s d e. let p = e ∙ is d in let z : ◌≡◌ {A = ℕ} 0 1 = cc in omega arith;
  own = λ d e p. let q = sym (is d) ∙ p ∙ is e in cc;
  does = does;
}
  where
    each : (a : Result S Decline) → ((s : S) × (a ≡ Ok s)) ⊎ ((d : Decline) × (a ≡ c.declines d))
    each (Ok s) = inl (s, refl)
    each (Err d) = inr (d, sym (is d))

-- so a caller tells from the answer
module _ {A L S : Type 0} (c : Call A L) (success : S → A) (answers : Answers c success) (l : L) where
  -- that it succeeds exactly if there is no fault
  pub call_succeeds : ((s : S) × ((outcome_of c l).answer ≡ success s)) ↔ (call_fault c l ≡ none)
  unfolding outcome_of
  call_succeeds = go (call_fault c l)
    where
      go : (o : Option Decline) → ((s : S) × ((outcome_by c l o).answer ≡ success s)) ↔ (o ≡ none)
      go none = (λ s. refl, λ e. answers.does l)
      go (some d) = (λ s. absurd (answers.apart s.0 d (sym s.1)), λ e. none≢some (sym e))

  -- and declines exactly the one that there is
  pub call_declines : (d : Decline) → ((outcome_of c l).answer ≡ c.declines d) ↔ (call_fault c l ≡ some d)
  unfolding outcome_of
  call_declines d = go (call_fault c l)
    where
      go : (o : Option Decline) → ((outcome_by c l o).answer ≡ c.declines d) ↔ (o ≡ some d)
      go none = (λ e. let s = answers.does l in absurd (answers.apart s.0 d (sym s.1 ∙ e)), none≢some)
      go (some f) =
          (λ e. ap {B = Option Decline} some (answers.own f d e), λ e. some_same (λ g. c.declines g ≡ c.declines d) (sym e) refl)
