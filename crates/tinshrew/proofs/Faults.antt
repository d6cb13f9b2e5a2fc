-- Which calls succeed, and which are declined for what: from the tests of a call to document 01's table.
use Prim.Native.Nat.{ℕ, ◌/◌, ◌<◌, ◌≤◌}
use mathlib.Core.Bool.{Bool, true, false, ◌&&◌, false≢true}
use mathlib.Core.List.{List, []}
use mathlib.Core.Logic.{◌↔◌}
use mathlib.Core.Option.{Option, none, some}
use mathlib.Core.Path.{◌≡◌, refl, sym, ◌∙◌, ap, subst}
use native.Mathlib.Omega.{arith}
use lib.ListN.{length}
use Rattle.base.proofs.Bools.{and_left, and_right}
use Rattle.base.proofs.Choice.{between_low, between_high}
use Rattle.base.specs.Choice.{between, all_of, first_of}
use Rattle.lending.proofs.Buffers.{pass_exactly, fail_exactly, short_among}
use Rattle.disac4.proofs.Order.{bad_turn_list, then_plan, faultless_below, bad_turn_first, by_fault}
use Rattle.lending.specs.Call.{buffer_checks, LongEnough, Call, call_fault}
use Rattle.disac4.specs.Outcome.{input_fault}
use Rattle.disac4.specs.System.{system_of}
use Rattle.disac4.specs.Turn.{turn_list_fits, turn_fault}
use Rattle.inputs.proofs.TurnLists.{is_allowed}
use Rattle.plan.proofs.Faults.{decoded, not_decoded, decode_plan, decode_fault, number_within, place_within}
use Rattle.plan.specs.Decode.{plan_of, decode, declined}
use Rattle.faults.specs.CheckList.{Check, first_fault, fault_at}
use Rattle.faults.specs.Fault.{number_of, decline}
use Rattle.format.specs.Format.{worker_count}
use Rattle.faults.specs.declared.Decline.{Decline}
use Rattle.faults.specs.declared.Fault.{Fault}
use Rattle.faults.specs.declared.Fault.TheVariants.{BadTurnList}
use Rattle.tinshrew.specs.Conclusions.{DeclinedPlan, Given, given, PlanAndBuffersFit, TurnsFit, FirstFault, short_buffer, bad_list, bad_plan, bad_turn_lem, InTable}

-- ---- the plan

-- the fault's number is from 1 to 8, and its place at most the plan's length
pub declined_plan : (b : List ℕ) (d : Decline) → decode b ≡ declined d → DeclinedPlan b d
declined_plan b d e = record { first = e; number = number_within b d e; place = place_within b d e }

-- ---- a call's faults

-- its other inputs are its plan and its turn list
module _ {A L : Type 0} (c : Call A L) (b ts : List ℕ) (inputs : c.fault ≡ input_fault b ts) (numbers : ℕ → Bool) (l : L) where
  abbrev given_here : Given L
  given_here = given c b ts numbers l

  abbrev checks : List Check
  checks = buffer_checks c.buffers l

  -- the first fault of its buffers, or else of its plan and turn list
  abbrev found : Option Decline
  found = first_of (fault_at 0 (first_fault checks)) (input_fault b ts)

  is_found : call_fault c l ≡ found
  unfolding call_fault
  is_found = ap (first_of (fault_at 0 (first_fault checks))) inputs

  -- the checks pass exactly if the buffers are long enough
  passes : (first_fault checks ≡ none) ↔ LongEnough c.buffers l
  passes = pass_exactly l c.buffers

  -- what a fault says, and what it says that there is none
  abbrev Found : Option Decline → Type 0
  Found none = PlanAndBuffersFit given_here × TurnsFit given_here
  Found (some d) = FirstFault given_here d

  found_says : Found found
  unfolding system_of plan_of
  found_says =
      by_fault checks b ts Found
      (λ f h. short_buffer f ((fail_exactly l f c.buffers).0 h) refl)
      (λ g h. bad_list (passes.0 g) h refl)
      (λ g h d e. bad_plan (passes.0 g) h (not_decoded b d e))
      (λ g h e i low bad before. bad_turn_lem (record { buffers = passes.0 g; accepts = decoded b e }) h i low bad before refl)
      (λ g h e f. (
        record { buffers = passes.0 g; accepts = decoded b e },
        record { list_fits = h; all_allowed = is_allowed (worker_count b) ts f },
      ))

  -- the buffers are long enough, so that plan and turn list decide
  then_inputs : (o : Option Decline) → LongEnough c.buffers l → input_fault b ts ≡ o → found ≡ o
  then_inputs o g e = rw (passes.1 g) e

  -- none is found exactly if all fits
  pub none_found : (call_fault c l ≡ none) ↔ (PlanAndBuffersFit given_here × TurnsFit given_here)
  unfolding system_of plan_of turn_fault
  none_found = (
    λ e. subst Found (sym is_found ∙ e) found_says,
    λ h.
        is_found
        ∙ then_inputs none h.0.buffers
        (then_plan b ts none h.1.list_fits
        (rw (decode_plan b (plan_of b) h.0.accepts).0
        (faultless_below (worker_count b) ts (length ts / 2) h.1.all_allowed))),
  )

  -- and this one exactly if it is the first
  pub one_found : (d : Decline) → (call_fault c l ≡ some d) ↔ FirstFault given_here d
  unfolding system_of plan_of
  one_found d = (λ e. subst Found (sym is_found ∙ e) found_says, λ h. is_found ∙ back h)
    where
      back : FirstFault given_here d → found ≡ some d
      back (short_buffer f h e) = rw ((fail_exactly l f c.buffers).1 h, e)
      back (bad_list g h e) = then_inputs (some d) g (rw e (bad_turn_list b ts h))
      back (bad_plan g h e) = then_inputs (some d) g (then_plan b ts (some d) h (rw (decode_fault b d e)))
      back (bad_turn_lem g h i low bad before q) =
          then_inputs (some d) g.buffers
          (then_plan b ts (some d) h
          (rw ((decode_plan b (plan_of b) g.accepts).0, bad_turn_first (worker_count b) ts i low bad before, q)))

module _ {L : Type 0} (g : Given L) where
  -- a fault of a call's buffers is document 01's 9, 10 or 11 at most, and one that the call may give
  abbrev BufferNumber : Fault → Bool
  BufferNumber f = between 9 11 (number_of f) && g.numbers (number_of f)

  -- the number is that of a buffer, or one of the plan's, or more where the turn list is at fault
  pub in_table : all_of (λ b. BufferNumber b.fault) g.buffers ≡ true
      → ((k : ℕ) → 1 ≤ k → k ≤ 8 → g.numbers k ≡ true)
      → (turn_list_fits g.turn_list ≡ false → g.numbers 11 ≡ true) → (0 < length g.turn_list / 2 → g.numbers 12 ≡ true)
      → (d : Decline) → FirstFault g d → InTable g d
  in_table buffers plans eleven twelve d = go
    where
      at_start : (f : Fault) → 9 ≤ number_of f → number_of f ≤ 11 → g.numbers (number_of f) ≡ true → InTable g (decline f 0)
      at_start f low high within = record {
        number = within;
        in_plan = λ h. omega arith;
        at_zero = λ g h. refl;
        in_list = λ h. omega arith;
      }

      go : FirstFault g d → InTable g d
      go (short_buffer f h e) =
          let n = number_of f in
          let both : BufferNumber f ≡ true = short_among g.before BufferNumber g.buffers f buffers h in
          let range = and_left (between 9 11 n) (g.numbers n) both in
          rw e
          (at_start f (between_low 9 11 n range) (between_high 9 11 n range) (and_right (between 9 11 n) (g.numbers n) both))
      go (bad_list h f e) = rw e (at_start BadTurnList (omega arith) (omega arith) (eleven f))
      go (bad_plan h f e) =
          let plan = declined_plan g.plan d e in record {
            number = plans (number_of d.fault) plan.number.0 plan.number.1;
            in_plan = λ h. plan.place;
            at_zero = λ g h. absurd (omega (arith, plan.number));
            in_list = λ h. absurd (omega (arith, plan.number));
          }
      go (bad_turn_lem h f i low bad before q) = rw q
          (record {
            number = twelve (omega arith);
            in_plan = λ h. absurd (omega arith);
            at_zero = λ g h. absurd (omega arith);
            in_list = λ h. low;
          })

-- a call without a turn list
module _ {A L : Type 0} (c : Call A L) (b : List ℕ) (numbers : ℕ → Bool) (l : L) where
  -- has neither 11 nor 12
  pub no_turns_fit : TurnsFit (given c b [] numbers l)
  unfolding turn_list_fits
  no_turns_fit = record { list_fits = refl; all_allowed = λ i h. absurd (omega arith) }

  -- so that its buffers' numbers and the plan's are all
  pub in_short_table : all_of (λ k. BufferNumber (given c b [] numbers l) k.fault) c.buffers ≡ true
      → ((k : ℕ) → 1 ≤ k → k ≤ 8 → numbers k ≡ true)
      → (d : Decline) → FirstFault (given c b [] numbers l) d → InTable (given c b [] numbers l) d
  in_short_table buffers plans =
      in_table (given c b [] numbers l) buffers plans (λ h. absurd (false≢true (sym h ∙ no_turns_fit.list_fits)))
      (λ h. absurd (omega arith))
