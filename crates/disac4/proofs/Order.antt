-- The order of a run's declines: the buffers', 11, the plan's own, 12. `by_fault` takes apart what is found. A round run declines
-- as with an empty turn list (`no_turn_list`).
use Prim.Native.Nat.{ℕ, ◌/◌, ◌<◌}
use mathlib.Core.Bool.{Bool, true, false}
use mathlib.Core.List.{List, [], ◌∷◌}
use mathlib.Core.Option.{Option, none, some}
use mathlib.Core.Path.{◌≡◌, refl, sym, ◌∙◌}
use lib.ListN.{length}
use Rattle.base.proofs.Below.{first_below_lem, first_at_lem, none_first}
use Rattle.base.proofs.Choice.{by_test, cond_true, cond_false, none≢some, some_same, unless_some}
use Rattle.base.specs.Below.{first_below}
use Rattle.base.specs.Choice.{first_of}
use Rattle.faults.specs.CheckList.{Check, ◌or_else◌, first_fault, fault_at}
use Rattle.plan.specs.Decode.{plan_fault}
use Rattle.faults.specs.Fault.{decline}
use Rattle.format.specs.Format.{worker_count}
use Rattle.faults.specs.declared.Decline.{Decline}
use Rattle.faults.specs.declared.Fault.{Fault}
use Rattle.faults.specs.declared.Fault.TheVariants.{BadTurnList, BadTurn}
use Rattle.lending.proofs.Buffers.{pass_exactly}
use Rattle.lending.specs.Call.{buffer_checks, LongEnough, call_fault}
use Rattle.disac4.specs.Outcome.{Lent, input_fault, run_fault, turn_run}
use Rattle.disac4.specs.Turn.{allowed, turn_at, turn_list_fits, turn_fault, fault_of}

-- ---- 11 and the plan's own

-- 11 comes before any fault of the plan
pub bad_turn_list : (b ts : List ℕ) → turn_list_fits ts ≡ false → input_fault b ts ≡ some (decline BadTurnList 0)
unfolding input_fault
bad_turn_list b ts h = rw h

-- then the plan's own faults, then 12
pub then_plan : (b ts : List ℕ) (o : Option Decline) → turn_list_fits ts ≡ true
    → first_of (plan_fault b) (turn_fault (worker_count b) ts) ≡ o → input_fault b ts ≡ o
unfolding input_fault
then_plan b ts o list e = rw list e

-- without a turn list the plan's own are all
pub no_turn_list : (b : List ℕ) → input_fault b [] ≡ plan_fault b
unfolding input_fault turn_list_fits turn_fault
no_turn_list b = go (plan_fault b)
  where
    go : (o : Option Decline) → first_of o none ≡ o
    go none = refl
    go (some d) = refl

-- ---- 12

module _ (p : ℕ) (ts : List ℕ) where
  -- turns without fault are allowed
  pub allowed_below : (n : ℕ) → first_below n (fault_of p ts) ≡ none → (j : ℕ) → j < n → allowed p (turn_at ts j) ≡ true
  allowed_below n e j h =
      by_test (allowed p (turn_at ts j)) (none_first n (fault_of p ts) e j h) (λ t z. t) (λ t z. none≢some (sym z))

  -- allowed turns are without fault
  pub faultless_below : (n : ℕ) → ((j : ℕ) → j < n → allowed p (turn_at ts j) ≡ true) → first_below n (fault_of p ts) ≡ none
  faultless_below n fine = go (first_below n (fault_of p ts)) refl
    where
      go : (o : Option Decline) → first_below n (fault_of p ts) ≡ o → first_below n (fault_of p ts) ≡ none
      go none e = e
      go (some d) e =
          let f = first_below_lem n (fault_of p ts) d e in
          none≢some (sym (cond_true none (some (decline BadTurn f.0)) (fine f.0 f.1)) ∙ f.2)

  -- a turn that is not allowed, behind turns that are, is the fault
  pub bad_turn_first : (i : ℕ) → i < length ts / 2 → allowed p (turn_at ts i) ≡ false
      → ((j : ℕ) → j < i → allowed p (turn_at ts j) ≡ true) → turn_fault p ts ≡ some (decline BadTurn i)
  unfolding turn_fault
  bad_turn_first i h bad before =
      first_at_lem (length ts / 2) (fault_of p ts) i (decline BadTurn i) h (faultless_below i before)
      (cond_false none (some (decline BadTurn i)) bad)

  -- it holds of such a turn
  abbrev BadTurnHas : (Decline → Type 0) → Type 0
  BadTurnHas P =
      (i : ℕ) → i < length ts / 2 → allowed p (turn_at ts i) ≡ false → ((j : ℕ) → j < i → allowed p (turn_at ts j) ≡ true)
      → P (decline BadTurn i)

  -- so it holds of the fault
  by_bad_turn : (P : Decline → Type 0) → BadTurnHas P → (d : Decline) → turn_fault p ts ≡ some d → P d
  unfolding turn_fault
  by_bad_turn P f d e =
      let r = first_below_lem (length ts / 2) (fault_of p ts) d e in
      let is = unless_some (allowed p (turn_at ts r.0)) r.2 in
      some_same P is.1 (f r.0 r.1 is.0 (allowed_below r.0 r.3))

-- ---- what is found

-- in the buffers, or else in the plan and the turn list
abbrev found_in : List Check → List ℕ → List ℕ → Option Decline
found_in checks b ts = first_of (fault_at 0 (first_fault checks)) (input_fault b ts)

module _ (checks : List Check) (b ts : List ℕ) where
  -- what holds of each fault, where none before it is there, and without any, holds of what is found
  pub by_fault : (P : Option Decline → Type 0) → ((f : Fault) → first_fault checks ≡ some f → P (some (decline f 0)))
      → (first_fault checks ≡ none → turn_list_fits ts ≡ false → P (some (decline BadTurnList 0)))
      → (first_fault checks ≡ none → turn_list_fits ts ≡ true → (d : Decline) → plan_fault b ≡ some d → P (some d))
      → (first_fault checks ≡ none → turn_list_fits ts ≡ true → plan_fault b ≡ none → BadTurnHas (worker_count b) ts (λ d. P (some d)))
      → (first_fault checks ≡ none → turn_list_fits ts ≡ true → plan_fault b ≡ none → turn_fault (worker_count b) ts ≡ none → P none)
      → P (found_in checks b ts)
  unfolding input_fault
  by_fault P short bad_list bad_plan bad_turn_lem without =
      go (first_fault checks) refl (turn_list_fits ts) refl (plan_fault b) refl (turn_fault (worker_count b) ts) refl
    where
      go : (c : Option Fault) → first_fault checks ≡ c → (u : Bool) → turn_list_fits ts ≡ u
          → (o : Option Decline) → plan_fault b ≡ o → (i : Option Decline) → turn_fault (worker_count b) ts ≡ i
          → P (first_of (fault_at 0 c) (first_of (fault_at 0 (first_fault ((u or_else BadTurnList) ∷ []))) (first_of o i)))
      go (some f) p u r o e i g = short f p
      go none p false r o e i g = bad_list p r
      go none p true r (some d) e i g = bad_plan p r d e
      go none p true r none e (some d) g = by_bad_turn (worker_count b) ts (λ d. P (some d)) (bad_turn_lem p r e) d g
      go none p true r none e none g = without p r e g

  -- where nothing is found
  passed : found_in checks b ts ≡ none
      → (first_fault checks ≡ none) × (turn_list_fits ts ≡ true) × (plan_fault b ≡ none) × (turn_fault (worker_count b) ts ≡ none)
  passed =
      by_fault
      (λ o. o ≡ none
      → (first_fault checks ≡ none) × (turn_list_fits ts ≡ true) × (plan_fault b ≡ none) × (turn_fault (worker_count b) ts ≡ none))
      (λ f h e. none≢some (sym e)) (λ g h e. none≢some (sym e)) (λ g h d p e. none≢some (sym e))
      (λ g h p i l bad before e. none≢some (sym e)) (λ g h p q e. (g, h, p, q))

-- a turn run without fault has buffers that are long enough, an accepted plan and allowed turns
pub turn_passed : (b ts : List ℕ) (l : Lent) → run_fault (turn_run b ts) l ≡ none
    → LongEnough (turn_run b ts).buffers l × (plan_fault b ≡ none) × (turn_fault (worker_count b) ts ≡ none)
unfolding call_fault
turn_passed b ts l e =
    let all = passed (buffer_checks (turn_run b ts).buffers l) b ts e in
    ((pass_exactly l (turn_run b ts).buffers).0 all.0, all.2, all.3)
