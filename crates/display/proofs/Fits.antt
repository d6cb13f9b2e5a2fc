-- Every text that the program prints fits 4,096 bytes.
use Prim.Native.Nat.{ℕ, ◌^◌, ◌<◌, ◌≤◌}
use mathlib.Core.Bool.{Bool, true, false}
use mathlib.Core.List.{List, []}
use mathlib.Core.Path.{ap}
use native.Mathlib.Omega.{arith}
use lib.ListN.{length}
use Rattle.base.specs.Bytes.{byte_at}
use Rattle.disac4.proofs.Order.{by_fault, no_turn_list}
use Rattle.lending.specs.Call.{Buffer, buffer_checks, call_fault, outcome_by, outcome_of}
use Rattle.disac4.specs.Outcome.{Lent, input_fault, Run, played, call_of, run_of, turn_run, round_run}
use Rattle.disac4.specs.Round.{round_run_turns}
use Rattle.disac4.specs.System.{system_at}
use Rattle.disac4.specs.Turn.{Turn, turns_of}
use Rattle.plan.proofs.Faults.{decoded, place_within}
use Rattle.plan.specs.Decode.{plan_of, decode, decoded_as}
use Rattle.faults.specs.Fault.{decline}
use Rattle.faults.specs.declared.Fault.TheVariants.{BadTurnList, BadTurn}
use Rattle.text.proofs.Length.{run_short, decline_short}
use Rattle.text.specs.Printed.{text_room}
use Rattle.display.specs.Shown.{shown_of, run_by, shown, fresh}

module _ (b : List ℕ) (short : length b < 2 ^ 64) (bytes : (i : ℕ) → byte_at b i < 256) where
  -- a run of the plan by this turn list
  abbrev run_with : List ℕ → List (Buffer Lent) → List Turn → (Lent → Lent) → Run
  run_with ts buffers turns leaves = record { plan = b; buffers = buffers; fault = input_fault b ts; turns = turns; leaves = leaves }

  -- the text of any run: a decline, whose place is in the plan or in the turn list, or a report and the lists
  run_fits : (ts : List ℕ) → length ts < 2 ^ 64 → (buffers : List (Buffer Lent)) (turns : List Turn) (leaves : Lent → Lent) (l : Lent)
      → length (shown_of b (run_of (run_with ts buffers turns leaves) l)) ≤ text_room
  unfolding shown_of outcome_of call_fault played decode
  run_fits ts few buffers turns leaves l =
      by_fault (buffer_checks buffers l) b ts
      (λ o. length (shown_of b (outcome_by (call_of (run_with ts buffers turns leaves)) l o)) ≤ text_room)
      (λ f h. decline_short b l.lists (decline f 0) (omega (arith, short)))
      (λ g h. decline_short b l.lists (decline BadTurnList 0) (omega (arith, short)))
      (λ g h d e. decline_short b l.lists d (omega (arith, short, place_within b d (ap (decoded_as (plan_of b)) e))))
      (λ g h e i low bad before. decline_short b l.lists (decline BadTurn i) (omega (arith, few, low)))
      (λ g h e f. run_short b (leaves l).lists (plan_of b) (decoded b e) bytes turns)

  -- by rounds or by the turn list
  pub shown_fits : (ts : List ℕ) → length ts < 2 ^ 64 → (rounds : Bool) → length (shown b ts rounds) ≤ text_room
  unfolding shown run_by
  shown_fits ts few true =
      rw (← no_turn_list b) (run_fits [] (omega (arith, few)) (round_run b).buffers (round_run_turns (system_at b)) (round_run b).leaves fresh)
  shown_fits ts few false = run_fits ts few (turn_run b ts).buffers (turns_of ts) (turn_run b ts).leaves fresh
