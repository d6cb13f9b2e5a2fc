-- Document 01's text for plan P and list T, by computing the definitions.
use Prim.Native.Nat.{ℕ}
use mathlib.Core.Bool.{false}
use mathlib.Core.List.{List, ◌∷◌, ◌++◌}
use mathlib.Core.Option.{none}
use mathlib.Core.Path.{◌≡◌}
use native.Mathlib.Omega.{arith}
use lib.ListN.{length-replicate}
use Rattle.lending.proofs.Buffers.{pass_exactly}
use Rattle.disac4.specs.Need.{work_need, list_need}
use Rattle.disac4.specs.Computes.{disac4_computes}
use Rattle.lending.specs.Call.{overwrite, buffer_checks, call_fault, outcome_by, outcome_of}
use Rattle.disac4.specs.Outcome.{written, played, call_of, input_fault, turn_run}
use Rattle.disac4.specs.Worked.{plan_p, turns_t}
use Rattle.faults.specs.CheckList.{first_fault}
use Rattle.domains.specs.Lines.{newline}
use Rattle.text.specs.Computes.{text_computes}
use Rattle.display.specs.Shown.{fresh, shown_of, run_by, shown}

-- `closed 17 2 1 0`, `1 1: 11`, `2 2: 21 22`, `3 2: 31`
abbrev lines_t : List ℕ
lines_t =
    (99 ∷ 108 ∷ 111 ∷ 115 ∷ 101 ∷ 100 ∷ 32 ∷ 49 ∷ 55 ∷ 32 ∷ 50 ∷ 32 ∷ 49 ∷ 32 ∷ 48 ∷ newline)
    ++ (49 ∷ 32 ∷ 49 ∷ 58 ∷ 32 ∷ 49 ∷ 49 ∷ newline)
    ++ (50 ∷ 32 ∷ 50 ∷ 58 ∷ 32 ∷ 50 ∷ 49 ∷ 32 ∷ 50 ∷ 50 ∷ newline)
    ++ (51 ∷ 32 ∷ 50 ∷ 58 ∷ 32 ∷ 51 ∷ 49 ∷ newline)

-- the program's own buffers are long enough
fresh_fits : (b ts : List ℕ) → first_fault (buffer_checks (turn_run b ts).buffers fresh) ≡ none
unfolding fresh
fresh_fits b ts =
    (pass_exactly fresh (turn_run b ts).buffers).1
    (omega (arith, length-replicate {A = ℕ} work_need 0), (omega (arith, length-replicate {A = ℕ} list_need 0), tt))

-- so that only the inputs decide
fresh_run : (b turns : List ℕ) → shown b turns false ≡ shown_of b (outcome_by (call_of (turn_run b turns)) fresh (input_fault b turns))
unfolding shown run_by outcome_of call_fault
fresh_run b turns = rw (fresh_fits b turns)

-- what the program prints for P with T
pub shown_run : shown plan_p turns_t false ≡ lines_t
unfolding shown_of played written overwrite fresh list_need text_computes disac4_computes
shown_run = fresh_run plan_p turns_t
