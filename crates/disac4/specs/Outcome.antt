-- The whole outcome of each run: its answer and every cell of the lent buffers, from all of its inputs.
use Rattle.std.specs.Prelude.{ℕ, ◌<◌, ◌≤◌, List, [], ◌∷◌, ◌≡◌, length, get_or, replicate, Result, Ok, Err}
use Rattle.std.proofs.Math.Option.{Option}
use Rattle.base.specs.Choice.{first_of}
use Rattle.faults.specs.CheckList.{◌or_else◌, first_fault, fault_at}
use Rattle.plan.specs.Decode.{plan_fault}
use Rattle.format.specs.Format.{worker_count}
use Rattle.format.specs.Version.{row_words}
use Rattle.faults.specs.declared.Decline.{Decline}
use Rattle.lending.specs.Call.{Outcome, outcome, overwrite, StartsWith, Buffer, Call, call_fault, outcome_of}
use Rattle.faults.specs.declared.Fault.TheVariants.{ShortWork, ShortLists, BadTurnList}
use Rattle.disac4.specs.Report.{list_cells, final, report_of}
use Rattle.disac4.specs.Need.{work_need, list_need}
use Rattle.disac4.specs.Round.{round_run_turns}
use Rattle.disac4.specs.System.{system_at}
use Rattle.disac4.specs.Turn.{Turn, turns_of, turn_list_fits, turn_fault}
use Rattle.disac4.specs.declared.Report.{Report}

-- the buffers that are lent to a run, before it or after it
pub record Lent : Type 0 where
  -- the work cells
  pub work : List ℕ
  -- the list cells
  pub lists : List ℕ

-- these buffers
abbrev pub lent : List ℕ → List ℕ → Lent
lent work lists = record { work = work; lists = lists }

-- what a run gives, its report or a decline, and what it leaves in them
abbrev pub RunOutcome : Type 0
RunOutcome = Outcome (Result Report Decline) Lent

-- ---- the lent buffers

-- the work buffer: 9
abbrev pub work_buffer : Buffer Lent
work_buffer = record { cells = λ l. l.work; need = work_need; fault = ShortWork }

-- the list buffer: 10
abbrev pub list_buffer : Buffer Lent
list_buffer = record { cells = λ l. l.lists; need = list_need; fault = ShortLists }

-- the list cells of a plan after these turns
abbrev pub final_cells : List ℕ → List Turn → List ℕ
final_cells bytes turns = list_cells (row_words bytes) (system_at bytes) (final (system_at bytes) turns)

-- what a run that played these turns leaves in both
unfoldable pub written : List ℕ → List Turn → Lent → Lent
written bytes turns l = lent (overwrite (replicate work_need 0) l.work) (overwrite (final_cells bytes turns) l.lists)

-- ---- the other inputs

-- 11; the plan's faults; 12
unfoldable pub input_fault : List ℕ → List ℕ → Option Decline
input_fault bytes turn_list =
    first_of (fault_at 0 (first_fault ((turn_list_fits turn_list or_else BadTurnList) ∷ [])))
    (first_of (plan_fault bytes) (turn_fault (worker_count bytes) turn_list))

-- ---- the runs

-- a run, whatever buffers it is lent
pub record Run : Type 0 where
  -- the plan's bytes
  pub plan : List ℕ
  -- the buffers that it needs
  pub buffers : List (Buffer Lent)
  -- the first fault of its other inputs
  pub fault : Option Decline
  -- the turns that it plays
  pub turns : List Turn
  -- what it leaves in the lent buffers if it plays them
  pub leaves : Lent → Lent

-- what it gives when it has played its turns
unfoldable pub played : Run → Lent → RunOutcome
played r l = outcome (Ok (report_of (system_at r.plan) r.turns)) (r.leaves l)

-- the call that plays it, unless a fault is found
abbrev pub call_of : Run → Call (Result Report Decline) Lent
call_of r = record { buffers = r.buffers; fault = r.fault; does = played r; declines = Err }

-- its first fault
abbrev pub run_fault : Run → Lent → Option Decline
run_fault r = call_fault (call_of r)

-- the whole outcome of a run
abbrev pub run_of : Run → Lent → RunOutcome
run_of r = outcome_of (call_of r)

-- the turn run, of a plan and a turn list
abbrev pub turn_run : List ℕ → List ℕ → Run
turn_run bytes turn_list = record {
  plan = bytes;
  buffers = work_buffer ∷ list_buffer ∷ [];
  fault = input_fault bytes turn_list;
  turns = turns_of turn_list;
  leaves = written bytes (turns_of turn_list);
}

-- the round run of a plan: never 11 or 12
abbrev pub round_run : List ℕ → Run
round_run bytes = record {
  plan = bytes;
  buffers = work_buffer ∷ list_buffer ∷ [];
  fault = plan_fault bytes;
  turns = round_run_turns (system_at bytes);
  leaves = written bytes (round_run_turns (system_at bytes));
}

-- ---- what is written, cell by cell

-- a run clears the first work cells, writes each variable's list cells, and keeps all later cells and both lengths
pub record Written (before : Lent) (bytes : List ℕ) (turns : List Turn) (after : Lent) : Type 0 where
  pub work_length : length after.work ≡ length before.work
  pub cleared : (i : ℕ) → i < work_need → get_or after.work i 0 ≡ 0
  pub work_kept : (i : ℕ) → work_need ≤ i → get_or after.work i 0 ≡ get_or before.work i 0
  pub lists : StartsWith (final_cells bytes turns) before.lists after.lists
