-- A list of turns in memory: the machine after it, and how many of its turns that pass a test changed something.
use Rattle.std.specs.Prelude.{ℕ, ◌^◌, ◌<◌, ◌≤◌, Bool, true, false, List, ◌++◌, ◌≡◌, length, replicate}
use Rattle.std.proofs.Math.Option.{Option, none}
use Rattle.disac4.specs.Fold.{play_by, count_by}
use Rattle.disac4.specs.Need.{work_need}
use Rattle.disac4.specs.Outcome.{final_cells}
use Rattle.lending.specs.Call.{overwrite}
use Rattle.disac4.specs.Report.{is_poll, is_send, lowest_empty, report_of, status_of}
use Rattle.disac4.specs.State.{State}
use Rattle.disac4.specs.System.{System, system_at}
use Rattle.disac4.specs.Turn.{Turn, turn}
use Rattle.disac4.specs.declared.Report.{Report}
use Rattle.disac4.specs.declared.Tally.{Tally}
use Rattle.index.specs.Index.{Ready, index_m}
use Rattle.cells.specs.Memory.{cleared_m, Mem, mem_of}
use Rattle.loading.specs.Load.{load_m}
use Rattle.controller.specs.Controller.{Machine, machine}
use Rattle.refinement.specs.Step.{read_m, worker_m, step_m}
use Rattle.cells.specs.View.{view}
use Rattle.treating.specs.Treat.{HeadLoaded}
use Rattle.disac4.specs.declared.Progress.{Progress}
use Rattle.plan.specs.Decode.{plan_fault}
use Rattle.format.specs.Format.{worker_count}
use Rattle.format.specs.Limits.{max_workers}

-- the state that a machine stands for
abbrev pub view_of : System → Machine → State
view_of sys s = view sys s.mem s.tally

-- the tally as loaded
abbrev pub fresh_tally : Tally
fresh_tally = record {
  lists = record { 0 = 0 };
  timestamp = record { 0 = 0 };
  polling = false;
  marks = 0;
  closed = false;
}

-- the machine after a list of turns
abbrev pub play_m : System → Machine → List Turn → Machine
play_m sys = play_by (step_m sys)

-- how many turns of the list pass a test and changed something
abbrev pub changes_where_m : System → (Turn → Bool) → Machine → List Turn → ℕ
changes_where_m sys = count_by (step_m sys)

-- the machine as loaded from an accepted plan's bytes, whatever the memory held before
unfoldable pub start_m : List ℕ → Mem → Machine
start_m b m = record { mem = load_m (system_at b) (index_m b (cleared_m m)); tally = fresh_tally }

-- how far a run has come: from the loaded plan it has played these turns, with their counts
pub record At (b : List ℕ) (m : Mem) (ts : List Turn) (cells : List ℕ) (g : Progress) : Type 0 where
  pub stands : machine cells g.tally ≡ play_m (system_at b) (start_m b m) ts
  pub changes : g.changes ≡ changes_where_m (system_at b) (λ t. true) (start_m b m) ts
  pub sends : g.sends ≡ changes_where_m (system_at b) is_send (start_m b m) ts
  pub polls : g.polls ≡ changes_where_m (system_at b) is_poll (start_m b m) ts

-- what the code asks of cells and tally to play a turn: the plan's index, marks of workers only, and on every work list
-- labels of the plan
pub record Playable (b cells : List ℕ) (t : Tally) : Type 0 where
  pub ready : Ready b cells
  pub marks : t.marks < 2 ^ max_workers
  pub workers : worker_count b ≤ max_workers
  pub labels : (i : ℕ) → i < worker_count b → HeadLoaded b (mem_of cells) i

-- the action `d` of row `i`, on a memory
abbrev pub worker_on : System → Tally → ℕ → ℕ → Mem → Option Mem
worker_on sys t i d m = worker_m sys i d (record { mem = m; tally = t })

-- row `i` reads from actor `d`, on a memory
abbrev pub read_on : Tally → ℕ → ℕ → Mem → Option Mem
read_on t i d m = read_m d i (record { mem = m; tally = t })

-- a turn, on a machine
abbrev pub turn_on : System → ℕ → ℕ → Machine → Option Machine
turn_on sys actor action s = step_m sys s (turn actor action)

-- some turns of an accepted plan have been played
pub record Going (b cells : List ℕ) (g : Progress) : Type 0 where
  pub sound : plan_fault b ≡ none
  pub long : work_need ≤ length cells
  pub before : Mem
  pub turns : List Turn
  pub at : At b before turns cells g

-- after these further turns
unfoldable pub Plays : List ℕ → List Turn → List ℕ → Progress → List ℕ → Progress → Type 0
Plays b us cells g cells' g' = (m : Mem) (ts : List Turn) → At b m ts cells g → At b m (ts ++ us) cells' g'

-- the report of a run that has come so far
unfoldable pub report_m : System → Mem → Progress → Report
report_m sys m g = record {
  status = status_of sys (view sys m g.tally);
  changes = g.changes;
  sends = g.sends;
  polls = g.polls;
  empty = lowest_empty sys (view sys m g.tally);
}

-- the end of a run that has played its turns: their report, their list cells, and cleared work cells
pub record Finishes (b cells lists : List ℕ) (g : Progress) (cells' lists' : List ℕ) (r : Report) : Type 0 where
  pub cleared : cells' ≡ overwrite (replicate work_need 0) cells
  pub reported : (m : Mem) (ts : List Turn) → At b m ts cells g → r ≡ report_of (system_at b) ts
  pub listed : (m : Mem) (ts : List Turn) → At b m ts cells g
      → lists' ≡ overwrite (final_cells b ts) lists
