-- A run that has played its turns gives their report, and leaves the buffers as document 01 says.
use Prim.Native.Nat.{ℕ, ◌^◌, ◌<◌}
use mathlib.Core.List.{List}
use mathlib.Core.Option.{none}
use mathlib.Core.Path.{◌≡◌, ◌∙◌, ap}
use lib.ListN.{length, replicate}
use Rattle.lending.specs.Call.{overwrite}
use Rattle.disac4.specs.Need.{work_need}
use Rattle.disac4.specs.Outcome.{final_cells}
use Rattle.disac4.specs.Report.{lowest_empty, status_of, list_cells, report_of}
use Rattle.disac4.specs.State.{State}
use Rattle.format.specs.Version.{row_words}
use Rattle.disac4.specs.System.{system_at}
use Rattle.disac4.specs.Turn.{Turn}
use Rattle.disac4.specs.declared.Report.{Report}
use Rattle.refinement.proofs.Behind.{behind_same}
use Rattle.refinement.proofs.Underway.{under_view, under_behind, under_changes, under_sends, under_polls}
use Rattle.cells.specs.Memory.{Mem, mem_of}
use Rattle.refinement.specs.Run.{At, report_m, Finishes}
use Rattle.cells.specs.View.{view}
use Rattle.disac4.specs.declared.Progress.{Progress}
use Rattle.plan.specs.Decode.{plan_fault}

module _ (b : List ℕ) (sound : plan_fault b ≡ none) (m : Mem) (ts : List Turn) (cells : List ℕ) (g : Progress)
    (at : At b m ts cells g) where
  -- the report of the cells is that of the turns
  report_of_turns : report_m (system_at b) (mem_of cells) g ≡ report_of (system_at b) ts
  unfolding report_m report_of
  report_of_turns = λ i. record {
    status = status_of (system_at b) (under_view b sound m ts cells g at i);
    changes = under_changes b sound m ts cells g at i;
    sends = under_sends b sound m ts cells g at i;
    polls = under_polls b sound m ts cells g at i;
    empty = lowest_empty (system_at b) (under_view b sound m ts cells g at i);
  }

  -- so are the list cells
  lists_of_turns : (lists : List ℕ)
      → overwrite (list_cells (row_words b) (system_at b) (view (system_at b) (mem_of cells) g.tally)) lists
      ≡ overwrite (final_cells b ts) lists
  lists_of_turns lists = ap (λ (st : State). overwrite (list_cells (row_words b) (system_at b) st) lists) (under_view b sound m ts cells g at)

-- once the needed cells are 0, the work buffer is as document 01 says of the one that was lent
pub work_of_turns : (b : List ℕ) → plan_fault b ≡ none → (work : List ℕ) (ts : List Turn) (cells : List ℕ) (g : Progress)
    → At b (mem_of work) ts cells g → length cells ≡ length work → length cells < 2 ^ 64
    → overwrite (replicate work_need 0) cells ≡ overwrite (replicate work_need 0) work
work_of_turns b sound work ts cells g at same few =
    behind_same cells work same few (λ j. under_behind b sound (mem_of work) ts cells g at 0 j)

-- ---- for the code that ends a run

pub finishes : (b cells lists : List ℕ) (g : Progress) (cells' lists' : List ℕ) (r : Report) → plan_fault b ≡ none
    → cells' ≡ overwrite (replicate work_need 0) cells → r ≡ report_m (system_at b) (mem_of cells) g
    → lists' ≡ overwrite (list_cells (row_words b) (system_at b) (view (system_at b) (mem_of cells) g.tally)) lists
    → Finishes b cells lists g cells' lists' r
finishes b cells lists g cells' lists' r sound cleared report listed = record {
  cleared = cleared;
  reported = λ m ts at. report ∙ report_of_turns b sound m ts cells g at;
  listed = λ m ts at. listed ∙ lists_of_turns b sound m ts cells g at lists;
}
