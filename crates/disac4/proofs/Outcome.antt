-- What a run leaves in the lent buffers, and when it reports or declines.
use Prim.Native.Nat.{ℕ, ◌*◌, ◌≤◌}
use mathlib.Core.List.{List}
use mathlib.Core.Option.{none}
use mathlib.Core.Path.{◌≡◌, refl, ◌∙◌}
use native.Mathlib.Nat.{mul-le-mul_right}
use native.Mathlib.Omega.{arith}
use lib.ListN.{length, replicate, length-replicate, get_or-replicate}
use Rattle.format.proofs.RowCells.{cells_first}
use Rattle.format.proofs.Widths.{words_range}
use Rattle.format.specs.Version.{row_words}
use Rattle.lending.proofs.Outcome.{Answers, result_answers}
use Rattle.lending.proofs.Overwritten.{overwrite_front, overwrite_back, overwrite_length, overwrite_starts}
use Rattle.plan.proofs.WellFormed.{read_well_formed}
use Rattle.plan.specs.Decode.{plan_fault}
use Rattle.network.specs.Network.{Network, Domains}
use Rattle.plan.specs.Network.{network_of}
use Rattle.disac4.specs.Outcome.{Lent, final_cells, written, Run, played, call_of, Written}
use Rattle.disac4.specs.Need.{work_need, list_need}
use Rattle.disac4.specs.Report.{row_from, domain_cells, final, report_of}
use Rattle.disac4.specs.System.{system_of, network_at, system_at}
use Rattle.disac4.specs.Turn.{Turn}
use Rattle.std.specs.Prelude.{Ok}

-- ---- the cells of a run

-- domains have as many list cells for each variable as a row has words
pub lists_length : (words : ℕ) (net : Network) (d : Domains) → length (domain_cells words net d) ≡ words * net.variables
unfolding domain_cells
lists_length words net d = cells_first words (row_from net d) net.variables

-- so those of an accepted plan have room in the cells that are needed
pub lists_fit : (b : List ℕ) → plan_fault b ≡ none → (d : Domains) → length (domain_cells (row_words b) (network_at b) d) ≤ list_need
unfolding network_of list_need
lists_fit b sound d =
    let n = (network_at b).variables in
    omega (
      arith,
      lists_length (row_words b) (network_at b) d,
      mul-le-mul_right n (words_range b).1,
      (read_well_formed b sound).variables_high,
    )

-- so buffers that are long enough have room for what is written
pub cells_written : (b : List ℕ) (l : Lent) → plan_fault b ≡ none → work_need ≤ length l.work → list_need ≤ length l.lists
    → (turns : List Turn) → Written l b turns (written b turns l)
unfolding written system_of
cells_written b l sound long_work long_lists turns =
    let cells = final_cells b turns in record {
      work_length = overwrite_length (replicate work_need 0) l.work (omega (arith, length-replicate {A = ℕ} work_need 0));
      cleared = λ i h.
          overwrite_front (replicate work_need 0) l.work i (omega (arith, length-replicate {A = ℕ} work_need 0))
          ∙ get_or-replicate work_need i 0 0 h;
      work_kept = λ i h. overwrite_back (replicate work_need 0) l.work i (omega (arith, length-replicate {A = ℕ} work_need 0));
      lists = overwrite_starts cells l.lists (omega (arith, lists_fit b sound (final (system_at b) turns).domain));
    }

-- ---- any run

-- a run answers as a call does
pub run_answers : (r : Run) → Answers (call_of r) Ok
unfolding played
run_answers r = result_answers (call_of r) (λ d. refl) (λ l. (report_of (system_at r.plan) r.turns, refl))
