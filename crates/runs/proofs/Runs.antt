-- From what the engine does to the outcome of the turns that were played.
use Prim.Native.Nat.{ℕ, ◌^◌, ◌<◌, ◌≤◌}
use mathlib.Core.List.{List, []}
use mathlib.Core.Option.{none}
use mathlib.Core.Path.{◌≡◌, refl, ◌∙◌, ap, ap₂}
use lib.ListN.{length}
use Rattle.lending.specs.Call.{outcome, Gives}
use Rattle.engine.specs.Play.{Underway}
use Rattle.engine.specs.declared.run.Run.{Run}
use Rattle.format.specs.Format.{worker_count}
use Rattle.disac4.specs.Outcome.{Lent, lent, RunOutcome, written}
use Rattle.disac4.specs.Need.{work_need}
use Rattle.disac4.specs.Report.{report_of}
use Rattle.disac4.specs.System.{system_at}
use Rattle.disac4.specs.Turn.{Turn}
use Rattle.std.specs.Prelude.{Ok}
use Rattle.disac4.specs.declared.Report.{Report}
use Rattle.runs.proofs.Finishing.{work_of_turns}
use Rattle.cells.specs.Memory.{Mem, mem_of}
use Rattle.rounds.specs.Rounds.{Begun}
use Rattle.refinement.specs.Run.{At, Plays, Finishes}
use Rattle.disac4.specs.declared.Progress.{Progress}
use Rattle.plan.specs.Decode.{plan_fault}

-- a plan is loaded: what the engine asks
pub begun : (b : List ℕ) (m : Mem) (cells : List ℕ) (g : Progress) → plan_fault b ≡ none → work_need ≤ length cells → At b m [] cells g
    → Begun b cells g
begun b m cells g sound long at = record {
  going = record { sound = sound; long = long; before = m; turns = []; at = at };
  fresh = refl;
}

-- a loaded run is under way
pub loaded : {m : Mem} {r : Run} → plan_fault r.plan.now ≡ none → work_need ≤ length r.cells.now
    → r.workers ≡ worker_count r.plan.now → At r.plan.now m [] r.cells.now r.progress → Underway r
loaded sound long counted at = record { going = (begun _ _ _ _ sound long at).going; counted = counted }

-- the outcome of turns that were played
abbrev outcome_of_turns : List ℕ → List Turn → Lent → RunOutcome
outcome_of_turns b us l = outcome (Ok (report_of (system_at b) us)) (written b us l)

-- a run that has played its turns from there, and ends: the caller has the run's cells back
pub ends : (b : List ℕ) → plan_fault b ≡ none → (work cells cells' lists work' lists' : List ℕ) (us : List Turn) (g g' : Progress) (r : Report) {back : List ℕ}
    → At b (mem_of work) [] cells g → Plays b us cells g cells' g' → length cells' ≡ length work → length cells' < 2 ^ 64
    → Finishes b cells' lists g' work' lists' r → back ≡ work'
    → Gives (outcome_of_turns b us (lent work lists)) (Ok r) (lent back lists')
unfolding written Plays
ends b sound work cells cells' lists work' lists' us g g' r at plays same few f e =
    let now = plays (mem_of work) [] at in
    record {
      answer = ap Ok (f.reported (mem_of work) us now);
      cells = ap₂ lent (e ∙ f.cleared ∙ work_of_turns b sound work us cells' g' now same few) (f.listed (mem_of work) us now);
    }
