-- What turns of workers are to a run.
use Rattle.std.specs.Prelude.{ℕ, ◌+◌, List, ◌≡◌, length}
use Rattle.disac4.specs.Turn.{Turn}
use Rattle.disac4.specs.declared.Tally.{Tally}
use Rattle.refinement.specs.Run.{Going, Plays}
use Rattle.disac4.specs.declared.Progress.{Progress}
use Rattle.engine.specs.declared.run.Run.{Run}
use Rattle.format.specs.Format.{worker_count}

-- some turns of an accepted plan have been played, and the tally is `t`
pub record Running (b cells : List ℕ) (t : Tally) : Type 0 where
  pub progress : Progress
  pub same : progress.tally ≡ t
  pub going : Going b cells progress

-- the tally stays `t`, `n` turns changed something, and `s` of them sent a list message
pub record Grows (t : Tally) (n s : ℕ) (g g' : Progress) : Type 0 where
  pub before : g.tally ≡ t
  pub after : g'.tally ≡ t
  pub changes : g'.changes ≡ g.changes + n
  pub sends : g'.sends ≡ g.sends + s
  pub polls : g'.polls ≡ g.polls

-- after further turns of workers, which leave the tally as it is: `n` of them changed something, and `s` sent a list message
unfoldable pub Works : List ℕ → List Turn → List ℕ → Tally → List ℕ → ℕ → ℕ → Type 0
Works b us cells t cells' n s = (g g' : Progress) → Grows t n s g g' → Plays b us cells g cells' g'

-- a run under way: some turns of an accepted plan have been played, and its workers are counted
pub record Underway (r : Run) : Type 0 where
  pub going : Going r.plan.now r.cells.now r.progress
  pub counted : r.workers ≡ worker_count r.plan.now

-- the same run after these further turns
pub record Advances (us : List Turn) (r r' : Run) : Type 0 where
  pub plan : r'.plan.now ≡ r.plan.now
  pub workers : r'.workers ≡ r.workers
  pub cells : r'.cells.ghost_name ≡ r.cells.ghost_name
  pub long : length r'.cells.now ≡ length r.cells.now
  pub plays : Plays r.plan.now us r.cells.now r.progress r'.cells.now r'.progress
