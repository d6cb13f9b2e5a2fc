-- What the program prints for a plan and its turns: the text of a whole run, and a buffer that starts with it.
use Rattle.std.specs.Prelude.{ℕ, Bool, cond, List, ◌≡◌, length, take, drop, replicate}
use Rattle.disac4.specs.Outcome.{Lent, lent, RunOutcome, Run, run_of, turn_run, round_run}
use Rattle.disac4.specs.Need.{work_need, list_need}
use Rattle.text.specs.Printed.{printed}

-- the buffers as the program lends them: as many cells as a run needs, each 0
unfoldable pub fresh : Lent
fresh = lent (replicate work_need 0) (replicate list_need 0)

-- the text of an outcome: its answer, with the list cells that the run leaves
unfoldable pub shown_of : List ℕ → RunOutcome → List ℕ
shown_of b o = printed o.answer b o.left.lists

-- a run by rounds ("a run without a turn list") or by the turn list
unfoldable pub run_by : List ℕ → List ℕ → Bool → Run
run_by b turns rounds = cond rounds (round_run b) (turn_run b turns)

-- what the program prints
unfoldable pub shown : List ℕ → List ℕ → Bool → List ℕ
shown b turns rounds = shown_of b (run_of (run_by b turns rounds) fresh)

-- the buffer starts with the whole text, `count` bytes, and keeps its other cells
pub record Shows (text before after : List ℕ) (count : ℕ) : Type 0 where
  pub counted : count ≡ length text
  pub whole : take count after ≡ text
  pub kept : drop count after ≡ drop count before
