-- What is known of the turns that are idle.
use Rattle.std.specs.Prelude.{ℕ, Bool, true, ◌<◌, List, ◌≡◌, length}
use Rattle.std.proofs.Math.Option.{none}
use Rattle.controller.specs.Controller.{Machine, machine}
use Rattle.disac4.specs.Turn.{turn}
use Rattle.disac4.specs.declared.Tally.{Tally}
use Rattle.flags.specs.Flags.{actors, actions, cell_count, cell_at}
use Rattle.refinement.specs.Step.{step_m}
use Rattle.disac4.specs.System.{system_at}

-- the action `d` of actor `k` is idle
abbrev pub Idle : List ℕ → Machine → ℕ → ℕ → Type 0
Idle b s k d = step_m (system_at b) s (turn k d) ≡ none

-- the turns whose flags a table has set are idle
pub record KnownIdle (b cells : List ℕ) (t : Tally) (table : List Bool) : Type 0 where
  pub long : length table ≡ cell_count
  pub idle : (k d : ℕ) → k < actors → d < actions → cell_at table k d ≡ true → Idle b (machine cells t) k d
