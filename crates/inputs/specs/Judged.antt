-- A table of the turns that are allowed, whose flags are set.
use Rattle.std.specs.Prelude.{ℕ, Bool, ◌<◌, List, ◌≡◌, length}
use Rattle.disac4.specs.Turn.{turn, allowed}
use Rattle.flags.specs.Flags.{actors, actions, cell_count, cell_at}

-- each cell says whether `p` workers allow its turn
pub record Judges (p : ℕ) (table : List Bool) : Type 0 where
  pub long : length table ≡ cell_count
  pub each : (k d : ℕ) → k < actors → d < actions → cell_at table k d ≡ allowed p (turn k d)
