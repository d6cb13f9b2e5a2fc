-- A table of the turns that are known to be idle, whose flags are set, and which of them a turn may enable.
use Rattle.std.specs.Prelude.{ℕ, ◌<◌, Bool, cond, ◌&&◌, ◌||◌, List, ◌≡◌, leb, ltb, eqb, length}
use Rattle.disac4.specs.Turn.{Turn, treat_action}
use Rattle.flags.specs.Flags.{actors, actions, cell_count, cell_at}

-- the cells of some turns become `v`, the others stay
pub record Puts (v : Bool) (which : ℕ → ℕ → Bool) (before after : List Bool) : Type 0 where
  pub long : length after ≡ cell_count
  pub each : (k d : ℕ) → k < actors → d < actions → cell_at after k d ≡ cond (which k d) v (cell_at before k d)

-- where `t` has changed something, `u` may find something to do: the same turn again; what its actor does but read; and where
-- `t` sent a message, a read from that actor
unfoldable pub enables : Turn → Turn → Bool
enables t u =
    ((eqb u.actor t.actor && eqb u.action t.action)
    || (eqb u.actor t.actor && leb treat_action u.action))
    || (ltb treat_action t.action && eqb u.action t.actor)
