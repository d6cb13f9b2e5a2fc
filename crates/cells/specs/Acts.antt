-- What the code of an action does to the state it works on: the work cells, or the work cells and the tally beside them.
use Rattle.std.specs.Prelude.{Bool, ◌≡◌}
use Rattle.std.proofs.Math.Option.{Option, get_or}
use Rattle.disac4.specs.Fold.{is_some}

-- it leaves what its definition leaves, and says whether that changes something
pub record Acts {S : Type 0} (act : S → Option S) (before after : S) (changed : Bool) : Type 0 where
  pub leaves : after ≡ get_or (act before) before
  pub says : changed ≡ is_some (act before)
