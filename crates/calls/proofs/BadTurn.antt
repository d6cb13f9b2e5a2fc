-- What the test of the turns finds: the first that is not allowed.
use Prim.Native.Nat.{ℕ}
use mathlib.Core.Option.{some}
use mathlib.Core.Path.{◌≡◌, refl}
use Rattle.std.specs.Prelude.{Some}
use Rattle.inputs.specs.Bad.{bad_turn}
use Rattle.faults.specs.Fault.{decline}
use Rattle.faults.specs.declared.Fault.TheVariants.{BadTurn}

-- the first turn that is not allowed
pub bad_turn_lem : (k : ℕ) → bad_turn (Some k) ≡ some (decline BadTurn k)
unfolding bad_turn
bad_turn_lem k = refl
