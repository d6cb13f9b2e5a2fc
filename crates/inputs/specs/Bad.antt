-- What the number of the first turn that is not allowed says of a list.
use Rattle.std.specs.Prelude.{ℕ, Option as RustOption, Some, None}
use Rattle.std.proofs.Math.Option.{Option, none, some}
use Rattle.faults.specs.Fault.{decline}
use Rattle.faults.specs.declared.Decline.{Decline}
use Rattle.faults.specs.declared.Fault.TheVariants.{BadTurn}

-- what the number of a turn says of a list: that one is not allowed, or none where there is no such number
unfoldable pub bad_turn : RustOption ℕ → Option Decline
bad_turn (Some k) = some (decline BadTurn k)
bad_turn None = none
