-- The turns of a list of bytes, and the first of them that is not allowed.
use Prim.Native.Nat.{ℕ, ◌+◌, ◌*◌, ◌/◌, ◌<◌}
use mathlib.Core.Bool.{true, false}
use mathlib.Core.List.{List}
use mathlib.Core.Option.{none, some}
use mathlib.Core.Path.{◌≡◌, ap₂}
use lib.ListN.{length}
use Rattle.base.proofs.Below.{first_at_lem, first_more}
use Rattle.base.proofs.Choice.{cond_true, cond_false}
use Rattle.base.specs.Below.{first_below}
use Rattle.base.specs.Bytes.{byte_at}
use Rattle.disac4.proofs.Order.{allowed_below}
use Rattle.disac4.specs.Turn.{turn, allowed, turn_at, turn_fault, fault_of}
use Rattle.inputs.specs.Bad.{bad_turn}
use Rattle.std.specs.Prelude.{Some, None}
use Rattle.faults.specs.Fault.{decline}
use Rattle.faults.specs.declared.Fault.TheVariants.{BadTurn}

-- a turn as its two bytes are read
pub turn_read : (list : List ℕ) (k actor action : ℕ) → actor ≡ byte_at list (2 * k) → action ≡ byte_at list (2 * k + 1)
    → turn actor action ≡ turn_at list k
unfolding turn_at
turn_read list k actor action e f = ap₂ turn e f

module _ (p : ℕ) (list : List ℕ) where
  -- one more turn that is allowed
  pub next_allowed : (k : ℕ) → first_below k (fault_of p list) ≡ none → allowed p (turn_at list k) ≡ true
      → first_below (k + 1) (fault_of p list) ≡ none
  next_allowed k e a = first_more k (fault_of p list) e (cond_true none (some (decline BadTurn k)) a)

  -- the first that is not
  pub first_fault_lem : (k : ℕ) → k < length list / 2 → first_below k (fault_of p list) ≡ none
      → allowed p (turn_at list k) ≡ false → turn_fault p list ≡ bad_turn (Some k)
  unfolding turn_fault bad_turn
  first_fault_lem k h e a =
      first_at_lem (length list / 2) (fault_of p list) k (decline BadTurn k) h e (cond_false none (some (decline BadTurn k)) a)

  -- no turn has a fault
  pub no_fault : first_below (length list / 2) (fault_of p list) ≡ none → turn_fault p list ≡ bad_turn None
  unfolding turn_fault bad_turn
  no_fault e = e

  -- in a list without fault every turn is allowed
  pub is_allowed : turn_fault p list ≡ none → (k : ℕ) → k < length list / 2 → allowed p (turn_at list k) ≡ true
  unfolding turn_fault
  is_allowed e = allowed_below p list (length list / 2) e
