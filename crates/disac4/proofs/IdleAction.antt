-- What it says of the state that an action is idle.
use Prim.Native.Nat.{ℕ}
use mathlib.Core.Bool.{Bool, true, false, cond, false≢true}
use mathlib.Core.List.{List, [], ◌∷◌}
use mathlib.Core.Option.{Option, none, some}
use mathlib.Core.Path.{◌≡◌, refl, sym}
use Rattle.base.proofs.Bools.{clash}
use Rattle.disac4.specs.Action.{read_from, controller_from}
use Rattle.disac4.specs.Fold.{is_some}
use Rattle.disac4.specs.State.{State, Message, list, poll, reply}
use Rattle.disac4.specs.System.{System}

-- a choice that is idle fell on its idle outcome: the first
pub none_chosen : (b : Bool) (s : State) → is_some (cond b none (some s)) ≡ false → b ≡ true
none_chosen true s e = refl
none_chosen false s e = absurd (false≢true (sym e))

-- or the second
pub some_refused : (b : Bool) (s : State) → is_some (cond b (some s) none) ≡ false → b ≡ false
some_refused true s e = absurd (false≢true (sym e))
some_refused false s e = refl

-- an action that takes the oldest member of a list is idle only where the list is empty
pub none_taken {ℓ} : {A : Type ℓ} (act : List A → Option State) → ((a : A) (l : List A) → is_some (act (a ∷ l)) ≡ true)
    → (l : List A) → is_some (act l) ≡ false → l ≡ []
none_taken act takes [] e = refl
none_taken act takes (a ∷ l) e = clash (takes a l) e

-- a worker takes a message of any kind
pub read_takes : (j k : ℕ) (st : State) (m : Message) (l : List Message) → is_some (read_from j k st (m ∷ l)) ≡ true
read_takes j k st (list labels) l = refl
read_takes j k st (poll q) l = refl
read_takes j k st (reply n) l = refl

-- and so does the controller
pub controller_takes : (sys : System) (k : ℕ) (st : State) (m : Message) (l : List Message)
    → is_some (controller_from sys k st (m ∷ l)) ≡ true
controller_takes sys k st (list labels) l = refl
controller_takes sys k st (poll q) l = refl
controller_takes sys k st (reply n) l = refl
