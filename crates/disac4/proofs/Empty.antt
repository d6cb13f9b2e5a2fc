-- What the test for an empty list says of the list.
use Prim.Native.Nat.{◌≤◌}
use mathlib.Core.Bool.{true, false, false≢true, true≢false}
use mathlib.Core.List.{List, [], ◌∷◌}
use mathlib.Core.Path.{◌≡◌, refl}
use native.Mathlib.Omega.{arith}
use lib.ListN.{length}
use Rattle.disac4.specs.Action.{is_empty}

module _ {ℓ} {A : Type ℓ} where
  -- a list that passes it has no member
  pub empty : (l : List A) → is_empty l ≡ true → l ≡ []
  empty [] e = refl
  empty (a ∷ l) e = absurd (false≢true e)

  -- a list that fails it has one or more
  pub not_empty : (l : List A) → is_empty l ≡ false → 1 ≤ length l
  not_empty [] e = absurd (true≢false e)
  not_empty (a ∷ l) e = omega arith
