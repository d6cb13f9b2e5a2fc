-- What a limit on the sum of two figures allows.
use Prim.Native.Nat.{ℕ, ◌+◌, ◌≤◌}
use mathlib.Core.Bool.{Bool, ◌&&◌, false, not, and_comm}
use mathlib.Core.Path.{◌≡◌, refl, ap, ap₂}
use native.Mathlib.Nat.{add_comm}
use native.Mathlib.Omega.{arith}
use borrow.Author.Tests.{leb-true, le-leb, ne_eqb}
use lib.Dec.{leb}
use Rattle.base.proofs.Bools.{and_false_left, and_false_right, and_left, and_right, and_intro, bool_ext}
use Rattle.plan.specs.Network.{unrecorded, within_limit, UNRECORDED}

-- under no limit is the figure 65,535 allowed with any figure
pub unrecorded_forbids : (limit f : ℕ) → (within_limit limit UNRECORDED f ≡ false) × (within_limit limit f UNRECORDED ≡ false)
unfolding within_limit unrecorded
unrecorded_forbids limit f =
    (refl, and_false_left (leb (f + UNRECORDED) limit) (and_false_right (not (unrecorded f)) refl))

-- two other figures, zero among them, are allowed exactly if their sum is at most the limit
pub recorded_judges : (limit f g : ℕ) → (f ≡ UNRECORDED → ⊥) → (g ≡ UNRECORDED → ⊥) → within_limit limit f g ≡ leb (f + g) limit
unfolding within_limit unrecorded
recorded_judges limit f g p q = rw (ne_eqb f UNRECORDED p, ne_eqb g UNRECORDED q) refl

-- a limit judges two figures in either order
pub limit_turned : (limit f g : ℕ) → within_limit limit f g ≡ within_limit limit g f
unfolding within_limit
limit_turned limit f g =
    ap₂ ◌&&◌ (and_comm (not (unrecorded f)) (not (unrecorded g))) (ap (λ (k : ℕ). leb k limit) (add_comm f g))

-- of two limits the lower one decides
pub lower_decides : (low limit f g : ℕ) → low ≤ limit → within_limit low f g && within_limit limit f g ≡ within_limit low f g
unfolding within_limit
lower_decides low limit f g h =
    let recorded : Bool = not (unrecorded f) && not (unrecorded g) in
    bool_ext (within_limit low f g && within_limit limit f g) (within_limit low f g) (and_left (within_limit low f g) (within_limit limit f g))
    (λ e.
    let sum : f + g ≤ low = leb-true (f + g) low (and_right recorded (leb (f + g) low) e) in
    and_intro e (and_intro (and_left recorded (leb (f + g) low) e) (le-leb (f + g) limit (omega arith))))
