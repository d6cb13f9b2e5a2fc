-- The room that a limit leaves beside a figure, and a table's column.
use Prim.Native.Nat.{ℕ, ◌+◌, ◌-◌, ◌*◌, ◌/◌, ◌%◌, ◌<◌, ◌≤◌}
use mathlib.Core.List.{List}
use mathlib.Core.Path.{◌≡◌, sym, ◌∙◌, ap}
use native.Mathlib.Decide.{ℕ_discrete}
use native.Mathlib.Omega.{arith}
use borrow.Author.Tests.{ltb-true, lt-ltb, le-ltb, leb-true, le-leb}
use lib.Dec.{leb, ltb}
use Rattle.base.proofs.Bools.{bool_ext}
use Rattle.base.proofs.Digits.{number_bit}
use Rattle.base.specs.Bytes.{byte_at}
use Rattle.base.specs.Row.{bit}
use Rattle.format.specs.Format.{table_row_start, table_row_at, table_byte_at}
use Rattle.format.specs.Version.{max_size, row_bytes}
use Rattle.plan.proofs.Limits.{unrecorded_forbids, recorded_judges}
use Rattle.plan.specs.Network.{within_limit, UNRECORDED}
use Rattle.rows.specs.Permits.{in_column}

-- ---- a limit's room

-- beside an unrecorded figure there is no room
pub no_room : (limit f : ℕ) → f ≡ UNRECORDED → (g : ℕ) → ltb g 0 ≡ within_limit limit f g
no_room limit f e g = rw e (le-ltb g 0 (omega arith) ∙ sym (unrecorded_forbids limit g).0)

-- beside a recorded figure, a room judges as the limit does if it is at most 65,535 and the other figures below it are
-- those whose sum with that figure is within the limit
pub room_judges : (limit f room : ℕ) → (f ≡ UNRECORDED → ⊥) → room ≤ UNRECORDED
    → ((g : ℕ) → (g ≡ UNRECORDED → ⊥) → (g < room → f + g ≤ limit) × (f + g ≤ limit → g < room))
    → (g : ℕ) → ltb g room ≡ within_limit limit f g
room_judges limit f room recorded capped fits g =
    elim (ℕ_discrete g UNRECORDED) [
      | yes q ↦ rw q (le-ltb UNRECORDED room capped ∙ sym (unrecorded_forbids limit f).1)
      | no d ↦
          bool_ext (ltb g room) (leb (f + g) limit)
          (λ t. le-leb (f + g) limit ((fits g d).0 (ltb-true g room t)))
          (λ t. lt-ltb g room ((fits g d).1 (leb-true (f + g) limit t)))
          ∙ sym (recorded_judges limit f g recorded d)
    ]

-- ---- a table's column, by one byte of each row

-- eight values stand in each, from the low byte on
pub column_byte : (b : List ℕ) → ((i : ℕ) → byte_at b i < 256) → (at v : ℕ) → v < max_size b → (w : ℕ)
    → bit (table_byte_at b at w (row_bytes b - 1 - v / 8)) (v % 8) ≡ in_column b at v w
unfolding in_column byte_at
column_byte b bytes at v h w =
    let start = table_row_start b at w in
    let e : v ≡ 8 * (v / 8) + v % 8 = omega arith in
    sym
    (ap (bit (table_row_at b at w)) e
    ∙ number_bit 8 b start (row_bytes b) (λ d p. bytes (start + d)) (v / 8) (v % 8) (omega arith) (omega arith))
