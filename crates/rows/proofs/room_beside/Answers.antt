-- `rows::room_beside` gives the room that a limit leaves beside a figure. Assumes nothing.
use Prim.Native.Nat.{◌+◌, ◌-◌}
use native.Mathlib.Omega.{arith}
use Rattle.plan.specs.Network.{UNRECORDED}
use Rattle.rows.proofs.Rows.{no_room, room_judges}
use Rattle.rows.proofs.room_beside.Goals as goal

pub returns-then-f-eq-UNRECORDED : goal.returns-then-f-eq-UNRECORDED
returns-then-f-eq-UNRECORDED c = no_room c.args.limit c.args.f c.if-f-eq-UNRECORDED.true

pub returns-then-limit-f : goal.returns-then-limit-f
returns-then-limit-f c =
    let a = c.args in
    room_judges a.limit a.f 0 c.if-f-eq-UNRECORDED.false (omega arith)
    (λ g d. (λ h. omega arith, λ h. omega (arith, c.if-limit-f.true)))

pub returns-then-limit-f-lt-UNRECORDED : goal.returns-then-limit-f-lt-UNRECORDED
returns-then-limit-f-lt-UNRECORDED c =
    let a = c.args in
    room_judges a.limit a.f (a.limit - a.f + 1) c.if-f-eq-UNRECORDED.false (omega (arith, c.if-limit-f-lt-UNRECORDED.true))
    (λ g d. (λ h. omega (arith, c.if-limit-f.false), λ h. omega (arith, c.if-limit-f.false)))

pub returns-else-limit-f-lt-UNRECORDED : goal.returns-else-limit-f-lt-UNRECORDED
returns-else-limit-f-lt-UNRECORDED c =
    let a = c.args in
    room_judges a.limit a.f UNRECORDED c.if-f-eq-UNRECORDED.false (omega arith)
    (λ g d. (λ h. omega (arith, c.if-limit-f-lt-UNRECORDED.false), λ h. omega (arith, c.requires)))
