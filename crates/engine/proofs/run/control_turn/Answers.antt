-- `engine::run::control_turn` plays one turn of the controller. Assumes nothing.
use Prim.Native.Nat.{ℕ, ◌≤◌}
use mathlib.Core.Bool.{true}
use mathlib.Core.Path.{◌≡◌, refl, sym, ◌∙◌, subst}
use native.Mathlib.Omega.{arith}
use Rattle.format.specs.Limits.{max_workers}
use Rattle.cells.proofs.Acting.{idle, acts_as}
use Rattle.disac4.specs.Turn.{allowed, turn}
use Rattle.engine.proofs.RunLaws.{turn_closed, turn_polls, controller_turn_reads, read_numbers, workers_are}
use Rattle.disac4.specs.System.{system_at}
use Rattle.engine.proofs.run.control_turn.Goals as goal
use Rattle.engine.proofs.run.control_turn.Goals.{Start}

few-at : (s : Start) → s.args.p ≤ max_workers
few-at s = omega (arith, s.requires.0.workers, s.requires.1)

allowed_at : (s : Start) → allowed (system_at s.args.plan.now).workers (turn 0 s.args.d) ≡ true
allowed_at s =
    subst (λ (n : ℕ). allowed n (turn 0 s.args.d) ≡ true) (s.requires.1 ∙ sym (workers_are s.args.plan.now)) s.requires.2

pub returns-then-t : goal.returns-then-t
returns-then-t c =
    idle _ _ (turn_closed _ _ _ _ c.if-t.true)

pub returns-then-d-eq-POLL_ACTION : goal.returns-then-d-eq-POLL_ACTION
returns-then-d-eq-POLL_ACTION c =
    acts_as (turn_polls _ _ _ _ c.if-t.false (allowed_at (goal.at.returns-then-d-eq-POLL_ACTION c).Start) refl c.if-d-eq-POLL_ACTION.true) c.poll.ensures

pub overflow_sub-d : goal.overflow_sub-d
overflow_sub-d c =
    omega (arith, read_numbers c.args.p 0 c.args.d (few-at (goal.at.overflow_sub-d c).Start) c.requires.2 refl c.if-d-eq-POLL_ACTION.false)

pub read_by_value-requires : goal.read_by_value-requires
read_by_value-requires c =
    let h = read_numbers c.args.p 0 c.args.d (few-at (goal.at.read_by_value-requires c).Start) c.requires.2 refl c.if-d-eq-POLL_ACTION.false in
    (c.requires.0.ready.long, c.requires.0.marks, omega (arith, few-at (goal.at.read_by_value-requires c).Start), few-at (goal.at.read_by_value-requires c).Start)

pub returns-else-d-eq-POLL_ACTION : goal.returns-else-d-eq-POLL_ACTION
returns-else-d-eq-POLL_ACTION c =
    let b = c.args.plan.now in
    acts_as (controller_turn_reads _ _ _ _ c.if-t.false (allowed_at (goal.at.returns-else-d-eq-POLL_ACTION c).Start) refl c.if-d-eq-POLL_ACTION.false)
    (c.read_by_value.ensures (system_at b) (workers_are b ∙ sym c.requires.1))
