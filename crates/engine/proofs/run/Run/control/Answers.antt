-- `engine::run::Run::control` plays one turn more of the controller. Assumes nothing.
use Prim.Native.Nat.{ℕ, ◌+◌}
use mathlib.Core.Bool.{true, false}
use mathlib.Core.Path.{refl, ap}
use native.Mathlib.Omega.{arith}
use lib.Dec.{eqb}
use Rattle.disac4.specs.Turn.{poll_action}
use Rattle.engine.proofs.Advancing.{playable, advanced, one_byte, byte_few, none_added}
use Rattle.refinement.proofs.Underway.{going_small}
use Rattle.engine.proofs.run.Run.control.Goals as goal

pub control_turn-requires : goal.control_turn-requires
control_turn-requires c = (playable _ _ _ c.requires.0.going, c.requires.0.counted, c.requires.1)

pub returns-in_default : goal.returns-in_default
returns-in_default c =
    let r = c.args.self.now in
    record {
      plan = refl;
      workers = refl;
      cells = refl;
      long = c.control_turn.auto.cells;
      plays =
          advanced r.plan.now _ _ r.progress _ 0 c.args.action false c.requires.0.going.sound
          (rw c.in_default.is at c.control_turn.ensures) (omega arith) (omega arith)
          (omega (arith, none_added (eqb c.args.action poll_action)));
    }

pub overflow_add-self : goal.overflow_add-self
overflow_add-self c = omega (arith, going_small _ _ _ c.requires.0.going)

pub overflow_add-self-2 : goal.overflow_add-self-2
overflow_add-self-2 c =
    omega (arith, going_small _ _ _ c.requires.0.going, byte_few _ c.from.ensures)

pub returns : goal.returns
returns c =
    let r = c.args.self.now in
    record {
      plan = refl;
      workers = refl;
      cells = refl;
      long = c.control_turn.auto.cells;
      plays =
          advanced r.plan.now _ _ r.progress _ 0 c.args.action true c.requires.0.going.sound
          (rw c.in-Some.is at c.control_turn.ensures) refl (omega arith)
          (ap (λ (n : ℕ). r.progress.polls + n) (one_byte _ c.from.ensures));
    }
