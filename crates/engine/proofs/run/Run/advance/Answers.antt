-- `engine::run::Run::advance` plays one turn more. Assumes nothing.
use mathlib.Core.Path.{refl}
use native.Mathlib.Omega.{arith}
use Rattle.engine.proofs.Advancing.{byte_few}
use Rattle.refinement.proofs.Underway.{going_small}
use Rattle.engine.proofs.Working.{plays_idle, plays_changed}
use Rattle.engine.proofs.run.Run.advance.Goals as goal

pub overflow_add-self : goal.overflow_add-self
overflow_add-self c = omega (arith, going_small _ _ _ c.requires.0.going)

pub overflow_add-self-then-work_turn : goal.overflow_add-self-then-work_turn
overflow_add-self-then-work_turn c =
    omega (arith, going_small _ _ _ c.requires.0.going, byte_few _ c.from.ensures)

pub returns-then-work_turn : goal.returns-then-work_turn
returns-then-work_turn c =
    let r = c.args.self.now in
    record {
      plan = refl;
      workers = refl;
      cells = refl;
      long = c.work_turn.auto.cells;
      plays = plays_changed r.plan.now _ _ _ _ r.progress c.work_turn.ensures c.if-work_turn.true c.from.ensures;
    }

pub returns-else-work_turn : goal.returns-else-work_turn
returns-else-work_turn c =
    let r = c.args.self.now in
    record {
      plan = refl;
      workers = refl;
      cells = refl;
      long = c.work_turn.auto.cells;
      plays = plays_idle r.plan.now _ _ _ _ r.progress c.work_turn.ensures c.if-work_turn.false;
    }
