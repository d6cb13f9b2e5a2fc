-- `rounds::read_other` reads from an actor that is not the worker itself. Assumes nothing.
use native.Mathlib.Omega.{arith}
use borrow.Author.Tests.{eq-eqb}
use Rattle.disac4.proofs.Allowed.{may_read}
use Rattle.engine.proofs.Working.{running_playable, works_none}
use Rattle.rounds.proofs.read_other.Goals as goal

pub returns-then-j-k : goal.returns-then-j-k
returns-then-j-k c =
    let a = c.args in
    rw (eq-eqb a.j a.k c.if-j-k.true) (works_none a.plan.now a.cells.now a.t)

pub read_turn-requires : goal.read_turn-requires
read_turn-requires c =
    let can = running_playable c.args.plan.now c.args.cells.now c.args.t c.requires.0 in (
      c.requires.0,
      c.requires.1,
      c.requires.2,
      omega (arith, c.requires.1, c.requires.4, can.workers),
      may_read c.args.p c.args.k c.args.j c.requires.2 c.requires.3 c.requires.4 c.if-j-k.false,
    )
