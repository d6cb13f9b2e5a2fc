-- `inputs::allowed` tells the allowed turns. Assumes nothing.
use borrow.Author.Tests.{le-leb, lt-leb, eq-eqb, ne_eqb}
use Rattle.disac4.specs.Turn.{allowed}
use Rattle.inputs.proofs.allowed.Goals as goal

pub returns-then-actor-eq0 : goal.returns-then-actor-eq0
unfolding allowed
returns-then-actor-eq0 c = rw (eq-eqb _ _ c.if-actor-eq0.true) c.controller_may.ensures

pub returns-then-p-actor : goal.returns-then-p-actor
unfolding allowed
returns-then-p-actor c = simp (ne_eqb _ _ c.if-actor-eq0.false, lt-leb _ _ c.if-p-actor.true)

pub returns : goal.returns
unfolding allowed
returns c = rw (ne_eqb _ _ c.if-actor-eq0.false, le-leb _ _ c.if-p-actor.false) c.worker_may.ensures
