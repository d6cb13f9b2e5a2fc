-- `inputs::first_bad` finds the first turn that is not allowed. The loop's invariant: the turns passed are allowed.
-- Assumes nothing.
use Prim.Native.Nat.{◌/◌}
use mathlib.Core.Path.{◌≡◌, sym, ◌∙◌, ap}
use native.Mathlib.Omega.{arith}
use lib.ListN.{length}
use Rattle.disac4.specs.Turn.{allowed, turn_at}
use Rattle.inputs.proofs.TurnLists.{turn_read, next_allowed, first_fault_lem, no_fault}
use Rattle.inputs.proofs.first_bad.Goals as goal
use Rattle.inputs.proofs.first_bad.Goals.{After-judged}

-- what is looked up is said of the turn at k
said : (a : After-judged)
    → a.judged.result ≡ allowed a.args.p (turn_at a.args.list.now a.loop-k.k)
said a =
    a.judged.ensures
    ∙ ap (allowed _) (turn_read _ a.loop-k.k _ _ a.byte_at.ensures.0 a.byte_at-in-loop-k.ensures.0)

pub returns-then-not-judged-clause-first : goal.returns-then-not-judged-clause-first
returns-then-not-judged-clause-first c =
    first_fault_lem c.args.p c.args.list.now c.loop-k.k c.loop-k-test.true
    c.loop-k.invariant (sym (said (goal.at.returns-then-not-judged-clause-first c).After-judged) ∙ c.if-not-judged.true)

pub loop-k-preserved : goal.loop-k-preserved
loop-k-preserved c =
    next_allowed c.args.p c.args.list.now c.loop-k.k c.loop-k.invariant
    (sym (said (goal.at.loop-k-preserved c).After-judged) ∙ c.if-not-judged.false)

pub returns-clause-first : goal.returns-clause-first
returns-clause-first c =
    let list = c.args.list.now in
    let e : c.loop-k.k ≡ length list / 2 = omega arith in
    no_fault c.args.p list (rw e at c.loop-k.invariant)
