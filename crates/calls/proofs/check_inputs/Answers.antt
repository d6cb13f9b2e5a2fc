-- `calls::check_inputs` makes the tests of a plan and a turn list in their order. Assumes nothing.
use mathlib.Core.Option.{Option}
use mathlib.Core.Path.{◌≡◌, refl, ◌∙◌, ap}
use Rattle.calls.proofs.check_inputs.Goals as goal
use Rattle.calls.proofs.check_inputs.Goals.{In_ok-counts}
use Rattle.disac4.proofs.Order.{bad_turn_list, then_plan}
use Rattle.disac4.specs.Outcome.{input_fault}
use Rattle.disac4.specs.Turn.{turn_fault}
use Rattle.faults.proofs.Branches.{holds, fails}
use Rattle.faults.specs.declared.Decline.{Decline}
use Rattle.inputs.specs.Bad.{bad_turn}
use Rattle.plan.proofs.Answer.{plan_check_lem, no_fault, its_workers, its_fault, answer_accepted, answer_declined}
use Rattle.plan.specs.Answer.{check_of}
use Rattle.plan.specs.Decode.{plan_fault}
use Rattle.std.proofs.lemmas.Result.{err_from_is_err_and}
use Rattle.std.specs.Prelude.{Ok, Err}

-- the plan is accepted
known : (t : In_ok-counts) → let b = t.args.plan.now in Ok t.in_ok-counts.counts ≡ check_of b (plan_fault b)
known t = t.in_ok-counts.ensures ∙ plan_check_lem _

-- so the turns decide
tried : (t : In_ok-counts) (o : Option Decline) → let a = t.args in
    turn_fault t.in_ok-counts.counts.workers a.turns.now ≡ o → input_fault a.plan.now a.turns.now ≡ o
tried t o e =
    then_plan _ _ o (holds t.list_fits.ensures t.if-not-list_fits.false)
    (rw ((no_fault _ _ _ (known t)).0, ← its_workers _ _ _ (known t)) e)

pub returns-then-not-list_fits : goal.returns-then-not-list_fits
returns-then-not-list_fits c =
    answer_declined _ _ _ _ (ap Err c.decline_at.ensures) (bad_turn_list _ _ (fails c.list_fits.ensures c.if-not-list_fits.true))

pub returns-in_err-counts : goal.returns-in_err-counts
returns-in_err-counts c =
    let fails = err_from_is_err_and c.from_residual.result c.from_residual.ensures.1 in
    rw (fails.1, fails.2)
    (answer_declined _ _ _ _ refl
    (then_plan _ _ _ (holds c.list_fits.ensures c.if-not-list_fits.false)
    (rw (its_fault _ _ _ (c.in_err-counts.ensures ∙ plan_check_lem _)))))

pub returns-in-Some : goal.returns-in-Some
unfolding bad_turn
returns-in-Some c =
    answer_declined _ _ _ _ (ap Err c.decline_at-in-Some.ensures)
    (tried (goal.at.returns-in-Some c).In_ok-counts _ c.in-Some.ensures.first)

pub returns-in-None : goal.returns-in-None
unfolding bad_turn
returns-in-None c =
    let t = (goal.at.returns-in-None c).In_ok-counts in
    answer_accepted _ _ _ (no_fault _ _ _ (known t)).1 (tried t _ c.in-None.ensures.first)
