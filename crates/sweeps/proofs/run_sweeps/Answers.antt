-- `sweeps::run_sweeps` plays the sweeps of a plan. Assumes nothing.
use borrow.Author.Rules.{rules}
use Prim.Native.Nat.{ℕ}
use mathlib.Core.Path.{◌∙◌}
use native.Mathlib.Omega.{arith}
use Rattle.disac4.proofs.Tested.{Tested, tested, short_refused, all_long, fault_refused, found_does}
use Rattle.faults.specs.declared.Decline.{Decline}
use Rattle.lending.specs.Call.{Call}
use Rattle.plan.proofs.Answer.{plan_check_lem, no_fault}
use Rattle.std.proofs.lemmas.Result.{err_from_is_err_and}
use Rattle.std.specs.Prelude.{Result}
use Rattle.sweeping.specs.Outcome.{TwoLists, two_lists, sweep_call}
use Rattle.sweeps.proofs.run_sweeps.Goals as goal
use Rattle.sweeps.proofs.run_sweeps.Goals.{After-map_err}

module _ (k : After-map_err) where
  abbrev call : Call (Result ℕ Decline) TwoLists
  call = sweep_call k.args.plan.now

  abbrev before : TwoLists
  before = two_lists k.args.first.now k.args.second.now

  -- the buffers were tested
  buffers : Tested call before k.map_err.result
  buffers = tested call before _ k.check_lists.ensures _ k.map_err.ensures.cases (λ f d p. search rules)

pub returns-in_err-map_err : goal.returns-in_err-map_err
returns-in_err-map_err c =
    let k = (goal.at.returns-in_err-map_err c).After-map_err in
    let fails = err_from_is_err_and c.from_residual.result c.from_residual.ensures.1 in
    rw (fails.1, fails.2) (short_refused (call k) (before k) (buffers k) _ c.in_err-map_err.was)

pub returns-in_err-check_plan : goal.returns-in_err-check_plan
returns-in_err-check_plan c =
    let k = (goal.at.returns-in_err-check_plan c).After-map_err in
    let fails = err_from_is_err_and c.from_residual-in_err-check_plan.result c.from_residual-in_err-check_plan.ensures.1 in
    rw (fails.1, fails.2)
    (fault_refused (call k) (before k) (buffers k) _ c.in_ok-map_err.was _ _ (c.in_err-check_plan.ensures ∙ plan_check_lem _))

pub sweep_plan-requires : goal.sweep_plan-requires
sweep_plan-requires c =
    let k = (goal.at.sweep_plan-requires c).After-map_err in
    let long = all_long (call k) (before k) (buffers k) _ c.in_ok-map_err.was in (
      (no_fault _ _ _ (c.in_ok-check_plan.ensures ∙ plan_check_lem _)).0,
      omega (arith, long.0, long.1.0),
      omega (arith, long.0, long.1.0),
    )

pub returns : goal.returns
returns c =
    let k = (goal.at.returns c).After-map_err in
    rw
    (found_does (call k) (before k) (buffers k) _ c.in_ok-map_err.was _ _ (c.in_ok-check_plan.ensures ∙ plan_check_lem _))
    c.sweep_plan.ensures
