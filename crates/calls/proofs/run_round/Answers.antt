-- `calls::run_round` is the round run. Assumes nothing.
use borrow.Author.Rules.{rules}
use mathlib.Core.Path.{◌∙◌}
use Rattle.calls.proofs.run_round.Goals as goal
use Rattle.calls.proofs.run_round.Goals.{After-map_err}
use Rattle.disac4.proofs.Tested.{Tested, tested, short_refused, all_long, fault_refused, found_does}
use Rattle.disac4.specs.Outcome.{Lent, lent, call_of, round_run}
use Rattle.disac4.specs.declared.Report.{Report}
use Rattle.faults.specs.declared.Decline.{Decline}
use Rattle.lending.specs.Call.{Call}
use Rattle.plan.proofs.Answer.{plan_check_lem, no_fault, its_workers}
use Rattle.std.proofs.lemmas.Result.{err_from_is_err_and}
use Rattle.std.specs.Prelude.{Result}

module _ (k : After-map_err) where
  abbrev run : Call (Result Report Decline) Lent
  run = call_of (round_run k.args.plan.now)

  abbrev before : Lent
  before = lent k.args.work.now k.args.lists.now

  -- the buffers were tested
  buffers : Tested run before k.map_err.result
  buffers = tested run before _ k.check_buffers.ensures _ k.map_err.ensures.cases (λ f d p. search rules)

pub returns-in_err-map_err : goal.returns-in_err-map_err
returns-in_err-map_err c =
    let k = (goal.at.returns-in_err-map_err c).After-map_err in
    let fails = err_from_is_err_and c.from_residual.result c.from_residual.ensures.1 in
    rw (fails.1, fails.2) (short_refused (run k) (before k) (buffers k) _ c.in_err-map_err.was)

pub returns-in_err-counts : goal.returns-in_err-counts
returns-in_err-counts c =
    let k = (goal.at.returns-in_err-counts c).After-map_err in
    let fails = err_from_is_err_and c.from_residual-in_err-counts.result c.from_residual-in_err-counts.ensures.1 in
    rw (fails.1, fails.2)
    (fault_refused (run k) (before k) (buffers k) _ c.in_ok-map_err.was _ _ (c.in_err-counts.ensures ∙ plan_check_lem _))

pub play_until_closed-requires : goal.play_until_closed-requires
play_until_closed-requires c =
    let k = (goal.at.play_until_closed-requires c).After-map_err in
    let long = all_long (run k) (before k) (buffers k) _ c.in_ok-map_err.was in
    let found = c.in_ok-counts.ensures ∙ plan_check_lem _ in
    ((no_fault _ _ _ found).0, long.0, long.1.0, its_workers _ _ _ found)

pub returns : goal.returns
returns c =
    let k = (goal.at.returns c).After-map_err in
    rw (found_does (run k) (before k) (buffers k) _ c.in_ok-map_err.was _ _ (c.in_ok-counts.ensures ∙ plan_check_lem _))
    c.play_until_closed.ensures
