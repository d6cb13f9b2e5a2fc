-- `calls::run_turns` is the turn run. Assumes nothing.
use borrow.Author.Rules.{rules}
use mathlib.Core.Option.{none}
use mathlib.Core.Path.{◌≡◌}
use Rattle.calls.proofs.run_turns.Goals as goal
use Rattle.calls.proofs.run_turns.Goals.{After-map_err, In_ok-counts}
use Rattle.disac4.proofs.Order.{turn_passed}
use Rattle.disac4.proofs.Tested.{Tested, tested, short_refused, fault_refused, nothing_found}
use Rattle.disac4.specs.Outcome.{Lent, lent, call_of, turn_run}
use Rattle.disac4.specs.declared.Report.{Report}
use Rattle.faults.specs.declared.Decline.{Decline}
use Rattle.format.specs.Format.{worker_count}
use Rattle.lending.proofs.Outcome.{call_does}
use Rattle.lending.specs.Call.{Call, call_fault}
use Rattle.plan.proofs.Answer.{its_workers}
use Rattle.std.proofs.lemmas.Result.{err_from_is_err_and}
use Rattle.std.specs.Prelude.{Result}

module _ (k : After-map_err) where
  abbrev run : Call (Result Report Decline) Lent
  run = call_of (turn_run k.args.plan.now k.args.turns.now)

  abbrev before : Lent
  before = lent k.args.work.now k.args.lists.now

  -- the buffers were tested
  buffers : Tested run before k.map_err.result
  buffers = tested run before _ k.check_buffers.ensures _ k.map_err.ensures.cases (λ f d p. search rules)

-- and then the other inputs
module _ (t : In_ok-counts) where
  abbrev here : After-map_err
  here = (goal.at.In_ok-counts t).After-map_err

  nothing : call_fault (run here) (before here) ≡ none
  nothing = nothing_found (run here) (before here) (buffers here) _ t.in_ok-map_err.was t.args.plan.now _ t.in_ok-counts.ensures

  workers : t.in_ok-counts.counts.workers ≡ worker_count t.args.plan.now
  workers = its_workers _ _ _ t.in_ok-counts.ensures

pub returns-in_err-map_err : goal.returns-in_err-map_err
returns-in_err-map_err c =
    let k = (goal.at.returns-in_err-map_err c).After-map_err in
    let fails = err_from_is_err_and c.from_residual.result c.from_residual.ensures.1 in
    rw (fails.1, fails.2) (short_refused (run k) (before k) (buffers k) _ c.in_err-map_err.was)

pub returns-in_err-counts : goal.returns-in_err-counts
returns-in_err-counts c =
    let k = (goal.at.returns-in_err-counts c).After-map_err in
    let fails = err_from_is_err_and c.from_residual-in_err-counts.result c.from_residual-in_err-counts.ensures.1 in
    rw (fails.1, fails.2) (fault_refused (run k) (before k) (buffers k) _ c.in_ok-map_err.was _ _ c.in_err-counts.ensures)

pub play_list-requires : goal.play_list-requires
play_list-requires c =
    let t = (goal.at.play_list-requires c).In_ok-counts in
    let passes = turn_passed _ _ _ (nothing t) in
    (passes.1, passes.0.0, passes.0.1.0, workers t, rw (workers t) passes.2)

pub returns : goal.returns
returns c = rw (call_does _ _ (nothing (goal.at.returns c).In_ok-counts)) c.play_list.ensures
