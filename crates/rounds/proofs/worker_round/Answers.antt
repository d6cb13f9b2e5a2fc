-- `rounds::worker_round` plays the turns of a worker. Assumes nothing.
use mathlib.Core.List.{[], ◌∷◌, map}
use mathlib.Core.Path.{refl, ◌∙◌}
use native.Mathlib.Omega.{arith}
use Rattle.disac4.proofs.Allowed.{may_work}
use Rattle.disac4.specs.Round.{others, worker_round}
use Rattle.disac4.specs.Turn.{turn, treat_action, send_action, answer_action}
use Rattle.refinement.proofs.Underway.{going_small}
use Rattle.engine.proofs.Advancing.{one_byte, byte_few}
use Rattle.engine.proofs.Working.{works_then, worked_plays, running_by, running_after}
use Rattle.engine.specs.Play.{Running}
use Rattle.rounds.proofs.worker_round.Goals as goal
use Rattle.rounds.proofs.worker_round.Goals.{After-reads-read, After-work_turn}

pub reads-read-requires : goal.reads-read-requires
reads-read-requires c = (running_by _ _ _ c.requires.0.going, c.requires.0.counted, c.requires.1, c.requires.2)

-- the run goes on after the reads and after treating
has_read : (r : After-reads-read) → Running r.args.run.now.plan.now r.reads-read.new.cells r.args.run.now.progress.tally
has_read r = running_after _ _ _ _ _ _ _ (running_by _ _ _ r.requires.0.going) r.reads-read.auto.cells r.reads-read.ensures.0

has-treated : (t : After-work_turn)
    → Running t.args.run.now.plan.now t.work_turn.new.cells t.args.run.now.progress.tally
has-treated t = running_after _ _ _ _ _ _ _ (has_read (goal.at.After-work_turn t).After-reads-read) t.work_turn.auto.cells t.work_turn.ensures

pub work_turn-requires : goal.work_turn-requires
work_turn-requires c =
    (has_read (goal.at.work_turn-requires c).After-reads-read, c.requires.0.counted, c.requires.1, may_work _ c.args.k _ c.requires.1 c.requires.2 refl)

pub work_turn-requires-2 : goal.work_turn-requires-2
work_turn-requires-2 c =
    (has-treated (goal.at.work_turn-requires-2 c).After-work_turn, c.requires.0.counted, c.requires.1, may_work _ c.args.k _ c.requires.1 c.requires.2 refl)

pub work_turn-requires-3 : goal.work_turn-requires-3
work_turn-requires-3 c = (
  running_after _ _ _ _ _ _ _ (has-treated (goal.at.work_turn-requires-3 c).After-work_turn) c.work_turn-2.auto.cells c.work_turn-2.ensures,
  c.requires.0.counted,
  c.requires.1,
  may_work _ c.args.k _ c.requires.1 c.requires.2 refl,
)

pub overflow_add-run-4 : goal.overflow_add-run-4
overflow_add-run-4 c = omega (
  arith,
  (going_small _ _ _ c.requires.0.going).0,
  c.reads-read.ensures.1,
  byte_few _ c.from-treated.ensures,
  byte_few _ c.from-sent.ensures,
  byte_few _ c.from-answered.ensures,
)

pub overflow_add-run-5 : goal.overflow_add-run-5
overflow_add-run-5 c = omega (arith, (going_small _ _ _ c.requires.0.going).1, byte_few _ c.from-sent.ensures)

pub returns : goal.returns
unfolding worker_round
returns c =
    let r = c.args.run.now in
    let k = c.args.k in
    record {
      plan = refl;
      workers = refl;
      cells = refl;
      long = c.work_turn-3.auto.cells ∙ c.work_turn-2.auto.cells ∙ c.work_turn.auto.cells ∙ c.reads-read.auto.cells;
      plays =
          worked_plays r.plan.now (worker_round r.workers k) _ _ _ _ r.progress _
          (works_then _ (map (turn k) (others r.workers k)) (turn k treat_action ∷ turn k send_action ∷ turn k answer_action ∷ []) _ _ _ _ _ _ _ _ c.reads-read.ensures.0
          (works_then _ (turn k treat_action ∷ []) (turn k send_action ∷ turn k answer_action ∷ []) _ _ _ _ _ _ _ _ c.work_turn.ensures
          (works_then _ (turn k send_action ∷ []) (turn k answer_action ∷ []) _ _ _ _ _ _ _ _ c.work_turn-2.ensures c.work_turn-3.ensures)))
          (record { before = refl; after = refl; changes = omega (arith, one_byte _ c.from-treated.ensures, one_byte _ c.from-sent.ensures, one_byte _ c.from-answered.ensures); sends = omega (arith, one_byte _ c.from-sent.ensures); polls = refl });
    }
