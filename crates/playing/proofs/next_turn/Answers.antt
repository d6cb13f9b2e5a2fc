-- `playing::next_turn` plays a turn, or passes it over. Assumes nothing.
use Prim.Native.Nat.{◌<◌, ◌≤◌}
use mathlib.Core.Bool.{true}
use mathlib.Core.Path.{refl, sym, ◌∙◌}
use native.Mathlib.Omega.{arith}
use Rattle.format.specs.Limits.{max_workers}
use Rattle.disac4.proofs.Allowed.{allowed_bounds}
use Rattle.disac4.specs.Turn.{turn}
use Rattle.engine.proofs.Advancing.{playable}
use Rattle.flags.specs.Flags.{actors, actions}
use Rattle.playing.proofs.Idling.{passed_over, noted, idle_again, known_still, forgotten}
use Rattle.playing.specs.Known.{KnownIdle}
use Rattle.playing.proofs.next_turn.Goals as goal
use Rattle.playing.proofs.next_turn.Goals.{After-forget, Start}

-- the turn has a cell in the table
inside : (s : Start) → (s.args.actor < actors) × (s.args.action < actions)
inside s =
    let u = s.requires.0 in
    let few : s.args.run.now.workers ≤ max_workers = omega (arith, u.counted, (playable _ _ _ u.going).workers) in
    let h = allowed_bounds s.args.run.now.workers (turn s.args.actor s.args.action) few s.requires.1 in
    (omega (arith, h.0), h.1)

pub is_set-requires : goal.is_set-requires
is_set-requires c =
    ((inside (goal.at.is_set-requires c).Start).0, (inside (goal.at.is_set-requires c).Start).1)

pub returns-then-is_set : goal.returns-then-is_set
returns-then-is_set c =
    let a = c.args in (
      record {
        plan = refl;
        workers = refl;
        cells = refl;
        long = refl;
        plays =
            passed_over _ _ _ a.table.now c.requires.0.going c.requires.2 a.actor a.action
            (inside (goal.at.returns-then-is_set c).Start).0 (inside (goal.at.returns-then-is_set c).Start).1 (sym c.is_set.ensures ∙ c.if-is_set.true);
      },
      c.requires.2,
    )

pub note-requires : goal.note-requires
note-requires c =
    ((inside (goal.at.note-requires c).Start).0, (inside (goal.at.note-requires c).Start).1)

pub returns-then-run-changes : goal.returns-then-run-changes
returns-then-run-changes c =
    let a = c.args in (
      c.advance.ensures,
      noted true a.actor a.action (λ _. idle_again _ _ _ _ _ c.requires.0.going a.actor a.action c.advance.ensures.plays c.requires.2 c.if-run-changes.true)
          c.note.ensures
          (known_still _ _ _ _ _ c.requires.0.going a.actor a.action c.advance.ensures.plays c.requires.2 c.if-run-changes.true),
    )

pub forget-requires : goal.forget-requires
forget-requires c =
    ((inside (goal.at.forget-requires c).Start).0, (inside (goal.at.forget-requires c).Start).1)

-- what is known after a changing turn
known-after : (c : After-forget) → KnownIdle c.args.run.now.plan.now c.advance.new.self.cells.now c.advance.new.self.progress.tally c.forget.new.table
known-after c =
    forgotten _ _ _ _ _ c.requires.0.going c.args.actor c.args.action c.advance.ensures.plays c.requires.2 _ c.forget.ensures

pub settle-requires : goal.settle-requires
settle-requires c = (
  omega (arith, c.advance.ensures.long, c.requires.0.going.long),
  omega (arith, c.if-actor-ne0.true),
  omega (arith, (inside (goal.at.settle-requires c).Start).0),
)

pub returns-then-actor-ne0 : goal.returns-then-actor-ne0
returns-then-actor-ne0 c =
    (c.advance.ensures, c.settle.ensures _ (known-after (goal.at.returns-then-actor-ne0 c).After-forget))

pub returns-else-actor-ne0 : goal.returns-else-actor-ne0
returns-else-actor-ne0 c =
    (c.advance.ensures, known-after (goal.at.returns-else-actor-ne0 c).After-forget)
