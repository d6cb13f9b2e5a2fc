-- `playing::play_turns` plays the turns of a list. The loop's invariant: those passed are played, and what the table
-- notes is so. Assumes nothing.
use Prim.Native.Nat.{ℕ, ◌/◌}
use mathlib.Core.List.{[], ◌∷◌}
use mathlib.Core.Path.{◌≡◌, ◌∙◌, ap, subst}
use native.Mathlib.Omega.{arith}
use lib.ListN.{length}
use Rattle.base.specs.Below.{gather_below}
use Rattle.disac4.specs.Turn.{allowed, turn, turn_at, turns_of}
use Rattle.engine.proofs.Further.{advances_none, underway_after, one_further}
use Rattle.engine.specs.Play.{Advances}
use Rattle.playing.proofs.Idling.{nothing_known}
use Rattle.inputs.proofs.TurnLists.{turn_read, is_allowed}
use Rattle.playing.proofs.play_turns.Goals as goal
use Rattle.playing.proofs.play_turns.Goals.{After-byte_at-in-loop-i}

pub loop-i-init : goal.loop-i-init
loop-i-init c =
    (advances_none _, nothing_known _ _ _ _ c.none_known-table.ensures.0 c.none_known-table.ensures.1)

-- the two bytes are those of the turn
is-turn : (c : After-byte_at-in-loop-i)
    → turn c.byte_at.result c.byte_at-in-loop-i.result ≡ turn_at c.args.list.now c.loop-i.i
is-turn c = turn_read _ c.loop-i.i _ _ c.byte_at.ensures.0 c.byte_at-in-loop-i.ensures.0

pub next_turn-requires : goal.next_turn-requires
next_turn-requires c =
    let a = c.loop-i.invariant.0 in (
      underway_after c.requires.0 a,
      rw a.workers
          (ap (allowed c.args.run.now.workers) (is-turn (goal.at.next_turn-requires c).After-byte_at-in-loop-i)
          ∙ is_allowed _ c.args.list.now c.requires.1 c.loop-i.i c.loop-i-test.true),
      rw a.plan c.loop-i.invariant.1,
    )

pub loop-i-preserved : goal.loop-i-preserved
loop-i-preserved c =
    let a = c.loop-i.invariant.0 in (
      one_further (λ _ i. turn_at c.args.list.now i ∷ []) c.loop-i.i a
          (rw (is-turn (goal.at.loop-i-preserved c).After-byte_at-in-loop-i) at c.next_turn.ensures.0),
      rw a.plan at c.next_turn.ensures.1,
    )

pub returns-clause-played : goal.returns-clause-played
unfolding turns_of
returns-clause-played c =
    let e : c.loop-i.i ≡ length c.args.list.now / 2 = omega arith in
    subst (λ (n : ℕ). Advances (gather_below n (λ k. turn_at c.args.list.now k ∷ [])) c.args.run.now c.loop-i.run) e c.loop-i.invariant.0

pub returns-clause-same_cells : goal.returns-clause-same_cells
returns-clause-same_cells c = c.loop-i.invariant.0.cells
