-- The loop of the round run: the turns played so far and those left are the whole run, and each round lowers the potential.
use Prim.Native.Nat.{ℕ, ◌<◌}
use mathlib.Core.Bool.{true, false}
use mathlib.Core.List.{List, [], ◌++◌, append_assoc, append-nil}
use mathlib.Core.Path.{◌≡◌, sym, ◌∙◌, ap, subst}
use Rattle.disac4.proofs.Fold.{play_append}
use Rattle.disac4.proofs.Potential.{potential}
use Rattle.disac4.proofs.RoundRun.{Reached, round_on}
use Rattle.disac4.specs.Fold.{play_by}
use Rattle.disac4.specs.Loading.{load}
use Rattle.disac4.specs.Report.{final}
use Rattle.disac4.specs.Round.{round, round_run_turns}
use Rattle.disac4.specs.State.{State}
use Rattle.disac4.specs.System.{System, Sound, system_at}
use Rattle.disac4.specs.Turn.{Turn, step, play}
use Rattle.rounds.proofs.RoundsLeft.{left, left_loaded, left_closed, left_lowers, left_open}
use Rattle.engine.proofs.Further.{advances_none, advances_then, underway_after}
use Rattle.engine.specs.Play.{Underway, Advances}
use Rattle.engine.specs.declared.run.Run.{Run}
use Rattle.engine.proofs.RunLaws.{workers_are}
use Rattle.refinement.proofs.Start.{fits_regions}
use Rattle.refinement.proofs.Underway.{under_view, going_view, goes_after}
use Rattle.rounds.specs.Rounds.{Begun}
use Rattle.refinement.specs.Run.{view_of, Going, Plays}
use Rattle.controller.specs.Controller.{machine}
use Rattle.cells.specs.View.{view}
use Rattle.disac4.specs.declared.Progress.{Progress}
use Rattle.format.specs.Format.{worker_count}

-- the state that the cells and the tally stand for
abbrev pub state_at : List ℕ → List ℕ → Progress → State
state_at b cells g = view_of (system_at b) (machine cells g.tally)

-- one more round of a run under way, whatever plays its turns
module _ (b cells : List ℕ) (g : Progress) (going : Going b cells g) where
  abbrev sys : System
  sys = system_at b

  abbrev s : State
  s = state_at b cells g

  sound : Sound sys
  sound = (fits_regions b going.sound).sound

  seen : s ≡ play sys (load sys) going.turns
  unfolding final
  seen = going_view b cells g going

  reached : Reached sys s
  reached = (going.turns, sym seen)

  module _ (running : g.tally.closed ≡ false) (p : ℕ) (e : p ≡ worker_count b) (cells' : List ℕ) (g' : Progress)
      (q : Plays b (round p) cells g cells' g') where
    is_open : s.controller.closed ≡ false
    unfolding view
    is_open = running

    -- the round of the system
    whole_round : Plays b (round sys.workers) cells g cells' g'
    whole_round = subst (λ (n : ℕ). Plays b (round n) cells g cells' g') (e ∙ sym (workers_are b)) q

    moved : state_at b cells' g' ≡ round_on sys s
    unfolding final Plays
    moved =
        under_view b going.sound going.before (going.turns ++ round sys.workers) cells' g'
        (whole_round going.before going.turns going.at)
        ∙ play_append (step sys) going.turns (round sys.workers) (load sys)
        ∙ ap (round_on sys) (sym seen)

    -- the round lowers the potential of a plan that is not closed
    pub round_falls : potential sys (state_at b cells' g') < potential sys s
    round_falls =
        subst (λ (st : State). potential sys st < potential sys s) (sym moved)
        (left_lowers sys sound s reached is_open)

    -- what is left before the round is the round, and what is left after it
    left_falls : left sys s ≡ round sys.workers ++ left sys (state_at b cells' g')
    left_falls =
        left_open sys sound s reached is_open
        ∙ ap (λ (st : State). round sys.workers ++ left sys st) (sym moved)

-- the loop's invariant
pub record Rounding (r₀ r : Run) : Type 0 where
  pub turns : List Turn
  pub advances : Advances turns r₀ r
  pub whole : turns ++ left (system_at r₀.plan.now) (state_at r₀.plan.now r.cells.now r.progress) ≡ round_run_turns (system_at r₀.plan.now)

module _ (r₀ : Run) (start : Begun r₀.plan.now r₀.cells.now r₀.progress) (counted : r₀.workers ≡ worker_count r₀.plan.now) where
  abbrev b : List ℕ
  b = r₀.plan.now

  -- where the loop begins
  pub no_round : Rounding r₀ r₀
  unfolding final play_by
  no_round = record {
    turns = [];
    advances = advances_none r₀;
    whole =
        ap (left (system_at b))
        (seen b _ _ start.going ∙ ap (final (system_at b)) start.fresh)
        ∙ left_loaded (system_at b) (sound b _ _ start.going);
  }

  module _ (r : Run) (rounding : Rounding r₀ r) where
    pub rounding_goes : Underway r
    rounding_goes = underway_after (record { going = start.going; counted = counted }) rounding.advances

    going_on : Going b r.cells.now r.progress
    going_on = goes_after b rounding.turns _ _ _ _ start.going rounding.advances.long rounding.advances.plays

    -- a closed plan has played all of the round run
    pub rounds_done : r.progress.tally.closed ≡ true → Advances (round_run_turns (system_at b)) r₀ r
    unfolding view
    rounds_done e =
        subst (λ (us : List Turn). Advances us r₀ r)
        (sym (append-nil rounding.turns)
        ∙ ap (λ (us : List Turn). rounding.turns ++ us)
        (sym (left_closed (system_at b) (sound b _ _ start.going) (state_at b r.cells.now r.progress) e))
        ∙ rounding.whole)
        rounding.advances

    module _ (running : r.progress.tally.closed ≡ false) (r' : Run) (q : Advances (round r.workers) r r') where
      as_counted : r.workers ≡ worker_count b
      as_counted = rounding.advances.workers ∙ counted

      played : Plays b (round r.workers) r.cells.now r.progress r'.cells.now r'.progress
      played = rw rounding.advances.plan at q.plays

      -- so the loop ends
      pub loop_falls : potential (system_at b) (state_at b r'.cells.now r'.progress)
          < potential (system_at b) (state_at b r.cells.now r.progress)
      loop_falls = round_falls b _ _ going_on running r.workers as_counted _ _ played

      pub round_more : Rounding r₀ r'
      round_more = record {
        turns = rounding.turns ++ round r₀.workers;
        advances = advances_then round rounding.advances q;
        whole =
            rw (counted ∙ sym (workers_are b))
            (append_assoc rounding.turns (round (system_at b).workers)
            (left (system_at b) (state_at b r'.cells.now r'.progress))
            ∙ ap (λ (us : List Turn). rounding.turns ++ us)
            (sym (left_falls b _ _ going_on running r.workers as_counted _ _ played))
            ∙ rounding.whole);
      }
