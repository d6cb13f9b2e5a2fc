-- Demands 2 and 3 and the round, for every accepted plan, from the plan's bytes.
use Prim.Native.Nat.{ℕ, zero, suc}
use mathlib.Core.Bool.{true}
use mathlib.Core.List.{List}
use mathlib.Core.Logic.{⊎_elim}
use mathlib.Core.Path.{◌≡◌, ◌∙◌}
use Rattle.base.proofs.Bools.{decided}
use Rattle.base.proofs.Each.{Each, each_append, each_all}
use Rattle.network.proofs.Chain.{untied_keeps}
use Rattle.network.proofs.Largest.{largest_consistent, largest_exists}
use Rattle.network.proofs.Solution.{solution_within}
use Rattle.network.specs.Consistency.{Within, Largest}
use Rattle.network.specs.Network.{Domains}
use Rattle.plan.proofs.WellFormed.{well_formed}
use Rattle.plan.specs.Decode.{decode, accepted}
use Rattle.plan.specs.Network.{network_of}
use Rattle.plan.specs.Plan.{Plan}
use Rattle.plan.specs.WellFormed.{WellFormed}
use Rattle.disac4.proofs.Bound.{changes_exactly, changes_bounded}
use Rattle.disac4.proofs.Delivered.{quiet_done}
use Rattle.disac4.proofs.Final.{closed_stays, domain_shrinks}
use Rattle.disac4.proofs.Fold.{play_append}
use Rattle.disac4.proofs.Largest.{never_lost, quiet_largest}
use Rattle.disac4.proofs.GoesOn.{progress}
use Rattle.disac4.proofs.Pending.{pinned}
use Rattle.disac4.proofs.RoundRun.{turns_closed, turns_open, round_run_closes, round_run_complete}
use Rattle.disac4.proofs.Rounds.{round_allowed}
use Rattle.disac4.proofs.Safety.{closed_quiet}
use Rattle.disac4.specs.Demands.{closed_after, Demand2, Demand3, RoundCloses}
use Rattle.disac4.specs.Loading.{load}
use Rattle.disac4.specs.Report.{final}
use Rattle.disac4.specs.Round.{round, round_turns, round_run_turns}
use Rattle.disac4.specs.State.{State}
use Rattle.disac4.specs.System.{System, system_of, bound_of, Sound}
use Rattle.disac4.specs.Turn.{Turn, allowed, step, play}

module _ (sys : System) (sound : Sound sys) (ts : List Turn) where
  -- demand 3, for a system
  demand3_of : Demand3 sys ts
  unfolding final closed_after
  demand3_of = record {
    keeps_largest = λ d largest. never_lost sys sound ts d (largest_consistent sys.net d largest);
    all_done = λ closed. quiet_done sys sound ts (closed_quiet sound ts closed);
    pinned = pinned sys sound ts;
    counted = changes_exactly sys sound.few;
    bounded = changes_bounded sys sound ts;
    goes_on = λ running.
        let p = progress sound ts running in
        (p.0, p.1, (changes_exactly sys sound.few (play sys (load sys) ts) p.0).0 p.2);
  }

  -- demand 2, for a system
  demand2_of : Demand2 sys ts
  unfolding final closed_after Within
  demand2_of = record {
    largest = λ closed. quiet_largest sys sound ts (closed_quiet sound ts closed);
    keeps_solutions = λ s sol x h. in_largest x (s x) (solution_within sys.net s sol big.0 big.1 x h);
    stays_deleted = λ us.
        rw (play_append (step sys) ts us (load sys)) (domain_shrinks sys sound.few (play sys (load sys) ts) us);
    stays_closed = λ closed us. play_append (step sys) ts us (load sys) ∙ closed_stays sys (play sys (load sys) ts) closed us;
    untied_kept = λ z d c x v u h. in_largest x v (untied_keeps sys.net z d c big.0 big.1 x v u h);
  }
    where
      big : (d : Domains) × Largest sys.net d
      big = largest_exists sys.net

      in_largest : (x v : ℕ) → big.0 x v ≡ true → (play sys (load sys) ts).domain x v ≡ true
      in_largest = never_lost sys sound ts big.0 (largest_consistent sys.net big.0 big.1)

-- ---- the round

module _ (sys : System) (sound : Sound sys) where
  -- the turns of any number of rounds are allowed
  rounds_allowed : (fuel : ℕ) (st : State) → Each (λ t. allowed sys.workers t ≡ true) (round_turns sys fuel st)
  unfolding round_turns
  rounds_allowed zero st = tt
  rounds_allowed (suc fuel) st =
      ⊎_elim (λ e. rw (turns_closed sys fuel st e) tt)
      (λ e.
      rw (turns_open sys fuel st e)
      (each_append (λ t. allowed sys.workers t ≡ true) (round sys.workers)
      (round_turns sys fuel (play sys st (round sys.workers)))
      (round_allowed sys.workers)
      (rounds_allowed fuel (play sys st (round sys.workers)))))
      (decided st.controller.closed)

  round_closes : RoundCloses sys
  unfolding final closed_after round_run_turns
  round_closes = record {
    all_allowed = each_all (allowed sys.workers) (round_run_turns sys) (rounds_allowed (suc (bound_of sys)) (load sys));
    closes = round_run_closes sys sound;
    fuel_left = round_run_complete sys sound;
    then_idle =
        play_append (step sys) (round_run_turns sys) (round sys.workers) (load sys)
        ∙ closed_stays sys (play sys (load sys) (round_run_turns sys)) (round_run_closes sys sound) (round sys.workers);
  }

-- ---- accepted plans

-- the system of an accepted plan is sound
pub plan_sound : {most : ℕ} (plan : Plan) → WellFormed most plan → Sound (system_of plan)
unfolding system_of network_of
plan_sound plan w = record {
  few = w.workers_high;
  some_worker = w.workers_low;
  owned = λ x h. record { above = (w.each_variable x h).owner_low; within = (w.each_variable x h).owner_high };
}

-- demand 3: for every accepted plan and every list of turns
pub demand3 : (b : List ℕ) (plan : Plan) → decode b ≡ accepted plan → (ts : List Turn) → Demand3 (system_of plan) ts
demand3 b plan e ts = demand3_of (system_of plan) (plan_sound plan (well_formed b plan e)) ts

-- demand 2: for every accepted plan and every list of turns
pub demand2 : (b : List ℕ) (plan : Plan) → decode b ≡ accepted plan → (ts : List Turn) → Demand2 (system_of plan) ts
demand2 b plan e ts = demand2_of (system_of plan) (plan_sound plan (well_formed b plan e)) ts

-- the round run of every accepted plan closes it
pub round_closes_plan : (b : List ℕ) (plan : Plan) → decode b ≡ accepted plan → RoundCloses (system_of plan)
round_closes_plan b plan e = round_closes (system_of plan) (plan_sound plan (well_formed b plan e))
