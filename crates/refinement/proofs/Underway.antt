-- What holds of a run that has played some turns, and one turn more.
use Prim.Native.Nat.{ℕ, ◌+◌, ◌<◌}
use mathlib.Core.Bool.{Bool, true, ◌&&◌}
use mathlib.Core.List.{List, [], ◌∷◌, ◌++◌, append_assoc, append-nil}
use mathlib.Core.Option.{none}
use mathlib.Core.Path.{◌≡◌, sym, ◌∙◌, ap, subst}
use native.Mathlib.Omega.{arith}
use lib.ListN.{length}
use Rattle.base.specs.Below.{one}
use Rattle.disac4.proofs.RunFits.{run_fits}
use Rattle.disac4.proofs.Fold.{play_next, count_next}
use Rattle.disac4.specs.Fold.{is_some}
use Rattle.disac4.specs.Loading.{load}
use Rattle.disac4.specs.Report.{is_send, is_poll, final}
use Rattle.disac4.specs.State.{State}
use Rattle.disac4.specs.System.{System, system_at}
use Rattle.disac4.specs.Turn.{Turn, play, changes_where}
use Rattle.index.proofs.Kept.{IndexKept, indexed_kept}
use Rattle.refinement.proofs.Refined.{Refines, refined}
use Rattle.refinement.proofs.Simulation.{run_view, run_keeps, run_counts}
use Rattle.refinement.proofs.Start.{fits_regions, start_inv, start_view, start_indexed, start_behind}
use Rattle.refinement.proofs.Static.{play_static}
use Rattle.index.specs.Index.{Ready}
use Rattle.refinement.specs.Inv.{Inv}
use Rattle.cells.specs.Layout.{BEHIND}
use Rattle.cells.specs.Memory.{Mem, mem_of}
use Rattle.refinement.specs.Run.{view_of, changes_where_m, start_m, At, Going, Plays}
use Rattle.controller.specs.Controller.{Machine, machine}
use Rattle.refinement.specs.Step.{step_m, after_m}
use Rattle.disac4.specs.declared.Progress.{Progress}
use Rattle.plan.proofs.Faults.{decoded}
use Rattle.plan.specs.Decode.{plan_fault, plan_of}

module _ (b : List ℕ) (sound : plan_fault b ≡ none) where
  abbrev sys : System
  sys = system_at b

  refines : Refines sys
  refines = refined sys (fits_regions b sound)

  module _ (m : Mem) (ts : List Turn) (cells : List ℕ) (g : Progress) (at : At b m ts cells g) where
    -- the cells stand for the state after the turns
    pub under_view : view_of sys (machine cells g.tally) ≡ final sys ts
    unfolding final
    under_view =
        ap (view_of sys) at.stands
        ∙ run_view refines ts (start_m b m) (start_inv b sound m)
        ∙ ap (λ (st : State). play sys st ts) (start_view b sound m)

    -- nothing of the index or behind it has changed
    same_since : IndexKept (start_m b m).mem (mem_of cells)
    same_since =
        subst (λ (s : Machine). IndexKept (start_m b m).mem s.mem) (sym at.stands) (play_static sys ts (start_m b m))

    -- the cells behind are as they were
    pub under_behind : (i j : ℕ) → mem_of cells BEHIND i j ≡ m BEHIND i j
    under_behind i j = same_since.kept BEHIND i j (omega arith) ∙ start_behind b sound m i j

    -- the counts are those of document 01's turns
    counted : (test : Turn → Bool) → changes_where_m sys test (start_m b m) ts ≡ changes_where sys test (load sys) ts
    counted test =
        run_counts refines test ts (start_m b m) (start_inv b sound m)
        ∙ ap (λ (st : State). changes_where sys test st ts) (start_view b sound m)

    pub under_changes : g.changes ≡ changes_where sys (λ t. true) (load sys) ts
    under_changes = at.changes ∙ counted (λ t. true)

    pub under_sends : g.sends ≡ changes_where sys is_send (load sys) ts
    under_sends = at.sends ∙ counted is_send

    pub under_polls : g.polls ≡ changes_where sys is_poll (load sys) ts
    under_polls = at.polls ∙ counted is_poll

    -- what one turn more adds to a count
    more : (test : Turn → Bool) (t : Turn)
        → changes_where_m sys test (start_m b m) (ts ++ (t ∷ []))
        ≡ changes_where_m sys test (start_m b m) ts + one (test t && is_some (step_m sys (machine cells g.tally) t))
    more test t = rw at.stands (count_next (step_m sys) test ts t (start_m b m))

    -- one turn more
    pub at_next : (t : Turn) (cells' : List ℕ) (g' : Progress)
        → machine cells' g'.tally ≡ after_m sys (machine cells g.tally) t
        → g'.changes ≡ g.changes + one (is_some (step_m sys (machine cells g.tally) t))
        → g'.sends ≡ g.sends + one (is_send t && is_some (step_m sys (machine cells g.tally) t))
        → g'.polls ≡ g.polls + one (is_poll t && is_some (step_m sys (machine cells g.tally) t))
        → At b m (ts ++ (t ∷ [])) cells' g'
    at_next t cells' g' moved changes sends polls = record {
      stands = moved ∙ ap (λ (s : Machine). after_m sys s t) at.stands ∙ sym (play_next (step_m sys) ts t (start_m b m));
      changes = omega (arith, at.changes, more (λ t. true) t);
      sends = omega (arith, at.sends, more is_send t);
      polls = omega (arith, at.polls, more is_poll t);
    }

-- ---- a run that goes on

module _ (b cells : List ℕ) (g : Progress) (go : Going b cells g) where
  -- the invariant holds
  pub going_inv : Inv (system_at b) (machine cells g.tally)
  going_inv =
      subst (Inv (system_at b)) (sym go.at.stands)
      (run_keeps (refines b go.sound) go.turns (start_m b go.before) (start_inv b go.sound go.before))

  -- the cells stand for the state after its turns
  pub going_view : view_of (system_at b) (machine cells g.tally) ≡ final (system_at b) go.turns
  going_view = under_view b go.sound go.before go.turns cells g go.at

  -- they hold the plan's index
  pub going_ready : Ready b cells
  going_ready = record {
    sound = go.sound;
    index =
        indexed_kept b (start_m b go.before).mem (mem_of cells)
        (same_since b go.sound go.before go.turns cells g go.at) (start_indexed b go.sound go.before);
    long = go.long;
  }

  -- the counts have room for one turn more
  pub going_small : (g.changes < 65536) × (g.sends < 65536) × (g.polls < 65536)
  going_small =
      let f = run_fits b (plan_of b) (decoded b go.sound) go.turns in (
        omega (arith, under_changes b go.sound go.before go.turns cells g go.at, f.turns, f.bound),
        omega (arith, under_sends b go.sound go.before go.turns cells g go.at, f.sends),
        omega (arith, under_polls b go.sound go.before go.turns cells g go.at, f.polls),
      )

  -- what one turn more has done
  pub going_after : (t : Turn) (cells' : List ℕ) (g' : Progress) → Plays b (t ∷ []) cells g cells' g'
      → (machine cells' g'.tally ≡ after_m (system_at b) (machine cells g.tally) t)
      × (g'.changes ≡ g.changes + one (is_some (step_m (system_at b) (machine cells g.tally) t)))
  unfolding Plays
  going_after t cells' g' plays =
      let later : At b go.before (go.turns ++ (t ∷ [])) cells' g' = plays go.before go.turns go.at in (
        later.stands
            ∙ play_next (step_m (system_at b)) go.turns t (start_m b go.before)
            ∙ ap (λ (s : Machine). after_m (system_at b) s t) (sym go.at.stands),
        omega (
          arith,
          later.changes,
          go.at.changes,
          more b go.sound go.before go.turns cells g go.at (λ t. true) t,
        ),
      )

-- ---- lists of turns, one after the other

module _ (b : List ℕ) where
  -- no turns
  pub plays_none : (cells : List ℕ) (g : Progress) → Plays b [] cells g cells g
  unfolding Plays
  plays_none cells g m ts at = subst (λ (us : List Turn). At b m us cells g) (sym (append-nil ts)) at

  -- two lists of turns are one
  pub plays_then : (us vs : List Turn) (c₀ c₁ c₂ : List ℕ) (g₀ g₁ g₂ : Progress) → Plays b us c₀ g₀ c₁ g₁
      → Plays b vs c₁ g₁ c₂ g₂ → Plays b (us ++ vs) c₀ g₀ c₂ g₂
  unfolding Plays
  plays_then us vs c₀ c₁ c₂ g₀ g₁ g₂ p q m ts at =
      subst (λ (ws : List Turn). At b m ws c₂ g₂) (append_assoc ts us vs) (q m (ts ++ us) (p m ts at))

  -- a run goes on after turns that keep the number of cells
  pub goes_after : (us : List Turn) (cells cells' : List ℕ) (g g' : Progress) → Going b cells g
      → length cells' ≡ length cells → Plays b us cells g cells' g' → Going b cells' g'
  unfolding Plays
  goes_after us cells cells' g g' go same p = record {
    sound = go.sound;
    long = omega (arith, go.long);
    before = go.before;
    turns = go.turns ++ us;
    at = p go.before go.turns go.at;
  }
