-- A round that changes nothing shows that no turn would; but in an open plan some turn does, so the round run closes it.
use Prim.Native.Nat.{ℕ, zero, suc, ◌<◌}
use mathlib.Core.Bool.{true, false}
use mathlib.Core.List.{List, [], ◌∷◌, ◌++◌}
use mathlib.Core.Logic.{◌⊎◌, inl, inr}
use mathlib.Core.Path.{◌≡◌, refl, sym, ◌∙◌, ap, subst}
use native.Mathlib.Decide.{ℕ_discrete}
use native.Mathlib.Nat.{not-suc-le-zero}
use native.Mathlib.Omega.{arith}
use Rattle.base.proofs.Bools.{decided, clash, refuted}
use Rattle.base.proofs.Each.{Each, each_member}
use Rattle.base.specs.Below.{one}
use Rattle.disac4.proofs.Bound.{turns_bounded, potential_loaded}
use Rattle.disac4.proofs.Fold.{after_same, play_append}
use Rattle.disac4.proofs.Potential.{potential}
use Rattle.disac4.proofs.GoesOn.{progress}
use Rattle.disac4.proofs.Rounds.{allowed_round}
use Rattle.disac4.specs.Fold.{play_by, gather_by, count_by}
use Rattle.disac4.specs.Loading.{load}
use Rattle.disac4.specs.Round.{round, round_turns, round_run_turns}
use Rattle.disac4.specs.State.{State}
use Rattle.disac4.specs.System.{System, bound_of, Sound}
use Rattle.disac4.specs.Turn.{Turn, step, after, play, changes, changes_where}

-- a state that some turns reach
abbrev pub Reached : System → State → Type 0
Reached sys st = (ts : List Turn) × (play sys (load sys) ts ≡ st)

-- the state after one round
abbrev pub round_on : System → State → State
round_on sys st = play sys st (round sys.workers)

module _ (sys : System) where
  from_load : Reached sys (load sys)
  unfolding play_by
  from_load = ([], refl)

  pub reached_round : (st : State) → Reached sys st → Reached sys (round_on sys st)
  reached_round st r = (
    r.0 ++ round sys.workers,
    play_append (step sys) r.0 (round sys.workers) (load sys) ∙ ap (round_on sys) r.1,
  )

  abbrev Idle : State → Turn → Type 0
  Idle st t = changes sys st t ≡ false

  -- where a list of turns changes nothing, each of them is idle in the state before the list
  all_idle : (ts : List Turn) (st : State) → changes_where sys (λ t. true) st ts ≡ 0 → Each (Idle st) ts
  unfolding count_by gather_by
  all_idle [] st e = tt
  all_idle (t ∷ ts) st e =
      let first : Idle st t = refuted (changes sys st t) (λ c. omega (arith, ap one c)) in
      (first, subst (λ s. Each (Idle s) ts) (after_same (step sys) st t first) (all_idle ts (after sys st t) (omega arith)))

  -- a closed plan plays no further round
  pub turns_closed : (fuel : ℕ) (st : State) → st.controller.closed ≡ true → round_turns sys (suc fuel) st ≡ []
  unfolding round_turns
  turns_closed fuel st e = rw e

  -- an open plan plays one, and then the rest
  pub turns_open : (fuel : ℕ) (st : State) → st.controller.closed ≡ false
      → round_turns sys (suc fuel) st ≡ round sys.workers ++ round_turns sys fuel (round_on sys st)
  unfolding round_turns
  turns_open fuel st e = rw e

module _ (sys : System) (sound : Sound sys) where
  -- while the plan is open some allowed turn would change something, so a round does
  round_changes : (st : State) → Reached sys st → st.controller.closed ≡ false
      → 0 < changes_where sys (λ t. true) st (round sys.workers)
  round_changes st (ts, e) running =
      let (t, ok, c) = progress sound ts (subst (λ (s : State). s.controller.closed ≡ false) (sym e) running) in
      elim (ℕ_discrete (changes_where sys (λ t. true) st (round sys.workers)) 0) [
        | yes nothing ↦
            clash (subst (λ (s : State). changes sys s t ≡ true) e c)
            (each_member (Idle sys st) (round sys.workers) (all_idle sys (round sys.workers) st nothing)
            (allowed_round sys.workers t ok))
        | no something ↦ omega arith
      ]

  -- and lowers the potential
  pub round_lowers : (st : State) → Reached sys st → st.controller.closed ≡ false
      → potential sys (round_on sys st) < potential sys st
  round_lowers st r running =
      omega (arith, turns_bounded sys sound.few (round sys.workers) st, round_changes st r running)

  -- with more rounds than the potential, the plan is closed
  rounds_close : (fuel : ℕ) (st : State) → Reached sys st → potential sys st < fuel
      → (play sys st (round_turns sys fuel st)).controller.closed ≡ true
  rounds_close zero st r h = absurd (not-suc-le-zero h)
  rounds_close (suc fuel) st r h =
      go (decided st.controller.closed) (rounds_close fuel (round_on sys st) (reached_round sys st r))
    where
      go : (st.controller.closed ≡ true) ⊎ (st.controller.closed ≡ false)
          → (potential sys (round_on sys st) < fuel
          → (play sys (round_on sys st) (round_turns sys fuel (round_on sys st))).controller.closed ≡ true)
          → (play sys st (round_turns sys (suc fuel) st)).controller.closed ≡ true
      go (inl e) below = rw (turns_closed sys fuel st e) (unfold play_by in e)
      go (inr e) below =
          rw (turns_open sys fuel st e, play_append (step sys) (round sys.workers) (round_turns sys fuel (round_on sys st)) st)
          (below (omega (arith, round_lowers st r e)))

  -- and still more rounds play no further turn
  pub rounds_enough : (fuel more : ℕ) (st : State) → Reached sys st → potential sys st < fuel → potential sys st < more
      → round_turns sys more st ≡ round_turns sys fuel st
  rounds_enough zero more st r h g = absurd (not-suc-le-zero h)
  rounds_enough (suc fuel) zero st r h g = absurd (not-suc-le-zero g)
  rounds_enough (suc fuel) (suc more) st r h g =
      go (decided st.controller.closed) (rounds_enough fuel more (round_on sys st) (reached_round sys st r))
    where
      go : (st.controller.closed ≡ true) ⊎ (st.controller.closed ≡ false)
          → (potential sys (round_on sys st) < fuel → potential sys (round_on sys st) < more
          → round_turns sys more (round_on sys st) ≡ round_turns sys fuel (round_on sys st))
          → round_turns sys (suc more) st ≡ round_turns sys (suc fuel) st
      go (inl e) below = turns_closed sys more st e ∙ sym (turns_closed sys fuel st e)
      go (inr e) below =
          let lower = round_lowers st r e in
          turns_open sys more st e
          ∙ (ap (λ ts. round sys.workers ++ ts) (below (omega arith) (omega arith)) ∙ sym (turns_open sys fuel st e))

  -- a run without a turn list closes the plan
  pub round_run_closes : (play sys (load sys) (round_run_turns sys)).controller.closed ≡ true
  unfolding round_run_turns
  round_run_closes =
      rounds_close (suc (bound_of sys)) (load sys) (from_load sys) (omega (arith, potential_loaded sys sound))

  -- and it is all the rounds until then: more of them play no further turn
  pub round_run_complete : (fuel : ℕ) → bound_of sys < fuel → round_turns sys fuel (load sys) ≡ round_run_turns sys
  unfolding round_run_turns
  round_run_complete fuel h =
      rounds_enough (suc (bound_of sys)) fuel (load sys) (from_load sys)
      (omega (arith, potential_loaded sys sound))
      (omega (arith, potential_loaded sys sound))
