-- The rounds that are left from a state that a run reaches.
use Prim.Native.Nat.{ℕ, suc, ◌<◌}
use mathlib.Core.Bool.{true, false}
use mathlib.Core.List.{List, [], ◌++◌}
use mathlib.Core.Path.{◌≡◌, ◌∙◌, ap}
use native.Mathlib.Omega.{arith}
use Rattle.disac4.proofs.Bound.{potential_loaded}
use Rattle.disac4.proofs.Potential.{potential}
use Rattle.disac4.proofs.RoundRun.{Reached, round_on, reached_round, turns_closed, turns_open, round_lowers, rounds_enough}
use Rattle.disac4.specs.Loading.{load}
use Rattle.disac4.specs.Round.{round, round_turns, round_run_turns}
use Rattle.disac4.specs.State.{State}
use Rattle.disac4.specs.System.{System, Sound}
use Rattle.disac4.specs.Turn.{Turn}

abbrev pub left : System → State → List Turn
left sys st = round_turns sys (suc (potential sys st)) st

module _ (sys : System) (sound : Sound sys) where
  -- from the loaded plan on: the whole round run
  pub left_loaded : left sys (load sys) ≡ round_run_turns sys
  unfolding round_run_turns
  left_loaded = ap (λ (n : ℕ). round_turns sys (suc n) (load sys)) (potential_loaded sys sound)

  -- in a closed plan: nothing
  pub left_closed : (st : State) → st.controller.closed ≡ true → left sys st ≡ []
  left_closed st e = turns_closed sys (potential sys st) st e

  module _ (st : State) (reached : Reached sys st) (running : st.controller.closed ≡ false) where
    -- a round lowers the potential of an open plan
    pub left_lowers : potential sys (round_on sys st) < potential sys st
    left_lowers = round_lowers sys sound st reached running

    -- and what is left is a round, and what is left after it
    pub left_open : left sys st ≡ round sys.workers ++ left sys (round_on sys st)
    left_open =
        turns_open sys (potential sys st) st running
        ∙ ap (λ (ts : List Turn). round sys.workers ++ ts)
        (rounds_enough sys sound (suc (potential sys (round_on sys st))) (potential sys st) (round_on sys st)
        (reached_round sys st reached) (omega arith) left_lowers)
