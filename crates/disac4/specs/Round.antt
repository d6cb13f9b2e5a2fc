-- The round, which a run without a turn list repeats until the plan is closed.
use Rattle.std.specs.Prelude.{ℕ, zero, suc, true, false, cond, List, [], ◌∷◌, ◌++◌, map, eqb}
use Rattle.base.specs.Below.{gather_below, list_below}
use Rattle.disac4.specs.Loading.{load}
use Rattle.disac4.specs.State.{State}
use Rattle.disac4.specs.System.{System, bound_of}
use Rattle.disac4.specs.Turn.{Turn, turn, treat_action, send_action, answer_action, poll_action, play}

-- 0 and the workers other than `k`, ascending
unfoldable pub others : ℕ → ℕ → List ℕ
others p k = gather_below (suc p) (λ j. cond (eqb j k) [] (j ∷ []))

-- worker `k`: read from 0 and then from every other worker, treat, send, answer
unfoldable pub worker_round : ℕ → ℕ → List Turn
worker_round p k = map (turn k) (others p k) ++ (turn k treat_action ∷ turn k send_action ∷ turn k answer_action ∷ [])

-- the workers in turn; then the controller reads 1 to p and polls
unfoldable pub round : ℕ → List Turn
round p =
    gather_below p (λ i. worker_round p (suc i)) ++ list_below p (λ i. turn 0 (suc i)) ++ (turn 0 poll_action ∷ [])

-- the turns of a round run: rounds until closed, and at most `fuel` of them (by `elim`, so that no round is computed once
-- the plan is closed)
unfoldable pub round_turns : System → ℕ → State → List Turn
round_turns sys zero st = []
round_turns sys (suc fuel) st =
    elim st.controller.closed [
      | true ↦ []
      | false ↦ round sys.workers ++ round_turns sys fuel (play sys st (round sys.workers))
    ]

-- a run without a turn list: one round more than turns can change something, so the fuel is never used up
unfoldable pub round_run_turns : System → List Turn
round_run_turns sys = round_turns sys (suc (bound_of sys)) (load sys)
