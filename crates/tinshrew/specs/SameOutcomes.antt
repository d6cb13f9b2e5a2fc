-- What a caller may conclude of two accepted plans that differ in nothing but how their rules are written, as claims.
-- `proofs/SameOutcomes.antt` proves them, for a plan and its copy with the set rules written out too.
use Rattle.std.specs.Prelude.{ℕ, List, ◌↔◌, ◌≡◌}
use Rattle.disac4.specs.Outcome.{Lent, run_of, turn_run, round_run}
use Rattle.disac4.specs.System.{network_at}
use Rattle.lending.specs.Call.{Outcome, Gives, outcome_of}
use Rattle.network.specs.Consistency.{Largest}
use Rattle.network.specs.Network.{Domains}
use Rattle.sweeping.specs.Outcome.{TwoLists, sweep_call}

-- runs and sweeps give the same of both plans (the plan check's number of rules may differ): the same answer, and the same in every cell
-- of the lent buffers
pub record SameOutcomes (b c : List ℕ) : Type 0 where
  -- the turn run, for every turn list: the report or the decline, the work cells and the list cells
  pub turns : (ts : List ℕ) (l : Lent) → run_of (turn_run b ts) l ≡ run_of (turn_run c ts) l
  -- the round run
  pub round : (l : Lent) → run_of (round_run b) l ≡ run_of (round_run c) l
  -- the sweeps: their number and both list buffers
  pub sweeps : (l : TwoLists) → outcome_of (sweep_call b) l ≡ outcome_of (sweep_call c) l
  -- the largest arc-consistent domains of the one are those of the other
  pub largest : (d : Domains) → Largest (network_at b) d ↔ Largest (network_at c) d

-- of two calls that were lent the same, the one with the first outcome and the other with the second, the answers are equal and the
-- buffers are left alike
abbrev pub SameCalls : {A L : Type 0} → (L → Outcome A L) → (L → Outcome A L) → Type 0
SameCalls {A} {L} first second =
    (l : L) (r r' : A) (after after' : L) → Gives (first l) r after → Gives (second l) r' after' → (r ≡ r') × (after ≡ after')

-- what a caller of both plans sees, from the contracts of the calls
pub record SameResults (b c : List ℕ) : Type 0 where
  pub turns : (ts : List ℕ) → SameCalls (run_of (turn_run b ts)) (run_of (turn_run c ts))
  pub round : SameCalls (run_of (round_run b)) (run_of (round_run c))
  pub sweeps : SameCalls (outcome_of (sweep_call b)) (outcome_of (sweep_call c))
