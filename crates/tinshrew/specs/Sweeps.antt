-- What a caller may conclude from the slow engine's two calls, as claims. `proofs/Sweeps.antt` proves them from the contracts.
use Rattle.std.specs.Prelude.{ℕ, suc, ◌<◌, ◌≤◌, true, ◌||◌, List, [], ◌↔◌, ◌⊎◌, ◌≡◌, eqb, length, get_or, take, Result, Ok, Err}
use Rattle.base.specs.Choice.{between}
use Rattle.disac4.specs.Demands.{closed_after}
use Rattle.disac4.specs.Outcome.{Lent, Run, final_cells}
use Rattle.disac4.specs.Report.{final}
use Rattle.disac4.specs.Round.{round_run_turns}
use Rattle.disac4.specs.System.{network_at, system_at}
use Rattle.disac4.specs.Turn.{Turn}
use Rattle.faults.specs.declared.Decline.{Decline}
use Rattle.disac4.specs.declared.Report.{Report}
use Rattle.disac4.specs.declared.Status.TheVariants.{Open}
use Rattle.format.specs.Version.{row_words}
use Rattle.lending.specs.Call.{Outcome, StartsWith}
use Rattle.listing.specs.ListCells.{listed_in}
use Rattle.network.specs.Consistency.{Supported, Largest}
use Rattle.network.specs.Network.{Network, label_count}
use Rattle.network.specs.Sweep.{swept, sweep_count}
use Rattle.numbers.specs.Numbers.{swept_numbers}
use Rattle.plan.specs.Decode.{decode, accepted, plan_of}
use Rattle.sweeping.specs.Outcome.{TwoLists, one_of, holding, swept_cells, sweep_call, last_sweep}
use Rattle.tinshrew.specs.Conclusions.{Given, given, PlanAndBuffersFit, DeclinedCall, CallTells, list_length, ReportedRun}
use Rattle.tinshrew.specs.Numbers.{NumbersTell}

-- what the sweeps are given. They decline with the plan's own numbers, 1 to 8, and with 10
abbrev pub sweeps_given : List ℕ → TwoLists → Given TwoLists
sweeps_given b = given (sweep_call b) b [] (λ k. between 1 8 k || eqb k 10)

-- the sweeps of a plan, with the buffers before them and after them
module _ (b : List ℕ) (before after : TwoLists) where
  abbrev net : Network
  net = network_at b

  abbrev words : ℕ
  words = row_words b

  -- the part that `last_sweep` returns for `k` sweeps and that many cells
  abbrev part : ℕ → List ℕ
  part k = last_sweep k (list_length b) after

  -- the lists of the last of `k` sweeps are those after these turns: as domains, and as list cells
  pub record SameLists (k : ℕ) (turns : List Turn) : Type 0 where
    pub domains : swept net k ≡ (final (system_at b) turns).domain
    pub cells : part k ≡ final_cells b turns

  -- there were `k` sweeps
  pub record SweptPlan (k : ℕ) : Type 0 where
    -- the plan is accepted
    pub accepts : decode b ≡ accepted (plan_of b)
    -- each sweep keeps a label exactly if it was listed and had, against every variable that it shares a constraint with, a
    -- support listed before the sweep
    pub restricts : (j x v : ℕ) → (swept net (suc j) x v ≡ true)
        ↔ ((swept net j x v ≡ true)
        × ((y : ℕ) → y < net.variables → net.linked x y ≡ true → Supported net (swept net j) x v y))
    -- they ended with the first that deletes nothing
    pub ended : (j : ℕ) × (k ≡ suc j) × (swept net k ≡ swept net j) × ((i : ℕ) → i < j → swept net (suc i) ≡ swept net i → ⊥)
    pub count : k ≡ sweep_count net
    -- their number is from 1 to L + 1
    pub bounded : (1 ≤ k) × (k ≤ suc (label_count net))
    -- the lists of the last sweep are the largest arc-consistent domains
    pub largest : Largest net (swept net k)
    -- every cell: both buffers start with them, and keep their later cells
    pub lists_length : length (swept_cells words net k) ≡ list_length b
    pub first_cells : StartsWith (swept_cells words net k) before.first after.first
    pub second_cells : StartsWith (swept_cells words net k) before.second after.second
    -- the part that is returned has them, and so lists the largest domains
    pub part_cells : part k ≡ swept_cells words net k
    pub part_largest : Largest net (listed_in words net (part k))
    -- every list of turns that closes the plan ends with the same lists
    pub as_closed : (turns : List Turn) → closed_after (system_at b) turns ≡ true → SameLists k turns
    -- so does the round run
    pub as_round : SameLists k (round_run_turns (system_at b))
    -- so each run of the plan that was reported and is not open has left the same list cells
    pub as_run : (run : Run) (l l' : Lent) (r : Report) → run.plan ≡ b → ReportedRun run l l' r → (r.status ≡ Open → ⊥)
        → (i : ℕ) → i < list_length b → get_or l'.lists i 0 ≡ get_or (part k) i 0

-- all that the sweeps tell
abbrev pub SweepsTell : List ℕ → TwoLists → Outcome (Result ℕ Decline) TwoLists → Type 0
SweepsTell b l o =
    CallTells (sweeps_given b l) Ok Err (PlanAndBuffersFit (sweeps_given b l)) (SweptPlan b l o.left) o

-- the same from the numbers that C gets
abbrev pub SweepNumbers : List ℕ → TwoLists → List ℕ → TwoLists → Type 0
SweepNumbers b l out after =
    NumbersTell swept_numbers Ok Err out (PlanAndBuffersFit (sweeps_given b l)) (SweptPlan b l after)
    (DeclinedCall (sweeps_given b l) after)

-- the buffer of that number: 1 is the first, 2 the second
abbrev pub buffer_numbered : ℕ → TwoLists → List ℕ
buffer_numbered k = one_of (eqb k 2)

-- what C's numbers tell of the part that holds the last sweep
pub record PartTold (sweeps count : ℕ) (l : TwoLists) (out : List ℕ) : Type 0 where
  -- the call is never declined
  pub zero_first : get_or out 0 0 ≡ 0
  -- the second is 1 or 2, the number of the buffer that holds it
  pub one_or_two : (get_or out 1 0 ≡ 1) ⊎ (get_or out 1 0 ≡ 2)
  pub buffer : buffer_numbered (get_or out 1 0) l ≡ holding sweeps l
  -- the third is how many cells were asked for, or 0 where that buffer has fewer
  pub enough : count ≤ length (holding sweeps l) → get_or out 2 0 ≡ count
  pub too_few : length (holding sweeps l) < count → get_or out 2 0 ≡ 0
  -- and so many cells from its start are the part
  pub part : last_sweep sweeps count l ≡ take (get_or out 2 0) (buffer_numbered (get_or out 1 0) l)

-- what the two calls together tell, the second asked with the number of sweeps that the first gave and the number of cells that the
-- lists take: the part has the lists of the closed plan, which are the largest
pub record LargestPart (b part : List ℕ) : Type 0 where
  pub whole : length part ≡ list_length b
  pub largest : Largest (network_at b) (listed_in (row_words b) (network_at b) part)
