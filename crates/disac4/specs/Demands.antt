-- Demands 2 and 3, and the round, as claims about a system and a list of turns. `proofs/Demands.antt` proves them for every
-- accepted plan.
use Rattle.std.specs.Prelude.{ℕ, ◌<◌, ◌≤◌, Bool, true, false, List, ◌++◌, ◌↔◌, ◌≡◌}
use Rattle.base.specs.Choice.{all_of}
use Rattle.network.specs.Chain.{Untied, ConsistentApart}
use Rattle.network.specs.Consistency.{Within, Largest}
use Rattle.network.specs.Network.{Domains}
use Rattle.network.specs.Solution.{Solution}
use Rattle.disac4.specs.Event.{events, unsent, unread, untreated, deleted}
use Rattle.disac4.specs.Loading.{load}
use Rattle.disac4.specs.Pending.{Pinned}
use Rattle.disac4.specs.Report.{final}
use Rattle.disac4.specs.Round.{round, round_turns, round_run_turns}
use Rattle.disac4.specs.State.{State}
use Rattle.disac4.specs.System.{System, bound_of}
use Rattle.disac4.specs.Turn.{Turn, allowed, after, changes, changes_where}

-- after these turns the plan is closed; bare is closed too
unfoldable pub closed_after : System → List Turn → Bool
closed_after sys ts = (final sys ts).controller.closed

-- a deletion that is neither unsent nor unread nor untreated
pub record Done (sys : System) (ts : List Turn) (x v : ℕ) : Type 0 where
  pub is_sent : unsent sys (events sys (load sys) ts) x v ≡ false
  pub is_read : unread sys (events sys (load sys) ts) x v ≡ false
  pub is_treated : untreated sys (events sys (load sys) ts) x v ≡ false

-- Demand 3, about a whole list of turns: any turns, allowed or not, and any number of them
pub record Demand3 (sys : System) (ts : List Turn) : Type 0 where
  -- no label of the largest domains is deleted
  pub keeps_largest : (d : Domains) → Largest sys.net d → Within d (final sys ts).domain
  -- a closed plan has no deletion unsent, unread or untreated
  pub all_done : closed_after sys ts ≡ true → (x v : ℕ) → deleted sys (final sys ts) x v ≡ true → Done sys ts x v
  -- open or closed, a deletion is unsent, unread or untreated exactly while the state has it still to be sent, read or treated
  pub pinned : (x v : ℕ) → deleted sys (final sys ts) x v ≡ true → Pinned sys ts x v
  -- a turn is counted exactly if the state after it differs from the state before
  pub counted : (st : State) (t : Turn) → (changes sys st t ≡ true) ↔ (after sys st t ≡ st → ⊥)
  -- at most 5pL + 2L + 3p + 1 turns changed something
  pub bounded : changes_where sys (λ t. true) (load sys) ts ≤ bound_of sys
  -- while the plan is open some allowed turn changes something
  pub goes_on : closed_after sys ts ≡ false
      → (t : Turn) × (allowed sys.workers t ≡ true) × (after sys (final sys ts) t ≡ final sys ts → ⊥)

-- Demand 2, on the lists: that each turn does what document 01 lays down is said by the definitions and the code's contracts
pub record Demand2 (sys : System) (ts : List Turn) : Type 0 where
  -- the lists of a closed plan are the largest arc-consistent ones
  pub largest : closed_after sys ts ≡ true → Largest sys.net (final sys ts).domain
  -- in every state no solution has lost a value
  pub keeps_solutions : (s : ℕ → ℕ) → Solution sys.net s → (x : ℕ) → x < sys.net.variables
      → (final sys ts).domain x (s x) ≡ true
  -- what is deleted stays deleted under any further turns
  pub stays_deleted : (us : List Turn) → Within (final sys (ts ++ us)).domain (final sys ts).domain
  -- a closed plan never changes again
  pub stays_closed : closed_after sys ts ≡ true → (us : List Turn) → final sys (ts ++ us) ≡ final sys ts
  -- variables that no chain of constraints ties to `z` lose no value through its domain, empty or not: they keep every label
  -- of any domains that are arc-consistent apart from `z`
  pub untied_kept : (z : ℕ) (d : Domains) → ConsistentApart sys.net z d → (x v : ℕ) → Untied sys.net x z
      → d x v ≡ true → (final sys ts).domain x v ≡ true

-- The round run
pub record RoundCloses (sys : System) : Type 0 where
  -- its turns are a list of allowed turns
  pub all_allowed : all_of (allowed sys.workers) (round_run_turns sys) ≡ true
  -- after them the plan is closed
  pub closes : closed_after sys (round_run_turns sys) ≡ true
  -- more fuel gives the same turns: it is never used up
  pub fuel_left : (fuel : ℕ) → bound_of sys < fuel → round_turns sys fuel (load sys) ≡ round_run_turns sys
  -- further rounds change nothing
  pub then_idle : final sys (round_run_turns sys ++ round sys.workers) ≡ final sys (round_run_turns sys)
