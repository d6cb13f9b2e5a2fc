-- What a caller may conclude from what a call gives, as claims. `proofs/Conclusions.antt` proves them from the calls' contracts. What
-- C's numbers tell is in `Numbers.antt`, and all of the slow engine's in `Sweeps.antt`.
use Rattle.std.specs.Prelude.{ℕ, ◌*◌, ◌/◌, ◌<◌, ◌≤◌, Bool, true, false, List, [], ◌↔◌, ◌≡◌, length, Ok, Err}
use Rattle.format.specs.Limits.{max_version, max_workers, max_variables, max_labels, max_constraints}
use Rattle.format.specs.Version.{version, row_words}
use Rattle.base.specs.Choice.{between, all_of}
use Rattle.disac4.specs.Demands.{Demand2, Demand3}
use Rattle.lending.specs.Call.{Outcome, Buffer, LongEnough, TooShort, Call}
use Rattle.listing.specs.ListCells.{listed_in}
use Rattle.disac4.specs.Outcome.{Lent, RunOutcome, Run, call_of, turn_run, round_run, final_cells, Written}
use Rattle.disac4.specs.Report.{final, report_of}
use Rattle.disac4.specs.System.{System, bound_of, system_at}
use Rattle.disac4.specs.Turn.{allowed, turn_at, turn_list_fits}
use Rattle.disac4.specs.declared.Report.{Report}
use Rattle.disac4.specs.declared.Status.TheVariants.{Open}
use Rattle.network.specs.Consistency.{Within, Largest}
use Rattle.network.specs.Network.{Domains, loaded}
use Rattle.plan.specs.Answer.{counts_of}
use Rattle.plan.specs.Decode.{decode, accepted, declined, plan_of}
use Rattle.faults.specs.Fault.{number_of, decline}
use Rattle.faults.specs.declared.Decline.{Decline}
use Rattle.faults.specs.declared.Fault.{Fault}
use Rattle.faults.specs.declared.Fault.TheVariants.{BadTurnList, BadTurn}
use Rattle.plan.specs.declared.Counts.{Counts}

-- ---- the plan check

-- it accepted the plan ("on success returns p, n, the number of rules and L")
pub record AcceptedPlan (b : List ℕ) (f : Counts) : Type 0 where
  -- the plan has none of the faults 1 to 8
  pub accepts : decode b ≡ accepted (plan_of b)
  -- its version is 1 or 2
  pub known : between 1 max_version (version b) ≡ true
  -- p, n, the number of rules and L are the plan's
  pub counts : f ≡ counts_of (plan_of b)
  -- p is from 1 to 8
  pub workers : (1 ≤ f.workers) × (f.workers ≤ max_workers)
  -- n is from 1 to 32
  pub variables : (1 ≤ f.variables) × (f.variables ≤ max_variables)
  -- there are at most 128 rules, a set rule as one
  pub constraints : f.constraints ≤ max_constraints
  -- L is at most 512
  pub labels : f.labels ≤ max_labels

-- it declined the plan ("never gives 9 to 12")
pub record DeclinedPlan (b : List ℕ) (d : Decline) : Type 0 where
  -- this is the plan's first fault
  pub first : decode b ≡ declined d
  -- "Returned": 1 to 8
  pub number : (1 ≤ number_of d.fault) × (number_of d.fault ≤ 8)
  -- "Place": in the plan or at its end
  pub place : d.place ≤ length b

-- ---- a call and its caller

-- a call as its caller sees it. One without a turn list declines as with an empty one
pub record Given (L : Type 0) : Type 0 where
  pub plan : List ℕ
  pub turn_list : List ℕ
  -- the buffers that it needs, and what is lent to it
  pub buffers : List (Buffer L)
  pub before : L
  -- the numbers that its declines may have
  pub numbers : ℕ → Bool

-- what a call on this plan is given
abbrev pub given : {A L : Type 0} → Call A L → List ℕ → List ℕ → (ℕ → Bool) → L → Given L
given c b ts numbers l = record { plan = b; turn_list = ts; buffers = c.buffers; before = l; numbers = numbers }

-- the turn run: 1 to 12
abbrev pub turn_given : List ℕ → List ℕ → Lent → Given Lent
turn_given b ts = given (call_of (turn_run b ts)) b ts (between 1 12)

-- the round run: 1 to 10
abbrev pub round_given : List ℕ → Lent → Given Lent
round_given b = given (call_of (round_run b)) b [] (between 1 10)

-- ---- when a call succeeds

module _ {L : Type 0} (g : Given L) where
  -- no fault in its plan and its buffers
  pub record PlanAndBuffersFit : Type 0 where
    -- not 9, 10: the buffers have as many cells as are needed
    pub buffers : LongEnough g.buffers g.before
    -- none of 1 to 8: the plan is accepted
    pub accepts : decode g.plan ≡ accepted (plan_of g.plan)

  -- nor in the turn list
  pub record TurnsFit : Type 0 where
    -- not 11: its length is even and at most 65,536
    pub list_fits : turn_list_fits g.turn_list ≡ true
    -- not 12: every turn is allowed
    pub all_allowed : (i : ℕ) → i < length g.turn_list / 2
        → allowed (system_at g.plan).workers (turn_at g.turn_list i) ≡ true

  -- ---- when it is declined

  -- the fault that comes first in document 01's order, and its place
  pub data FirstFault (d : Decline) : Type 0 where
    -- 9 or 10: a buffer is too short, and none before it is
    short_buffer : (f : Fault) → TooShort g.buffers g.before f → d ≡ decline f 0 → FirstFault d
    -- 11
    bad_list : LongEnough g.buffers g.before → turn_list_fits g.turn_list ≡ false → d ≡ decline BadTurnList 0
        → FirstFault d
    -- 1 to 8: the plan's first
    bad_plan : LongEnough g.buffers g.before → turn_list_fits g.turn_list ≡ true → decode g.plan ≡ declined d
        → FirstFault d
    -- 12: turn i is not allowed, and all before it are
    bad_turn_lem : PlanAndBuffersFit → turn_list_fits g.turn_list ≡ true
        → (i : ℕ) → i < length g.turn_list / 2 → allowed (system_at g.plan).workers (turn_at g.turn_list i) ≡ false
        → ((j : ℕ) → j < i → allowed (system_at g.plan).workers (turn_at g.turn_list j) ≡ true) → d ≡ decline BadTurn i
        → FirstFault d

  -- a decline as document 01's table has it
  pub record InTable (d : Decline) : Type 0 where
    -- "Returned"
    pub number : g.numbers (number_of d.fault) ≡ true
    -- "Place" for 1 to 8: in the plan or at its end
    pub in_plan : number_of d.fault ≤ 8 → d.place ≤ length g.plan
    -- for 9, 10 and 11: 0
    pub at_zero : 9 ≤ number_of d.fault → number_of d.fault ≤ 11 → d.place ≡ 0
    -- for 12: the number of a turn, from 0
    pub in_list : number_of d.fault ≡ 12 → d.place < length g.turn_list / 2

  -- a call that was declined, with the buffers after it
  pub record DeclinedCall (after : L) (d : Decline) : Type 0 where
    pub first : FirstFault d
    pub in_table : InTable d
    -- no lent cell is changed
    pub same_cells : after ≡ g.before

  -- ---- all that a call tells

  -- from its outcome. `success` and `declines` are its answers; `Fitting` is that nothing is at fault, and `Told` what follows
  -- from a success
  pub record CallTells {A S : Type 0} (success : S → A) (declines : Decline → A) (Fitting : Type 0) (Told : S → Type 0)
      (o : Outcome A L) : Type 0 where
    -- it succeeds exactly if nothing is at fault
    pub succeeds : ((s : S) × (o.answer ≡ success s)) ↔ Fitting
    -- it declines exactly the first fault
    pub refuses : (d : Decline) → (o.answer ≡ declines d) ↔ FirstFault d
    -- what follows from a success
    pub told : (s : S) → o.answer ≡ success s → Told s
    -- and from a decline
    pub declined_call : (d : Decline) → o.answer ≡ declines d → DeclinedCall o.left d

-- ---- what a report says

-- how many cells a plan's lists take: n, as the plan check gives it, in version 1, and 2n in version 2
abbrev pub list_length : List ℕ → ℕ
list_length b = row_words b * (counts_of (plan_of b)).variables

-- a run that reported, with the buffers before it and after it
module _ (run : Run) (before after : Lent) where
  abbrev sys : System
  sys = system_at run.plan

  -- the domains that the list cells hold
  abbrev listed_after : Domains
  listed_after = listed_in (row_words run.plan) sys.net after.lists

  pub record ReportedRun (r : Report) : Type 0 where
    -- the plan is accepted
    pub accepts : decode run.plan ≡ accepted (plan_of run.plan)
    -- every turn is allowed
    pub all_allowed : all_of (allowed sys.workers) run.turns ≡ true
    -- the report is that of these turns
    pub report : r ≡ report_of sys run.turns
    -- every cell of the buffers: cleared, written or kept
    pub cells : Written before run.plan run.turns after
    -- so many of the list cells are written
    pub lists_length : length (final_cells run.plan run.turns) ≡ list_length run.plan
    pub demand2 : Demand2 sys run.turns
    pub demand3 : Demand3 sys run.turns
    -- the list cells hold a label exactly if it is still in its domain
    pub listed : (x v : ℕ) → loaded sys.net x v ≡ true
        → listed_after x v ≡ (final sys run.turns).domain x v
    -- they hold every label of the largest arc-consistent domains
    pub keeps_largest : (d : Domains) → Largest sys.net d → Within d listed_after
    -- unless the status is open, they are the largest arc-consistent domains
    pub largest : (r.status ≡ Open → ⊥) → Largest sys.net listed_after
    -- the reported number of changing turns is at most 5pL + 2L + 3p + 1
    pub bounded : r.changes ≤ bound_of sys

-- all that a run tells
abbrev pub RunTells : Type 0 → Run → Given Lent → RunOutcome → Type 0
RunTells Fitting run g o = CallTells g Ok Err Fitting (ReportedRun run g.before o.left) o
