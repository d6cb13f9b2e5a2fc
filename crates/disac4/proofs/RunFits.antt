-- The numbers of an accepted plan's run: all of them are below 65,536.
use Prim.Native.Nat.{ℕ, suc, ◌+◌, ◌*◌, ◌≤◌}
use mathlib.Core.Bool.{true}
use mathlib.Core.List.{List}
use mathlib.Core.Path.{◌≡◌}
use native.Mathlib.Nat.{mul-le-mul}
use native.Mathlib.Omega.{arith}
use Rattle.format.specs.Limits.{max_workers, max_variables, max_labels}
use Rattle.network.specs.Network.{label_count}
use Rattle.plan.proofs.WellFormed.{well_formed}
use Rattle.plan.specs.Decode.{decode, accepted}
use Rattle.plan.specs.Network.{network_of}
use Rattle.plan.specs.Plan.{Plan}
use Rattle.disac4.proofs.Bound.{changes_bounded}
use Rattle.disac4.proofs.Demands.{plan_sound}
use Rattle.disac4.proofs.PollBound.{polls_bound}
use Rattle.disac4.proofs.QueueLengths.{QueueLengths, queue_lengths, queues_within}
use Rattle.disac4.proofs.RunNumbers.{list_counter_bound, timestamp_of_run, lowest_empty_bound}
use Rattle.disac4.proofs.SendBound.{sends_bound}
use Rattle.disac4.specs.Loading.{load}
use Rattle.disac4.specs.Report.{lowest_empty, is_send, is_poll, final}
use Rattle.disac4.specs.System.{System, system_of, turn_bound, bound_of, Sound}
use Rattle.disac4.specs.Turn.{Turn, play, changes_where}

-- the bound of turns that change something, for as many workers and labels as a plan may have
abbrev pub max_turns : ℕ
max_turns = 5 * max_workers * max_labels + 2 * max_labels + 3 * max_workers + 1

-- the numbers of the report, the counts of lists, the timestamp and the queues, after a list of turns
pub record RunFits (sys : System) (ts : List Turn) : Type 0 where
  pub turns : changes_where sys (λ t. true) (load sys) ts ≤ bound_of sys
  pub bound : bound_of sys ≤ max_turns
  pub sends : changes_where sys is_send (load sys) ts ≤ max_labels
  pub polls : changes_where sys is_poll (load sys) ts ≤ suc max_labels
  pub lowest_empty_lem : lowest_empty sys (final sys ts) ≤ max_variables
  pub list_counters : (k : ℕ) → k ≤ sys.workers → (final sys ts).list_counter k ≤ max_labels
  pub timestamp : (final sys ts).controller.timestamp ≤ suc max_labels
  pub queues : QueueLengths sys (final sys ts) max_labels

-- the highest bound of turns, for as many workers and labels as a plan may have
turn_bound_lem : (p l : ℕ) → p ≤ max_workers → l ≤ max_labels → turn_bound p l ≤ max_turns
unfolding turn_bound
turn_bound_lem p l few labels =
    let five : 5 * p ≤ 5 * max_workers = omega arith in
    omega (arith, mul-le-mul five labels)

fits_of : {sys : System} → Sound sys → sys.net.variables ≤ max_variables → label_count sys.net ≤ max_labels → (ts : List Turn)
    → RunFits sys ts
unfolding final bound_of
fits_of {sys} sound few_variables labels ts = record {
  turns = changes_bounded sys sound ts;
  bound = turn_bound_lem sys.workers (label_count sys.net) sound.few labels;
  sends = omega (arith, sends_bound sound ts);
  polls = omega (arith, polls_bound sound ts);
  lowest_empty_lem = omega (arith, lowest_empty_bound sys (play sys (load sys) ts));
  list_counters = λ k h. omega (arith, list_counter_bound sound ts k h, sends_bound sound ts);
  timestamp = omega (arith, timestamp_of_run sound ts, polls_bound sound ts);
  queues = queues_within labels (queue_lengths sound ts);
}

-- every number of every run of an accepted plan fits
pub run_fits : (b : List ℕ) (plan : Plan) → decode b ≡ accepted plan → (ts : List Turn) → RunFits (system_of plan) ts
unfolding system_of network_of
run_fits b plan e ts =
    let w = well_formed b plan e in fits_of (plan_sound plan w) w.variables_high w.few_labels ts
