use mathlib.Core.Path.{◌≡◌}
use lib.ListN.{length}
use Rattle.disac4.specs.System.{network_at}
use Rattle.format.specs.Version.{row_words}
use Rattle.sweeping.proofs.Going.{Going}
use Rattle.sweeping.specs.Outcome.{TwoLists, two_lists, after_sweeps}
use Rattle.sweeping.proofs.sweep_all.Given as goal

abbrev pub invariant-loop-k : goal.invariant-loop-k
invariant-loop-k l =
    record {
      first : length l.first ≡ length l.initial.first;
      second : length l.second ≡ length l.initial.second;
      going : (lent : TwoLists) → two_lists l.initial.first l.initial.second ≡ after_sweeps (row_words l.plan) (network_at l.plan) 0 lent
          → Going (row_words l.plan) (network_at l.plan) lent l.k (two_lists l.first l.second);
    }
