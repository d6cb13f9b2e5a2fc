use Prim.Native.Nat.{◌≤◌}
use mathlib.Core.Path.{◌≡◌}
use lib.ListN.{length}
use Rattle.disac4.specs.System.{network_at}
use Rattle.format.specs.Version.{row_words}
use Rattle.listing.specs.ListCells.{Shows}
use Rattle.network.specs.Network.{Domains}
use Rattle.sweeping.proofs.Writing.{Writing}
use Rattle.sweeping.proofs.sweep.Given as goal

abbrev pub invariant-loop-x : goal.invariant-loop-x
invariant-loop-x l =
    record {
      few : l.shorter ≤ l.x;
      size : length l.to ≡ length l.initial.to;
      writing : (d : Domains) → Shows (row_words l.plan) (network_at l.plan) d l.from
          → Writing (row_words l.plan) (network_at l.plan) d l.initial.to l.to l.shorter l.x;
    }
