-- Two buffers by turns: after any number of sweeps one holds the lists, and the next sweep reads it and writes the other.
use Prim.Native.Nat.{ℕ, zero, suc}
use mathlib.Core.Bool.{Bool, true, false, cond, not}
use mathlib.Core.List.{List}
use mathlib.Core.Path.{◌≡◌, ap}
use Rattle.base.proofs.Row.{odd_next}
use Rattle.base.specs.Row.{is_odd}
use Rattle.disac4.specs.Report.{domain_cells}
use Rattle.listing.proofs.ListCells.{shows_written}
use Rattle.listing.specs.ListCells.{WideEnough, Shows}
use Rattle.network.specs.Network.{Network, Domains, loaded}
use Rattle.network.specs.Sweep.{swept}
use Rattle.sweeping.specs.Outcome.{TwoLists, two_lists, one_of, write_beside, holding, write_other, after_sweeps}
use Rattle.sweeping.specs.Sweeping.{SweepsTo, SweepsAt}

-- what a sweep has written holds its lists
written_shows : (words : ℕ) (net : Network) → WideEnough words net → (d : Domains) (k : ℕ) (l : TwoLists)
    → Shows words net d (holding (suc k) (write_other k (domain_cells words net d) l))
unfolding holding write_other
written_shows words net wide d k l = rw (odd_next k) (go (is_odd k))
  where
    go : (b : Bool) → Shows words net d (one_of (not b) (write_beside b (domain_cells words net d) l))
    go true = shows_written words net wide d l.first
    go false = shows_written words net wide d l.second

-- so after `k` sweeps the lists stand where the next one reads
pub holding_shows : (words : ℕ) (net : Network) → WideEnough words net → (k : ℕ) (l : TwoLists)
    → Shows words net (swept net k) (holding k (after_sweeps words net k l))
unfolding holding after_sweeps swept
holding_shows words net wide zero l = shows_written words net wide (loaded net) l.first
holding_shows words net wide (suc k) l = written_shows words net wide (swept net (suc k)) k (after_sweeps words net k l)

-- a sweep from the one buffer to the other is sweep `k`; which is which, `k` decides
pub sweeps_turn : (words : ℕ) (net : Network) (k : ℕ) (l : TwoLists) (to : List ℕ) (shorter : ℕ) (b : Bool) → is_odd k ≡ b
    → SweepsTo words net (one_of b l) (one_of (not b) l) to shorter
    → SweepsAt words net k l (cond b (two_lists to l.second) (two_lists l.first to)) shorter
unfolding SweepsAt SweepsTo holding write_other swept
sweeps_turn words net k l to shorter true e h =
    rw e (λ shows. let g = h (swept net k) shows in (ap (λ (a : List ℕ). two_lists a l.second) g.0, g.1))
sweeps_turn words net k l to shorter false e h =
    rw e (λ shows. let g = h (swept net k) shows in (ap (λ (a : List ℕ). two_lists l.first a) g.0, g.1))
