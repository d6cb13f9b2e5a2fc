-- What one sweep does, in the buffers, where a row has so many words.
use Rattle.std.specs.Prelude.{ℕ, suc, true, List, ◌↔◌, ◌≡◌}
use Rattle.disac4.specs.Report.{domain_cells}
use Rattle.lending.specs.Call.{overwrite}
use Rattle.listing.specs.ListCells.{Shows}
use Rattle.network.specs.Network.{Network, Domains}
use Rattle.network.specs.Sweep.{sweep, rests, swept}
use Rattle.sweeping.specs.Outcome.{TwoLists, holding, write_other, swept_cells}

-- a sweep reads domains in `from` and writes the swept ones over `to`; `shorter`, the number of lists that get shorter, is 0 exactly
-- if it deletes nothing
unfoldable pub SweepsTo : ℕ → Network → List ℕ → List ℕ → List ℕ → ℕ → Type 0
SweepsTo words net from to to' shorter =
    (d : Domains) → Shows words net d from
    → (to' ≡ overwrite (domain_cells words net (sweep net d)) to) × ((shorter ≡ 0) ↔ (rests net d ≡ true))

-- sweep `k`, from 0, of the loaded domains: it reads the buffer that holds them after `k` sweeps, and writes the other one
unfoldable pub SweepsAt : ℕ → Network → ℕ → TwoLists → TwoLists → ℕ → Type 0
SweepsAt words net k l l' shorter =
    Shows words net (swept net k) (holding k l)
    → (l' ≡ write_other k (swept_cells words net (suc k)) l) × ((shorter ≡ 0) ↔ (rests net (swept net k) ≡ true))
