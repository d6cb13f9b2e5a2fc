-- Sweep after sweep: what stands in the buffers while each deletes something, and when one deletes nothing.
use Prim.Native.Nat.{ℕ, suc, ◌+◌, ◌<◌, ◌≤◌}
use mathlib.Core.Bool.{true, false}
use mathlib.Core.List.{List}
use mathlib.Core.Logic.{◌↔◌}
use mathlib.Core.Path.{◌≡◌, sym, ◌∙◌, ap, subst}
use native.Mathlib.Numerals.{add-one}
use Rattle.base.proofs.Below.{up_to}
use Rattle.base.proofs.Bools.{refuted}
use Rattle.disac4.specs.Report.{domain_cells}
use Rattle.lending.specs.Call.{Gives, overwrite}
use Rattle.listing.specs.ListCells.{WideEnough, Shows}
use Rattle.network.proofs.Sweeps.{few_sweeps, last_is}
use Rattle.network.specs.Network.{Network, loaded, label_count}
use Rattle.network.specs.Sweep.{rests, swept, sweep_count}
use Rattle.sweeping.specs.Outcome.{TwoLists, two_lists, holding, write_other, after_sweeps, sweep_outcome}
use Rattle.sweeping.specs.Sweeping.{SweepsAt}
use Rattle.std.specs.Prelude.{Ok}
use Rattle.sweeping.proofs.Alternating.{holding_shows}

-- after `k` sweeps, each of which deleted something
pub record Going (words : ℕ) (net : Network) (start : TwoLists) (k : ℕ) (l : TwoLists) : Type 0 where
  pub held : l ≡ after_sweeps words net k start
  pub deleted : (j : ℕ) → j < k → rests net (swept net j) ≡ false

module _ {words : ℕ} {net : Network} {start : TwoLists} {k : ℕ} {l : TwoLists} where
  -- there are at most L of them
  pub going_few : Going words net start k l → k ≤ label_count net
  going_few g = few_sweeps net k g.deleted

  module _ {l' : TwoLists} (wide : WideEnough words net) (shorter : ℕ) (g : Going words net start k l) (h : SweepsAt words net k l l' shorter) where
    -- what the next one does
    did : (l' ≡ write_other k (domain_cells words net (swept net (suc k))) l) × ((shorter ≡ 0) ↔ (rests net (swept net k) ≡ true))
    unfolding SweepsAt
    did = h (subst (λ (a : TwoLists). Shows words net (swept net k) (holding k a)) (sym g.held) (holding_shows words net wide k start))

    -- what it leaves
    after : l' ≡ after_sweeps words net (k + 1) start
    unfolding after_sweeps
    after =
        did.0 ∙ ap (write_other k (domain_cells words net (swept net (suc k)))) g.held
        ∙ ap (λ (j : ℕ). after_sweeps words net j start) (sym (add-one k))

    -- it deletes something: there will be another
    pub going_on : (shorter ≡ 0 → ⊥) → Going words net start (k + 1) l'
    going_on n = record {
      held = after;
      deleted =
          up_to (λ j. rests net (swept net j) ≡ false) k (refuted (rests net (swept net k)) (λ e. n (did.1.1 e))) g.deleted;
    }

    -- it deletes nothing: it was the last
    pub going_ends : shorter ≡ 0 → (k + 1 ≡ sweep_count net) × (l' ≡ after_sweeps words net (k + 1) start)
    going_ends e = (add-one k ∙ sym (last_is net k g.deleted (did.1.0 e)), after)

-- the whole outcome, from the first buffer with the loaded lists in it
pub all_given : (words : ℕ) (net : Network) (start : TwoLists) (first : List ℕ) (r : ℕ) (l' : TwoLists)
    → first ≡ overwrite (domain_cells words net (loaded net)) start.first
    → (two_lists first start.second ≡ after_sweeps words net 0 start → (r ≡ sweep_count net) × (l' ≡ after_sweeps words net r start))
    → Gives (sweep_outcome words net start) (Ok r) l'
unfolding sweep_outcome after_sweeps
all_given words net start first r l' e Swept-all =
    let end = Swept-all (ap (λ (a : List ℕ). two_lists a start.second) e) in
    record { answer = ap Ok end.0; cells = end.1 ∙ ap (λ (k : ℕ). after_sweeps words net k start) end.0 }
