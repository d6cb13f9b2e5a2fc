-- The buffers when the sweeps have ended: both start with the lists of the last one, and the part that holds it is those lists.
use Prim.Native.Nat.{ℕ, zero, suc, ◌≤◌}
use mathlib.Core.Bool.{Bool, true, false, cond, not}
use mathlib.Core.List.{List, []}
use mathlib.Core.Path.{◌≡◌, refl, sym, ◌∙◌, ap}
use borrow.Author.Tests.{le-leb}
use native.Mathlib.Omega.{arith}
use lib.Dec.{leb}
use lib.ListN.{length, take}
use Rattle.base.proofs.Row.{odd_next}
use Rattle.base.specs.Row.{is_odd}
use Rattle.disac4.proofs.Outcome.{lists_length}
use Rattle.disac4.specs.Report.{domain_cells}
use Rattle.lending.proofs.Overwritten.{overwrite_length, overwrite_again, overwrite_taken}
use Rattle.lending.specs.Call.{overwrite}
use Rattle.network.proofs.Sweeps.{comes_to_rest, last_same}
use Rattle.network.specs.Network.{Network}
use Rattle.network.specs.Sweep.{swept, sweep_count}
use Rattle.sweeping.specs.Outcome.{TwoLists, two_lists, one_of, write_beside, holding, write_other, swept_cells, after_sweeps, part_of, last_sweep}

module _ (words : ℕ) (net : Network) where
  -- the lists after any number of sweeps
  abbrev after : ℕ → List ℕ
  after = swept_cells words net

  module _ (l : TwoLists) where
    -- after one sweep or more, one buffer starts with the lists of the last sweep and the other with those before it
    abbrev alternating : ℕ → Bool → TwoLists
    alternating k b =
        cond b (two_lists (overwrite (after (suc k)) l.first) (overwrite (after k) l.second))
        (two_lists (overwrite (after k) l.first) (overwrite (after (suc k)) l.second))

    alternate : (k : ℕ) → after_sweeps words net (suc k) l ≡ alternating k (is_odd k)
    unfolding after_sweeps write_other swept
    alternate zero = refl
    alternate (suc k) = ap (write_other (suc k) (after (suc (suc k)))) (alternate k) ∙ rw (odd_next k) (go (is_odd k))
      where
        again : (cells : List ℕ) → overwrite (after (suc (suc k))) (overwrite (after k) cells) ≡ overwrite (after (suc (suc k))) cells
        again cells =
            overwrite_again _ _ cells
            (lists_length words net (swept net (suc (suc k))) ∙ sym (lists_length words net (swept net k)))

        go : (b : Bool) → write_beside (not b) (after (suc (suc k))) (alternating k b) ≡ alternating (suc k) (not b)
        go true = ap (λ (c : List ℕ). two_lists (overwrite (after (suc k)) l.first) c) (again l.second)
        go false = ap (λ (c : List ℕ). two_lists c (overwrite (after (suc k)) l.second)) (again l.first)

    -- the last sweep deletes nothing, so when they have ended the two start alike
    pub ended : let last = after (sweep_count net) in
        after_sweeps words net (sweep_count net) l ≡ two_lists (overwrite last l.first) (overwrite last l.second)
    ended =
        let last = comes_to_rest net in
        let k = last.0 in
        let same : after (suc k) ≡ after k = ap (domain_cells words net) (last_same net k last.1) in
        rw last.1.count (alternate k ∙ alike k (is_odd k) (sym same))
      where
        alike : (k : ℕ) (b : Bool) → after k ≡ after (suc k)
            → alternating k b ≡ two_lists (overwrite (after (suc k)) l.first) (overwrite (after (suc k)) l.second)
        alike k true e = ap (λ (c : List ℕ). two_lists (overwrite (after (suc k)) l.first) (overwrite c l.second)) e
        alike k false e = ap (λ (c : List ℕ). two_lists (overwrite c l.first) (overwrite (after (suc k)) l.second)) e

-- of buffers that start alike, the part with so many cells is what they start with
pub alike_part : (k : ℕ) (cells first second : List ℕ) → length cells ≤ length first → length cells ≤ length second
    → last_sweep k (length cells) (two_lists (overwrite cells first) (overwrite cells second)) ≡ cells
unfolding last_sweep holding part_of
alike_part k cells first second few_first few_second = go (is_odd k)
  where
    whole : (old : List ℕ) → length cells ≤ length old
        → cond (leb (length cells) (length (overwrite cells old))) (take (length cells) (overwrite cells old)) [] ≡ cells
    whole old few =
        rw (le-leb (length cells) (length (overwrite cells old)) (omega (arith, overwrite_length cells old few)))
        (overwrite_taken cells old)

    go : (b : Bool) → part_of (length cells) (one_of b (two_lists (overwrite cells first) (overwrite cells second))) ≡ cells
    go true = whole second few_second
    go false = whole first few_first
