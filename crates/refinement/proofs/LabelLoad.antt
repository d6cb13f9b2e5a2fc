-- Listing the labels goes over them one by one: each gets its domain cell, and is deleted by its owner where a count is 0.
use Prim.Native.Nat.{ℕ, suc, ◌-◌, ◌<◌}
use mathlib.Core.Bool.{Bool, cond, ◌&&◌}
use mathlib.Core.List.{List, [], ◌∷◌}
use mathlib.Core.Path.{◌≡◌, sym, ◌∙◌, subst}
use native.Mathlib.Decide.{ℕ_discrete}
use native.Mathlib.Omega.{arith}
use borrow.Author.Tests.{eq-eqb, ne_eqb}
use lib.Dec.{eqb}
use Rattle.base.proofs.Bools.{and_false_left}
use Rattle.disac4.specs.Loading.{unsupported}
use Rattle.disac4.specs.System.{System}
use Rattle.network.specs.Network.{Label, label}
use Rattle.cells.proofs.Stores.{store_same, store_other, store_apart}
use Rattle.cells.specs.Layout.{WORKERS, LOG, WORK, DOMAIN, COUNTERS, PAIRS, TAIL, LOGEND, LISTED}
use Rattle.cells.specs.Memory.{Mem, store}
use Rattle.cells.specs.View.{counter_row}
use Rattle.refinement.proofs.DeleteApart.{Apart, delete_if, delete_if_apart}
use Rattle.refinement.proofs.LongerLists.{Both, both_none, Appends, appends_if}
use Rattle.refinement.specs.Inv.{Small}
use Rattle.refinement.proofs.Labelwise.{Shows, both_other, shows_if}

-- the label's domain cell, and its deletion
abbrev pub list_step : System → ℕ → ℕ → Mem → Mem
list_step sys x v m = delete_if (unsupported sys.net x v) (sys.owner x - 1) x v (store m DOMAIN x v LISTED)

module _ (sys : System) (x v : ℕ) where
  -- a step leaves alone what stands apart from its label and its owner's lists
  pub list_apart : (m : Mem) (r a b : ℕ) → Apart sys m (sys.owner x - 1) x v r a b → list_step sys x v m r a b ≡ m r a b
  list_apart m r a b p =
      delete_if_apart sys (sys.owner x - 1) x v (store m DOMAIN x v LISTED) (unsupported sys.net x v) m r a b p
      ∙ store_other m DOMAIN x v LISTED r a b p.domain

  -- the label's domain cell after its step; its counters stay
  pub list_shows : (m₀ : Mem) (d : ℕ) (c : ℕ → ℕ) (m : Mem) → Shows sys m₀ x v d c m
      → Shows sys m₀ x v (cond (unsupported sys.net x v) 0 LISTED) c (list_step sys x v m)
  list_shows m₀ d c m s =
      shows_if sys m₀ (sys.owner x - 1) x v LISTED c (unsupported sys.net x v) (store m DOMAIN x v LISTED)
      (record {
        pairs = λ a b. store_apart m DOMAIN x v LISTED PAIRS a b (omega arith) ∙ s.pairs a b;
        domain = store_same m DOMAIN x v LISTED;
        counter = λ y k. store_apart m DOMAIN x v LISTED COUNTERS (counter_row m₀ x y) v (omega arith) ∙ s.counter y k;
      })

  -- it is appended to its owner's lists exactly if it is unsupported
  pub list_both : Small sys → x < sys.net.variables → v < sys.net.size x → (i : ℕ) (m : Mem)
      → Appends sys i m (list_step sys x v m)
      (cond (eqb (sys.owner x) (suc i) && unsupported sys.net x v) (label x v ∷ []) [])
  list_both small h l i m =
      elim (ℕ_discrete (sys.owner x) (suc i)) [
        | yes e ↦
            let row : sys.owner x - 1 ≡ i = omega arith in
            subst (λ b. Appends sys i m (list_step sys x v m) (appended (b && unsupported sys.net x v)))
            (sym (eq-eqb (sys.owner x) (suc i) e))
            (subst
            (λ (j : ℕ). Appends sys i m (delete_if (unsupported sys.net x v) j x v listed) (appended (unsupported sys.net x v)))
            (sym row)
            (appends_if sys i (unsupported sys.net x v) m listed x v h l (omega (arith, small.few_values x h)) kept))
        | no d ↦
            subst (λ b. Appends sys i m (list_step sys x v m) (appended b))
            (sym (and_false_left (unsupported sys.net x v) (ne_eqb (sys.owner x) (suc i) d)))
            (λ room room'.
            both_other sys m (list_step sys x v m) i (sys.owner x - 1) x v (list_apart m)
            (λ e. d (omega (arith, (small.sound.owned x h).above))))
      ]
    where
      listed : Mem
      listed = store m DOMAIN x v LISTED

      appended : Bool → List Label
      appended b = cond b (label x v ∷ []) []

      put : (r b : ℕ) → (r ≡ DOMAIN → ⊥) → listed r i b ≡ m r i b
      put r b p = store_apart m DOMAIN x v LISTED r i b p

      kept : Both sys i m listed []
      kept =
          both_none sys i m listed (put WORKERS LOGEND (omega arith)) (put WORKERS TAIL (omega arith))
          (λ d. put LOG d (omega arith)) (λ d. put WORK d (omega arith))
