-- Laws that the code of loading meets its definitions in memory by.
use Prim.Native.Nat.{ℕ, ◌+◌, ◌-◌, ◌^◌}
use mathlib.Core.Bool.{Bool, true, false, ◌&&◌, not}
use mathlib.Core.Path.{◌≡◌, refl, sym, ◌∙◌, ap, ap₂}
use native.Mathlib.Numerals.{add-one}
use lib.Bits.{bit_and}
use lib.Dec.{eqb}
use Rattle.base.proofs.Bools.{and_true}
use Rattle.base.proofs.Choice.{cond_true, cond_false}
use Rattle.base.proofs.Row.{row_full, row_ext, row_both}
use Rattle.base.specs.Below.{all_below}
use Rattle.base.specs.Row.{row_of}
use Rattle.disac4.specs.System.{System}
use Rattle.cells.specs.Layout.{DOMAIN, COUNTERS, LISTED}
use Rattle.cells.specs.Queues.{delete_m}
use Rattle.cells.specs.Memory.{Mem, store}
use Rattle.cells.specs.View.{counter_row}
use Rattle.loading.specs.Load.{suits, suited_row, list_label_m}

-- ---- the row of the values that suit

module _ (sys : System) (m : Mem) (x : ℕ) where
  -- at first, all of them
  pub suited_all : (p n : ℕ) → n ≡ sys.net.size x → p ≡ 2 ^ n → p - 1 ≡ suited_row sys m x 0
  unfolding suited_row
  suited_all p n e q = rw (q, e) (row_full (sys.net.size x))

  -- one variable more
  suited_more : (y row : ℕ) → row ≡ row_of (sys.net.size x) (λ v. all_below y (suits sys m x v) && suits sys m x v y)
      → row ≡ suited_row sys m x (y + 1)
  unfolding suited_row
  suited_more y row e = e ∙ ap (λ (k : ℕ). row_of (sys.net.size x) (λ v. all_below k (suits sys m x v))) (sym (add-one y))

  -- not linked, there is no counter
  pub suited_apart : (y row : ℕ) → sys.net.linked x y ≡ false → row ≡ suited_row sys m x y → row ≡ suited_row sys m x (y + 1)
  unfolding suited_row suits
  suited_apart y row l e =
      suited_more y row
      (e
      ∙ row_ext (sys.net.size x) (λ v. all_below y (suits sys m x v)) (λ v. all_below y (suits sys m x v) && suits sys m x v y)
      (λ v h. sym (and_true (all_below y (suits sys m x v)) (rw l refl))))

  -- linked, the values with a counter of 0 leave the row
  pub suited_linked : (y row part : ℕ) → sys.net.linked x y ≡ true → row ≡ suited_row sys m x y
      → part ≡ row_of (sys.net.size x) (λ v. not (eqb (m COUNTERS (counter_row m x y) v) 0))
      → bit_and row part ≡ suited_row sys m x (y + 1)
  unfolding suited_row suits
  suited_linked y row part l e p =
      suited_more y (bit_and row part)
      (ap₂ bit_and e
      (p
      ∙ row_ext (sys.net.size x) (λ v. not (eqb (m COUNTERS (counter_row m x y) v) 0)) (λ v. suits sys m x v y)
      (λ v h. rw l refl))
      ∙ row_both (sys.net.size x) (λ v. all_below y (suits sys m x v)) (λ v. suits sys m x v y))

-- ---- a label

module _ (sys : System) (x v : ℕ) (m m₁ : Mem) (listed : m₁ ≡ store m DOMAIN x v LISTED) (supported : Bool) where
  pub label_deleted : (m₂ : Mem) (o : ℕ) → supported ≡ false → o ≡ sys.owner x → m₂ ≡ delete_m (o - 1) x v m₁
      → m₂ ≡ list_label_m sys x v supported m
  unfolding list_label_m
  label_deleted m₂ o u w e = rw (e, listed, w) (sym (cond_false _ _ u))

  pub label_kept : supported ≡ true → m₁ ≡ list_label_m sys x v supported m
  unfolding list_label_m
  label_kept u = rw listed (sym (cond_true _ _ u))
