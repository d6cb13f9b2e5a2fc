-- Laws by which the code of the lists meets its definitions, over plain memories and numbers.
use Prim.Native.Nat.{ℕ, ◌+◌, ◌<◌, ◌≤◌}
use mathlib.Core.Path.{◌≡◌, sym, ◌∙◌, ap}
use borrow.Author.Tests.{le-ltb}
use Rattle.base.proofs.Choice.{cond_false}
use Rattle.base.specs.Below.{loop}
use Rattle.cells.proofs.Stores.{push_stores}
use Rattle.cells.specs.Layout.{WORKERS, LOG, WORK, DOMAIN, TAIL, LOGEND, LABELROOM}
use Rattle.cells.specs.Queues.{push_m, delete_m, copy_m}
use Rattle.cells.specs.Memory.{Mem, store}
use Rattle.cells.specs.View.{label_number}

-- ---- a push

module _ (r col i c e : ℕ) (m : Mem) (q : e ≡ m WORKERS i col) where
  pub pushed : (m₁ m₂ : Mem) → e < LABELROOM → m₁ ≡ store m r i e c → m₂ ≡ store m₁ WORKERS i col (e + 1) → m₂ ≡ push_m r col i c m
  pushed m₁ m₂ h p₁ p₂ =
      p₂ ∙ ap (λ (n : Mem). store n WORKERS i col (e + 1)) p₁
      ∙ ap (λ (k : ℕ). store (store m r i k c) WORKERS i col (k + 1)) q
      ∙ sym (push_stores r col i c m (rw q at h))

  pub unpushed : LABELROOM ≤ e → m ≡ push_m r col i c m
  unfolding push_m
  unpushed h = sym (cond_false _ m (le-ltb (m WORKERS i col) LABELROOM (rw q at h)))

-- ---- a deletion

pub deleted : (i x v : ℕ) (m m₁ m₂ m₃ : Mem) → m₁ ≡ store m DOMAIN x v 0 → m₂ ≡ push_m LOG LOGEND i (label_number x v) m₁
    → m₃ ≡ push_m WORK TAIL i (label_number x v) m₂ → m₃ ≡ delete_m i x v m
unfolding delete_m
deleted i x v m m₁ m₂ m₃ p₁ p₂ p₃ =
    p₃ ∙ ap (push_m WORK TAIL i (label_number x v)) (p₂ ∙ ap (push_m LOG LOGEND i (label_number x v)) p₁)

-- ---- a copy of no label

pub copy_none : (j i from n : ℕ) (m : Mem) → n ≡ 0 → m ≡ copy_m j i from n m
unfolding copy_m loop
copy_none j i from n m e = rw e
