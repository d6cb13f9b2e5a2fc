-- Which regions a change of the memory keeps.
use Prim.Native.Nat.{ℕ, ◌+◌, ◌<◌, ◌≤◌}
use mathlib.Core.Bool.{Bool, true, false, cond}
use mathlib.Core.Path.{◌≡◌, refl, ◌∙◌, subst}
use native.Mathlib.Omega.{arith}
use lib.Dec.{ltb}
use Rattle.base.proofs.Loops.{loop_keeps}
use Rattle.base.specs.Below.{loop}
use Rattle.cells.proofs.Stores.{store_apart}
use Rattle.cells.specs.Layout.{WORKERS, LOG, WORK, DOMAIN, TAIL, LOGEND, LABELROOM}
use Rattle.cells.specs.Queues.{push_m, delete_m}
use Rattle.cells.specs.Memory.{Mem, store}
use Rattle.cells.specs.View.{label_number}

-- the regions of `R` are in `n` what they are in `m`
pub record RegionsKept (R : ℕ → Type 0) (m n : Mem) : Type 0 where
  pub kept : (r i j : ℕ) → R r → n r i j ≡ m r i j

module _ {R : ℕ → Type 0} where
  -- no change
  pub kept_same : {m : Mem} → RegionsKept R m m
  kept_same = record { kept = λ r i j h. refl }

  -- one change and another
  pub kept_then : {m n o : Mem} → RegionsKept R m n → RegionsKept R n o → RegionsKept R m o
  kept_then p q = record { kept = λ r i j h. q.kept r i j h ∙ p.kept r i j h }

  -- one change or another
  pub kept_either : (t : Bool) {m n o : Mem} → RegionsKept R m n → RegionsKept R m o → RegionsKept R m (cond t n o)
  kept_either true p q = p
  kept_either false p q = q

  -- a loop of changes
  pub kept_repeated : (f : ℕ → Mem → Mem) → ((j : ℕ) (m : Mem) → RegionsKept R m (f j m)) → (n : ℕ) (m : Mem) → RegionsKept R m (loop n f m)
  kept_repeated f step n m = loop_keeps (RegionsKept R m) n f (λ j h o p. kept_then p (step j o)) m kept_same

  -- a store into another region
  pub kept_stored : (r i j v : ℕ) {m n : Mem} → (R r → ⊥) → RegionsKept R m n → RegionsKept R m (store n r i j v)
  kept_stored r i j v {n = n} h p =
      record { kept = λ s k l g. store_apart n r i j v s k l (λ e. h (subst R e g)) ∙ p.kept s k l g }

-- fewer regions are kept too
pub kept_fewer : {R S : ℕ → Type 0} {m n : Mem} → ((r : ℕ) → S r → R r) → RegionsKept R m n → RegionsKept S m n
kept_fewer h p = record { kept = λ r i j g. p.kept r i j (h r g) }

-- a push onto a list writes no region behind the domains
pub push_kept : {R : ℕ → Type 0} (r col i c : ℕ) {m n : Mem} → ((s : ℕ) → R s → DOMAIN < s) → r ≤ DOMAIN → RegionsKept R m n
    → RegionsKept R m (push_m r col i c n)
unfolding push_m
push_kept r col i c {n = n} behind h p =
    kept_either (ltb (n WORKERS i col) LABELROOM)
    (kept_stored WORKERS i col (n WORKERS i col + 1) (λ g. omega (arith, behind WORKERS g))
    (kept_stored r i (n WORKERS i col) c (λ g. omega (arith, behind r g)) p))
    p

-- nor does a deletion
pub delete_kept : {R : ℕ → Type 0} (i x v : ℕ) {m n : Mem} → ((s : ℕ) → R s → DOMAIN < s) → RegionsKept R m n
    → RegionsKept R m (delete_m i x v n)
unfolding delete_m
delete_kept i x v behind p =
    push_kept WORK TAIL i (label_number x v) behind (omega arith)
    (push_kept LOG LOGEND i (label_number x v) behind (omega arith) (kept_stored DOMAIN x v 0 (λ g. omega (arith, behind DOMAIN g)) p))
