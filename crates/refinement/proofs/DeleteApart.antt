-- The points that deleting a label leaves alone.
use Prim.Native.Nat.{ℕ}
use mathlib.Core.Bool.{Bool, true, false, cond}
use mathlib.Core.Path.{◌≡◌, refl, ◌∙◌}
use native.Mathlib.Omega.{arith}
use Rattle.disac4.specs.System.{System}
use Rattle.cells.proofs.Stores.{store_same, store_other, delete_stores}
use Rattle.cells.specs.Layout.{WORKERS, LOG, WORK, DOMAIN, COUNTERS, TAIL, LOGEND}
use Rattle.cells.specs.Queues.{delete_m}
use Rattle.cells.specs.Memory.{Mem}
use Rattle.cells.specs.View.{counter_row}

-- the point stands apart from label `v` of `x` and from the lists of row `i`
pub record Apart (sys : System) (m : Mem) (i x v r a b : ℕ) : Type 0 where
  pub domain : r ≡ DOMAIN → a ≡ x → b ≡ v → ⊥
  pub counter : (y : ℕ) → sys.net.linked x y ≡ true → r ≡ COUNTERS → a ≡ counter_row m x y → b ≡ v → ⊥
  pub log : r ≡ LOG → a ≡ i → ⊥
  pub work : r ≡ WORK → a ≡ i → ⊥
  pub log_end : r ≡ WORKERS → a ≡ i → b ≡ LOGEND → ⊥
  pub work_end : r ≡ WORKERS → a ≡ i → b ≡ TAIL → ⊥

-- row `i` deletes label `v` of `x` if a test holds
abbrev pub delete_if : Bool → ℕ → ℕ → ℕ → Mem → Mem
delete_if z i x v m = cond z (delete_m i x v m) m

module _ (sys : System) (i x v : ℕ) (m : Mem) where
  -- deleting a label leaves what stands apart alone
  pub delete_apart : (n : Mem) (r a b : ℕ) → Apart sys n i x v r a b → delete_m i x v m r a b ≡ m r a b
  delete_apart n r a b h =
      delete_stores i x v m r a b (h.work, h.work_end) (h.log, h.log_end) ∙ store_other m DOMAIN x v 0 r a b h.domain

  -- so it does where it is deleted only if a test holds
  pub delete_if_apart : (z : Bool) (n : Mem) (r a b : ℕ) → Apart sys n i x v r a b → delete_if z i x v m r a b ≡ m r a b
  delete_if_apart true n r a b h = delete_apart n r a b h
  delete_if_apart false n r a b h = refl

  -- the label leaves its domain
  pub delete_domain : delete_m i x v m DOMAIN x v ≡ 0
  delete_domain = delete_stores i x v m DOMAIN x v (omega arith) (omega arith) ∙ store_same m DOMAIN x v 0

  -- the counters stay
  pub delete_counter : (a b : ℕ) → delete_m i x v m COUNTERS a b ≡ m COUNTERS a b
  delete_counter a b = delete_stores i x v m COUNTERS a b (omega arith) (omega arith)

-- the domain cell of one label stands apart from another label
pub domain_apart : (sys : System) (m : Mem) (i x v x' v' : ℕ) → (x ≡ x' → v ≡ v' → ⊥) → Apart sys m i x' v' DOMAIN x v
domain_apart sys m i x v x' v' h = record {
  domain = λ e. h;
  counter = λ y l e. omega arith;
  log = λ e. omega arith;
  work = λ e. omega arith;
  log_end = λ e. omega arith;
  work_end = λ e. omega arith;
}
