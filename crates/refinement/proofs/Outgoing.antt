-- A message put for the controller: what it does to the messages there are and to the counts of list messages among them.
use Prim.Native.Nat.{ℕ, ◌+◌, ◌-◌, ◌<◌, ◌≤◌}
use mathlib.Core.Path.{◌≡◌, refl, sym, ◌∙◌, ap}
use native.Mathlib.Omega.{arith}
use lib.Dec.{leb}
use Rattle.base.proofs.Below.{up_to}
use Rattle.base.proofs.Choice.{everywhere}
use Rattle.base.specs.Below.{sum_below, one}
use Rattle.cells.proofs.Stores.{store_same, store_other}
use Rattle.cells.specs.Layout.{WORKERS, OUT, SENDS, OUTEND, OUTREAD, LISTMARK}
use Rattle.cells.specs.Memory.{Mem, store}
use Rattle.refinement.proofs.InvKept.{lists_out_kept, lists_out_more, lists_read_kept}
use Rattle.refinement.specs.Inv.{lists_out}

-- row `i` has put the message `c`
pub record Put (i c : ℕ) (m m' : Mem) : Type 0 where
  pub more : m' WORKERS i OUTEND ≡ m WORKERS i OUTEND + 1
  pub others : (k : ℕ) → (k ≡ i → ⊥) → m' WORKERS k OUTEND ≡ m WORKERS k OUTEND
  pub read : (k : ℕ) → m' WORKERS k OUTREAD ≡ m WORKERS k OUTREAD
  pub new : m' OUT i (m WORKERS i OUTEND) ≡ c
  pub old : (k e : ℕ) → (k ≡ i → e ≡ m WORKERS i OUTEND → ⊥) → m' OUT k e ≡ m OUT k e

-- it is stored behind the others, and their end moves on
pub put_out : (i c : ℕ) (m : Mem)
    → Put i c m (store (store m OUT i (m WORKERS i OUTEND) c) WORKERS i OUTEND (m WORKERS i OUTEND + 1))
put_out i c m = record {
  more = store_same m WORKERS i OUTEND (m WORKERS i OUTEND + 1);
  others = λ k n. store_other m WORKERS i OUTEND (m WORKERS i OUTEND + 1) WORKERS k OUTEND (λ p q r. n q);
  read = λ k. refl;
  new = store_same m OUT i (m WORKERS i OUTEND) c;
  old = λ k e n. store_other m OUT i (m WORKERS i OUTEND) c OUT k e (λ p. n);
}

module _ (i c : ℕ) (m m' : Mem) (g : Put i c m m') where
  -- the list messages among them are still the row's own
  pub put_lists : m WORKERS i SENDS ≤ m' WORKERS i SENDS → (LISTMARK ≤ c → c - LISTMARK < m' WORKERS i SENDS)
      → ((e : ℕ) → e < m WORKERS i OUTEND → LISTMARK ≤ m OUT i e → m OUT i e - LISTMARK < m WORKERS i SENDS)
      → (e : ℕ) → e < m' WORKERS i OUTEND → LISTMARK ≤ m' OUT i e → m' OUT i e - LISTMARK < m' WORKERS i SENDS
  put_lists l own before e h =
      up_to (λ e. LISTMARK ≤ m' OUT i e → m' OUT i e - LISTMARK < m' WORKERS i SENDS) (m WORKERS i OUTEND)
      (λ q. omega (arith, g.new, own (omega (arith, g.new))))
      (λ e b q.
      let kept = g.old i e (omega arith) in
      omega (arith, before e b (omega arith)))
      e (omega (arith, g.more))

  -- the row's list messages are all among them
  pub put_counted : m' WORKERS i SENDS ≡ m WORKERS i SENDS + one (leb LISTMARK c)
      → ((k : ℕ) → (k ≡ i → ⊥) → m' WORKERS k SENDS ≡ m WORKERS k SENDS) → (k : ℕ)
      → lists_out m k (m WORKERS k OUTEND) ≡ m WORKERS k SENDS → lists_out m' k (m' WORKERS k OUTEND) ≡ m' WORKERS k SENDS
  put_counted own same =
      everywhere
      (λ k. lists_out m k (m WORKERS k OUTEND) ≡ m WORKERS k SENDS
      → lists_out m' k (m' WORKERS k OUTEND) ≡ m' WORKERS k SENDS) i
      (λ e.
      omega (
        arith,
        own,
        lists_out_more m m' i (m WORKERS i OUTEND) (m' WORKERS i OUTEND) g.more (λ x l. g.old i x (omega arith)),
        ap (λ x. one (leb LISTMARK x)) g.new,
      ))
      (λ k n e.
      lists_out_kept m m' k (m WORKERS k OUTEND) (m' WORKERS k OUTEND) (g.others k n) (λ x l. g.old k x (λ p q. n p))
      ∙ e
      ∙ sym (same k n))

  -- those that were read are the same
  pub put_lists_read : (p : ℕ) → ((k : ℕ) → k < p → m WORKERS k OUTREAD ≤ m WORKERS k OUTEND)
      → sum_below p (λ k. lists_out m' k (m' WORKERS k OUTREAD)) ≡ sum_below p (λ k. lists_out m k (m WORKERS k OUTREAD))
  put_lists_read p put =
      lists_read_kept m m' p (λ k h. g.read k) (λ k e h l.
      g.old k e (λ x q. omega (arith, put k h, ap (λ y. m WORKERS y OUTEND) x)))
