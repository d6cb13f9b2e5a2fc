-- Laws by which the code of send meets its definition: what its stores make of the memory, and its test, fact by fact.
use Prim.Native.Nat.{ℕ, ◌+◌, ◌<◌}
use mathlib.Core.Bool.{true}
use mathlib.Core.Option.{none, some}
use mathlib.Core.Path.{◌≡◌}
use borrow.Author.Tests.{lt-ltb, ltb-true, ne_eqb, eqb-false, not-true}
use Rattle.base.proofs.Bools.{and_left, and_right, and_intro, not_of, refuted}
use Rattle.base.proofs.Choice.{cond_true, cond_false}
use Rattle.cells.specs.Layout.{WORKERS, BOUNDS, OUT, LOGEND, SENDS, LISTS, OUTEND, SENDROOM, OUTROOM, LISTSMAX, LISTMARK}
use Rattle.cells.specs.Memory.{Mem, store}
use Rattle.sends.specs.Sends.{sent_with, sent_m, may_send, send_m}

module _ (m m₁ m₂ m₃ : Mem) where
  pub sent : (i sends end outs lists : ℕ) (m₄ m₅ : Mem) → m₁ ≡ store m BOUNDS i (sends + 1) end
      → m₂ ≡ store m₁ OUT i outs (LISTMARK + sends) → m₃ ≡ store m₂ WORKERS i SENDS (sends + 1)
      → m₄ ≡ store m₃ WORKERS i OUTEND (outs + 1) → m₅ ≡ store m₄ WORKERS i LISTS (lists + 1)
      → m₅ ≡ sent_with i sends end outs lists m
  unfolding sent_with
  sent i sends end outs lists m₄ m₅ p₁ p₂ p₃ p₄ p₅ = rw (p₅, p₄, p₃, p₂, p₁)

-- what a send asks: labels behind the last list message, and room for one more message
pub record MaySend (i : ℕ) (m : Mem) : Type 0 where
  pub unsent : m BOUNDS i (m WORKERS i SENDS) ≡ m WORKERS i LOGEND → ⊥
  pub send_room : m WORKERS i SENDS < SENDROOM
  pub out_room : m WORKERS i OUTEND < OUTROOM
  pub count_room : m WORKERS i LISTS < LISTSMAX

module _ (i : ℕ) (m : Mem) where
  -- the test taken apart
  pub may_send_lem : may_send i m ≡ true → MaySend i m
  unfolding may_send
  may_send_lem e = search (and_left, and_right, ltb-true, eqb-false, not-true)

  -- and put together: the labels are sent
  pub send_goes : MaySend i m → send_m i m ≡ some (sent_m i m)
  unfolding send_m may_send
  send_goes h = cond_true {b = may_send i m} _ none (search (and_intro, not_of, ne_eqb, lt-ltb))

  -- where a part of the test fails, sending is idle
  pub send_idle : (MaySend i m → ⊥) → send_m i m ≡ none
  unfolding send_m
  send_idle n = cond_false _ none (refuted (may_send i m) (λ e. n (may_send_lem e)))

  -- they are sent by what the code has got from the cells
  pub sent_from : {sends end outs lists : ℕ} {m' : Mem} → sends ≡ m WORKERS i SENDS → end ≡ m WORKERS i LOGEND
      → outs ≡ m WORKERS i OUTEND → lists ≡ m WORKERS i LISTS → m' ≡ sent_with i sends end outs lists m → m' ≡ sent_m i m
  unfolding sent_m
  sent_from p q r l e = rw (e, p, q, r, l)
