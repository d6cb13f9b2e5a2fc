-- Laws by which the code of the controller meets its definitions: the row of marks, the tally, poll and read.
use Prim.Native.Nat.{ℕ, ◌+◌, ◌^◌, ◌<◌, ◌≤◌}
use mathlib.Core.Bool.{Bool, true, false, not, ◌&&◌}
use mathlib.Core.List.{List}
use mathlib.Core.Option.{none, some}
use mathlib.Core.Path.{◌≡◌, sym, ◌∙◌}
use native.Mathlib.Omega.{arith}
use borrow.Author.Tests.{ltb-true, le-leb, lt-leb}
use lib.Dec.{ltb, eqb}
use Rattle.format.specs.Limits.{max_workers}
use Rattle.base.proofs.Bools.{and_left, and_right}
use Rattle.base.proofs.Choice.{cond_true, cond_false}
use Rattle.base.specs.Row.{bit}
use Rattle.disac4.specs.System.{System}
use Rattle.disac4.specs.declared.Poll.{Poll}
use Rattle.disac4.specs.declared.Tally.{Tally}
use Rattle.cells.specs.Layout.{WANTED, WORKERS, OUT, OUTEND, OUTREAD, OUTROOM, POLLROOM, LISTSMAX, LISTMARK}
use Rattle.cells.specs.Memory.{Mem, mem_of, store}
use Rattle.controller.proofs.Marks.{mark_small}
use Rattle.controller.specs.Controller.{polled_t, may_poll_t, counted_t, with_mark, marked_t, told_t, has_out, out_read_m, put_poll_m, Machine, machine, poll_m, controller_read_m}

-- ---- the row of marks

module _ (marks i : ℕ) (small : marks < 2 ^ max_workers) {held : Bool} (q : held ≡ bit marks i) where
  pub mark_stays : held ≡ true → (marks ≡ with_mark marks i) × (marks < 2 ^ max_workers)
  unfolding with_mark
  mark_stays h = (rw (← q, h), small)

  pub mark_joins : {r : ℕ} → r ≡ 2 ^ i → i < max_workers → held ≡ false → (marks + r ≡ with_mark marks i) × (marks + r < 2 ^ max_workers)
  unfolding with_mark
  mark_joins {r} e l h =
      let joined : marks + r ≡ with_mark marks i = rw (← q, h, e) in
      (joined, omega (arith, joined, mark_small max_workers marks small i l))

-- ---- the tally

pub marked_as : (p i r n : ℕ) (t : Tally) → r ≡ with_mark t.marks i → n ≡ 2 ^ p
    → record { lists = t.lists; timestamp = t.timestamp; polling = t.polling; marks = r; closed = eqb (r + 1) n }
    ≡ marked_t p i t
unfolding marked_t
marked_as p i r n t e f = rw (e, f)

module _ (p i c : ℕ) (t : Tally) where
  pub told_list : {u : Tally} → LISTMARK ≤ c → u ≡ counted_t t → u ≡ told_t p i c t
  unfolding told_t
  told_list h e = rw (le-leb LISTMARK c h) e

  module _ (h₁ : c < LISTMARK) where
    pub told_closed : t.polling ≡ false → t ≡ told_t p i c t
    unfolding told_t
    told_closed h = rw (lt-leb LISTMARK c h₁, h)

    module _ (h₂ : t.polling ≡ true) {same : Bool} (q : same ≡ eqb c t.timestamp.0) where
      pub told_late : same ≡ false → t ≡ told_t p i c t
      unfolding told_t
      told_late h = rw (lt-leb LISTMARK c h₁, h₂, ← q, h)

      pub told_reply : {u : Tally} → same ≡ true → u ≡ marked_t p i t → u ≡ told_t p i c t
      unfolding told_t
      told_reply h e =
          e
          ∙ sym
          (cond_false (counted_t t) _ (lt-leb LISTMARK c h₁)
          ∙ cond_true _ t h₂
          ∙ cond_true (marked_t p i t) t (sym q ∙ h))

-- ---- cells and tally after an action

pub stands : (cells : List ℕ) (t : Tally) (s : Machine) → mem_of cells ≡ s.mem → t ≡ s.tally → machine cells t ≡ s
stands cells t s p q i = record { mem = p i; tally = q i }

-- ---- poll

-- the poll that the tally has open once it is sent: the next number, and the controller's count of lists
module _ (t : Tally) (u : Tally) (e : u ≡ polled_t t) (q : Poll) (f : (q.number ≡ u.timestamp) × (q.wanted ≡ u.lists)) where
  pub next_number_lem : q.number.0 ≡ t.timestamp.0 + 1
  unfolding polled_t
  next_number_lem = rw (f.0, e)

  pub poll_put : (m m' : Mem) → m' ≡ store m WANTED 0 q.number.0 q.wanted.0 → m' ≡ put_poll_m t m
  unfolding put_poll_m polled_t
  poll_put m m' p = rw (p, f.0, f.1, e)

module _ (t : Tally) {b : Bool} (q : b ≡ may_poll_t t) where
  pub may_poll_room : b ≡ true → t.timestamp.0 < POLLROOM
  unfolding may_poll_t
  may_poll_room h =
      ltb-true t.timestamp.0 POLLROOM
      (and_right (not t.polling) (ltb t.timestamp.0 POLLROOM) (sym q ∙ h))

  module _ (cells : List ℕ) where
    pub poll_idle : b ≡ false → poll_m (machine cells t) ≡ none
    unfolding poll_m
    poll_idle h = rw (← q, h)

    pub poll_goes : b ≡ true
        → poll_m (machine cells t) ≡ some (record { mem = put_poll_m t (mem_of cells); tally = polled_t t })
    unfolding poll_m
    poll_goes h = rw (← q, h)

-- ---- read, controller

module _ (t : Tally) (read end : ℕ) {b : Bool} (q : b ≡ ltb read end && ltb read OUTROOM && ltb t.lists.0 LISTSMAX) where
  -- where it finds a message, it has room for its place and for the count
  pub read_room : b ≡ true → (read < OUTROOM) × (t.lists.0 < LISTSMAX)
  read_room h =
      let found = sym q ∙ h in
      let unread = and_left (ltb read end && ltb read OUTROOM) (ltb t.lists.0 LISTSMAX) found in (
        ltb-true read OUTROOM (and_right (ltb read end) (ltb read OUTROOM) unread),
        ltb-true t.lists.0 LISTSMAX (and_right (ltb read end && ltb read OUTROOM) (ltb t.lists.0 LISTSMAX) found),
      )

  module _ (sys : System) (i : ℕ) (cells : List ℕ) (q₁ : read ≡ mem_of cells WORKERS i OUTREAD)
      (q₂ : end ≡ mem_of cells WORKERS i OUTEND) where
    finds : has_out i t (mem_of cells) ≡ b
    unfolding has_out
    finds = rw (← q₁, ← q₂, q)

    pub controller_read_idle : b ≡ false → controller_read_m sys i (machine cells t) ≡ none
    unfolding controller_read_m
    controller_read_idle h = rw (finds, h)

    pub controller_takes : {p c : ℕ} → b ≡ true → c ≡ mem_of cells OUT i read → sys.workers ≡ p
        → controller_read_m sys i (machine cells t)
        ≡ some (record { mem = store (mem_of cells) WORKERS i OUTREAD (read + 1); tally = told_t p i c t })
    unfolding controller_read_m out_read_m
    controller_takes h q₃ e = rw (finds, h, ← q₁, ← q₃, e)
