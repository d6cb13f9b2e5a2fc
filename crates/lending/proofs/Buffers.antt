-- When a call's buffers pass, and what it means for the call that they pass or fail.
use Prim.Native.Nat.{ℕ}
use mathlib.Core.Bool.{Bool, true, false}
use mathlib.Core.List.{List, [], ◌∷◌}
use mathlib.Core.Logic.{◌↔◌, inl, inr, ⊎_elim}
use mathlib.Core.Option.{none, some}
use mathlib.Core.Path.{◌≡◌, refl, sym, ◌∙◌}
use native.Mathlib.Omega.{arith}
use borrow.Author.Tests.{le-leb, lt-leb, leb-true, leb-false}
use lib.Dec.{leb}
use lib.ListN.{length}
use Rattle.base.proofs.Bools.{and_left, and_right}
use Rattle.base.proofs.Choice.{by_test, none≢some, some_same}
use Rattle.base.specs.Choice.{all_of}
use Rattle.faults.specs.CheckList.{◌or_else◌, first_fault, fault_at, verdict_of}
use Rattle.faults.specs.declared.Decline.{Decline}
use Rattle.faults.specs.declared.Fault.{Fault}
use Rattle.std.specs.Prelude.{Result, Ok, Err}
use Rattle.lending.specs.Call.{Buffer, buffer_checks, LongEnough, TooShort, Call, call_fault}

module _ {L : Type 0} (l : L) where
  -- one buffer more, in front of the others
  pass_next : (b : Buffer L) (buffers : List (Buffer L)) → (first_fault (buffer_checks buffers l) ≡ none) ↔ LongEnough buffers l
      → (first_fault (buffer_checks (b ∷ buffers) l) ≡ none) ↔ LongEnough (b ∷ buffers) l
  unfolding buffer_checks
  pass_next b buffers rest = (
    λ e.
        by_test (leb b.need (length (b.cells l))) e
        (λ t r. (leb-true b.need (length (b.cells l)) t, rest.0 r))
        (λ t r. none≢some (sym r)),
    λ h. rw (le-leb b.need (length (b.cells l)) h.0) (rest.1 h.1),
  )

  fail_next : (f : Fault) (b : Buffer L) (buffers : List (Buffer L))
      → (first_fault (buffer_checks buffers l) ≡ some f) ↔ TooShort buffers l f
      → (first_fault (buffer_checks (b ∷ buffers) l) ≡ some f) ↔ TooShort (b ∷ buffers) l f
  unfolding buffer_checks
  fail_next f b buffers rest = (
    λ e.
        by_test (leb b.need (length (b.cells l))) e
        (λ t r. inr (leb-true b.need (length (b.cells l)) t, rest.0 r))
        (λ t r. inl (leb-false b.need (length (b.cells l)) t, some_same (λ g. g ≡ b.fault) r refl)),
    λ h.
        ⊎_elim (λ s. rw (lt-leb b.need (length (b.cells l)) s.0, s.1))
        (λ s. rw (le-leb b.need (length (b.cells l)) s.0) (rest.1 s.1)) h,
  )

  -- the checks pass exactly if every buffer is long enough
  pub pass_exactly : (buffers : List (Buffer L)) → (first_fault (buffer_checks buffers l) ≡ none) ↔ LongEnough buffers l
  unfolding buffer_checks
  pass_exactly [] = (λ e. tt, λ h. refl)
  pass_exactly (b ∷ buffers) = pass_next b buffers (pass_exactly buffers)

  -- and find the fault of the first that is too short
  pub fail_exactly : (f : Fault) (buffers : List (Buffer L))
      → (first_fault (buffer_checks buffers l) ≡ some f) ↔ TooShort buffers l f
  unfolding buffer_checks
  fail_exactly f [] = (λ e. none≢some e, λ h. absurd h)
  fail_exactly f (b ∷ buffers) = fail_next f b buffers (fail_exactly f buffers)

  -- what passes of each buffer's fault passes of the one that is found
  pub short_among : (t : Fault → Bool) (buffers : List (Buffer L)) (f : Fault) → all_of (λ b. t b.fault) buffers ≡ true
      → TooShort buffers l f → t f ≡ true
  short_among t [] f all h = absurd h
  short_among t (b ∷ buffers) f all h =
      let others = all_of (λ k. t k.fault) buffers in
      ⊎_elim (λ s. rw s.1 (and_left (t b.fault) others all))
      (λ s. short_among t buffers f (and_right (t b.fault) others all) s.1) h

-- the buffers tested one after the other: the first gives `v`
module _ {L : Type 0} (l : L) (b : Buffer L) (buffers : List (Buffer L)) (v : Result (Unit {0}) Fault)
    (e : v ≡ verdict_of (first_fault ((leb b.need (length (b.cells l)) or_else b.fault) ∷ []))) where
  -- it is too short: that is what is found
  pub first_short : (f : Fault) → v ≡ Err f → Err f ≡ verdict_of (first_fault (buffer_checks (b ∷ buffers) l))
  unfolding buffer_checks
  first_short f is = go (leb b.need (length (b.cells l))) (sym is ∙ e)
    where
      go : (t : Bool) → Err f ≡ verdict_of (first_fault ((t or_else b.fault) ∷ []))
          → Err f ≡ verdict_of (first_fault ((t or_else b.fault) ∷ buffer_checks buffers l))
      go true p = let z : ◌≡◌ {A = ℕ} 0 1 = cc in absurd (omega arith)
      go false p = p

  -- it is long enough: the others decide
  pub first_long : (u : Unit {0}) → v ≡ Ok u
      → verdict_of (first_fault (buffer_checks buffers l)) ≡ verdict_of (first_fault (buffer_checks (b ∷ buffers) l))
  unfolding buffer_checks
  first_long u is = go (leb b.need (length (b.cells l))) (sym is ∙ e)
    where
      go : (t : Bool) → Ok u ≡ verdict_of (first_fault ((t or_else b.fault) ∷ []))
          → verdict_of (first_fault (buffer_checks buffers l))
          ≡ verdict_of (first_fault ((t or_else b.fault) ∷ buffer_checks buffers l))
      go true p = refl
      go false p = let z : ◌≡◌ {A = ℕ} 0 1 = cc in absurd (omega arith)

-- what is found in the buffers of a call
module _ {A L : Type 0} (c : Call A L) (l : L) where
  -- nothing: they are long enough
  pub buffers_long : first_fault (buffer_checks c.buffers l) ≡ none → LongEnough c.buffers l
  buffers_long = (pass_exactly l c.buffers).0

  -- and the call's fault is that of its other inputs
  pub buffers_pass : first_fault (buffer_checks c.buffers l) ≡ none → call_fault c l ≡ c.fault
  unfolding call_fault
  buffers_pass e = rw e

  -- a fault: it is the call's
  pub buffers_fail : (d : Decline) → fault_at 0 (first_fault (buffer_checks c.buffers l)) ≡ some d → call_fault c l ≡ some d
  unfolding call_fault
  buffers_fail d e = rw e
