-- A deletion is unsent, unread or untreated exactly while the state has it still to be sent, read or treated.
use Prim.Native.Nat.{ℕ, suc, ◌+◌, ◌<◌}
use mathlib.Core.Bool.{Bool, true, false, cond, ◌&&◌, ◌||◌, not, not-not}
use mathlib.Core.List.{List}
use mathlib.Core.Path.{◌≡◌, refl, sym, ◌∙◌, ap, ap₂}
use native.Mathlib.Omega.{arith}
use borrow.Author.Tests.{ltb-true, ltb-false, lt-ltb, le-ltb, eqb-false}
use lib.Dec.{ltb, eqb}
use Rattle.base.proofs.Below.{all_ext, all_not}
use Rattle.base.proofs.Weight.{weigh, above_add}
use Rattle.base.specs.Below.{one, any_below, all_below}
use Rattle.base.specs.Choice.{any_of}
use Rattle.disac4.proofs.Flow.{Flow, flows}
use Rattle.disac4.proofs.Found.{found_listed, found_on_way, found_sent, found_read, found_treated}
use Rattle.disac4.proofs.Occurrences.{occurs, carried, sent_by, read_by, treated_by}
use Rattle.disac4.proofs.Treated.{sent_later, on_its_way, sent_or_waits, read_or_waits, treated_or_waits}
use Rattle.disac4.specs.Event.{Event, events, is_read_with, is_treat_of, unsent, unread, untreated, deleted}
use Rattle.disac4.specs.Loading.{load}
use Rattle.disac4.specs.Pending.{to_be_sent, on_the_way, to_be_read, to_be_treated, Pinned}
use Rattle.disac4.specs.Report.{final}
use Rattle.disac4.specs.State.{State}
use Rattle.disac4.specs.System.{System, Sound}
use Rattle.disac4.specs.Turn.{Turn, play}

-- of two numbers that make 1, one is above 0 exactly if the other is not
other_above : (m n : ℕ) → m + n ≡ 1 → ltb 0 m ≡ not (ltb 0 n)
other_above m n e = go (ltb 0 m) refl
  where
    go : (b : Bool) → ltb 0 m ≡ b → ltb 0 m ≡ not (ltb 0 n)
    go true p = p ∙ sym (ap not (le-ltb 0 n (omega (arith, ltb-true 0 m p))))
    go false p = p ∙ sym (ap not (lt-ltb 0 n (omega (arith, ltb-false 0 m p))))

-- not all of these tests hold exactly if one of their contraries does
some_fail : (n : ℕ) (t u : ℕ → Bool) → ((i : ℕ) → i < n → t i ≡ not (u i)) → not (all_below n t) ≡ any_below n u
some_fail n t u e = ap not (all_ext n t (λ i. not (u i)) e ∙ all_not n u) ∙ not-not (any_below n u)

-- ---- what the state shows, by occurrences

module _ (sys : System) (x v : ℕ) (st : State) where
  -- a label that is to be sent, or is on its way to an actor
  waits_sent : (i : ℕ) → to_be_sent sys st x v || on_the_way sys st i x v ≡ ltb 0 (sent_later sys x v st i)
  unfolding to_be_sent on_the_way
  waits_sent i =
      ap₂ ◌||◌ (found_listed x v (st.to_send (sys.owner x))) (found_on_way x v (st.channel (sys.owner x) i))
      ∙ sym (above_add (occurs x v (st.to_send (sys.owner x))) (weigh (carried x v) (st.channel (sys.owner x) i)))

  -- one that an actor has to read
  pub waits_read : (i : ℕ) → to_be_read sys st i x v ≡ ltb 0 (on_its_way sys x v st i)
  unfolding to_be_read
  waits_read i =
      ap (λ (b : Bool). not (eqb i (sys.owner x)) && b) (waits_sent i)
      ∙ unless (eqb i (sys.owner x)) (sent_later sys x v st i)
    where
      unless : (b : Bool) (n : ℕ) → not b && ltb 0 n ≡ ltb 0 (cond b 0 n)
      unless true n = refl
      unless false n = refl

  -- one that a worker has to treat
  pub waits_treated : (k : ℕ) → to_be_treated sys st k x v ≡ ltb 0 (occurs x v (st.work_list k) + on_its_way sys x v st k)
  unfolding to_be_treated
  waits_treated k =
      ap₂ ◌||◌ (found_listed x v (st.work_list k)) (waits_read k)
      ∙ sym (above_add (occurs x v (st.work_list k)) (on_its_way sys x v st k))

-- ---- the whole run

module _ (sys : System) (sound : Sound sys) (ts : List Turn) (x v : ℕ)
    (gone : deleted sys (play sys (load sys) ts) x v ≡ true) where
  abbrev run : List Event
  run = events sys (load sys) ts

  abbrev end : State
  end = play sys (load sys) ts

  flow : Flow sys x v end run
  flow = flows sys x v sound ts

  -- its owner sent it, or has to send it
  sent_waits : unsent sys run x v ≡ to_be_sent sys end x v
  unfolding unsent to_be_sent
  sent_waits =
      ap not
      (found_sent x v (sys.owner x) run
      ∙ other_above (weigh (sent_by x v (sys.owner x)) run) (occurs x v (end.to_send (sys.owner x)))
      (sent_or_waits sys x v end run flow ∙ ap one gone))
      ∙ not-not (ltb 0 (occurs x v (end.to_send (sys.owner x))))
      ∙ sym (found_listed x v (end.to_send (sys.owner x)))

  -- each other actor read it, or has to read it
  read_waits : unread sys run x v ≡ any_below (suc sys.workers) (λ i. to_be_read sys end i x v)
  unfolding unread
  read_waits =
      some_fail (suc sys.workers) (λ i. eqb i (sys.owner x) || any_of (is_read_with (sys.owner x) i x v) run)
      (λ i. to_be_read sys end i x v)
      (λ i h.
      ap (λ (b : Bool). eqb i (sys.owner x) || b) (found_read x v (sys.owner x) i run)
      ∙ beside (eqb i (sys.owner x)) (weigh (read_by x v i (sys.owner x)) run) (sent_later sys x v end i)
      (λ n. read_or_waits sys x v end run flow i (omega arith) (eqb-false i (sys.owner x) n) ∙ ap one gone)
      ∙ sym (ap not (waits_read sys x v end i)))
    where
      beside : (b : Bool) (m n : ℕ) → (b ≡ false → m + n ≡ 1) → b || ltb 0 m ≡ not (ltb 0 (cond b 0 n))
      beside true m n e = refl
      beside false m n e = other_above m n (e refl)

  -- each worker treated it, or has to treat it
  treated_waits : untreated sys run x v ≡ any_below sys.workers (λ i. to_be_treated sys end (suc i) x v)
  unfolding untreated
  treated_waits =
      some_fail sys.workers (λ i. any_of (is_treat_of (suc i) x v) run) (λ i. to_be_treated sys end (suc i) x v)
      (λ i h.
      found_treated x v (suc i) run
      ∙ other_above (weigh (treated_by x v (suc i)) run) (occurs x v (end.work_list (suc i)) + on_its_way sys x v end (suc i))
      (omega (
        arith,
        treated_or_waits sys x v end run flow (suc i) (record { above = omega arith; within = h }),
        ap one gone,
      ))
      ∙ sym (ap not (waits_treated sys x v end (suc i))))

  -- so it is unsent, unread or untreated exactly while the state has it still to be sent, read or treated
  pub pinned : Pinned sys ts x v
  unfolding final
  pinned = record { unsent_exactly = sent_waits; unread_exactly = read_waits; untreated_exactly = treated_waits }
