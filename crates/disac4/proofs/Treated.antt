-- What the flow of a label says of its treats, sends and reads: never more than its one deletion, and in a quiet state
-- exactly that.
use Prim.Native.Nat.{ℕ, ◌+◌, ◌≤◌}
use mathlib.Core.Bool.{Bool, true, false, cond, ◌&&◌}
use mathlib.Core.List.{List, [], ◌∷◌}
use mathlib.Core.Path.{◌≡◌, refl, sym, ap}
use native.Mathlib.Decide.{ℕ_discrete}
use native.Mathlib.Omega.{arith}
use borrow.Author.Tests.{eq-eqb, ne_eqb}
use lib.Dec.{eqb}
use Rattle.base.proofs.Choice.{cond_true, cond_false}
use Rattle.base.proofs.Sums.{one_le}
use Rattle.base.proofs.Weight.{weigh}
use Rattle.base.specs.Below.{one}
use Rattle.disac4.proofs.ByKind.{list_message}
use Rattle.disac4.proofs.Deleted.{deleted_by}
use Rattle.disac4.proofs.Flow.{Flow, flows}
use Rattle.disac4.proofs.Occurrences.{occurs, carried, sent_by, read_by, treated_by}
use Rattle.disac4.proofs.Quiet.{Quiet}
use Rattle.disac4.specs.Event.{Event, events, deleted}
use Rattle.disac4.specs.Loading.{load}
use Rattle.disac4.specs.State.{State, Message, list, poll, reply}
use Rattle.disac4.specs.System.{System, Worker, Sound}
use Rattle.disac4.specs.Turn.{Turn, play}

-- a channel without list messages carries no label
no_list_carries : (x v : ℕ) (l : List Message) → weigh list_message l ≡ 0 → weigh (carried x v) l ≡ 0
no_list_carries x v [] e = refl
no_list_carries x v (list labels ∷ l) e = omega arith
no_list_carries x v (poll q ∷ l) e = omega (arith, no_list_carries x v l (omega arith))
no_list_carries x v (reply n ∷ l) e = omega (arith, no_list_carries x v l (omega arith))

module _ (sys : System) (x v : ℕ) (st : State) where
  -- only its owner deletes a label
  own : deleted_by sys x v st (sys.owner x) ≡ one (deleted sys st x v)
  own = ap (λ (b : Bool). one (b && deleted sys st x v)) (eq-eqb (sys.owner x) (sys.owner x) refl)

  other : (k : ℕ) → (k ≡ sys.owner x → ⊥) → deleted_by sys x v st k ≡ 0
  other k n = ap (λ (b : Bool). one (b && deleted sys st x v)) (ne_eqb (sys.owner x) k (λ p. n (sym p)))

  -- what the owner has still to send, and what is on its way from there to `k`
  abbrev pub sent_later : ℕ → ℕ
  sent_later k = occurs x v (st.to_send (sys.owner x)) + weigh (carried x v) (st.channel (sys.owner x) k)

  -- the owner sends nothing to itself
  abbrev pub on_its_way : ℕ → ℕ
  on_its_way k = cond (eqb k (sys.owner x)) 0 (sent_later k)

  pub on_its_way_lem : (k : ℕ) → on_its_way k ≤ sent_later k
  on_its_way_lem k = at_most (eqb k (sys.owner x)) (sent_later k)
    where
      at_most : (b : Bool) (n : ℕ) → cond b 0 n ≤ n
      at_most true n = omega arith
      at_most false n = omega arith

  module _ (o : Worker sys (sys.owner x)) (q : Quiet sys st) where
    -- in a quiet state there is neither
    pub none_later : (k : ℕ) → k ≤ sys.workers → sent_later k ≡ 0
    none_later k h =
        omega (
          arith,
          ap (occurs x v) (q.no_send (sys.owner x) o),
          no_list_carries x v (st.channel (sys.owner x) k) (q.no_list (sys.owner x) k o.within h),
        )

module _ (sys : System) (x v : ℕ) (st : State) (es : List Event) (f : Flow sys x v st es) where
  -- a deleted label was sent by its owner or is on its to-send list: one of them, and once
  pub sent_or_waits : weigh (sent_by x v (sys.owner x)) es + occurs x v (st.to_send (sys.owner x)) ≡ one (deleted sys st x v)
  sent_or_waits = omega (arith, own sys x v st, f.sending (sys.owner x))

  -- it was read by each other actor, or is still to be sent or on its way to it
  pub read_or_waits : (i : ℕ) → i ≤ sys.workers → (i ≡ sys.owner x → ⊥)
      → weigh (read_by x v i (sys.owner x)) es + sent_later sys x v st i ≡ one (deleted sys st x v)
  read_or_waits i h n = omega (arith, sent_or_waits, f.reading (sys.owner x) i h n)

  -- it was treated by each worker, is on its work list or on its way to it
  pub treated_or_waits : (k : ℕ) → Worker sys k
      → weigh (treated_by x v k) es + occurs x v (st.work_list k) + on_its_way sys x v st k ≡ one (deleted sys st x v)
  treated_or_waits k w =
      elim (ℕ_discrete k (sys.owner x)) [
        | yes e ↦
            omega (
              arith,
              own sys x v st,
              ap (deleted_by sys x v st) e,
              f.treating k w.above,
              f.unread_own k,
              ap (λ (j : ℕ). weigh (read_by x v k j) es) e,
              cond_true 0 (sent_later sys x v st k) (eq-eqb k (sys.owner x) e),
            )
        | no n ↦
            omega (
              arith,
              other sys x v st k n,
              f.treating k w.above,
              read_or_waits k w.within n,
              cond_false 0 (sent_later sys x v st k) (ne_eqb k (sys.owner x) n),
            )
      ]

  module _ (o : Worker sys (sys.owner x)) (q : Quiet sys st) where
    -- in a quiet state a deleted label was treated once by every worker
    pub treated_exactly : (k : ℕ) → Worker sys k → weigh (treated_by x v k) es ≡ one (deleted sys st x v)
    treated_exactly k w =
        omega (
          arith,
          treated_or_waits k w,
          ap (occurs x v) (q.no_work k w),
          on_its_way_lem sys x v st k,
          none_later sys x v st o q k w.within,
        )

-- ---- the whole run

module _ (sys : System) (sound : Sound sys) (ts : List Turn) (x v : ℕ) where
  -- a worker treats a label at most once
  pub treated_once : (k : ℕ) → Worker sys k → weigh (treated_by x v k) (events sys (load sys) ts) ≤ 1
  treated_once k w =
      omega (
        arith,
        treated_or_waits sys x v (play sys (load sys) ts) (events sys (load sys) ts) (flows sys x v sound ts) k w,
        one_le (deleted sys (play sys (load sys) ts) x v),
      )

  -- the list messages of a worker carry a label at most once
  pub sent_once : (j : ℕ) → weigh (sent_by x v j) (events sys (load sys) ts) ≤ 1
  sent_once j =
      omega (
        arith,
        (flows sys x v sound ts).sending j,
        one_le (eqb (sys.owner x) j && deleted sys (play sys (load sys) ts) x v),
      )

  -- and those of any but its owner never
  pub sent_by_owner : (j : ℕ) → (j ≡ sys.owner x → ⊥) → weigh (sent_by x v j) (events sys (load sys) ts) ≡ 0
  sent_by_owner j n = omega (arith, (flows sys x v sound ts).sending j, other sys x v (play sys (load sys) ts) j n)
