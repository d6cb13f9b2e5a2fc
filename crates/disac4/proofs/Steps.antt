-- What one move does to a label: how often it is sent, read and treated, and where it stands before and after.
use Prim.Native.Nat.{ℕ, ◌+◌, ◌<◌, ◌≤◌}
use mathlib.Core.Bool.{Bool, cond, ◌&&◌, not}
use mathlib.Core.List.{List, [], ◌∷◌, ◌++◌}
use mathlib.Core.Path.{◌≡◌, refl, sym, ◌∙◌, ap}
use native.Mathlib.Decide.{ℕ_discrete}
use native.Mathlib.Omega.{arith}
use borrow.Author.Tests.{eq-eqb, ne_eqb}
use lib.Dec.{eqb}
use Rattle.base.proofs.Bools.{and_intro, and_false_left, and_false_right}
use Rattle.base.proofs.Choice.{cond_true, cond_false, update_each, update₂_each}
use Rattle.base.proofs.Weight.{weigh, weigh_append}
use Rattle.base.specs.Below.{one}
use Rattle.base.specs.Choice.{update₂}
use Rattle.network.specs.Network.{Label, Domains, is_label, loaded}
use Rattle.disac4.proofs.Channels.{broadcast_each}
use Rattle.disac4.proofs.Deleted.{deleted_by, treat_deletes, treat_deletes_own}
use Rattle.disac4.proofs.Moves.{Moves, treats, sends, reads, takes_poll, ignores, answers, new_poll_lem, tallies, marks, drops, discards}
use Rattle.disac4.proofs.Occurrences.{occurs, carried, sent_by, read_by, treated_by}
use Rattle.disac4.specs.Action.{deletions, after_treat, after_send, after_list, after_poll, after_drop, after_answer, after_new_poll, after_count, after_mark, next_poll}
use Rattle.disac4.specs.Event.{Event, sent, taken, treated, deleted}
use Rattle.disac4.specs.State.{State, Message, list, poll, reply}
use Rattle.disac4.specs.System.{System, Worker}
use Rattle.disac4.specs.declared.Poll.{Poll}

module _ (sys : System) (x v : ℕ) where
  abbrev gone : State → ℕ → ℕ
  gone = deleted_by sys x v

  abbrev waits : (ℕ → ℕ → List Message) → ℕ → ℕ → ℕ
  waits c j i = weigh (carried x v) (c j i)

  -- sends, reads and treats, and what stands on lists and in channels before and after
  pub record Step (st s : State) (new : List Event) : Type 0 where
    pub sending : (j : ℕ)
        → weigh (sent_by x v j) new + occurs x v (s.to_send j) + deleted_by sys x v st j
        ≡ occurs x v (st.to_send j) + deleted_by sys x v s j
    pub reading : (j i : ℕ) → i ≤ sys.workers → (i ≡ j → ⊥)
        → weigh (read_by x v i j) new + weigh (carried x v) (s.channel j i)
        ≡ weigh (carried x v) (st.channel j i) + weigh (sent_by x v j) new
    pub unread_own : (k : ℕ) → weigh (read_by x v k k) new ≡ 0
    pub treating : (k : ℕ) → 0 < k
        → weigh (treated_by x v k) new + occurs x v (s.work_list k) + deleted_by sys x v st k
        ≡ occurs x v (st.work_list k) + deleted_by sys x v s k + weigh (read_by x v k (sys.owner x)) new

  -- one that touches no label
  still : (st s : State) → s.domain ≡ st.domain → s.to_send ≡ st.to_send → s.work_list ≡ st.work_list
      → ((j i : ℕ) → i ≤ sys.workers → (i ≡ j → ⊥) → waits s.channel j i ≡ waits st.channel j i) → Step st s []
  unfolding deleted
  still st s d p q h = record {
    sending = λ j. omega (arith, ap (λ (t : ℕ → List Label). occurs x v (t j)) p, same j);
    reading = λ j i b n. omega (arith, h j i b n);
    unread_own = λ k. refl;
    treating = λ k b. omega (arith, ap (λ (t : ℕ → List Label). occurs x v (t k)) q, same k);
  }
    where
      same : (j : ℕ) → gone s j ≡ gone st j
      same j = ap (λ (e : Domains). one (eqb (sys.owner x) j && (loaded sys.net x v && not (e x v)))) d

  module _ (st : State) where
    -- one channel changes, by messages without the label
    one_channel : (j k : ℕ) (l : List Message) → weigh (carried x v) l ≡ waits st.channel j k
        → (s : State) → s.domain ≡ st.domain → s.to_send ≡ st.to_send → s.work_list ≡ st.work_list
        → s.channel ≡ update₂ st.channel j k l → Step st s []
    one_channel j k l e s d p q c =
        still st s d p q
        (λ h i b n.
        rw c
        (update₂_each (λ h i t. weigh (carried x v) t ≡ waits st.channel h i) st.channel j k l e
        (λ h i n. refl)
        h i))

    -- a message without the label is taken
    at_drop : (j k : ℕ) {m : Message} (rest : List Message) → carried x v m ≡ 0 → st.channel j k ≡ m ∷ rest
        → (s : State) → s.domain ≡ st.domain → s.to_send ≡ st.to_send → s.work_list ≡ st.work_list
        → s.channel ≡ update₂ st.channel j k rest → Step st s []
    at_drop j k rest z m = one_channel j k rest (omega (arith, ap (weigh (carried x v)) m))

    -- every actor but the controller is sent a poll
    at_poll : Step st (after_new_poll sys st) []
    unfolding after_new_poll
    at_poll =
        still st (after_new_poll sys st) refl refl refl
        (λ j i h n.
        broadcast_each (λ j i l. weigh (carried x v) l ≡ waits st.channel j i) sys.workers 0 (poll q) st.channel
        (λ i h n. weigh_append (carried x v) (st.channel 0 i) (poll q ∷ []) ∙ omega arith)
        (λ j i n. refl)
        j i)
      where
        q : Poll
        q = next_poll st

    -- worker `k` treats a label
    at_treat : (k : ℕ) (a : Label) (rest : List Label) → st.work_list k ≡ a ∷ rest
        → Step st (after_treat sys k a rest st) (treated k a ∷ [])
    unfolding after_treat
    at_treat k a rest e = record {
      sending = update_each
          (λ j l.
          weigh (sent_by x v j) (treated k a ∷ []) + occurs x v l + gone st j ≡ occurs x v (st.to_send j) + gone s j)
          st.to_send k (st.to_send k ++ new)
          (omega (arith, own, weigh_append (λ b. one (is_label x v b)) (st.to_send k) new))
          (λ j n. omega (arith, other j n));
      reading = λ j i h n. omega arith;
      unread_own = λ j. refl;
      treating = λ j h. update_each
          (λ i l.
          weigh (treated_by x v i) (treated k a ∷ []) + occurs x v l + gone st i
          ≡ occurs x v (st.work_list i) + gone s i + 0)
          st.work_list k (rest ++ new)
          (omega (
            arith,
            own,
            weigh_append (λ b. one (is_label x v b)) rest new,
            ap (occurs x v) e,
            ap (λ (b : Bool). one (b && is_label x v a)) (eq-eqb k k refl),
          ))
          (λ i n. omega (arith, other i n, ap (λ (b : Bool). one (b && is_label x v a)) (ne_eqb k i (λ p. n (sym p)))))
          j;
    }
      where
        s : State
        s = after_treat sys k a rest st

        new : List Label
        new = deletions sys k a st

        own : gone s k ≡ gone st k + occurs x v new
        own = treat_deletes sys x v k a rest st

        other : (j : ℕ) → (j ≡ k → ⊥) → gone s j ≡ gone st j
        other j n = treat_deletes_own sys x v k a rest st j n

    -- worker `k` sends its list
    at_send : (k : ℕ) → Step st (after_send sys k st) (sent k (st.to_send k) ∷ [])
    unfolding after_send deleted
    at_send k = record {
      sending = update_each
          (λ j l. weigh (sent_by x v j) new + occurs x v l + gone st j ≡ occurs x v (st.to_send j) + gone st j)
          st.to_send k []
          (omega (arith, own))
          (λ j n. omega (arith, other j n));
      reading = broadcast_each
          (λ j i l. i ≤ sys.workers → (i ≡ j → ⊥)
          → weigh (read_by x v i j) new + weigh (carried x v) l ≡ waits st.channel j i + weigh (sent_by x v j) new)
          sys.workers k (list (st.to_send k)) st.channel
          (λ i h n b d. omega (arith, own, weigh_append (carried x v) (st.channel k i) (list (st.to_send k) ∷ [])))
          (λ j i n b d. omega (arith, other j (λ e. d (n e b ∙ sym e))));
      unread_own = λ j. refl;
      treating = λ j h. omega arith;
    }
      where
        new : List Event
        new = sent k (st.to_send k) ∷ []

        own : cond (eqb k k) (occurs x v (st.to_send k)) 0 ≡ occurs x v (st.to_send k)
        own = cond_true (occurs x v (st.to_send k)) 0 (eq-eqb k k refl)

        other : (j : ℕ) → (j ≡ k → ⊥) → cond (eqb k j) (occurs x v (st.to_send k)) 0 ≡ 0
        other j n = cond_false (occurs x v (st.to_send k)) 0 (ne_eqb k j (λ p. n (sym p)))

    -- ---- actor `k` takes the list message of `j`
    module _ (j k : ℕ) (labels : List Label) (rest : List Message) (m : st.channel j k ≡ list labels ∷ rest) where
      abbrev new : List Event
      new = taken k j labels ∷ []

      -- read from `j` by `k`, and from no other or by no other
      taken_own : weigh (read_by x v k j) new ≡ occurs x v labels
      taken_own =
          omega (arith, cond_true (occurs x v labels) 0 (and_intro (eq-eqb k k refl) (eq-eqb j j refl)))

      taken_other : (l i : ℕ) → (l ≡ j → i ≡ k → ⊥) → weigh (read_by x v i l) new ≡ 0
      taken_other l i n =
          elim (ℕ_discrete k i) [
            | yes e ↦ omega (
              arith,
              cond_false (occurs x v labels) 0
                  (and_false_right (eqb k i) (ne_eqb j l (λ p. n (sym p) (sym e)))),
            )
            | no d ↦ omega (arith, cond_false (occurs x v labels) 0 (and_false_left (eqb j l) (ne_eqb k i d)))
          ]

      take_reading : (l i : ℕ) → i ≤ sys.workers → (i ≡ l → ⊥)
          → weigh (read_by x v i l) new + waits (update₂ st.channel j k rest) l i
          ≡ waits st.channel l i + weigh (sent_by x v l) new
      take_reading l i h n =
          update₂_each
          (λ l i c.
          weigh (read_by x v i l) new + weigh (carried x v) c ≡ waits st.channel l i + weigh (sent_by x v l) new)
          st.channel j k rest
          (omega (arith, taken_own, ap (weigh (carried x v)) m))
          (λ l i n. omega (arith, taken_other l i n))
          l i

      -- by a worker; what another than the owner sent does not hold the label
      at_read : (j ≡ k → ⊥) → ((j ≡ sys.owner x → ⊥) → occurs x v labels ≡ 0)
          → Step st (after_list j k labels rest st) new
      unfolding after_list deleted
      at_read n foreign = record {
        sending = λ l. omega arith;
        reading = take_reading;
        unread_own = λ i. taken_other i i (λ p q. n (sym p ∙ q));
        treating = λ l h. update_each
            (λ i w. weigh (treated_by x v i) new + occurs x v w + gone st i
            ≡ occurs x v (st.work_list i) + gone st i + weigh (read_by x v i (sys.owner x)) new)
            st.work_list k (st.work_list k ++ labels)
            (omega (arith, weigh_append (λ b. one (is_label x v b)) (st.work_list k) labels, from_owner))
            (λ i d. omega (arith, taken_other (sys.owner x) i (λ p q. d q)))
            l;
      }
        where
          from_owner : weigh (read_by x v k (sys.owner x)) new ≡ occurs x v labels
          from_owner =
              elim (ℕ_discrete j (sys.owner x)) [
                | yes e ↦ rw (← e) taken_own
                | no d ↦ omega (arith, taken_other (sys.owner x) k (λ p q. d (sym p)), foreign d)
              ]

  -- the controller counts a list message
  at_tally : (st : State) (k : ℕ) (labels : List Label) (rest : List Message) → Worker sys k
      → st.channel k 0 ≡ list labels ∷ rest → Step st (after_count k rest st) (taken 0 k labels ∷ [])
  unfolding after_count deleted
  at_tally st k labels rest w m = record {
    sending = λ l. omega arith;
    reading = take_reading st k 0 labels rest m;
    unread_own = λ i. taken_other st k 0 labels rest m i i (λ p q. omega (arith, w.above));
    treating = λ i h. omega (arith, taken_other st k 0 labels rest m (sys.owner x) i (λ p q. omega arith));
  }

  -- ---- together

  -- every move, where only its owner sends a label
  pub step_of : (st : State)
      → ((j k : ℕ) (labels : List Label) (rest : List Message) → k ≤ sys.workers → (j ≡ k → ⊥)
      → st.channel j k ≡ list labels ∷ rest → (j ≡ sys.owner x → ⊥) → occurs x v labels ≡ 0)
      → (s : State) (new : List Event) → Moves sys st s new → Step st s new
  unfolding after_poll after_drop after_answer after_mark
  step_of st f _ _ (treats k a rest w e) = at_treat st k a rest e
  step_of st f _ _ (sends k w e) = at_send st k
  step_of st f _ _ (reads j k labels rest w h n m) =
      at_read st j k labels rest m n (f j k labels rest w.within n m)
  step_of st f _ _ (tallies k labels rest w m) = at_tally st k labels rest w m
  step_of st f _ _ (new_poll_lem o) = at_poll st
  step_of st f s _ (takes_poll j k q rest w h n m) = at_drop st j k rest refl m s refl refl refl refl
  step_of st f s _ (ignores j k i rest w h n m) = at_drop st j k rest refl m s refl refl refl refl
  step_of st f s _ (marks k n rest w m c) = at_drop st k 0 rest refl m s refl refl refl refl
  step_of st f s _ (drops k n rest w m c) = at_drop st k 0 rest refl m s refl refl refl refl
  step_of st f s _ (discards k q rest w m) = at_drop st k 0 rest refl m s refl refl refl refl
  step_of st f s _ (answers k q w h r) =
      one_channel st k 0 (st.channel k 0 ++ (reply q.number ∷ []))
      (omega (arith, weigh_append (carried x v) (st.channel k 0) (reply q.number ∷ [])))
      s refl refl refl refl
