-- While a poll is open, every worker is marked, has its reply on the way, or will hold that poll.
use Prim.Native.Nat.{ℕ}
use mathlib.Core.Bool.{Bool, true, false, false≢true}
use mathlib.Core.List.{List, [], ◌∷◌, ◌++◌}
use mathlib.Core.Logic.{◌⊎◌, inl, inr, ⊎_elim}
use mathlib.Core.Option.{Option, none, some}
use mathlib.Core.Path.{◌≡◌, refl, sym, ◌∙◌, ap}
use native.Mathlib.Decide.{ℕ_discrete}
use borrow.Author.Tests.{eq-eqb}
use Rattle.base.proofs.Bools.{clash, or_cases, or_left}
use Rattle.base.proofs.Choice.{update_same, update_other, update₂_same, update₂_first, update₂_second}
use Rattle.base.proofs.Members.{any_of_left, any_of_right}
use Rattle.base.specs.Choice.{update, update₂}
use Rattle.disac4.proofs.Channels.{Channels, broadcast_to, broadcast_sender, keeps_put, keeps_broadcast}
use Rattle.disac4.proofs.Moves.{Moves, treats, sends, reads, takes_poll, ignores, answers, new_poll_lem, tallies, marks, drops, discards}
use Rattle.disac4.proofs.Replies.{is_reply, replied, not_current}
use Rattle.disac4.proofs.Typed.{Typed, not_controller, counts_on}
use Rattle.disac4.specs.Action.{current, next_poll, lists_read, broadcast, after_treat, after_send, after_list, after_poll, after_drop, after_answer, after_new_poll, after_count, after_mark}
use Rattle.disac4.specs.Event.{Event}
use Rattle.disac4.specs.State.{State, Message, list, poll, reply}
use Rattle.disac4.specs.System.{System, Worker}
use Rattle.disac4.specs.declared.Poll.{Poll}

-- the poll that is held once these messages are read, with `o` held before
abbrev pub held_after : Option Poll → List Message → Option Poll
held_after o [] = o
held_after o (list labels ∷ l) = held_after o l
held_after o (poll q ∷ l) = held_after (some q) l
held_after o (reply n ∷ l) = held_after o l

-- the last message is a poll
held_last : (o : Option Poll) (l : List Message) (q : Poll) → held_after o (l ++ (poll q ∷ [])) ≡ some q
held_last o [] q = refl
held_last o (list labels ∷ l) q = held_last o l q
held_last o (poll r ∷ l) q = held_last (some r) l q
held_last o (reply n ∷ l) q = held_last o l q

-- the poll held then is the one held before, or one of these messages
held_from : (q r : Poll) (l : List Message) → held_after (some q) l ≡ some r → (q ≡ r) ⊎ (held_after none l ≡ some r)
held_from q r [] e = inl cc
held_from q r (list labels ∷ l) e = held_from q r l e
held_from q r (poll s ∷ l) e = inr e
held_from q r (reply n ∷ l) e = held_from q r l e

-- poll `q` accounts for worker `k`: it is marked, has its reply on the way, or will hold that poll
pub data Accounted (q : Poll) (marked : ℕ → Bool) (held : ℕ → Option Poll) (c : Channels) (k : ℕ) : Type 0 where
  has_mark : marked k ≡ true → Accounted q marked held c k
  has_replied : replied q.number.0 (c k 0) ≡ true → Accounted q marked held c k
  will_hold : held_after (held k) (c 0 k) ≡ some q → Accounted q marked held c k

-- the open poll
abbrev pub open_poll : State → Poll
open_poll st = record { number = record { 0 = st.controller.timestamp }; wanted = lists_read st }

-- every worker, while a poll is open
abbrev pub Expected : System → State → Type 0
Expected sys st =
    st.controller.poll_open ≡ true → (k : ℕ) → Worker sys k
    → Accounted (open_poll st) st.controller.marked st.held st.channel k

accounted_map : {q : Poll} {marked marked' : ℕ → Bool} {held held' : ℕ → Option Poll} {c d : Channels} {k : ℕ}
    → (marked k ≡ true → marked' k ≡ true)
    → (replied q.number.0 (c k 0) ≡ true → replied q.number.0 (d k 0) ≡ true)
    → (held_after (held k) (c 0 k) ≡ some q → Accounted q marked' held' d k)
    → Accounted q marked held c k → Accounted q marked' held' d k
accounted_map f g h (has_mark x) = has_mark (f x)
accounted_map f g h (has_replied x) = has_replied (g x)
accounted_map f g h (will_hold x) = h x

-- ---- every move keeps it

module _ (sys : System) (st : State) where
  abbrev now : Poll
  now = open_poll st

  abbrev With : (ℕ → Bool) → (ℕ → Option Poll) → Channels → Type 0
  With marked held d = (k : ℕ) → Worker sys k → Accounted now marked held d k

  abbrev Now : Type 0
  Now = With st.controller.marked st.held st.channel

  -- a worker takes a message that is no poll
  worker_takes : (j k : ℕ) (m : Message) (rest : List Message) → Worker sys k → st.channel j k ≡ m ∷ rest
      → ((o : Option Poll) → held_after o (m ∷ rest) ≡ held_after o rest) → Now
      → With st.controller.marked st.held (update₂ st.channel j k rest)
  worker_takes j k m rest w e no_poll g i v =
      accounted_map (λ x. x) (λ x. rw (update₂_second st.channel j k rest i 0 (not_controller w)) x)
      (λ x.
      will_hold
      (keeps_put (λ l. held_after (st.held i) l ≡ some now) st.channel j k rest
      (λ y. sym (no_poll (st.held i)) ∙ (rw e at y)) 0 i x))
      (g i v)

  -- the controller takes a message that is no reply to the poll
  controller_takes : (k : ℕ) (m : Message) (rest : List Message) → Worker sys k → st.channel k 0 ≡ m ∷ rest
      → is_reply now.number.0 m ≡ false → Now
      → With st.controller.marked st.held (update₂ st.channel k 0 rest)
  controller_takes k m rest w e no_reply g i v =
      accounted_map (λ x. x)
      (keeps_put (λ l. replied now.number.0 l ≡ true) st.channel k 0 rest
      (λ x. ⊎_elim (λ y. clash y no_reply) (λ y. y) (or_cases (is_reply now.number.0 m) _ (rw e at x))) i 0)
      (λ x. will_hold (rw (update₂_first st.channel k 0 rest 0 i (not_controller w)) x))
      (g i v)

  -- worker `k` takes a poll
  reads_message : (k : ℕ) (q : Poll) (rest : List Message) → Worker sys k → st.channel 0 k ≡ poll q ∷ rest → Now
      → With st.controller.marked (update st.held k (some q)) (update₂ st.channel 0 k rest)
  reads_message k q rest w e g i v =
      accounted_map {marked = st.controller.marked} {held = st.held} {c = st.channel} (λ x. x) (λ x. rw (update₂_second st.channel 0 k rest i 0 (not_controller w)) x)
      (λ x.
      elim (ℕ_discrete i k) [
        | yes same ↦
            will_hold
            (rw (same, update_same st.held k (some q), update₂_same st.channel 0 k rest) (rw (same, e) at x))
        | no other ↦
            will_hold
            (rw (update_other st.held k (some q) i other, update₂_second st.channel 0 k rest 0 i other) x)
      ])
      (g i v)

  -- worker `k` replies to the poll that it holds
  answering : (k : ℕ) (q : Poll) → Worker sys k → st.held k ≡ some q → Now
      → With st.controller.marked (update st.held k none)
      (update₂ st.channel k 0 (st.channel k 0 ++ (reply q.number ∷ [])))
  answering k q w e g i v =
      accounted_map (λ x. x)
      (keeps_put (λ l. replied now.number.0 l ≡ true) st.channel k 0 box
      (any_of_left (is_reply now.number.0) (st.channel k 0) (reply q.number ∷ [])) i 0)
      (λ x.
      elim (ℕ_discrete i k) [
        | yes same ↦ rw same (here (rw (same, e) at x))
        | no other ↦ will_hold (rw (update_other st.held k none i other, aside i) x)
      ])
      (g i v)
    where
      box : List Message
      box = st.channel k 0 ++ (reply q.number ∷ [])

      aside : (i : ℕ) → update₂ st.channel k 0 box 0 i ≡ st.channel 0 i
      aside i = update₂_first st.channel k 0 box 0 i (not_controller w)

      here : held_after (some q) (st.channel 0 k) ≡ some now
          → Accounted now st.controller.marked (update st.held k none) (update₂ st.channel k 0 box) k
      here x =
          ⊎_elim
          (λ y.
          has_replied
          (rw (update₂_same st.channel k 0 box)
          (any_of_right (is_reply now.number.0) (st.channel k 0) (reply q.number ∷ [])
          (or_left false (eq-eqb q.number.0 now.number.0 (ap (λ (q : Poll). q.number.0) y))))))
          (λ y. will_hold (rw (update_same st.held k none, aside k) y))
          (held_from q now (st.channel 0 k) x)

  -- the controller takes worker `k`'s reply
  marking : (k : ℕ) (rest : List Message) → Worker sys k → Now
      → With (update st.controller.marked k true) st.held (update₂ st.channel k 0 rest)
  marking k rest w g i v =
      elim (ℕ_discrete i k) [
        | yes same ↦ has_mark (rw same (update_same st.controller.marked k true))
        | no other ↦
            accounted_map (λ x. update_other st.controller.marked k true i other ∙ x)
            (λ x. rw (update₂_first st.channel k 0 rest i 0 other) x)
            (λ x. will_hold (rw (update₂_first st.channel k 0 rest 0 i (not_controller w)) x)) (g i v)
      ]

  -- worker `k` broadcasts a message
  sending : (k : ℕ) (m : Message) → Worker sys k → Now
      → With st.controller.marked st.held (broadcast sys.workers k m st.channel)
  sending k m w g i v =
      accounted_map (λ x. x)
      (keeps_broadcast (λ l. replied now.number.0 l ≡ true) sys.workers k m st.channel
      (λ l. any_of_left (is_reply now.number.0) l (m ∷ [])) i 0)
      (λ x. will_hold (rw (broadcast_sender sys.workers k m st.channel 0 i (not_controller w)) x))
      (g i v)

  -- every worker will hold a new poll
  new_poll_expected : (q : Poll) (i : ℕ) → Worker sys i
      → Accounted q (λ k. false) st.held (broadcast sys.workers 0 (poll q) st.channel) i
  new_poll_expected q i v =
      will_hold
      (rw (broadcast_to sys.workers 0 (poll q) st.channel i v.within (λ x. not_controller v (sym x)))
      (held_last (st.held i) (st.channel 0 i) q))

  -- every move keeps it
  pub expected_move : {s : State} {new : List Event} → Typed sys st → Expected sys st → Moves sys st s new → Expected sys s
  unfolding next_poll current after_treat after_send after_list after_poll after_drop after_answer after_new_poll after_count after_mark
  expected_move t g (treats k a rest w e) o = g o
  expected_move t g (sends k w e) o =
      rw (counts_on st.list_counter w) (sending k (list (st.to_send k)) w (g o))
  expected_move t g (reads j k labels rest w h d e) o =
      rw (counts_on st.list_counter w) (worker_takes j k (list labels) rest w e (λ x. refl) (g o))
  expected_move t g (takes_poll j k q rest w h d e) o =
      let from_controller : j ≡ 0 = (rw e at (t.messages j k)).0.kind.0 in
      rw from_controller (reads_message k q rest w (rw from_controller at e) (g o))
  expected_move t g (ignores j k i rest w h d e) o = worker_takes j k (reply i) rest w e (λ x. refl) (g o)
  expected_move t g (answers k q w e r) o = answering k q w e (g o)
  expected_move t g (new_poll_lem e) o = new_poll_expected (next_poll st)
  expected_move t g (tallies k labels rest w e) o = absurd (false≢true o)
  expected_move t g (marks k i rest w e r) o = marking k rest w (g o)
  expected_move t g (drops k i rest w e r) o =
      controller_takes k (reply i) rest w e (not_current st i o r) (g o)
  expected_move t g (discards k q rest w e) o = controller_takes k (poll q) rest w e refl (g o)
