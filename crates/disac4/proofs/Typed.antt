-- Typed channels: which messages a channel can hold, and that every poll on its way or held is one that the controller sent.
use Prim.Native.Nat.{ℕ, suc, ◌<◌, ◌≤◌}
use mathlib.Core.Bool.{Bool, true, false, false≢true}
use mathlib.Core.List.{List, [], ◌∷◌, ◌++◌}
use mathlib.Core.Option.{Option, none, some}
use mathlib.Core.Path.{◌≡◌, refl, sym, ◌∙◌, subst}
use native.Mathlib.Nat.{le_refl}
use native.Mathlib.Omega.{arith}
use Rattle.base.proofs.Choice.{none≢some, update_other, update_each, update₂_each}
use Rattle.base.proofs.Each.{Each, each_append, each_mono}
use Rattle.base.specs.Choice.{update, update₂}
use Rattle.network.specs.Network.{Label}
use Rattle.disac4.proofs.Channels.{Channels, broadcast_each}
use Rattle.disac4.proofs.Moves.{Moves, treats, sends, reads, takes_poll, ignores, answers, new_poll_lem, tallies, marks, drops, discards}
use Rattle.disac4.specs.Action.{broadcast, next_poll, after_treat, after_send, after_list, after_poll, after_drop, after_answer, after_new_poll, after_count, after_mark}
use Rattle.disac4.specs.Event.{Event}
use Rattle.disac4.specs.Loading.{load}
use Rattle.disac4.specs.State.{State, Message, list, poll, reply}
use Rattle.disac4.specs.System.{System, Worker}
use Rattle.disac4.specs.declared.Poll.{Poll}

-- a worker is not the controller
pub not_controller : {sys : System} {k : ℕ} → Worker sys k → 0 ≡ k → ⊥
not_controller w e = omega (arith, w.above)

-- nor is its count the controller's
pub controller_count : {sys : System} (counts : ℕ → ℕ) (k n : ℕ) → Worker sys k → update counts k n 0 ≡ counts 0
controller_count counts k n w = update_other counts k n 0 (not_controller w)

-- a worker counts one list more; the controller's count stays
pub counts_on : {sys : System} (counts : ℕ → ℕ) {k : ℕ} → Worker sys k → update counts k (suc (counts k)) 0 ≡ counts 0
counts_on counts {k} w = controller_count counts k (suc (counts k)) w

-- ---- over what the controller counts: its timestamp, whether a poll is `polling`, and its count of lists

-- a poll that the controller sent: it wants no more lists than the controller has read, and exactly those if it is open
pub record Timely (timestamp : ℕ) (polling : Bool) (count : ℕ) (q : Poll) : Type 0 where
  pub bound : q.number.0 ≤ timestamp
  pub within : q.wanted.0 ≤ count
  pub wants : polling ≡ true → q.number.0 ≡ timestamp → q.wanted.0 ≡ count

-- list messages come from workers, polls from the controller, replies go to the controller
abbrev pub Kind : ℕ → Bool → ℕ → ℕ → ℕ → Message → Type 0
Kind timestamp polling count j k (list labels) = 0 < j
Kind timestamp polling count j k (poll q) = (j ≡ 0) × Timely timestamp polling count q
Kind timestamp polling count j k (reply n) = (k ≡ 0) × (n.0 ≤ timestamp)

-- a message in the channel from `j` to `k`
pub record Fits (p timestamp : ℕ) (polling : Bool) (count j k : ℕ) (m : Message) : Type 0 where
  pub sender : j ≤ p
  pub receiver : k ≤ p
  pub other : j ≡ k → ⊥
  pub kind : Kind timestamp polling count j k m

-- every message in every channel
abbrev pub Messages : ℕ → ℕ → Bool → ℕ → Channels → Type 0
Messages p timestamp polling count c = (j k : ℕ) → Each (Fits p timestamp polling count j k) (c j k)

-- every poll that is held
abbrev pub HeldPolls : ℕ → Bool → ℕ → (ℕ → Option Poll) → Type 0
HeldPolls timestamp polling count held = (k : ℕ) (q : Poll) → held k ≡ some q → Timely timestamp polling count q

-- the invariant
pub record Typed (sys : System) (st : State) : Type 0 where
  pub messages :
      Messages sys.workers st.controller.timestamp st.controller.poll_open (st.list_counter 0) st.channel
  pub polls : HeldPolls st.controller.timestamp st.controller.poll_open (st.list_counter 0) st.held

module _ (p timestamp : ℕ) (polling : Bool) (count : ℕ) where
  take_typed : (c : Channels) (j k : ℕ) (m : Message) (rest : List Message) → c j k ≡ m ∷ rest
      → Messages p timestamp polling count c → Messages p timestamp polling count (update₂ c j k rest)
  take_typed c j k m rest e h =
      update₂_each (λ j k l. Each (Fits p timestamp polling count j k) l) c j k rest (rw e at (h j k)).1 (λ j k n. h j k)

  put_typed : (c : Channels) (j k : ℕ) (m : Message) → Fits p timestamp polling count j k m
      → Messages p timestamp polling count c → Messages p timestamp polling count (update₂ c j k (c j k ++ (m ∷ [])))
  put_typed c j k m f h =
      update₂_each (λ j k l. Each (Fits p timestamp polling count j k) l) c j k (c j k ++ (m ∷ []))
      (each_append (Fits p timestamp polling count j k) (c j k) (m ∷ []) (h j k) (f, tt)) (λ j k n. h j k)

  broadcast_typed : (c : Channels) (k : ℕ) (m : Message) → k ≤ p → ((i : ℕ) → Kind timestamp polling count k i m)
      → Messages p timestamp polling count c → Messages p timestamp polling count (broadcast p k m c)
  broadcast_typed c k m b f h =
      broadcast_each (λ j i l. Each (Fits p timestamp polling count j i) l) p k m c
      (λ i w o.
      each_append (Fits p timestamp polling count k i) (c k i) (m ∷ []) (h k i)
      (record { sender = b; receiver = w; other = λ e. o (sym e); kind = f i }, tt))
      (λ j i n. h j i)

  hold_typed : (held : ℕ → Option Poll) (k : ℕ) (o : Option Poll) → ((q : Poll) → o ≡ some q → Timely timestamp polling count q)
      → HeldPolls timestamp polling count held → HeldPolls timestamp polling count (update held k o)
  hold_typed held k o new h =
      update_each (λ i o. (q : Poll) → o ≡ some q → Timely timestamp polling count q) held k o new (λ i d. h i)

  -- what the controller counts changes, and the open poll, if it is the same, wants the same count
  module _ (timestamp' : ℕ) (polling' : Bool) (count' : ℕ) (rises : timestamp ≤ timestamp') (reads_on : count ≤ count')
      (same : polling' ≡ true → timestamp ≡ timestamp' → (polling ≡ true) × (count ≡ count')) where
    timely_later : (q : Poll) → Timely timestamp polling count q → Timely timestamp' polling' count' q
    timely_later q t = record {
      bound = omega arith;
      within = omega arith;
      wants = λ o e. let s = same o (omega (arith, t.bound)) in t.wants s.0 (omega (arith, t.bound)) ∙ s.1;
    }

    kind_later : (j k : ℕ) (m : Message) → Kind timestamp polling count j k m → Kind timestamp' polling' count' j k m
    kind_later j k (list labels) h = h
    kind_later j k (poll q) h = (h.0, timely_later q h.1)
    kind_later j k (reply n) h = (h.0, omega (arith, h.1))

    -- every message and every held poll fits what the controller counts then
    later : (c : Channels) (held : ℕ → Option Poll) → Messages p timestamp polling count c → HeldPolls timestamp polling count held
        → Messages p timestamp' polling' count' c × HeldPolls timestamp' polling' count' held
    later c held h polls = (
      λ j k.
          each_mono (Fits p timestamp polling count j k) (Fits p timestamp' polling' count' j k)
          (λ m f.
          record { sender = f.sender; receiver = f.receiver; other = f.other; kind = kind_later j k m f.kind })
          (c j k) (h j k),
      λ k q e. timely_later q (polls k q e),
    )

module _ {sys : System} {st : State} (t : Typed sys st) where
  -- a channel that no message fits is empty
  no_message : (j k : ℕ) → (j ≤ sys.workers → k ≤ sys.workers → (j ≡ k → ⊥) → ⊥) → st.channel j k ≡ []
  no_message j k unfit = go (st.channel j k) (t.messages j k)
    where
      go : (l : List Message)
          → Each (Fits sys.workers st.controller.timestamp st.controller.poll_open (st.list_counter 0) j k) l
          → l ≡ []
      go [] h = refl
      go (m ∷ l) h = absurd (unfit h.0.sender h.0.receiver h.0.other)

  -- no actor has a channel to itself
  pub no_self : (k : ℕ) → st.channel k k ≡ []
  no_self k = no_message k k (λ h b d. d refl)

-- ---- every move keeps it

module _ {sys : System} {st : State} (t : Typed sys st) where
  abbrev timestamp : ℕ
  timestamp = st.controller.timestamp

  abbrev polling : Bool
  polling = st.controller.poll_open

  abbrev count : ℕ
  count = st.list_counter 0

  -- a message is taken from a channel
  taking : (j k : ℕ) (m : Message) (rest : List Message) → st.channel j k ≡ m ∷ rest
      → Messages sys.workers timestamp polling count (update₂ st.channel j k rest)
  taking j k m rest e = take_typed sys.workers timestamp polling count st.channel j k m rest e t.messages

  -- the controller's part and its count stay as they were
  uncounted : (s : State) → s.controller ≡ st.controller → s.list_counter 0 ≡ count
      → Messages sys.workers timestamp polling count s.channel → HeldPolls timestamp polling count s.held → Typed sys s
  uncounted s same kept messages polls = record { messages = rw (same, kept) messages; polls = rw (same, kept) polls }

  -- a worker replies to the poll that it holds
  answering : (k : ℕ) (q : Poll) → Worker sys k → st.held k ≡ some q → Typed sys (after_answer k q st)
  unfolding after_answer
  answering k q w e = record {
    messages =
        put_typed sys.workers timestamp polling count st.channel k 0 (reply q.number)
        (record {
          sender = w.within;
          receiver = omega arith;
          other = λ e. omega (arith, w.above);
          kind = (refl, (t.polls k q e).bound);
        })
        t.messages;
    polls = hold_typed sys.workers timestamp polling count st.held k none (λ q' x. none≢some x) t.polls;
  }

  -- the controller polls: no earlier poll has the new number
  new_poll_expected : Typed sys (after_new_poll sys st)
  unfolding next_poll after_new_poll
  new_poll_expected =
      let earlier =
      later sys.workers timestamp polling count (suc timestamp) true count (omega arith) (omega arith)
      (λ o x. absurd (omega arith)) st.channel st.held t.messages t.polls in
      record {
        messages =
            broadcast_typed sys.workers (suc timestamp) true count st.channel 0 (poll (next_poll st)) (omega arith)
            (λ i. (refl, record { bound = le_refl (suc timestamp); within = le_refl count; wants = λ o x. refl })) earlier.0;
        polls = earlier.1;
      }

  -- the controller counts a list: no poll is open after it
  counting : (k : ℕ) (labels : List Label) (rest : List Message) → st.channel k 0 ≡ list labels ∷ rest
      → Typed sys (after_count k rest st)
  unfolding after_count
  counting k labels rest e =
      let ended =
      later sys.workers timestamp polling count timestamp false (suc count) (omega arith) (omega arith)
      (λ o x. absurd (false≢true o)) (update₂ st.channel k 0 rest) st.held (taking k 0 (list labels) rest e) t.polls in
      record { messages = ended.0; polls = ended.1 }

  -- every move keeps the channels typed
  pub typed_move : {s : State} {new : List Event} → Moves sys st s new → Typed sys s
  unfolding after_treat after_send after_list after_poll after_drop after_mark
  typed_move (treats k a rest w e) = record { messages = t.messages; polls = t.polls }
  typed_move (sends k w e) =
      uncounted (after_send sys k st) refl (counts_on st.list_counter w)
      (broadcast_typed sys.workers timestamp polling count st.channel k (list (st.to_send k)) w.within (λ i. w.above)
      t.messages)
      t.polls
  typed_move (reads j k labels rest w h n e) =
      uncounted (after_list j k labels rest st) refl (counts_on st.list_counter w) (taking j k (list labels) rest e) t.polls
  typed_move (takes_poll j k q rest w h n e) = record {
    messages = taking j k (poll q) rest e;
    polls = hold_typed sys.workers timestamp polling count st.held k (some q)
        (λ q' same. subst (Timely timestamp polling count) (let z : q ≡ q' = cc in z) (rw e at (t.messages j k)).0.kind.1)
        t.polls;
  }
  typed_move (ignores j k n rest w h d e) = record { messages = taking j k (reply n) rest e; polls = t.polls }
  typed_move (answers k q w e r) = answering k q w e
  typed_move (new_poll_lem e) = new_poll_expected
  typed_move (tallies k labels rest w e) = counting k labels rest e
  typed_move (marks k n rest w e r) = record { messages = taking k 0 (reply n) rest e; polls = t.polls }
  typed_move (drops k n rest w e r) = record { messages = taking k 0 (reply n) rest e; polls = t.polls }
  typed_move (discards k q rest w e) = record { messages = taking k 0 (poll q) rest e; polls = t.polls }

-- the channels are typed at loading
pub typed_load : (sys : System) → Typed sys (load sys)
unfolding load
typed_load sys = record {
  messages = λ j k. tt;
  polls = λ k q x. none≢some x;
}
