-- How long the queues of a run get, by the number L of the loaded labels: the workers' lists and every channel.
use Prim.Native.Nat.{ℕ, suc, ◌+◌, ◌*◌, ◌<◌, ◌≤◌}
use mathlib.Core.List.{List, [], ◌∷◌}
use mathlib.Core.Path.{◌≡◌, refl}
use native.Mathlib.Omega.{arith}
use lib.ListN.{length}
use Rattle.base.proofs.Each.{each_mono}
use Rattle.base.proofs.Sums.{sum_part}
use Rattle.base.proofs.Weight.{weigh, weigh_zero}
use Rattle.network.specs.Network.{label_count}
use Rattle.disac4.proofs.Answerable.{answerable_bound}
use Rattle.disac4.proofs.ByKind.{list_message, poll_message, reply_message}
use Rattle.disac4.proofs.PollBound.{polls_bound}
use Rattle.disac4.proofs.RunNumbers.{lists_of_run}
use Rattle.disac4.proofs.Safety.{safe_run}
use Rattle.disac4.proofs.SendBound.{sends_bound}
use Rattle.disac4.proofs.Typed.{Kind, Fits, Typed}
use Rattle.disac4.proofs.WorkBound.{work_bound, to_send_bound}
use Rattle.disac4.specs.Loading.{load}
use Rattle.disac4.specs.State.{State, Message, list, poll, reply}
use Rattle.disac4.specs.System.{System, Worker, Sound}
use Rattle.disac4.specs.Turn.{Turn, play}

-- the lengths, for a number of labels
pub record QueueLengths (sys : System) (st : State) (labels : ℕ) : Type 0 where
  -- what a worker has to treat, and to send
  pub work : (k : ℕ) → Worker sys k → length (st.work_list k) ≤ labels
  pub to_send_lem : (k : ℕ) → Worker sys k → length (st.to_send k) ≤ labels
  -- messages from one worker to another
  pub between_workers : (j k : ℕ) → Worker sys j → Worker sys k → length (st.channel j k) ≤ labels
  -- messages from the controller to a worker
  pub to_worker : (k : ℕ) → Worker sys k → length (st.channel 0 k) ≤ labels + 1
  -- messages from a worker to the controller
  pub to_controller : (k : ℕ) → Worker sys k → length (st.channel k 0) ≤ 2 * labels + 1

-- every message is a list, a poll or a reply
by_kind : (l : List Message) → length l ≡ weigh list_message l + weigh poll_message l + weigh reply_message l
by_kind [] = refl
by_kind (list labels ∷ l) = omega (arith, by_kind l)
by_kind (poll q ∷ l) = omega (arith, by_kind l)
by_kind (reply n ∷ l) = omega (arith, by_kind l)

module _ {sys : System} {st : State} (t : Typed sys st) (j k : ℕ) where
  abbrev Sent : Message → Type 0
  Sent = Kind st.controller.timestamp st.controller.poll_open (st.list_counter 0) j k

  -- a channel weighs nothing where no message that it can hold does
  weightless : (w : Message → ℕ) → ((m : Message) → Sent m → w m ≡ 0) → weigh w (st.channel j k) ≡ 0
  weightless w f =
      weigh_zero w (st.channel j k)
      (each_mono (Fits sys.workers st.controller.timestamp st.controller.poll_open (st.list_counter 0) j k)
      (λ m. w m ≡ 0) (λ m h. f m h.kind) (st.channel j k) (t.messages j k))

  -- the controller sends no lists
  no_lists : j ≡ 0 → weigh list_message (st.channel j k) ≡ 0
  no_lists e = weightless list_message go
    where
      go : (m : Message) → Sent m → list_message m ≡ 0
      go (list labels) h = absurd (omega arith)
      go (poll q) h = refl
      go (reply n) h = refl

  -- a worker sends no polls
  no_polls : 0 < j → weigh poll_message (st.channel j k) ≡ 0
  no_polls a = weightless poll_message go
    where
      go : (m : Message) → Sent m → poll_message m ≡ 0
      go (list labels) h = refl
      go (poll q) h = absurd (omega (arith, h.0))
      go (reply n) h = refl

  -- a worker is sent no replies
  no_replies : 0 < k → weigh reply_message (st.channel j k) ≡ 0
  no_replies a = weightless reply_message go
    where
      go : (m : Message) → Sent m → reply_message m ≡ 0
      go (list labels) h = refl
      go (poll q) h = refl
      go (reply n) h = absurd (omega (arith, h.0))

module _ {sys : System} (sound : Sound sys) (ts : List Turn) where
  abbrev now : State
  now = play sys (load sys) ts

  -- a channel has at most as many list messages as were sent
  lists_bound : (j k : ℕ) → j ≤ sys.workers → k ≤ sys.workers → weigh list_message (now.channel j k) ≤ label_count sys.net
  lists_bound j k h b =
      omega (
        arith,
        lists_of_run sound ts k b,
        sends_bound sound ts,
        sum_part (suc sys.workers) (λ i. weigh list_message (now.channel i k)) j (omega arith),
      )

  -- the queues of a run are no longer than these
  pub queue_lengths : QueueLengths sys (play sys (load sys) ts) (label_count sys.net)
  queue_lengths =
      let t : Typed sys now = (safe_run sound ts).typed in
      record {
        work = λ k w. omega (arith, work_bound sound ts k w);
        to_send_lem = to_send_bound sound ts;
        between_workers = λ j k v w. omega (
          arith,
          by_kind (now.channel j k),
          lists_bound j k v.within w.within,
          no_polls t j k v.above,
          no_replies t j k w.above,
        );
        to_worker = λ k w. omega (
          arith,
          by_kind (now.channel 0 k),
          no_lists t 0 k refl,
          no_replies t 0 k w.above,
          answerable_bound sound ts k w,
          polls_bound sound ts,
        );
        to_controller = λ k w. omega (
          arith,
          by_kind (now.channel k 0),
          lists_bound k 0 w.within (omega arith),
          no_polls t k 0 w.above,
          answerable_bound sound ts k w,
          polls_bound sound ts,
        );
      }

-- with more labels they may be longer
pub queues_within : {sys : System} {st : State} {labels most : ℕ} → labels ≤ most → QueueLengths sys st labels
    → QueueLengths sys st most
queues_within h q = record {
  work = λ k w. omega (arith, q.work k w);
  to_send_lem = λ k w. omega (arith, q.to_send_lem k w);
  between_workers = λ j k v w. omega (arith, q.between_workers j k v w);
  to_worker = λ k w. omega (arith, q.to_worker k w);
  to_controller = λ k w. omega (arith, q.to_controller k w);
}
