-- How long a worker's lists get: never longer than the loaded labels, as no label comes to a worker twice.
use Prim.Native.Nat.{ℕ, ◌+◌, ◌≤◌}
use mathlib.Core.List.{List, [], ◌∷◌, ◌++◌}
use mathlib.Core.Path.{◌≡◌, sym, ap}
use native.Mathlib.Decide.{ℕ_discrete}
use native.Mathlib.Omega.{arith}
use lib.ListN.{length, length-append}
use Rattle.base.proofs.Choice.{update_same, update_other}
use Rattle.network.specs.Network.{Label, label_count}
use Rattle.disac4.proofs.Channels.{into, into_none, into_take, into_other, into_falls, into_broadcast, into_broadcast_self}
use Rattle.disac4.proofs.Moves.{Moves, treats, sends, reads, takes_poll, ignores, answers, new_poll_lem, tallies, marks, drops, discards, kept}
use Rattle.disac4.proofs.SendBound.{sendable, treat_sendable, send_sendable, load_sendable, sendable_part, sends_and_sendable}
use Rattle.disac4.proofs.Typed.{not_controller}
use Rattle.disac4.specs.Action.{deletions, next_poll, after_treat, after_send, after_list, after_poll, after_drop, after_answer, after_new_poll, after_count, after_mark}
use Rattle.disac4.specs.Event.{Event}
use Rattle.disac4.specs.Loading.{load}
use Rattle.disac4.specs.State.{State, Message, list, poll, reply}
use Rattle.disac4.specs.System.{System, Worker, Sound}
use Rattle.disac4.specs.Turn.{Turn, play}

-- how many labels a message carries
abbrev pub labels_in : Message → ℕ
labels_in (list labels) = length labels
labels_in (poll q) = 0
labels_in (reply n) = 0

module _ (sys : System) where
  abbrev p : ℕ
  p = sys.workers

  -- the labels that worker `i` has to treat, has on their way to it, or may still be sent by others
  abbrev coming : State → ℕ → ℕ
  coming st i = length (st.work_list i) + into labels_in p st.channel i + sendable sys st

  -- what a worker that treats deletes comes to its own lists alone
  coming_treat : (st : State) (i k : ℕ) → Worker sys k → (a : Label) (rest : List Label) → st.work_list k ≡ a ∷ rest
      → coming (after_treat sys k a rest st) i + length (st.to_send i)
      ≤ coming st i + length ((after_treat sys k a rest st).to_send i)
  unfolding sendable after_treat
  coming_treat st i k w a rest e =
      let new : List Label = deletions sys k a st in
      elim (ℕ_discrete i k) [
        | yes same ↦
            rw same
            (omega (
              arith,
              treat_sendable sys st k w a rest,
              ap length e,
              length-append rest new,
              length-append (st.to_send k) new,
              ap length (update_same st.work_list k (rest ++ new)),
              ap length (update_same st.to_send k (st.to_send k ++ new)),
            ))
        | no other ↦
            omega (
              arith,
              treat_sendable sys st k w a rest,
              ap length (update_other st.work_list k (rest ++ new) i other),
              ap length (update_other st.to_send k (st.to_send k ++ new) i other),
            )
      ]

  -- what a worker sends was unsent, and is on its way to the others
  coming_send : (st : State) (i k : ℕ) → Worker sys i → Worker sys k
      → coming (after_send sys k st) i + length (st.to_send i) ≤ coming st i + length ((after_send sys k st).to_send i)
  unfolding sendable after_send
  coming_send st i k v w =
      elim (ℕ_discrete i k) [
        | yes same ↦
            rw same
            (omega (
              arith,
              send_sendable sys st k w,
              into_broadcast_self labels_in p st.channel k (list (st.to_send k)),
            ))
        | no other ↦
            omega (
              arith,
              send_sendable sys st k w,
              into_broadcast labels_in p st.channel k (list (st.to_send k)) i w.within v.within other,
              ap length (update_other st.to_send k [] i other),
            )
      ]

  -- what a worker reads goes from its channel to its work list
  coming_read : (st : State) (i j k : ℕ) (labels : List Label) (rest : List Message) → j ≤ p
      → st.channel j k ≡ list labels ∷ rest
      → coming (after_list j k labels rest st) i + length (st.to_send i)
      ≤ coming st i + length ((after_list j k labels rest st).to_send i)
  unfolding sendable after_list
  coming_read st i j k labels rest h e =
      elim (ℕ_discrete i k) [
        | yes same ↦
            rw same
            (omega (
              arith,
              into_take labels_in p st.channel j k (list labels) rest h e,
              length-append (st.work_list k) labels,
              ap length (update_same st.work_list k (st.work_list k ++ labels)),
            ))
        | no other ↦
            omega (
              arith,
              into_other labels_in p st.channel j k rest i other,
              ap length (update_other st.work_list k (st.work_list k ++ labels) i other),
            )
      ]

  -- one more worker's move leaves no more labels to come, but for what it adds to its own to-send list
  coming_move : {st s : State} {new : List Event} (i : ℕ) → Worker sys i → Moves sys st s new
      → coming s i + length (st.to_send i) ≤ coming st i + length (s.to_send i)
  unfolding sendable after_poll after_drop after_answer after_new_poll after_count after_mark
  coming_move {st} i v (treats k a rest w e) = coming_treat st i k w a rest e
  coming_move {st} i v (sends k w e) = coming_send st i k v w
  coming_move {st} i v (reads j k labels rest w h n e) = coming_read st i j k labels rest h e
  coming_move {st} i v (takes_poll j k q rest w h n e) = omega (arith, into_falls labels_in p st.channel j k (poll q) rest h e i)
  coming_move {st} i v (ignores j k n rest w h d e) = omega (arith, into_falls labels_in p st.channel j k (reply n) rest h e i)
  coming_move {st} i v (answers k q w e r) =
      omega (
        arith,
        into_other labels_in p st.channel k 0 (st.channel k 0 ++ (reply q.number ∷ [])) i (λ x. not_controller v (sym x)),
      )
  coming_move {st} i v (new_poll_lem e) =
      omega (
        arith,
        into_broadcast labels_in p st.channel 0 (poll (next_poll st)) i
            (omega arith) v.within (λ x. not_controller v (sym x)),
      )
  coming_move {st} i v (tallies k labels rest w e) =
      omega (arith, into_falls labels_in p st.channel k 0 (list labels) rest w.within e i)
  coming_move {st} i v (marks k n rest w e c) =
      omega (arith, into_falls labels_in p st.channel k 0 (reply n) rest w.within e i)
  coming_move {st} i v (drops k n rest w e c) =
      omega (arith, into_falls labels_in p st.channel k 0 (reply n) rest w.within e i)
  coming_move {st} i v (discards k q rest w e) =
      omega (arith, into_falls labels_in p st.channel k 0 (poll q) rest w.within e i)

  -- at loading only the labels of others are to come besides its own
  coming_load : Sound sys → (i : ℕ) → coming (load sys) i ≤ label_count sys.net + length ((load sys).to_send i)
  unfolding load
  coming_load sound i = omega (arith, load_sendable sys sound, into_none labels_in p i)

-- the labels that a worker has to treat, and those on their way to it, are at most the loaded labels
pub work_bound : {sys : System} → Sound sys → (ts : List Turn) (k : ℕ) → Worker sys k
    → length ((play sys (load sys) ts).work_list k) + into labels_in sys.workers (play sys (load sys) ts).channel k
    ≤ label_count sys.net
work_bound {sys} sound ts k w =
    omega (
      arith,
      kept sys sound.few (λ st es. coming sys st k ≤ label_count sys.net + length (st.to_send k))
          (λ st es s new o h move. omega (arith, coming_move sys k w move))
          ts (load sys) (coming_load sys sound k),
      sendable_part sys (play sys (load sys) ts) k w,
    )

-- so are the labels that it has to send
pub to_send_bound : {sys : System} → Sound sys → (ts : List Turn) (k : ℕ) → Worker sys k
    → length ((play sys (load sys) ts).to_send k) ≤ label_count sys.net
to_send_bound {sys} sound ts k w =
    omega (arith, sends_and_sendable sound ts, sendable_part sys (play sys (load sys) ts) k w)
