-- Conservation: an actor's count of lists and the list messages on their way to it make up the list messages sent so far.
use Prim.Native.Nat.{ℕ, suc, ◌+◌, ◌≤◌}
use mathlib.Core.List.{List, [], ◌∷◌, ◌++◌}
use mathlib.Core.Path.{◌≡◌, refl, ◌∙◌}
use native.Mathlib.Decide.{ℕ_discrete}
use native.Mathlib.Omega.{arith}
use Rattle.base.proofs.Choice.{update_same, update_other}
use Rattle.base.proofs.Weight.{weigh, weigh_append}
use Rattle.base.specs.Choice.{update, update₂}
use Rattle.network.specs.Network.{Label}
use Rattle.disac4.proofs.ByKind.{list_message, send_event}
use Rattle.disac4.proofs.Channels.{Channels, into, into_none, into_take, into_put, into_other, into_broadcast, into_broadcast_self}
use Rattle.disac4.proofs.Moves.{Moves, treats, sends, reads, takes_poll, ignores, answers, new_poll_lem, tallies, marks, drops, discards}
use Rattle.disac4.specs.Action.{broadcast, after_treat, after_send, after_list, after_poll, after_drop, after_answer, after_new_poll, after_count, after_mark}
use Rattle.disac4.specs.Event.{Event}
use Rattle.disac4.specs.Loading.{load}
use Rattle.disac4.specs.State.{State, Message, list, poll, reply}
use Rattle.disac4.specs.System.{System}

-- every actor has read or sent, or has on its way to it, each of the list messages sent so far
abbrev pub Conserved : System → State → List Event → Type 0
Conserved sys st es =
    (i : ℕ) → i ≤ sys.workers → st.list_counter i + into list_message sys.workers st.channel i ≡ weigh send_event es

-- actor `k` takes or broadcasts a message: its count goes up exactly by the list messages among them
module _ (p : ℕ) (count count' : ℕ → ℕ) (c : Channels) (k : ℕ) (m : Message)
    (counts : count' k ≡ count k + list_message m) (others : (i : ℕ) → (i ≡ k → ⊥) → count' i ≡ count i) where
  take_conserves : (j : ℕ) (rest : List Message) → j ≤ p → c j k ≡ m ∷ rest → (i : ℕ)
      → count' i + into list_message p (update₂ c j k rest) i ≡ count i + into list_message p c i + 0
  take_conserves j rest h e i =
      elim (ℕ_discrete i k) [
        | yes same ↦ rw same (omega (arith, counts, into_take list_message p c j k m rest h e))
        | no other ↦ omega (arith, others i other, into_other list_message p c j k rest i other)
      ]

  broadcast_conserves : k ≤ p → (i : ℕ) → i ≤ p
      → count' i + into list_message p (broadcast p k m c) i ≡ count i + into list_message p c i + list_message m
  broadcast_conserves h i b =
      elim (ℕ_discrete i k) [
        | yes same ↦ rw same (omega (arith, counts, into_broadcast_self list_message p c k m))
        | no other ↦ omega (arith, others i other, into_broadcast list_message p c k m i h b other)
      ]

module _ (sys : System) (st : State) (i : ℕ) (b : i ≤ sys.workers) where
  -- actor `i` then has these counts and channels, after `n` more list messages were sent
  abbrev Conserves : (ℕ → ℕ) → Channels → ℕ → Type 0
  Conserves count channel n =
      count i + into list_message sys.workers channel i ≡ st.list_counter i + into list_message sys.workers st.channel i + n

  abbrev counted : ℕ → ℕ → ℕ
  counted k = update st.list_counter k (suc (st.list_counter k))

  counts_one : (k : ℕ) → counted k k ≡ st.list_counter k + 1
  counts_one k = update_same st.list_counter k (suc (st.list_counter k)) ∙ omega arith

  counts_others : (k j : ℕ) → (j ≡ k → ⊥) → counted k j ≡ st.list_counter j
  counts_others k = update_other st.list_counter k (suc (st.list_counter k))

  -- a list message is read and counted
  reading : (j k : ℕ) (labels : List Label) (rest : List Message) → j ≤ sys.workers
      → st.channel j k ≡ list labels ∷ rest → Conserves (counted k) (update₂ st.channel j k rest) 0
  reading j k labels rest h e =
      take_conserves sys.workers st.list_counter (counted k) st.channel k (list labels)
      (counts_one k) (counts_others k) j rest h e i

  -- another message is read
  passing : (j k : ℕ) (m : Message) (rest : List Message) → j ≤ sys.workers → st.channel j k ≡ m ∷ rest
      → list_message m ≡ 0 → Conserves st.list_counter (update₂ st.channel j k rest) 0
  passing j k m rest h e o =
      take_conserves sys.workers st.list_counter st.list_counter st.channel k m
      (omega arith) (λ n d. refl) j rest h e i

  -- only a send adds a list message to what an actor has counted or has on its way to it
  conserves : {s : State} {new : List Event} → Moves sys st s new
      → Conserves s.list_counter s.channel (weigh send_event new)
  unfolding after_treat after_send after_list after_poll after_drop after_answer after_new_poll after_count after_mark
  conserves (treats k a rest w e) = omega arith
  conserves (sends k w e) =
      broadcast_conserves sys.workers st.list_counter (counted k) st.channel k (list (st.to_send k))
      (counts_one k) (counts_others k) w.within i b
  conserves (reads j k labels rest w h n e) = reading j k labels rest h e
  conserves (takes_poll j k q rest w h n e) = passing j k (poll q) rest h e refl
  conserves (ignores j k n rest w h d e) = passing j k (reply n) rest h e refl
  conserves (answers k q w e r) =
      elim (ℕ_discrete i 0) [
        | yes same ↦
            rw same (omega (arith, into_put list_message sys.workers st.channel k 0 (reply q.number) w.within))
        | no other ↦
            omega (arith, into_other list_message sys.workers st.channel k 0 (st.channel k 0 ++ (reply q.number ∷ [])) i other)
      ]
  conserves (new_poll_lem e) =
      broadcast_conserves sys.workers st.list_counter st.list_counter st.channel 0 _
      (omega arith) (λ n d. refl) (omega arith) i b
  conserves (tallies k labels rest w e) = reading k 0 labels rest w.within e
  conserves (marks k n rest w e r) = passing k 0 (reply n) rest w.within e refl
  conserves (drops k n rest w e r) = passing k 0 (reply n) rest w.within e refl
  conserves (discards k q rest w e) = passing k 0 (poll q) rest w.within e refl

-- every move keeps conservation
pub conserved_move : {sys : System} {st s : State} (es : List Event) {new : List Event} → Moves sys st s new
    → Conserved sys st es → Conserved sys s (es ++ new)
conserved_move {sys} {st} es {new} move h i b =
    omega (arith, conserves sys st i b move, h i b, weigh_append send_event es new)

-- conservation holds at loading
pub conserved_load : (sys : System) → Conserved sys (load sys) []
unfolding load
conserved_load sys i b = omega (arith, into_none list_message sys.workers i)
