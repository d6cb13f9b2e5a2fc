-- How many polls and replies are on their way between the controller and a worker: at most the polls sent.
use Prim.Native.Nat.{ℕ, ◌+◌, ◌≤◌}
use mathlib.Core.List.{List, [], ◌∷◌, ◌++◌}
use mathlib.Core.Option.{Option, none, some}
use mathlib.Core.Path.{◌≡◌, refl, sym, ap}
use native.Mathlib.Decide.{ℕ_discrete}
use native.Mathlib.Omega.{arith}
use Rattle.base.proofs.Choice.{update_same, update_other, update₂_same, update₂_first, update₂_second, update₂_each}
use Rattle.base.proofs.Weight.{weigh, weigh_append}
use Rattle.base.specs.Below.{one}
use Rattle.base.specs.Choice.{update₂}
use Rattle.disac4.proofs.ByKind.{poll_message, reply_message}
use Rattle.disac4.proofs.Channels.{Channels, broadcast_to, broadcast_self, broadcast_each}
use Rattle.disac4.proofs.Moves.{Moves, treats, sends, reads, takes_poll, ignores, answers, new_poll_lem, tallies, marks, drops, discards, kept}
use Rattle.disac4.proofs.RunNumbers.{timestamp_of_run}
use Rattle.disac4.proofs.Typed.{Typed, typed_move, typed_load, not_controller}
use Rattle.disac4.specs.Action.{broadcast, next_poll, after_treat, after_send, after_list, after_poll, after_drop, after_answer, after_new_poll, after_count, after_mark}
use Rattle.disac4.specs.Event.{Event}
use Rattle.disac4.specs.Fold.{is_some}
use Rattle.disac4.specs.Loading.{load}
use Rattle.disac4.specs.Report.{is_poll}
use Rattle.disac4.specs.State.{State, Message, list, poll, reply}
use Rattle.disac4.specs.System.{System, Worker, Sound}
use Rattle.disac4.specs.Turn.{Turn, play, changes_where}
use Rattle.disac4.specs.declared.Poll.{Poll}

-- the polls on their way to worker `i`, the one that it holds, and its replies on their way
abbrev pub answerable : State → ℕ → ℕ
answerable st i = weigh poll_message (st.channel 0 i) + one (is_some (st.held i)) + weigh reply_message (st.channel i 0)

-- taking a message adds to no channel
take_falls : (w : Message → ℕ) (c : Channels) (j k : ℕ) (m : Message) (rest : List Message) → c j k ≡ m ∷ rest → (h i : ℕ)
    → weigh w (update₂ c j k rest h i) ≤ weigh w (c h i)
take_falls w c j k m rest e =
    update₂_each (λ h i l. weigh w l ≤ weigh w (c h i)) c j k rest (omega (arith, ap (weigh w) e)) (λ h i n. omega arith)

-- a message without weight adds to no channel
broadcast_same : (w : Message → ℕ) (p k : ℕ) (m : Message) (c : Channels) → w m ≡ 0 → (h i : ℕ)
    → weigh w (broadcast p k m c h i) ≡ weigh w (c h i)
broadcast_same w p k m c z =
    broadcast_each (λ h i l. weigh w l ≡ weigh w (c h i)) p k m c
    (λ i b n. omega (arith, weigh_append w (c k i) (m ∷ []))) (λ h i n. refl)

module _ (sys : System) (st : State) (i : ℕ) (v : Worker sys i) where
  abbrev Bounded : State → Type 0
  Bounded s = answerable s i + st.controller.timestamp ≤ answerable st i + s.controller.timestamp

  -- a message is taken, and nothing else changes
  taking : (j k : ℕ) (m : Message) (rest : List Message) → st.channel j k ≡ m ∷ rest
      → weigh poll_message (update₂ st.channel j k rest 0 i) + weigh reply_message (update₂ st.channel j k rest i 0)
      ≤ weigh poll_message (st.channel 0 i) + weigh reply_message (st.channel i 0)
  taking j k m rest e =
      omega (
        arith,
        take_falls poll_message st.channel j k m rest e 0 i,
        take_falls reply_message st.channel j k m rest e i 0,
      )

  -- worker `k` takes a poll and holds it
  reads_message : (k : ℕ) (q : Poll) (rest : List Message) → Worker sys k → st.channel 0 k ≡ poll q ∷ rest
      → Bounded (after_poll 0 k q rest st)
  unfolding after_poll
  reads_message k q rest w e =
      elim (ℕ_discrete i k) [
        | yes same ↦
            rw same
            (omega (
              arith,
              ap (weigh poll_message) e,
              ap (weigh poll_message) (update₂_same st.channel 0 k rest),
              ap (λ (o : Option Poll). one (is_some o)) (update_same st.held k (some q)),
              ap (weigh reply_message) (update₂_second st.channel 0 k rest k 0 (not_controller w)),
            ))
        | no other ↦
            omega (
              arith,
              taking 0 k (poll q) rest e,
              ap (λ (o : Option Poll). one (is_some o)) (update_other st.held k (some q) i other),
            )
      ]

  -- worker `k` answers the poll that it holds
  answering : (k : ℕ) (q : Poll) → Worker sys k → st.held k ≡ some q → Bounded (after_answer k q st)
  unfolding after_answer
  answering k q w e =
      let box : List Message = st.channel k 0 ++ (reply q.number ∷ []) in
      elim (ℕ_discrete i k) [
        | yes same ↦
            rw same
            (omega (
              arith,
              ap (weigh poll_message) (update₂_first st.channel k 0 box 0 k (not_controller w)),
              ap (λ (o : Option Poll). one (is_some o)) e,
              ap (λ (o : Option Poll). one (is_some o)) (update_same st.held k none),
              ap (weigh reply_message) (update₂_same st.channel k 0 box),
              weigh_append reply_message (st.channel k 0) (reply q.number ∷ []),
            ))
        | no other ↦
            omega (
              arith,
              ap (weigh poll_message) (update₂_first st.channel k 0 box 0 i (not_controller w)),
              ap (λ (o : Option Poll). one (is_some o)) (update_other st.held k none i other),
              ap (weigh reply_message) (update₂_first st.channel k 0 box i 0 other),
            )
      ]

  -- the controller sends a poll
  new_poll_expected : Bounded (after_new_poll sys st)
  unfolding after_new_poll
  new_poll_expected =
      let q : Message = poll (next_poll st) in
      omega (
        arith,
        ap (weigh poll_message) (broadcast_to sys.workers 0 q st.channel i v.within (λ x. not_controller v (sym x))),
        weigh_append poll_message (st.channel 0 i) (q ∷ []),
        ap (weigh reply_message) (broadcast_self sys.workers 0 q st.channel i),
      )

  -- a move adds to them only with a new poll
  answerable_move : {s : State} {new : List Event} → Typed sys st → Moves sys st s new → Bounded s
  unfolding after_treat after_send after_list after_poll after_drop after_answer after_new_poll after_count after_mark
  answerable_move t (treats k a rest w e) = omega arith
  answerable_move t (sends k w e) =
      omega (
        arith,
        broadcast_same poll_message sys.workers k (list (st.to_send k)) st.channel refl 0 i,
        broadcast_same reply_message sys.workers k (list (st.to_send k)) st.channel refl i 0,
      )
  answerable_move t (reads j k labels rest w b n e) = omega (arith, taking j k (list labels) rest e)
  answerable_move t (takes_poll j k q rest w b n e) =
      let from_controller : j ≡ 0 = (rw e at (t.messages j k)).0.kind.0 in
      rw from_controller (reads_message k q rest w (rw from_controller at e))
  answerable_move t (ignores j k m rest w b n e) = omega (arith, taking j k (reply m) rest e)
  answerable_move t (answers k q w e r) = answering k q w e
  answerable_move t (new_poll_lem e) = new_poll_expected
  answerable_move t (tallies k labels rest w e) = omega (arith, taking k 0 (list labels) rest e)
  answerable_move t (marks k m rest w e c) = omega (arith, taking k 0 (reply m) rest e)
  answerable_move t (drops k m rest w e c) = omega (arith, taking k 0 (reply m) rest e)
  answerable_move t (discards k q rest w e) = omega (arith, taking k 0 (poll q) rest e)

-- the polls on their way to a worker, the one that it holds and its replies on their way are at most the polls sent
pub answerable_bound : {sys : System} → Sound sys → (ts : List Turn) (k : ℕ) → Worker sys k
    → answerable (play sys (load sys) ts) k ≤ changes_where sys is_poll (load sys) ts
answerable_bound {sys} sound ts k w =
    omega (
      arith,
      timestamp_of_run sound ts,
      (kept sys sound.few (λ st es. Typed sys st × (answerable st k ≤ st.controller.timestamp))
          (λ st es s new o h move. (typed_move h.0 move, omega (arith, h.1, answerable_move sys st k w h.0 move)))
          ts (load sys) (typed_load sys, (unfold load in omega arith))).1,
    )
