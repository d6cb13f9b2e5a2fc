-- A number of the state that every turn lowers unless it is idle. It bounds how many turns of a run change something.
use Prim.Native.Nat.{ℕ, suc, ◌+◌, ◌*◌, ◌<◌, ◌≤◌}
use mathlib.Core.Bool.{false, cond, ◌&&◌, not, true≢false}
use mathlib.Core.List.{List, [], ◌∷◌, ◌++◌}
use mathlib.Core.Option.{none, some}
use mathlib.Core.Path.{◌≡◌, refl, ap}
use native.Mathlib.Nat.{mul-add, add-mul, mul_assoc}
use native.Mathlib.Omega.{arith}
use lib.ListN.{length, length-append}
use Rattle.base.specs.Below.{one}
use Rattle.base.specs.Choice.{update, update₂}
use Rattle.network.specs.Network.{Label, domain_size}
use Rattle.disac4.proofs.Channels.{Channels, into, into_take, into_put, into_other, into_broadcast, into_broadcast_self}
use Rattle.disac4.proofs.DomainSize.{treat_size}
use Rattle.disac4.proofs.Moves.{Moves, treats, sends, reads, takes_poll, ignores, answers, new_poll_lem, tallies, marks, drops, discards}
use Rattle.disac4.proofs.Workers.{over_workers, over_update, over_append, to_workers, workers_take, workers_apart, workers_broadcast, workers_poll}
use Rattle.disac4.specs.Action.{is_empty, deletes, deletions, after_treat, after_send, after_list, after_poll, after_drop, after_answer, next_poll, after_new_poll, after_count, after_mark}
use Rattle.disac4.specs.Event.{Event}
use Rattle.disac4.specs.Fold.{is_some}
use Rattle.disac4.specs.State.{State, Message, list, poll, reply}
use Rattle.disac4.specs.System.{System, Worker}
use Rattle.disac4.specs.declared.Poll.{Poll}

-- what a message to a worker weighs
abbrev pub worker_weight : Message → ℕ
worker_weight (list labels) = 1 + length labels
worker_weight (poll q) = 3
worker_weight (reply n) = 1

-- what a message to the controller weighs
abbrev pub controller_weight : ℕ → Message → ℕ
controller_weight p (list labels) = 3 * p + 2
controller_weight p (poll q) = 1
controller_weight p (reply n) = 1

-- all messages, to workers and to the controller
abbrev pub traffic : ℕ → Channels → ℕ
traffic p c = to_workers p worker_weight c + into (controller_weight p) p c 0

-- labels to treat; polls held; messages; labels to send; labels in the domains; a poll that may be opened
unfoldable pub potential : System → State → ℕ
potential sys st =
    over_workers sys.workers (λ k. length (st.work_list k))
    + 2 * over_workers sys.workers (λ k. one (is_some (st.held k)))
    + traffic sys.workers st.channel
    + (5 * sys.workers + 1) * over_workers sys.workers (λ k. length (st.to_send k))
    + (5 * sys.workers + 2) * domain_size sys.net st.domain
    + cond st.controller.poll_open 0 (3 * sys.workers + 1)

-- ---- products multiplied out

-- `n` labels go from the domains to the labels to send
moved : (p o d n : ℕ) → (5 * p + 1) * (o + n) + (5 * p + 2) * d + n ≡ (5 * p + 1) * o + (5 * p + 2) * (d + n)
moved p o d n =
    omega (
      arith,
      mul-add (5 * p + 1) o n,
      mul-add (5 * p + 2) d n,
      add-mul (5 * p) 1 n,
      add-mul (5 * p) 2 n,
    )

-- a list of one label or more weighs less as a message to all others than on the list of labels to send
broadcast_less : (p o n : ℕ) → (5 * p + 1) * o + p * (1 + suc n) + 3 * p + 2 < (5 * p + 1) * (o + suc n) + (1 + suc n)
broadcast_less p o n =
    omega (
      arith,
      mul-add (5 * p + 1) o (suc n),
      add-mul (5 * p) 1 (suc n),
      mul_assoc 5 p (suc n),
      mul-add p 1 n,
      mul-add p 2 n,
    )

-- ---- the cases

module _ (sys : System) (st : State) where
  abbrev p : ℕ
  p = sys.workers

  abbrev Falls : State → Type 0
  Falls s = potential sys s < potential sys st

  treat_falls : (k : ℕ) (a : Label) (rest : List Label) → Worker sys k → st.work_list k ≡ a ∷ rest
      → Falls (after_treat sys k a rest st)
  unfolding potential after_treat
  treat_falls k a rest w e =
      let new : List Label = deletions sys k a st in
      omega (
        arith,
        ap length e,
        length-append rest new,
        over_update p length st.work_list k (rest ++ new) w.above w.within,
        ap (λ x. (5 * p + 1) * x) (over_append p st.to_send k new w.above w.within),
        ap (λ x. (5 * p + 2) * x) (treat_size sys k a st),
        moved p (over_workers p (λ j. length (st.to_send j)))
            (domain_size sys.net (λ x v. st.domain x v && not (deletes sys k a st x v)))
            (length new),
      )

  send_falls : (k : ℕ) → Worker sys k → (l : List Label) → st.to_send k ≡ l → is_empty l ≡ false → Falls (after_send sys k st)
  unfolding potential after_send
  send_falls k w [] e n = absurd (true≢false n)
  send_falls k w (a ∷ l) e n =
      let unsent : ℕ = over_workers p (λ j. length (update st.to_send k [] j)) in
      let emptied : over_workers p (λ j. length (st.to_send j)) ≡ unsent + suc (length l) =
      omega (arith, ap length e, over_update p length st.to_send k [] w.above w.within) in
      omega (
        arith,
        ap length e,
        workers_broadcast p worker_weight st.channel k (list (st.to_send k)) w.above w.within,
        ap (λ x. p * (1 + length x)) e,
        into_broadcast (controller_weight p) p st.channel k (list (st.to_send k)) 0 w.within (omega arith) (λ q. omega arith),
        ap (λ x. (5 * p + 1) * x) emptied,
        broadcast_less p unsent (length l),
      )

  -- a worker takes the oldest message from `j`
  worker_takes : (j k : ℕ) (m : Message) (rest : List Message) → Worker sys k → j ≤ p → st.channel j k ≡ m ∷ rest
      → traffic p (update₂ st.channel j k rest) + worker_weight m ≡ traffic p st.channel
  worker_takes j k m rest w h e =
      omega (
        arith,
        workers_take p worker_weight st.channel j k m rest w.above w.within h e,
        into_other (controller_weight p) p st.channel j k rest 0 (λ q. omega arith),
      )

  -- the controller takes the oldest message from `k`
  controller_takes : (k : ℕ) (m : Message) (rest : List Message) → Worker sys k → st.channel k 0 ≡ m ∷ rest
      → traffic p (update₂ st.channel k 0 rest) + controller_weight p m ≡ traffic p st.channel
  controller_takes k m rest w e =
      omega (
        arith,
        workers_apart p worker_weight st.channel k rest,
        into_take (controller_weight p) p st.channel k 0 m rest w.within e,
      )

  list_falls : (j k : ℕ) (labels : List Label) (rest : List Message) → Worker sys k → j ≤ p
      → st.channel j k ≡ list labels ∷ rest → Falls (after_list j k labels rest st)
  unfolding potential after_list
  list_falls j k labels rest w h e =
      omega (
        arith,
        over_append p st.work_list k labels w.above w.within,
        worker_takes j k (list labels) rest w h e,
      )

  poll_falls : (j k : ℕ) (q : Poll) (rest : List Message) → Worker sys k → j ≤ p
      → st.channel j k ≡ poll q ∷ rest → Falls (after_poll j k q rest st)
  unfolding potential after_poll
  poll_falls j k q rest w h e =
      omega (
        arith,
        over_update p (λ o. one (is_some o)) st.held k (some q) w.above w.within,
        worker_takes j k (poll q) rest w h e,
      )

  -- a message of weight 1 is dropped
  drop_falls : (j k : ℕ) (rest : List Message)
      → traffic p (update₂ st.channel j k rest) + 1 ≡ traffic p st.channel → Falls (after_drop j k rest st)
  unfolding potential after_drop
  drop_falls j k rest e = omega arith

  -- a mark costs no more than a dropped message
  mark_falls : (k : ℕ) (rest : List Message)
      → traffic p (update₂ st.channel k 0 rest) + 1 ≡ traffic p st.channel → Falls (after_mark sys k rest st)
  unfolding potential after_drop after_mark
  mark_falls k rest e = drop_falls k 0 rest e

  count_falls : (k : ℕ) (labels : List Label) (rest : List Message) → Worker sys k → st.channel k 0 ≡ list labels ∷ rest
      → Falls (after_count k rest st)
  unfolding potential after_count
  count_falls k labels rest w e = omega (arith, controller_takes k (list labels) rest w e)

  answer_falls : (k : ℕ) (q : Poll) → Worker sys k → st.held k ≡ some q → Falls (after_answer k q st)
  unfolding potential after_answer
  answer_falls k q w e =
      omega (
        arith,
        ap (λ o. one (is_some o)) e,
        over_update p (λ o. one (is_some o)) st.held k none w.above w.within,
        workers_apart p worker_weight st.channel k (st.channel k 0 ++ (reply q.number ∷ [])),
        into_put (controller_weight p) p st.channel k 0 (reply q.number) w.within,
      )

  new_poll_falls : st.controller.poll_open ≡ false → Falls (after_new_poll sys st)
  unfolding potential after_new_poll
  new_poll_falls e =
      let q : Message = poll (next_poll st) in
      omega (
        arith,
        ap (λ b. cond b 0 (3 * p + 1)) e,
        workers_poll p worker_weight st.channel q,
        into_broadcast_self (controller_weight p) p st.channel 0 q,
      )

  -- every turn that is not idle lowers the potential, in every state
  pub potential_falls : {s : State} {es : List Event} → Moves sys st s es → potential sys s < potential sys st
  potential_falls (treats k a rest w e) = treat_falls k a rest w e
  potential_falls (sends k w e) = send_falls k w (st.to_send k) refl e
  potential_falls (reads j k labels rest w h n e) = list_falls j k labels rest w h e
  potential_falls (takes_poll j k q rest w h n e) = poll_falls j k q rest w h e
  potential_falls (ignores j k i rest w h n e) = drop_falls j k rest (worker_takes j k (reply i) rest w h e)
  potential_falls (answers k q w e r) = answer_falls k q w e
  potential_falls (new_poll_lem e) = new_poll_falls e
  potential_falls (tallies k labels rest w e) = count_falls k labels rest w e
  potential_falls (marks k n rest w e c) = mark_falls k rest (controller_takes k (reply n) rest w e)
  potential_falls (drops k n rest w e c) = drop_falls k 0 rest (controller_takes k (reply n) rest w e)
  potential_falls (discards k q rest w e) = drop_falls k 0 rest (controller_takes k (poll q) rest w e)
