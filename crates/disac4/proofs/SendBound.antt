-- How many lists a run sends: at most the loaded labels, as each list carries one label or more and no label is sent twice.
use Prim.Native.Nat.{ℕ, ◌+◌, ◌≤◌}
use mathlib.Core.List.{List, []}
use mathlib.Core.Path.{◌≡◌}
use native.Mathlib.Omega.{arith}
use lib.ListN.{length}
use Rattle.base.proofs.Weight.{weigh, weigh_append}
use Rattle.network.specs.Network.{Label, label_count, domain_size}
use Rattle.disac4.proofs.ByKind.{send_event}
use Rattle.disac4.proofs.DomainSize.{treat_size, load_size, deletions_loaded}
use Rattle.disac4.proofs.Empty.{not_empty}
use Rattle.disac4.proofs.Moves.{Moves, treats, sends, reads, takes_poll, ignores, answers, new_poll_lem, tallies, marks, drops, discards, kept}
use Rattle.disac4.proofs.RunNumbers.{sent_count}
use Rattle.disac4.proofs.Workers.{over_workers, over_part, over_update, over_append}
use Rattle.disac4.specs.Action.{deletions, after_treat, after_send, after_list, after_poll, after_drop, after_answer, after_new_poll, after_count, after_mark}
use Rattle.disac4.specs.Event.{Event}
use Rattle.disac4.specs.Loading.{load}
use Rattle.disac4.specs.Report.{is_send}
use Rattle.disac4.specs.State.{State}
use Rattle.disac4.specs.System.{System, Worker, Sound}
use Rattle.disac4.specs.Turn.{Turn, play, changes_where}

-- the labels that may still be sent: those on the workers' to-send lists and those in the domains
unfoldable pub sendable : System → State → ℕ
sendable sys st = over_workers sys.workers (λ k. length (st.to_send k)) + domain_size sys.net st.domain

module _ (sys : System) (st : State) (k : ℕ) (w : Worker sys k) where
  -- a treat moves labels from the domains to a to-send list
  pub treat_sendable : (a : Label) (rest : List Label) → sendable sys (after_treat sys k a rest st) ≡ sendable sys st
  unfolding sendable after_treat
  treat_sendable a rest =
      omega (
        arith,
        over_append sys.workers st.to_send k (deletions sys k a st) w.above w.within,
        treat_size sys k a st,
      )

  -- a send takes the sender's labels from them
  pub send_sendable : sendable sys (after_send sys k st) + length (st.to_send k) ≡ sendable sys st
  unfolding sendable after_send
  send_sendable = omega (arith, over_update sys.workers length st.to_send k [] w.above w.within)

  -- the sender's own are among them
  pub sendable_part : length (st.to_send k) ≤ sendable sys st
  unfolding sendable
  sendable_part = omega (arith, over_part sys.workers (λ j. length (st.to_send j)) k w.above w.within)

-- at loading they are all the loaded labels
pub load_sendable : (sys : System) → Sound sys → sendable sys (load sys) ≡ label_count sys.net
unfolding sendable load
load_sendable sys sound = omega (arith, deletions_loaded sys sound.owned, load_size sys)

-- each send takes one label or more from those that may still be sent, and no other move adds one
move_sendable : {sys : System} {st s : State} {new : List Event} → Moves sys st s new
    → weigh send_event new + sendable sys s ≤ sendable sys st
unfolding sendable after_treat after_send after_list after_poll after_drop after_answer after_new_poll after_count after_mark
move_sendable {sys} {st} (treats k a rest w e) = omega (arith, treat_sendable sys st k w a rest)
move_sendable {sys} {st} (sends k w e) = omega (arith, send_sendable sys st k w, not_empty (st.to_send k) e)
move_sendable (reads j k labels rest w h n e) = omega arith
move_sendable (takes_poll j k q rest w h n e) = omega arith
move_sendable (ignores j k i rest w h n e) = omega arith
move_sendable (answers k q w e r) = omega arith
move_sendable (new_poll_lem e) = omega arith
move_sendable (tallies k labels rest w e) = omega arith
move_sendable (marks k n rest w e c) = omega arith
move_sendable (drops k n rest w e c) = omega arith
move_sendable (discards k q rest w e) = omega arith

-- the lists sent and the labels that may still be sent are at most the loaded labels
pub sends_and_sendable : {sys : System} → Sound sys → (ts : List Turn)
    → changes_where sys is_send (load sys) ts + sendable sys (play sys (load sys) ts) ≤ label_count sys.net
sends_and_sendable {sys} sound ts =
    omega (
      arith,
      sent_count sys ts (load sys),
      kept sys sound.few (λ st es. weigh send_event es + sendable sys st ≤ label_count sys.net)
          (λ st es s new o h move. omega (arith, weigh_append send_event es new, move_sendable move))
          ts (load sys) (omega (arith, load_sendable sys sound)),
    )

-- a run sends at most as many lists as labels were loaded
pub sends_bound : {sys : System} → Sound sys → (ts : List Turn)
    → changes_where sys is_send (load sys) ts ≤ label_count sys.net
sends_bound sound ts = omega (arith, sends_and_sendable sound ts)
