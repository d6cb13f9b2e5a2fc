-- How many polls a run sends: at most one more than the loaded labels, as between two polls the controller reads a list.
use Prim.Native.Nat.{◌+◌, ◌≤◌}
use mathlib.Core.List.{List}
use mathlib.Core.Path.{ap}
use native.Mathlib.Omega.{arith}
use Rattle.base.proofs.Sums.{one_le}
use Rattle.base.specs.Below.{one}
use Rattle.network.specs.Network.{label_count}
use Rattle.disac4.proofs.Moves.{Moves, treats, sends, reads, takes_poll, ignores, answers, new_poll_lem, tallies, marks, drops, discards, kept}
use Rattle.disac4.proofs.RunNumbers.{list_counter_bound, timestamp_of_run}
use Rattle.disac4.proofs.SendBound.{sends_bound}
use Rattle.disac4.proofs.Typed.{counts_on}
use Rattle.disac4.specs.Action.{after_treat, after_send, after_list, after_poll, after_drop, after_answer, after_new_poll, after_count, after_mark}
use Rattle.disac4.specs.Event.{Event}
use Rattle.disac4.specs.Loading.{load}
use Rattle.disac4.specs.Report.{is_poll}
use Rattle.disac4.specs.State.{State}
use Rattle.disac4.specs.System.{System, Sound}
use Rattle.disac4.specs.Turn.{Turn, play, changes_where}

-- all polls but the open one were ended by a list that the controller read
abbrev Ended : State → Type 0
Ended st = st.controller.timestamp ≤ st.list_counter 0 + one st.controller.poll_open

ended_move : {sys : System} {st s : State} {new : List Event} → Ended st → Moves sys st s new → Ended s
unfolding after_treat after_send after_list after_poll after_drop after_answer after_new_poll after_count after_mark
ended_move h (treats k a rest w e) = h
ended_move {sys} {st} h (sends k w e) = omega (arith, counts_on st.list_counter w)
ended_move {sys} {st} h (reads j k labels rest w b n e) = omega (arith, counts_on st.list_counter w)
ended_move h (takes_poll j k q rest w b n e) = h
ended_move h (ignores j k i rest w b n e) = h
ended_move h (answers k q w e r) = h
ended_move h (new_poll_lem e) = omega (arith, ap one e)
ended_move {sys} {st} h (tallies k labels rest w e) = omega (arith, one_le st.controller.poll_open)
ended_move h (marks k n rest w e c) = h
ended_move h (drops k n rest w e c) = h
ended_move h (discards k q rest w e) = h

-- the timestamp is at most one above the lists that the controller has read
timestamp_bound : {sys : System} → Sound sys → (ts : List Turn)
    → (play sys (load sys) ts).controller.timestamp ≤ (play sys (load sys) ts).list_counter 0 + 1
timestamp_bound {sys} sound ts =
    let st = play sys (load sys) ts in
    omega (
      arith,
      one_le st.controller.poll_open,
      kept sys sound.few (λ st es. Ended st) (λ st es s new o h move. ended_move h move) ts (load sys)
          (unfold load in omega arith),
    )

-- a run sends at most one poll more than labels were loaded
pub polls_bound : {sys : System} → Sound sys → (ts : List Turn)
    → changes_where sys is_poll (load sys) ts ≤ label_count sys.net + 1
polls_bound {sys} sound ts =
    omega (
      arith,
      timestamp_of_run sound ts,
      timestamp_bound sound ts,
      list_counter_bound sound ts 0 (omega arith),
      sends_bound sound ts,
    )
