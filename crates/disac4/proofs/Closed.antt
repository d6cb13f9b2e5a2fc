-- The plan is closed exactly if a poll is open and all workers are marked; then nothing is left to do.
use Prim.Native.Nat.{ℕ, zero, suc, ◌<◌, ◌≤◌}
use mathlib.Core.Bool.{true, false, false≢true}
use mathlib.Core.List.{List}
use mathlib.Core.Logic.{⊎_elim}
use mathlib.Core.Path.{◌≡◌, refl, sym, ◌∙◌}
use native.Mathlib.Omega.{arith}
use Rattle.base.proofs.Below.{all_below_lem}
use Rattle.base.proofs.Bools.{clash, refuted, and_left}
use Rattle.base.proofs.Sums.{sum_none}
use Rattle.base.proofs.Weight.{weigh}
use Rattle.disac4.proofs.ByKind.{list_message}
use Rattle.disac4.proofs.Channels.{into}
use Rattle.disac4.proofs.Closing.{Agreed, AtRest, Closing}
use Rattle.disac4.proofs.Conservation.{Conserved}
use Rattle.disac4.proofs.Moves.{Moves, treats, sends, reads, takes_poll, ignores, answers, new_poll_lem, tallies, marks, drops, discards}
use Rattle.disac4.proofs.Quiet.{Quiet}
use Rattle.disac4.specs.Action.{current, all_marked, after_treat, after_send, after_list, after_poll, after_drop, after_answer, after_new_poll, after_count, after_mark}
use Rattle.disac4.specs.Event.{Event}
use Rattle.disac4.specs.State.{State, Controller}
use Rattle.disac4.specs.System.{System, Worker}

-- the plan is closed exactly if a poll is open and all workers are marked
pub record Closure (sys : System) (controller : Controller) : Type 0 where
  pub polling : controller.closed ≡ true → controller.poll_open ≡ true
  pub exact : controller.poll_open ≡ true → controller.closed ≡ all_marked sys controller.marked

none_marked : (sys : System) → 0 < sys.workers → all_marked sys (λ k. false) ≡ false
unfolding all_marked
none_marked sys some_worker =
    refuted _ (λ e. false≢true (all_below_lem sys.workers (λ i. false) e 0 some_worker))

-- every move in an open plan keeps it
pub closure_move : {sys : System} {st s : State} {new : List Event} → 0 < sys.workers → st.controller.closed ≡ false
    → Closure sys st.controller → Moves sys st s new → Closure sys s.controller
unfolding current after_treat after_send after_list after_poll after_drop after_answer after_new_poll after_count after_mark
closure_move p f g (treats k a rest w e) = g
closure_move p f g (sends k w e) = g
closure_move p f g (reads j k labels rest w h d e) = g
closure_move p f g (takes_poll j k q rest w h d e) = g
closure_move p f g (ignores j k i rest w h d e) = g
closure_move p f g (answers k q w e r) = g
closure_move {sys} p f g (new_poll_lem e) = record { polling = λ x. refl; exact = λ x. f ∙ sym (none_marked sys p) }
closure_move p f g (tallies k labels rest w e) = record { polling = λ x. clash x f; exact = λ x. absurd (false≢true x) }
closure_move p f g (marks k i rest w e r) = record { polling = λ x. and_left _ _ r; exact = λ x. refl }
closure_move p f g (drops k i rest w e r) = g
closure_move p f g (discards k q rest w e) = g

-- with every worker marked, nothing is left to do
pub all_marked_quiet : {sys : System} {st : State} (es : List Event) → Conserved sys st es → Closing sys st
    → st.controller.poll_open ≡ true → all_marked sys st.controller.marked ≡ true → Quiet sys st
unfolding all_marked
all_marked_quiet {sys} {st} es conserved g o all =
    ⊎_elim (λ x. clash (is_marked x.worker x.is_worker_lem) x.unmarked) quiet (g o)
  where
    is_marked : (k : ℕ) → Worker sys k → st.controller.marked k ≡ true
    is_marked zero w = absurd (omega (arith, w.above))
    is_marked (suc k) w = all_below_lem sys.workers (λ i. st.controller.marked (suc i)) all k w.within

    quiet : Agreed sys st.controller.timestamp st.controller.marked st.channel st.list_counter st.work_list
        st.to_send → Quiet sys st
    quiet x = record {
      no_work = λ k w. (rests k w).no_work;
      no_send = λ k w. (rests k w).no_send;
      no_list = λ j k h b. sum_none (suc sys.workers) (λ j. weigh list_message (st.channel j k)) (none_to k b) j (omega arith);
    }
      where
        rests : (k : ℕ) → Worker sys k → AtRest st.list_counter st.work_list st.to_send k
        rests k w = ⊎_elim (λ y. clash (is_marked k w) y.unmarked) (λ y. y) (x.each k w)

        none_to : (k : ℕ) → k ≤ sys.workers → into list_message sys.workers st.channel k ≡ 0
        none_to zero b = x.all_read
        none_to (suc k) b =
            omega (
              arith,
              (rests (suc k) (record { above = omega arith; within = b })).counts,
              conserved (suc k) b,
              conserved 0 (omega arith),
              x.all_read,
            )
