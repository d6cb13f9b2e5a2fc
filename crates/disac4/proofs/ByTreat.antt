-- Domains and counters change by treats alone.
use Prim.Native.Nat.{ℕ}
use mathlib.Core.List.{List, [], ◌∷◌}
use mathlib.Core.Path.{◌≡◌, refl}
use Rattle.base.proofs.Weight.{weigh}
use Rattle.network.specs.Network.{Label}
use Rattle.disac4.proofs.Moves.{Moves, treats, sends, reads, takes_poll, ignores, answers, new_poll_lem, tallies, marks, drops, discards}
use Rattle.disac4.proofs.Occurrences.{treated_by}
use Rattle.disac4.specs.Action.{after_treat, after_send, after_list, after_poll, after_drop, after_answer, after_new_poll, after_count, after_mark}
use Rattle.disac4.specs.Event.{Event, treated}
use Rattle.disac4.specs.State.{State}
use Rattle.disac4.specs.System.{System, Worker}

-- a move is a treat, or keeps domains and counters and treats nothing
pub by_treat : (sys : System) (st : State) (C : State → List Event → Type 0)
    → ((k : ℕ) (a : Label) (rest : List Label) → Worker sys k → st.work_list k ≡ a ∷ rest
    → C (after_treat sys k a rest st) (treated k a ∷ []))
    → ((s : State) (new : List Event) → s.domain ≡ st.domain → s.counter ≡ st.counter
    → ((x v k : ℕ) → weigh (treated_by x v k) new ≡ 0) → C s new)
    → (s : State) (new : List Event) → Moves sys st s new → C s new
unfolding after_send after_list after_poll after_drop after_answer after_new_poll after_count after_mark
by_treat sys st C t c _ _ (treats k a rest w e) = t k a rest w e
by_treat sys st C t c s new (sends k w e) = c s new refl refl (λ x v i. refl)
by_treat sys st C t c s new (reads j k labels rest w h n m) = c s new refl refl (λ x v i. refl)
by_treat sys st C t c s new (takes_poll j k q rest w h n m) = c s new refl refl (λ x v i. refl)
by_treat sys st C t c s new (ignores j k i rest w h n m) = c s new refl refl (λ x v i. refl)
by_treat sys st C t c s new (answers k q w h r) = c s new refl refl (λ x v i. refl)
by_treat sys st C t c s new (new_poll_lem o) = c s new refl refl (λ x v i. refl)
by_treat sys st C t c s new (tallies k labels rest w m) = c s new refl refl (λ x v i. refl)
by_treat sys st C t c s new (marks k n rest w m d) = c s new refl refl (λ x v i. refl)
by_treat sys st C t c s new (drops k n rest w m d) = c s new refl refl (λ x v i. refl)
by_treat sys st C t c s new (discards k q rest w m) = c s new refl refl (λ x v i. refl)
