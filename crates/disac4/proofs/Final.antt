-- What stays: a closed plan, and every deletion.
use Prim.Native.Nat.{◌≤◌}
use mathlib.Core.Bool.{true, not}
use mathlib.Core.List.{List}
use mathlib.Core.Option.{none}
use mathlib.Core.Path.{◌≡◌}
use Rattle.format.specs.Limits.{max_workers}
use Rattle.base.proofs.Bools.{and_left}
use Rattle.network.specs.Consistency.{Within}
use Rattle.disac4.proofs.ByTreat.{by_treat}
use Rattle.disac4.proofs.Fold.{idle_stays}
use Rattle.disac4.proofs.Moves.{Moves, kept}
use Rattle.disac4.specs.Action.{deletes, after_treat}
use Rattle.disac4.specs.Event.{Event}
use Rattle.disac4.specs.State.{State}
use Rattle.disac4.specs.System.{System}
use Rattle.disac4.specs.Turn.{Turn, step, play}

-- in a closed plan every turn is idle
closed_idle : (sys : System) (st : State) → st.controller.closed ≡ true → (t : Turn) → step sys st t ≡ none
unfolding step
closed_idle sys st e t = rw e

-- a closed plan never changes
pub closed_stays : (sys : System) (st : State) → st.controller.closed ≡ true → (ts : List Turn) → play sys st ts ≡ st
closed_stays sys st e = idle_stays (step sys) st (closed_idle sys st e)

-- a turn puts no label back
move_shrinks : {sys : System} {st s : State} {es : List Event} → Moves sys st s es → Within s.domain st.domain
unfolding Within after_treat
move_shrinks {sys} {st} {s} {es} =
    by_treat sys st (λ s es. Within s.domain st.domain)
    (λ k a rest w e x v h. and_left (st.domain x v) (not (deletes sys k a st x v)) h)
    (λ s new d c n x v h. rw d at h) s es

-- a deleted label stays deleted
pub domain_shrinks : (sys : System) → sys.workers ≤ max_workers → (st : State) (ts : List Turn)
    → Within (play sys st ts).domain st.domain
unfolding Within
domain_shrinks sys few st ts =
    kept sys few (λ s es. Within s.domain st.domain) (λ s es s' new c i m x v h. i x v (move_shrinks m x v h)) ts st
    (λ x v h. h)
