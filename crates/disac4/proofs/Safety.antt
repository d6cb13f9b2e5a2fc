-- The invariants of the polls together, in every state that a run from loading reaches; a closed plan is quiet.
use mathlib.Core.Bool.{true, false≢true}
use mathlib.Core.List.{List, []}
use mathlib.Core.Path.{◌≡◌, sym, ◌∙◌}
use Rattle.disac4.proofs.Closed.{Closure, closure_move, all_marked_quiet}
use Rattle.disac4.proofs.Closing.{Closing, closing_move}
use Rattle.disac4.proofs.Conservation.{Conserved, conserved_move, conserved_load}
use Rattle.disac4.proofs.Expected.{Expected, expected_move}
use Rattle.disac4.proofs.Moves.{kept}
use Rattle.disac4.proofs.Quiet.{Quiet}
use Rattle.disac4.proofs.Typed.{Typed, typed_move, typed_load}
use Rattle.disac4.specs.Event.{Event, events}
use Rattle.disac4.specs.Loading.{load}
use Rattle.disac4.specs.State.{State}
use Rattle.disac4.specs.System.{System, Sound}
use Rattle.disac4.specs.Turn.{Turn, play}

-- a state and the events that led to it
pub record Safe (sys : System) (st : State) (es : List Event) : Type 0 where
  pub typed : Typed sys st
  pub conserved : Conserved sys st es
  pub closing : Closing sys st
  pub closure : Closure sys st.controller
  pub expected : Expected sys st

safe_load : (sys : System) → Safe sys (load sys) []
unfolding load
safe_load sys = record {
  typed = typed_load sys;
  conserved = conserved_load sys;
  closing = λ o. absurd (false≢true o);
  closure = record { polling = λ x. absurd (false≢true x); exact = λ x. absurd (false≢true x) };
  expected = λ o. absurd (false≢true o);
}

-- the invariants hold after any list of turns
pub safe_run : {sys : System} → Sound sys → (ts : List Turn) → Safe sys (play sys (load sys) ts) (events sys (load sys) ts)
safe_run {sys} sound ts =
    kept sys sound.few (Safe sys)
    (λ st es s new o g move.
    record {
      typed = typed_move g.typed move;
      conserved = conserved_move es move g.conserved;
      closing = closing_move sys st es g.typed g.conserved g.closing move;
      closure = closure_move sound.some_worker o g.closure move;
      expected = expected_move sys st g.typed g.expected move;
    })
    ts (load sys) (safe_load sys)

-- in a closed plan no worker has a label to treat or to send, and no list message is on its way
pub closed_quiet : {sys : System} → Sound sys → (ts : List Turn) → (play sys (load sys) ts).controller.closed ≡ true
    → Quiet sys (play sys (load sys) ts)
closed_quiet {sys} sound ts e =
    let g = safe_run sound ts in
    let o = g.closure.polling e in
    all_marked_quiet (events sys (load sys) ts) g.conserved g.closing o (sym (g.closure.exact o) ∙ e)
