-- What any call tells its caller: from its contract, when it succeeds, which fault it declines, and what follows from each.
use Prim.Native.Nat.{ℕ}
use mathlib.Core.Bool.{Bool}
use mathlib.Core.List.{List}
use mathlib.Core.Logic.{◌↔◌}
use mathlib.Core.Option.{none, some}
use mathlib.Core.Path.{◌≡◌, sym, ◌∙◌}
use Rattle.disac4.specs.Outcome.{input_fault}
use Rattle.faults.specs.declared.Decline.{Decline}
use Rattle.lending.proofs.Outcome.{Answers, call_does, call_refused, call_succeeds, call_declines}
use Rattle.lending.specs.Call.{outcome, Gives, Call, call_fault, outcome_of}
use Rattle.tinshrew.proofs.Faults.{none_found, one_found}
use Rattle.tinshrew.specs.Conclusions.{Given, given, PlanAndBuffersFit, TurnsFit, FirstFault, InTable, DeclinedCall, CallTells}

module _ {A L S : Type 0} (c : Call A L) (success : S → A) (answers : Answers c success) (b ts : List ℕ)
    (inputs : c.fault ≡ input_fault b ts) (numbers : ℕ → Bool) (l : L) (a : A) (after : L) (g : Gives (outcome_of c l) a after) where
  abbrev here : Given L
  here = given c b ts numbers l

  -- where it succeeds, nothing was found
  nothing_found : (s : S) → a ≡ success s → call_fault c l ≡ none
  nothing_found s e = (call_succeeds c success answers l).0 (s, sym g.answer ∙ e)

  -- where it declines, this fault
  fault_found : (d : Decline) → a ≡ c.declines d → call_fault c l ≡ some d
  fault_found d e = (call_declines c success answers l d).0 (sym g.answer ∙ e)

  -- which is the first, in document 01's table, and changed no lent cell
  refused_call : ((d : Decline) → FirstFault here d → InTable here d) → (d : Decline) → a ≡ c.declines d → DeclinedCall here after d
  refused_call table d e =
      let first = (one_found c b ts inputs numbers l d).0 (fault_found d e) in record {
        first = first;
        in_table = table d first;
        same_cells = g.cells ∙ sym (call_refused c l d (fault_found d e)).cells;
      }

  -- all that it tells, if so much follows from what it does
  pub call_tells : (Fitting : Type 0) → Fitting ↔ (PlanAndBuffersFit here × TurnsFit here)
      → ((d : Decline) → FirstFault here d → InTable here d)
      → (Told : S → Type 0)
      → ((s : S) → PlanAndBuffersFit here → TurnsFit here → Gives (c.does l) (success s) after → Told s)
      → CallTells here success c.declines Fitting Told (outcome a after)
  call_tells Fitting fitting table Told follows = record {
    succeeds = (
      λ s. fitting.1 ((none_found c b ts inputs numbers l).0 (nothing_found s.0 s.1)),
      λ h.
          let s = (call_succeeds c success answers l).1 ((none_found c b ts inputs numbers l).1 (fitting.0 h)) in
          (s.0, g.answer ∙ s.1),
    );
    refuses = λ d. (
      λ e. (one_found c b ts inputs numbers l d).0 (fault_found d e),
      λ h. g.answer ∙ (call_declines c success answers l d).1 ((one_found c b ts inputs numbers l d).1 h),
    );
    told = λ s e.
        let found = nothing_found s e in
        let fits = (none_found c b ts inputs numbers l).0 found in
        follows s fits.0 fits.1 (rw (← call_does c l found, ← e) g);
    declined_call = refused_call table;
  }
