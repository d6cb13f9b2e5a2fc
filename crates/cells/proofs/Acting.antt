-- An action is idle, or acts.
use mathlib.Core.Bool.{Bool, true, false}
use mathlib.Core.Option.{Option, none, some, get_or}
use mathlib.Core.Path.{◌≡◌, sym, ◌∙◌, ap}
use Rattle.disac4.specs.Fold.{is_some}
use Rattle.cells.specs.Acts.{Acts}

module _ {S : Type 0} (act : S → Option S) (before : S) where
  pub idle : act before ≡ none → Acts act before before false
  idle e = record { leaves = rw e; says = rw e }

  pub acts : (after s : S) → act before ≡ some s → after ≡ s → Acts act before after true
  acts after s e p = record { leaves = rw e p; says = rw e }

module _ {S : Type 0} {act : S → Option S} {before after : S} {c : Bool} where
  -- what code does by one definition it does by another that gives the same
  pub acts_as : {other : S → Option S} → other before ≡ act before → Acts act before after c → Acts other before after c
  acts_as e a = record {
    leaves = a.leaves ∙ ap (λ (o : Option S). get_or o before) (sym e);
    says = a.says ∙ ap (λ (o : Option S). is_some o) (sym e);
  }
