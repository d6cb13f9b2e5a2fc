-- The code asks for a rule's kind, the definitions for its number: the two tests say the same.
use Prim.Native.Nat.{ℕ}
use borrow.Author.Tests.{ne_eqb}
use Rattle.std.specs.Prelude.{Option, None, Some}
use mathlib.Core.Bool.{Bool, not, not-not}
use mathlib.Core.Path.{◌≡◌, refl, sym, ◌∙◌, ap}
use native.Mathlib.Omega.{arith}
use lib.Dec.{eqb}
use Rattle.std.specs.Option.{option_eq}
use Rattle.format.specs.Kind.{number_of, Numbered}
use Rattle.format.specs.contracts.kind.KindPartialEq.TheImpl.{eq-value}
use Rattle.format.specs.declared.kind.Kind.{Kind}
use Rattle.format.specs.declared.kind.Kind.TheVariants.{Table, Limit, SetLimit}

-- of two kinds
equal : (x y : Kind) → eq-value.it x y ≡ eqb (number_of x) (number_of y)
equal Table Table = refl
equal Table Limit = refl
equal Table SetLimit = refl
equal Limit Table = refl
equal Limit Limit = refl
equal Limit SetLimit = refl
equal SetLimit Table = refl
equal SetLimit Limit = refl
equal SetLimit SetLimit = refl

-- of what stands in a plan
pub same_kind : (n : ℕ) (o : Option Kind) (k : Kind) → Numbered n o → option_eq eq-value.it o (Some k) ≡ eqb n (number_of k)
same_kind n None Table p = sym (ne_eqb n 0 (λ e. omega arith))
same_kind n None Limit p = sym (ne_eqb n 1 (λ e. omega arith))
same_kind n None SetLimit p = sym (ne_eqb n 2 (λ e. omega arith))
same_kind n (Some x) k p = equal x k ∙ ap (λ (i : ℕ). eqb i (number_of k)) p

-- and where the code asks for any other kind
pub other_kind : (n : ℕ) (o : Option Kind) (k : Kind) {r : Bool} → Numbered n o → r ≡ not (option_eq eq-value.it o (Some k))
    → eqb n (number_of k) ≡ not r
other_kind n o k p e = sym (same_kind n o k p) ∙ sym (not-not (option_eq eq-value.it o (Some k))) ∙ ap not (sym e)
