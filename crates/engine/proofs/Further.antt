-- A run that is played further: no turns, two lists of turns, and a loop that plays the list `f i` in step `i`.
use Prim.Native.Nat.{ℕ, ◌+◌}
use mathlib.Core.List.{List, [], ◌++◌}
use mathlib.Core.Path.{refl, ◌∙◌, subst}
use native.Mathlib.Numerals.{add-one}
use Rattle.base.specs.Below.{gather_below}
use Rattle.disac4.specs.Turn.{Turn}
use Rattle.engine.specs.Play.{Underway, Advances}
use Rattle.engine.specs.declared.run.Run.{Run}
use Rattle.refinement.proofs.Underway.{plays_none, plays_then, goes_after}

pub advances_none : (r : Run) → Advances [] r r
advances_none r = record { plan = refl; workers = refl; cells = refl; long = refl; plays = plays_none _ _ _ }

pub underway_after : {us : List Turn} {r r' : Run} → Underway r → Advances us r r' → Underway r'
underway_after {us} u a = record {
  going = rw a.plan (goes_after _ us _ _ _ _ u.going a.long a.plays);
  counted = rw (a.plan, a.workers) u.counted;
}

-- the further turns may go by the count of workers
pub advances_then : {us : List Turn} (vs : ℕ → List Turn) {r r' r'' : Run}
    → Advances us r r' → Advances (vs r'.workers) r' r'' → Advances (us ++ vs r.workers) r r''
advances_then {us} vs {r} {r'} {r''} a a' =
    let e = subst (λ (p : ℕ). Advances (vs p) r' r'') a.workers a' in
    record {
      plan = e.plan ∙ a.plan;
      workers = e.workers ∙ a.workers;
      cells = e.cells ∙ a.cells;
      long = e.long ∙ a.long;
      plays = plays_then _ us (vs r.workers) _ _ _ _ _ _ a.plays (rw a.plan at e.plays);
    }

pub one_further : (f : ℕ → ℕ → List Turn) (k : ℕ) {r r' r'' : Run}
    → Advances (gather_below k (f r.workers)) r r' → Advances (f r'.workers k) r' r''
    → Advances (gather_below (k + 1) (f r.workers)) r r''
one_further f k a a' = rw add-one (advances_then (λ p. f p k) a a')
