-- A step that does what another does, seen through a view, as long as an invariant holds that it keeps: from one turn to a
-- list of them.
use Prim.Native.Nat.{◌+◌}
use mathlib.Core.Bool.{Bool, ◌&&◌}
use mathlib.Core.List.{List, [], ◌∷◌}
use mathlib.Core.Option.{Option, some, map, get_or}
use mathlib.Core.Path.{◌≡◌, refl, sym, ◌∙◌, ap, ap₂}
use Rattle.base.specs.Below.{one}
use Rattle.disac4.proofs.Fold.{some_map, get_d_map, after_keeps, play_keeps}
use Rattle.disac4.specs.Fold.{is_some, after_by, play_by, gather_by, count_by}

pub record Simulates {S S' T : Type 0} (step : S → T → Option S) (step' : S' → T → Option S') (view : S → S')
    (Inv : S → Type 0) : Type 0 where
  pub turn : (s : S) (t : T) → Inv s → map view (step s t) ≡ step' (view s) t
  pub keeps : (s : S) (t : T) (s' : S) → Inv s → step s t ≡ some s' → Inv s'

module _ {S S' T : Type 0} {step : S → T → Option S} {step' : S' → T → Option S'} {view : S → S'} {Inv : S → Type 0}
    (sim : Simulates step step' view Inv) where
  -- ---- one turn

  after_view : (s : S) (t : T) → Inv s → view (after_by step s t) ≡ after_by step' (view s) t
  unfolding after_by
  after_view s t inv = sym (get_d_map view (step s t) s) ∙ ap (λ (o : Option S'). get_or o (view s)) (sim.turn s t inv)

  changed_alike : (s : S) (t : T) → Inv s → is_some (step s t) ≡ is_some (step' (view s) t)
  changed_alike s t inv = sym (some_map view (step s t)) ∙ ap is_some (sim.turn s t inv)

  turn_keeps : (s : S) (t : T) → Inv s → Inv (after_by step s t)
  turn_keeps s t inv = after_keeps step Inv s t inv (λ s' e. sim.keeps s t s' inv e)

  -- ---- a list of turns

  pub run_keeps : (ts : List T) (s : S) → Inv s → Inv (play_by step s ts)
  run_keeps = play_keeps step Inv turn_keeps

  -- the state after it stands for the other's
  pub run_view : (ts : List T) (s : S) → Inv s → view (play_by step s ts) ≡ play_by step' (view s) ts
  unfolding play_by
  run_view [] s inv = refl
  run_view (t ∷ ts) s inv =
      run_view ts (after_by step s t) (turn_keeps s t inv) ∙ ap (λ (s' : S'). play_by step' s' ts) (after_view s t inv)

  -- the same turns change something
  pub run_counts : (test : T → Bool) (ts : List T) (s : S) → Inv s → count_by step test s ts ≡ count_by step' test (view s) ts
  unfolding count_by gather_by
  run_counts test [] s inv = refl
  run_counts test (t ∷ ts) s inv =
      ap₂ ◌+◌ (ap (λ (b : Bool). one (test t && b)) (changed_alike s t inv))
      (run_counts test ts (after_by step s t) (turn_keeps s t inv)
      ∙ ap (λ (s' : S'). count_by step' test s' ts) (after_view s t inv))
