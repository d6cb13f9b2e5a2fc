-- An idle turn in memory stays idle until a turn enables it.
use Prim.Native.Nat.{◌<◌}
use mathlib.Core.Bool.{false, ◌&&◌, ◌||◌}
use mathlib.Core.Option.{none, map-eq-none_iff, map}
use mathlib.Core.Path.{◌≡◌, sym, ◌∙◌, ap}
use borrow.Author.Tests.{leb-false, eqb-false, lt-ltb, eq-eqb}
use lib.Dec.{leb, eqb}
use Rattle.base.proofs.Bools.{clash, and_intro, or_false_left, or_false_right}
use Rattle.disac4.proofs.Fold.{after_keeps}
use Rattle.disac4.proofs.Idle.{idle_still}
use Rattle.disac4.specs.System.{System}
use Rattle.disac4.specs.Turn.{Turn, treat_action}
use Rattle.controller.specs.Controller.{Machine}
use Rattle.refinement.proofs.Refined.{Refines, refined}
use Rattle.idle.specs.Table.{enables}
use Rattle.refinement.specs.Inv.{Small, Inv}
use Rattle.refinement.specs.Run.{view_of}
use Rattle.refinement.specs.Step.{step_m, after_m}

module _ (t u : Turn) (apart : enables t u ≡ false) where
  -- a turn of the same actor that is not enabled is another read
  another_read : u.actor ≡ t.actor → (u.action ≡ t.action → ⊥) × (u.action < treat_action)
  unfolding enables
  another_read e =
      let other = or_false_left _ _ (rw (eq-eqb u.actor t.actor e) at apart) in (
        eqb-false u.action t.action (or_false_left _ _ other),
        leb-false treat_action u.action (or_false_right (eqb u.action t.action) _ other),
      )

  -- and it does not read from an actor that has sent something
  another_sender : treat_action < t.action → u.action ≡ t.actor → ⊥
  unfolding enables
  another_sender h e =
      clash (and_intro (lt-ltb treat_action t.action h) (eq-eqb u.action t.actor e))
      (or_false_right
      ((eqb u.actor t.actor && eqb u.action t.action)
      || (eqb u.actor t.actor && leb treat_action u.action))
      _ apart)

-- an idle turn that another turn does not enable is idle after it
pub idle_kept : (sys : System) → Small sys → (s : Machine) → Inv sys s → (t u : Turn) → enables t u ≡ false
    → step_m sys s u ≡ none → step_m sys (after_m sys s t) u ≡ none
idle_kept sys small s inv t u apart idle =
    after_keeps (step_m sys) (λ (s' : Machine). step_m sys s' u ≡ none) s t idle
    (λ s' e.
    (map-eq-none_iff (view_of sys) (step_m sys s' u)).0
    (does.turn s' u (does.keeps s t s' inv e)
    ∙ idle_still sys small.sound.few (view_of sys s) t u (view_of sys s') (another_read t u apart) (another_sender t u apart)
    (sym (does.turn s t inv) ∙ ap (map (view_of sys)) e)
    (sym (does.turn s u inv) ∙ ap (map (view_of sys)) idle)))
  where
    does : Refines sys
    does = refined sys small
