-- Cleared, indexed and loaded cells are where a run starts.
use Prim.Native.Nat.{ℕ, ◌≤◌}
use mathlib.Core.List.{List, []}
use mathlib.Core.Option.{none}
use mathlib.Core.Path.{◌≡◌, refl, sym, ◌∙◌, ap, subst}
use lib.ListN.{length, replicate}
use Rattle.cells.specs.Memory.{Mem, mem_of, cleared_m}
use Rattle.controller.proofs.ControllerLaws.{stands}
use Rattle.controller.specs.Controller.{machine}
use Rattle.disac4.specs.Fold.{play_by, gather_by, count_by}
use Rattle.disac4.specs.Need.{work_need}
use Rattle.lending.specs.Call.{overwrite}
use Rattle.disac4.specs.System.{system_at}
use Rattle.disac4.specs.declared.Tally.{Tally}
use Rattle.index.specs.Index.{Ready, Indexed, index_m}
use Rattle.loading.specs.Load.{load_m}
use Rattle.plan.specs.Decode.{plan_fault}
use Rattle.refinement.proofs.Behind.{cleared_memory}
use Rattle.refinement.proofs.Start.{ground_indexed}
use Rattle.refinement.specs.Run.{fresh_tally, start_m, At}

module _ (b c₀ c₁ c₂ : List ℕ) (sound : plan_fault b ≡ none) (cleared : c₁ ≡ overwrite (replicate work_need 0) c₀)
    (made : mem_of c₂ ≡ index_m b (mem_of c₁)) where
  ground : mem_of c₂ ≡ index_m b (cleared_m (mem_of c₀))
  ground = made ∙ ap (index_m b) (ap mem_of cleared ∙ cleared_memory c₀)

  -- cleared and indexed cells are ready to load the plan
  pub start_ready : work_need ≤ length c₂ → Ready b c₂
  start_ready long = record {
    sound = sound;
    index = subst (Indexed b) (sym ground) (ground_indexed b sound (mem_of c₀));
    long = long;
  }

  -- and loaded, they are where a run starts
  pub start_made : (c₃ : List ℕ) (t : Tally) → mem_of c₃ ≡ load_m (system_at b) (mem_of c₂) → t ≡ fresh_tally
      → machine c₃ t ≡ start_m b (mem_of c₀)
  unfolding start_m
  start_made c₃ t e f = stands c₃ t (start_m b (mem_of c₀)) (e ∙ ap (load_m (system_at b)) ground) f

-- a loaded plan has played no turns
pub begins : (b : List ℕ) (m : Mem) (cells : List ℕ) (t : Tally) → machine cells t ≡ start_m b m
    → At b m [] cells (record { tally = t; changes = 0; sends = 0; polls = 0 })
unfolding play_by gather_by count_by
begins b m cells t e = record { stands = e; changes = refl; sends = refl; polls = refl }
