-- A run begins as document 01's loading leaves the plan, whatever the cells held.
use Prim.Native.Nat.{ℕ, ◌<◌}
use mathlib.Core.List.{List}
use mathlib.Core.Logic.{inl, inr}
use mathlib.Core.Option.{none}
use mathlib.Core.Path.{◌≡◌, ◌∙◌}
use native.Mathlib.Omega.{arith}
use borrow.Author.Tests.{lt-ltb}
use Rattle.base.proofs.Choice.{cond_true}
use Rattle.disac4.proofs.Demands.{plan_sound}
use Rattle.disac4.specs.Loading.{load}
use Rattle.disac4.specs.System.{system_of, system_at}
use Rattle.format.proofs.Widths.{size_range}
use Rattle.index.proofs.Chains.{indexed, index_keeps}
use Rattle.index.proofs.Kept.{indexed_kept}
use Rattle.refinement.proofs.LoadKeeps.{load_starts}
use Rattle.index.proofs.Pairing.{paired}
use Rattle.refinement.proofs.LoadRefines.{Blank, load_refines}
use Rattle.index.specs.Index.{Indexed, index_m}
use Rattle.refinement.specs.Inv.{Small, Inv}
use Rattle.cells.specs.Layout.{BEHIND}
use Rattle.loading.proofs.Kept.{load_kept}
use Rattle.cells.specs.Memory.{cleared_m, Mem}
use Rattle.loading.specs.Load.{load_m}
use Rattle.refinement.specs.Run.{view_of, start_m}
use Rattle.plan.proofs.Faults.{decoded}
use Rattle.plan.proofs.Links.{linked_in_range}
use Rattle.plan.proofs.WellFormed.{well_formed}
use Rattle.plan.specs.Decode.{plan_fault, plan_of}
use Rattle.plan.specs.Network.{network_of}

module _ (b : List ℕ) (sound : plan_fault b ≡ none) where
  -- its system fits the regions
  pub fits_regions : Small (system_at b)
  unfolding system_of network_of
  fits_regions =
      let fits = well_formed b (plan_of b) (decoded b sound) in
      record {
        sound = plan_sound (plan_of b) fits;
        few_values = λ x h. omega (arith, (fits.each_variable x h).few_values, size_range b);
        few_labels = fits.few_labels;
        links_inside = linked_in_range (plan_of b) fits;
      }

  module _ (m : Mem) where
    -- the memory in which the plan is loaded: its index, and 0 elsewhere
    abbrev ground : Mem
    ground = index_m b (cleared_m m)

    cleared_low : (r i j : ℕ) → r < BEHIND → cleared_m m r i j ≡ 0
    unfolding cleared_m
    cleared_low r i j h = cond_true 0 (m r i j) (lt-ltb r BEHIND h)

    pub ground_indexed : Indexed b ground
    ground_indexed = indexed b sound (cleared_m m) (λ r i j h l. cleared_low r i j l)

    blank : Blank ground
    blank r i j h = index_keeps b (cleared_m m) r (inl h) i j ∙ cleared_low r i j (omega arith)

    pub start_inv : Inv (system_at b) (start_m b m)
    unfolding start_m
    start_inv = load_starts (system_at b) fits_regions ground (paired b ground ground_indexed) blank

    pub start_view : view_of (system_at b) (start_m b m) ≡ load (system_at b)
    unfolding start_m
    start_view = load_refines (system_at b) fits_regions ground (paired b ground ground_indexed) blank

    -- the loaded memory holds the plan's index
    pub start_indexed : Indexed b (start_m b m).mem
    unfolding start_m
    start_indexed =
        indexed_kept b ground (load_m (system_at b) ground) (load_kept (system_at b) ground) ground_indexed

    -- and the cells behind as they were
    pub start_behind : (i j : ℕ) → (start_m b m).mem BEHIND i j ≡ m BEHIND i j
    unfolding start_m cleared_m
    start_behind i j =
        (load_kept (system_at b) ground).kept BEHIND i j (omega arith) ∙ index_keeps b (cleared_m m) BEHIND (inr (omega arith)) i j
