-- Listing the labels by their counters leaves the counters alone: each label is deleted exactly if it is unsupported.
use Prim.Native.Nat.{ℕ, ◌-◌, ◌<◌}
use mathlib.Core.Bool.{Bool, true, false, ◌&&◌, not}
use mathlib.Core.Path.{◌≡◌, refl, sym, ◌∙◌, ap}
use native.Mathlib.Omega.{arith}
use lib.Dec.{eqb}
use Rattle.base.proofs.Below.{all_ext, all_not}
use Rattle.base.proofs.Loops.{loop_ext}
use Rattle.base.proofs.Row.{row_bit}
use Rattle.base.specs.Below.{all_below, loop}
use Rattle.base.specs.Row.{bit}
use Rattle.disac4.specs.Loading.{loaded_counter, unsupported}
use Rattle.disac4.specs.System.{System}
use Rattle.network.proofs.Loaded.{loaded_intro}
use Rattle.network.specs.Network.{Network, loaded, support_count}
use Rattle.cells.specs.Layout.{DOMAIN, COUNTERS, PAIRS, LISTED}
use Rattle.cells.specs.Memory.{Mem, store}
use Rattle.cells.specs.View.{counter_row}
use Rattle.counting.proofs.Kept.{count_else}
use Rattle.counting.specs.Count.{count_supports_m}
use Rattle.index.proofs.Kept.{row_pairs}
use Rattle.index.specs.Index.{Paired}
use Rattle.loading.proofs.Kept.{CountersKept, list_variables_kept}
use Rattle.loading.specs.Load.{suits, suited_row, list_label_m, list_value_m, list_values_m, list_variable_m, list_m, load_m}
use Rattle.refinement.proofs.Counting.{counted_at}
use Rattle.refinement.proofs.DeleteApart.{delete_if}
use Rattle.refinement.proofs.LabelLoad.{list_step}
use Rattle.refinement.proofs.Walking.{values, walk}
use Rattle.refinement.specs.Inv.{Small}

-- a label that suits every variable by its count is supported
all_suit : (net : Network) (x v : ℕ) → loaded net x v ≡ true
    → all_below net.variables (λ y. not (net.linked x y && eqb (support_count net x v y) 0)) ≡ not (unsupported net x v)
unfolding unsupported loaded_counter
all_suit net x v l = rw l (all_not net.variables (λ y. net.linked x y && eqb (support_count net x v y) 0))

module _ (sys : System) where
  -- each value of `x` has its count against each linked variable
  abbrev Counted : ℕ → Mem → Type 0
  Counted x m = (v y : ℕ) → v < sys.net.size x → sys.net.linked x y ≡ true
      → m COUNTERS (counter_row m x y) v ≡ support_count sys.net x v y

  -- ---- one variable's labels

  module _ (x : ℕ) (inside : x < sys.net.variables) (m : Mem) (counted : Counted x m) where
    suited_bit : (v : ℕ) → v < sys.net.size x
        → bit (suited_row sys m x sys.net.variables) v ≡ not (unsupported sys.net x v)
    unfolding suited_row suits
    suited_bit v h =
        row_bit (sys.net.size x) (λ v. all_below sys.net.variables (suits sys m x v)) v h
        ∙ all_ext sys.net.variables (suits sys m x v) (λ y. not (sys.net.linked x y && eqb (support_count sys.net x v y) 0))
        (λ y k. go y (sys.net.linked x y) refl)
        ∙ all_suit sys.net x v (loaded_intro sys.net x v inside h)
      where
        go : (y : ℕ) (t : Bool) → sys.net.linked x y ≡ t
            → not (t && eqb (m COUNTERS (counter_row m x y) v) 0) ≡ not (t && eqb (support_count sys.net x v y) 0)
        go y true e = ap (λ (k : ℕ). not (eqb k 0)) (counted v y h e)
        go y false e = refl

    label_step : (v : ℕ) (t : Bool) → t ≡ not (unsupported sys.net x v) → (o : Mem) → list_label_m sys x v t o ≡ list_step sys x v o
    unfolding list_label_m
    label_step v t e o = ap (λ (t : Bool). list_label_m sys x v t o) e ∙ go (unsupported sys.net x v)
      where
        listed : Mem
        listed = store o DOMAIN x v LISTED

        go : (u : Bool) → list_label_m sys x v (not u) o ≡ delete_if u (sys.owner x - 1) x v listed
        go true = refl
        go false = refl

    variable_walk : list_variable_m sys x m ≡ values sys.net (list_step sys) x m
    unfolding list_variable_m list_values_m
    variable_walk =
        loop_ext (sys.net.size x) (list_value_m sys x (suited_row sys m x sys.net.variables)) (list_step sys x) m
        (λ v h. label_step v _ (suited_bit v h) (loop v (list_step sys x) m))

  -- ---- all of them

  list_walk : (z : Mem) → ((x : ℕ) → Counted x z) → list_m sys z ≡ walk sys.net (list_step sys) z
  unfolding list_m
  list_walk z counted =
      sym
      (loop_ext sys.net.variables (values sys.net (list_step sys)) (list_variable_m sys) z
      (λ x h.
      let m = loop x (list_variable_m sys) z in
      let same : CountersKept z m = list_variables_kept sys x z in
      sym
      (variable_walk x h m
      (λ v y k l.
      ap (λ (a : ℕ). m COUNTERS a v) (row_pairs z m x y (same.kept PAIRS x y (omega arith)))
      ∙ same.kept COUNTERS (counter_row z x y) v (omega arith)
      ∙ counted x v y k l))))

  -- loading lists the labels one by one in a memory where all is counted
  pub load_walk : Small sys → (z : Mem) → Paired sys z → load_m sys z ≡ walk sys.net (list_step sys) (count_supports_m sys z)
  unfolding load_m
  load_walk small z paired =
      list_walk (count_supports_m sys z)
      (λ x v y h l.
      ap (λ (a : ℕ). count_supports_m sys z COUNTERS a v)
      (row_pairs z (count_supports_m sys z) x y ((count_else sys z).kept PAIRS x y (omega arith)))
      ∙ counted_at sys small z paired x v y h l)
