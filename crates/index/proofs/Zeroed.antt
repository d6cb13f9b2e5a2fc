-- Cells that were all 0 when the index was written into them hold the plan's index.
use Prim.Native.Nat.{ℕ, zero, suc, ◌≤◌}
use mathlib.Core.Bool.{◌&&◌}
use mathlib.Core.List.{List}
use mathlib.Core.Option.{none}
use mathlib.Core.Path.{◌≡◌, refl, sym, ◌∙◌, ap, subst}
use native.Mathlib.Omega.{arith}
use lib.Dec.{ltb}
use lib.ListN.{length, get_or, replicate, length-replicate}
use Rattle.base.proofs.Choice.{cond_same}
use Rattle.cells.proofs.Halves.{share_none}
use Rattle.cells.specs.Layout.{region_at, address}
use Rattle.cells.specs.Memory.{share_of, mem_of}
use Rattle.disac4.specs.Need.{work_need}
use Rattle.index.proofs.Chains.{indexed}
use Rattle.index.specs.Index.{Ready, Indexed, index_m}
use Rattle.plan.specs.Decode.{plan_fault}

-- so many zeros
abbrev pub zeros : ℕ → List ℕ
zeros n = replicate n 0

-- as many as are needed
pub zeros_long : work_need ≤ length (zeros work_need)
zeros_long = omega (arith, length-replicate {A = ℕ} work_need 0)

-- 0 stands everywhere in them, and behind them too
zero_at : (n i : ℕ) → get_or (zeros n) i 0 ≡ 0
zero_at zero i = refl
zero_at (suc n) zero = refl
zero_at (suc n) (suc i) = zero_at n i

-- so their memory is empty
zero_memory : (n r i j : ℕ) → mem_of (zeros n) r i j ≡ 0
unfolding mem_of
zero_memory n r i j =
    cond_same (ltb i (region_at r).rows && ltb j (region_at r).cols) _ 0 0
    (ap (share_of (region_at r) i) (zero_at n (address (region_at r) i j)) ∙ share_none (region_at r) i) refl

-- and indexing leaves the plan's index in it
pub zeroed_ready : (b cells : List ℕ) (n : ℕ) → plan_fault b ≡ none → mem_of cells ≡ index_m b (mem_of (zeros n))
    → work_need ≤ length cells → Ready b cells
zeroed_ready b cells n sound made long = record {
  sound = sound;
  index = subst (Indexed b) (sym made) (indexed b sound (mem_of (zeros n)) (λ r i j h l. zero_memory n r i j));
  long = long;
}
