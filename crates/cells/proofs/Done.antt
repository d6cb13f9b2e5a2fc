-- A loop over the cells on its way: the first steps are done, and the cells have kept their length.
use Prim.Native.Nat.{ℕ, ◌+◌}
use mathlib.Core.List.{List}
use mathlib.Core.Path.{◌≡◌, refl, ◌∙◌, ap}
use lib.ListN.{length}
use Rattle.base.proofs.Loops.{loop_more}
use Rattle.base.specs.Below.{loop}
use Rattle.cells.specs.Memory.{Mem, mem_of}

-- of the steps `f 0`, `f 1`, .. the first `k` are done
pub record Done (f : ℕ → Mem → Mem) (start : List ℕ) (k : ℕ) (cells : List ℕ) : Type 0 where
  pub size : length cells ≡ length start
  pub mem : mem_of cells ≡ loop k f (mem_of start)

module _ {f : ℕ → Mem → Mem} {start : List ℕ} where
  -- none
  pub done_none : Done f start 0 start
  unfolding loop
  done_none = record { size = refl; mem = refl }

  -- one more
  pub done_more : {k : ℕ} {old new : List ℕ} → Done f start k old → length new ≡ length old → mem_of new ≡ f k (mem_of old)
      → Done f start (k + 1) new
  done_more {k} d l e = record { size = l ∙ d.size; mem = loop_more k f (mem_of start) d.mem e }

  -- as many as there are
  pub done_all : {k : ℕ} {cells : List ℕ} (all : ℕ) → Done f start k cells → k ≡ all → mem_of cells ≡ loop all f (mem_of start)
  done_all all d e = d.mem ∙ ap (λ (k : ℕ). loop k f (mem_of start)) e
