-- Filling the table of the turns that are allowed, cell by cell.
use Prim.Native.Nat.{ℕ, ◌+◌, ◌*◌, ◌/◌, ◌%◌, ◌<◌, ◌≤◌}
use mathlib.Core.Bool.{Bool, false}
use mathlib.Core.List.{List}
use mathlib.Core.Path.{◌≡◌, ◌∙◌, ap₂}
use native.Mathlib.Omega.{arith}
use lib.ListN.{length, get_or, set, length-set}
use lib.Seq.{get_or-set_same, get_or-set_other}
use Rattle.base.proofs.Below.{up_to}
use Rattle.disac4.specs.Turn.{turn, allowed}
use Rattle.flags.specs.Flags.{actions, cell_count}
use Rattle.inputs.specs.Judged.{Judges}

-- what a cell is to hold
abbrev pub cell_of : ℕ → ℕ → Bool
cell_of p i = allowed p (turn (i / actions) (i % actions))

-- the first `n` cells are filled
pub record Judging (p n : ℕ) (table : List Bool) : Type 0 where
  pub long : length table ≡ cell_count
  pub done : (i : ℕ) → i < n → get_or table i false ≡ cell_of p i

pub judging_none : (p : ℕ) (table : List Bool) → length table ≡ cell_count → Judging p 0 table
judging_none p table l = record { long = l; done = λ i h. absurd (omega arith) }

pub judging_more : (p n : ℕ) (table : List Bool) (v : Bool) → n < cell_count → Judging p n table → v ≡ cell_of p n → Judging p (n + 1) (set table n v)
judging_more p n table v h j e = record {
  long = length-set table n v ∙ j.long;
  done =
      up_to (λ i. get_or (set table n v) i false ≡ cell_of p i) n (get_or-set_same table n v false (omega (arith, j.long)) ∙ e)
      (λ i l. get_or-set_other table n i v false (λ q. omega arith) ∙ j.done i l);
}

-- all are
pub judging_all : (p n : ℕ) (table : List Bool) → cell_count ≤ n → Judging p n table → Judges p table
judging_all p n table h j = record {
  long = j.long;
  each = λ k d a b.
      j.done (k * actions + d) (omega arith)
      ∙ ap₂ (λ (x y : ℕ). allowed p (turn x y)) (omega arith) (omega arith);
}
