-- The row that the limits and the tables of a chain leave together.
use Prim.Native.Nat.{ℕ, suc, ◌^◌, ◌<◌}
use mathlib.Core.Bool.{Bool, ◌&&◌}
use mathlib.Core.List.{List}
use mathlib.Core.Path.{◌≡◌, refl, sym, ◌∙◌, ap}
use native.Mathlib.Omega.{arith}
use lib.Bits.{bit_and, and_le_l}
use Rattle.base.proofs.Bools.{and_true}
use Rattle.base.proofs.Row.{bit-bit_and, row_held, row_small, row_ext, row_of_bits}
use Rattle.base.specs.Below.{all_below}
use Rattle.base.specs.Row.{bit, row_of}
use Rattle.format.specs.Format.{constraint_count}
use Rattle.index.proofs.Along.{Along, along_start, along_next, table_accepts, limit_accepts, Rest, rest_start, rest_next}
use Rattle.index.specs.Index.{table_below}
use Rattle.plan.specs.Decode.{plan_of}
use Rattle.plan.specs.Network.{pair_allowed}

-- of the first `values` of `y`, the row holds those that the limits and the tables behind the walk permit
pub record Left (b : List ℕ) (x v y values row n : ℕ) : Type 0 where
  pub along : Along b x y n
  pub small : row < 2 ^ values
  pub rest : (w : ℕ) → w < values → Rest b x v y w (bit row w) n

module _ (b : List ℕ) (x v y values : ℕ) where
  -- at first, those that the limits permit
  pub left_start : (row : ℕ) (t : ℕ → Bool) → row ≡ row_of values t
      → ((w : ℕ) → w < values → t w ≡ all_below (constraint_count b) (limit_accepts b x v y w)) → (n : ℕ)
      → n ≡ table_below b x y (constraint_count b) → Left b x v y values row n
  left_start row t q f n e = record {
    along = along_start b x y n e;
    small = rw q (row_small values t);
    rest = λ w h. rest_start b x v y w (bit row w) (row_held values row t q w h ∙ f w h) n e;
  }

  -- then those that the next table permits too
  pub left_next : (row c : ℕ) → Left b x v y values row (suc c) → (r : ℕ)
      → ((w : ℕ) → w < values → bit r w ≡ table_accepts b x v y w c) → (n : ℕ) → n ≡ table_below b x y c
      → Left b x v y values (bit_and row r) n
  left_next row c a r f n e = record {
    along = along_next b x y c a.along n e;
    small = omega (arith, and_le_l row r, a.small);
    rest = λ w h.
        rest_next b x v y w (bit row w) c (a.rest w h) (bit (bit_and row r) w)
        (bit-bit_and row r w ∙ ap (λ (t : Bool). bit row w && t) (f w h)) n e;
  }

  -- in the end, the allowed ones
  pub left_all : (row : ℕ) → Left b x v y values row 0 → row ≡ row_of values (pair_allowed (plan_of b) x v y)
  left_all row a =
      sym (row_of_bits values row a.small)
      ∙ row_ext values (bit row) (pair_allowed (plan_of b) x v y) (λ w h. sym (a.rest w h ∙ and_true (bit row w) refl))
