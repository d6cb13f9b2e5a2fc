-- A value has a support in a list exactly if the row of its supports and the list's row have a value in common.
use Prim.Native.Nat.{ℕ}
use mathlib.Core.Bool.{Bool, true, not, ◌&&◌, and_comm}
use mathlib.Core.Path.{◌≡◌, ◌∙◌, ap, ap₂}
use lib.Bits.{bit_and}
use lib.Dec.{eqb}
use Rattle.base.proofs.Row.{row_any, row_both, row_ext}
use Rattle.base.specs.Row.{row_of}
use Rattle.disac4.specs.Report.{row_from}
use Rattle.network.specs.Network.{Network, Domains, supports}
use Rattle.network.specs.Sweep.{has_support}

module _ (net : Network) (d : Domains) (x v y : ℕ) (linked : net.linked x y ≡ true) (row other : ℕ)
    (is_row : row ≡ row_of (net.size y) (supports net x v y)) (is_list : other ≡ row_from net d y) where
  -- what the two rows have in common are the supports in the list
  common : bit_and row other ≡ row_of (net.size y) (λ w. d y w && net.allows x v y w)
  unfolding supports
  common =
      ap₂ bit_and is_row is_list
      ∙ row_both (net.size y) (supports net x v y) (d y)
      ∙ row_ext (net.size y) _ _ (λ w h.
      ap (λ (t : Bool). (t && net.allows x v y w) && d y w) linked ∙ and_comm (net.allows x v y w) (d y w))

  -- so the code's test is the definition's
  pub common_support : not (eqb (bit_and row other) 0) ≡ has_support net d x v y
  unfolding has_support
  common_support = ap (λ (r : ℕ). not (eqb r 0)) common ∙ row_any (net.size y) (λ w. d y w && net.allows x v y w)
