-- The row of a variable on its way through a sweep, revised against one variable after the other.
use Prim.Native.Nat.{ℕ, ◌+◌}
use mathlib.Core.Bool.{Bool, true, false, ◌&&◌, ◌||◌, not, and_assoc}
use mathlib.Core.List.{List}
use mathlib.Core.Path.{◌≡◌, refl, sym, ◌∙◌, ap}
use native.Mathlib.Numerals.{add-one}
use Rattle.base.proofs.Bools.{and_true, or_left, not_of}
use Rattle.base.proofs.Row.{row_ext, row_bit}
use Rattle.base.specs.Below.{all_below}
use Rattle.base.specs.Row.{bit, row_of}
use Rattle.listing.specs.ListCells.{Shows}
use Rattle.disac4.specs.Report.{row_from}
use Rattle.network.specs.Network.{Network, Domains}
use Rattle.network.specs.Sweep.{has_support, has_supports, sweep}

module _ (net : Network) (d : Domains) (x : ℕ) where
  -- value `v` has its supports against the variables below `k`
  abbrev supported_below : ℕ → ℕ → Bool
  supported_below k v = all_below k (λ y. not (net.linked x y) || has_support net d x v y)

  -- the row of the values that are left then
  abbrev pub row_left : ℕ → ℕ
  row_left k = row_of (net.size x) (λ v. d x v && supported_below k v)

  -- at first, all of them
  pub left_none : row_from net d x ≡ row_left 0
  left_none = row_ext (net.size x) _ _ (λ v h. sym (and_true (d x v) refl))

  -- a value is left after one variable more
  left_after : (k v : ℕ) → d x v && supported_below (k + 1) v
      ≡ d x v && (supported_below k v && (not (net.linked x k) || has_support net d x v k))
  left_after k v = ap (λ (n : ℕ). d x v && supported_below n v) (add-one k)

  -- one that shares no constraint takes nothing away
  pub left_past : (k : ℕ) → net.linked x k ≡ false → row_left k ≡ row_left (k + 1)
  left_past k e =
      row_ext (net.size x) _ _ (λ v h.
      sym
      (left_after k v
      ∙ ap (λ (t : Bool). d x v && t) (and_true (supported_below k v) (or_left (has_support net d x v k) (not_of e)))))

  -- against one that shares one, the row is revised
  pub left_next : (k row : ℕ) → net.linked x k ≡ true → row ≡ row_left k
      → row_of (net.size x) (λ v. bit row v && has_support net d x v k) ≡ row_left (k + 1)
  left_next k row e is =
      row_ext (net.size x) _ _ (λ v h.
      ap (λ (r : ℕ). bit r v && has_support net d x v k) is
      ∙ ap (λ (t : Bool). t && has_support net d x v k) (row_bit (net.size x) (λ u. d x u && supported_below k u) v h)
      ∙ and_assoc (d x v) (supported_below k v) (has_support net d x v k)
      ∙ sym
      (left_after k v ∙ ap (λ (t : Bool). d x v && (supported_below k v && (not t || has_support net d x v k))) e))

  -- after all variables it is the swept one
  pub left_all : (k : ℕ) → k ≡ net.variables → row_left k ≡ row_from net (sweep net d) x
  unfolding sweep has_supports
  left_all k e = ap row_left e

-- the row, revised against the first `k` variables, whichever domains the lists show
abbrev pub Revised : ℕ → Network → List ℕ → ℕ → ℕ → ℕ → Type 0
Revised words net lists x row k = (d : Domains) → Shows words net d lists → row ≡ row_left net d x k
