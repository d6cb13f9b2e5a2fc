-- A sweep on its way through the variables: the rows that it has written, and whether it has deleted anything.
use Prim.Native.Nat.{ℕ, ◌+◌, ◌<◌, ◌≤◌}
use mir.Val.{bool_byte}
use borrow.Author.Tests.{eq-eqb, ne_eqb}
use mathlib.Core.Bool.{Bool, true, not}
use mathlib.Core.List.{List}
use mathlib.Core.Logic.{◌↔◌}
use mathlib.Core.Path.{◌≡◌, refl, sym, ◌∙◌, ap, ap₂}
use native.Mathlib.Nat.{not-suc-le-zero}
use native.Mathlib.Decide.{ℕ_discrete}
use native.Mathlib.Omega.{arith}
use lib.Dec.{eqb}
use lib.ListN.{length}
use Rattle.base.proofs.Below.{up_to}
use Rattle.base.proofs.Row.{row_bit, row_ext}
use Rattle.base.proofs.Sums.{one_byte, one_le}
use Rattle.base.specs.Row.{bit}
use Rattle.disac4.specs.Need.{list_need}
use Rattle.disac4.specs.Report.{domain_cells, row_from}
use Rattle.format.specs.Limits.{max_words, max_variables}
use Rattle.lending.specs.Call.{overwrite}
use Rattle.listing.proofs.ListCells.{rows_before, rows_none, rows_next, rows_all}
use Rattle.listing.specs.ListCells.{put_row}
use Rattle.network.proofs.Sweeps.{rests_each}
use Rattle.network.specs.Network.{Network, Domains}
use Rattle.network.specs.Sweep.{sweep, rests}

module _ (words : ℕ) (net : Network) (d : Domains) where
  -- the sweep leaves the row of a variable as it is
  abbrev Stays : ℕ → Type 0
  Stays x = row_from net (sweep net d) x ≡ row_from net d x

  -- where every row stays, the sweep deletes nothing
  stay_rests : ((x : ℕ) → x < net.variables → Stays x) → rests net d ≡ true
  stay_rests h =
      (rests_each net d).1 (λ x v p q.
      sym (row_bit (net.size x) (sweep net d x) v q)
      ∙ ap (λ (r : ℕ). bit r v) (h x p)
      ∙ row_bit (net.size x) (d x) v q)

  -- and the other way round
  rests_stay : rests net d ≡ true → (x : ℕ) → x < net.variables → Stays x
  rests_stay r x p = row_ext (net.size x) _ _ (λ v q. (rests_each net d).0 r x v p q)

  module _ (old : List ℕ) where
    -- the sweep has come to variable `x`
    pub record Writing (new : List ℕ) (shorter x : ℕ) : Type 0 where
      pub written : new ≡ rows_before words (row_from net (sweep net d)) x old
      pub counted : (shorter ≡ 0) ↔ ((z : ℕ) → z < x → Stays z)

    -- nothing is written yet
    pub writing_none : Writing old 0 0
    writing_none = record {
      written = rows_none words (row_from net (sweep net d)) old;
      counted = (λ e z h. absurd (not-suc-le-zero h), λ h. refl);
    }

    -- one row more, which counts 1 where it differs from the row before the sweep
    pub writing_next : (new new' : List ℕ) (shorter x row before one : ℕ) → Writing new shorter x → words ≤ max_words → list_need ≤ length old
        → x < max_variables → row ≡ row_from net (sweep net d) x → before ≡ row_from net d x → ((one ≡ 0) ↔ (row ≡ before))
        → new' ≡ put_row words x row new → Writing new' (shorter + one) (x + 1)
    writing_next new new' shorter x row before one w few long low is_row is_before test put = record {
      written = put ∙ ap₂ (put_row words x) is_row w.written ∙ rows_next words few (row_from net (sweep net d)) x old long low;
      counted = (
        λ e. up_to Stays x (sym is_row ∙ test.0 (omega arith) ∙ is_before) (w.counted.0 (omega arith)),
        λ stay.
            let none_before = w.counted.1 (λ z l. stay z (omega arith)) in
            let none_here = test.1 (is_row ∙ stay x (omega arith) ∙ sym is_before) in
            omega arith,
      );
    }

    -- all of them
    pub writing_all : (new : List ℕ) (shorter x : ℕ) → Writing new shorter x → x ≡ net.variables
        → (new ≡ overwrite (domain_cells words net (sweep net d)) old) × ((shorter ≡ 0) ↔ (rests net d ≡ true))
    writing_all new shorter x w e = (
      w.written ∙ rows_all words net (sweep net d) old x e,
      (
        λ p. stay_rests (λ z h. w.counted.0 p z (omega arith)),
        λ r. w.counted.1 (λ z h. rests_stay r z (omega arith)),
      ),
    )

-- two rows, and 1 where they differ
pub differ : (a b : ℕ) {n : ℕ} → n ≡ bool_byte (not (eqb a b)) → (n ≤ 1) × ((n ≡ 0) ↔ (a ≡ b))
differ a b {n} e = (omega (arith, e ∙ one_byte (not (eqb a b)), one_le (not (eqb a b))), (same, none))
  where
    same : n ≡ 0 → a ≡ b
    same z =
        elim (ℕ_discrete a b) [
          | yes p ↦ p
          | no q ↦ absurd (omega (arith, z, e ∙ ap (λ (t : Bool). bool_byte (not t)) (ne_eqb a b q)))
        ]

    none : a ≡ b → n ≡ 0
    none p = e ∙ ap (λ (t : Bool). bool_byte (not t)) (eq-eqb a b p)
