-- The cells behind the needed ones, and the memory of cleared cells.
use Prim.Native.Nat.{ℕ, ◌+◌, ◌^◌, ◌<◌, ◌≤◌}
use mathlib.Core.Bool.{Bool, true, false, cond, ◌&&◌}
use mathlib.Core.List.{List, ◌++◌}
use mathlib.Core.Path.{◌≡◌, refl, sym, ◌∙◌, ap, fun_ext}
use native.Mathlib.Omega.{arith}
use borrow.Author.Tests.{lt-ltb, ltb-true, ltb-false}
use lib.Dec.{ltb}
use lib.ListN.{length, get_or, drop, replicate, length-drop, length-replicate, get_or-replicate}
use lib.Seq.{ext_get_or, get_or-drop}
use Rattle.base.proofs.Bools.{and_left, and_right}
use Rattle.base.proofs.Choice.{cond_true}
use Rattle.lending.proofs.Overwritten.{overwrite_front, overwrite_back}
use Rattle.disac4.specs.Need.{work_need}
use Rattle.lending.specs.Call.{overwrite}
use Rattle.cells.proofs.Halves.{share_none}
use Rattle.cells.proofs.Regions.{past_table, place_low}
use Rattle.cells.specs.Layout.{BEHIND, region_at, address}
use Rattle.cells.specs.Memory.{cleared_m, share_of, mem_of}

-- a cell behind the needed ones
mem_behind : (c : List ℕ) (j : ℕ) → j < 2 ^ 64 → mem_of c BEHIND 0 j ≡ get_or c (work_need + j) 0
unfolding mem_of share_of work_need
mem_behind c j h = cond_true (get_or c (work_need + j) 0) 0 (lt-ltb j (2 ^ 64) h)

-- two buffers of one length that agree behind the needed cells are equal once the needed cells are cleared
pub behind_same : (c d : List ℕ) → length c ≡ length d → length c < 2 ^ 64
    → ((j : ℕ) → mem_of c BEHIND 0 j ≡ mem_of d BEHIND 0 j)
    → overwrite (replicate work_need 0) c ≡ overwrite (replicate work_need 0) d
unfolding overwrite
behind_same c d n few h =
    ap (λ (l : List ℕ). replicate work_need 0 ++ l)
    (rw (length-replicate {A = ℕ} work_need 0)
    (ext_get_or 0 (drop work_need c) (drop work_need d) (omega (arith, length-drop work_need c, length-drop work_need d)) same))
  where
    same : (j : ℕ) → j < length (drop work_need c) → get_or (drop work_need c) j 0 ≡ get_or (drop work_need d) j 0
    same j l =
        let b : j < 2 ^ 64 = omega (arith, length-drop work_need c) in
        get_or-drop work_need c j 0
        ∙ sym (mem_behind c j b)
        ∙ h j
        ∙ mem_behind d j b
        ∙ sym (get_or-drop work_need d j 0)

-- the memory of cells whose needed part was cleared
pub cleared_memory : (c : List ℕ) → mem_of (overwrite (replicate work_need 0) c) ≡ cleared_m (mem_of c)
unfolding mem_of cleared_m
cleared_memory c = fun_ext λ r. fun_ext λ i. fun_ext λ j. at_place r i j
  where
    inside : ℕ → ℕ → ℕ → Bool
    inside r i j = ltb i (region_at r).rows && ltb j (region_at r).cols

    new : List ℕ
    new = overwrite (replicate work_need 0) c

    low : (r i j : ℕ) → r < BEHIND → inside r i j ≡ true → get_or new (address (region_at r) i j) 0 ≡ 0
    low r i j h e =
        let b : address (region_at r) i j < work_need =
        place_low r i j h (ltb-true i (region_at r).rows (and_left (ltb i (region_at r).rows) (ltb j (region_at r).cols) e))
        (ltb-true j (region_at r).cols (and_right (ltb i (region_at r).rows) (ltb j (region_at r).cols) e)) in
        overwrite_front (replicate work_need 0) c (address (region_at r) i j) (omega (arith, length-replicate {A = ℕ} work_need 0))
        ∙ get_or-replicate work_need (address (region_at r) i j) 0 0 b

    high : (r i j : ℕ) → BEHIND ≤ r → get_or new (address (region_at r) i j) 0 ≡ get_or c (address (region_at r) i j) 0
    high r i j h =
        overwrite_back (replicate work_need 0) c (address (region_at r) i j)
        (rw (past_table r h) (omega (arith, length-replicate {A = ℕ} work_need 0)))

    at_place : (r i j : ℕ) → mem_of new r i j ≡ cleared_m (mem_of c) r i j
    at_place r i j = go (ltb r BEHIND) refl (inside r i j) refl
      where
        go : (a : Bool) → ltb r BEHIND ≡ a → (b : Bool) → inside r i j ≡ b
            → cond b (share_of (region_at r) i (get_or new (address (region_at r) i j) 0)) 0
            ≡ cond a 0 (cond b (share_of (region_at r) i (get_or c (address (region_at r) i j) 0)) 0)
        go true p true q = ap (share_of (region_at r) i) (low r i j (ltb-true r BEHIND p) q) ∙ share_none (region_at r) i
        go true p false q = refl
        go false p true q = ap (share_of (region_at r) i) (high r i j (ltb-false r BEHIND p))
        go false p false q = refl
