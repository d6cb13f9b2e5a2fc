-- Writing over the first cells, at once or one after the other.
use Prim.Native.Nat.{ℕ, ◌+◌, ◌<◌, ◌≤◌}
use mathlib.Core.List.{List, ◌++◌}
use mathlib.Core.Path.{◌≡◌, sym, ◌∙◌, ap, subst}
use native.Mathlib.Nat.{le_dest}
use native.Mathlib.Omega.{arith}
use lib.ListN.{length, get_or, take, drop, length-append, length-drop, get_or-append}
use lib.Seq.{get_or-append-add, get_or-drop, take-append_seam, drop-append_seam}
use Rattle.lending.specs.Call.{overwrite, StartsWith}

-- the first cells hold what was written
pub overwrite_front : (new cells : List ℕ) (i : ℕ) → i < length new → get_or (overwrite new cells) i 0 ≡ get_or new i 0
unfolding overwrite
overwrite_front new cells i h = get_or-append new (drop (length new) cells) 0 i h

-- the later ones what they had
pub overwrite_back : (new cells : List ℕ) (i : ℕ) → length new ≤ i → get_or (overwrite new cells) i 0 ≡ get_or cells i 0
unfolding overwrite
overwrite_back new cells i h =
    let d = le_dest h in
    subst (λ (j : ℕ). get_or (new ++ drop (length new) cells) j 0 ≡ get_or cells j 0) d.1
    (get_or-append-add new (drop (length new) cells) d.0 0 ∙ get_or-drop (length new) cells d.0 0)

-- and where there is room for it, the length stays
pub overwrite_length : (new cells : List ℕ) → length new ≤ length cells → length (overwrite new cells) ≡ length cells
unfolding overwrite
overwrite_length new cells h =
    omega (arith, length-append new (drop (length new) cells), length-drop (length new) cells)

-- so it starts with what was written
pub overwrite_starts : (new cells : List ℕ) → length new ≤ length cells → StartsWith new cells (overwrite new cells)
overwrite_starts new cells h = record {
  same_length = overwrite_length new cells h;
  start = overwrite_front new cells;
  kept = overwrite_back new cells;
}

-- what was written before is gone, if there was as much of it
pub overwrite_again : (new old cells : List ℕ) → length new ≡ length old → overwrite new (overwrite old cells) ≡ overwrite new cells
unfolding overwrite
overwrite_again new old cells e =
    ap (λ (n : ℕ). new ++ drop n (old ++ drop (length old) cells)) e
    ∙ ap (λ (rest : List ℕ). new ++ rest) (drop-append_seam old (drop (length old) cells) ∙ ap (λ (n : ℕ). drop n cells) (sym e))

-- and the start, taken by itself, is what was written
pub overwrite_taken : (new cells : List ℕ) → take (length new) (overwrite new cells) ≡ new
unfolding overwrite
overwrite_taken new cells = take-append_seam new (drop (length new) cells)

-- written from the front, one after the other: the first `k` cells hold `p`, the others are as they were
module _ (p : List ℕ) (k : ℕ) (e : length p ≡ k) (cells : List ℕ) where
  pub written_all : p ++ drop k cells ≡ overwrite p cells
  unfolding overwrite
  written_all = ap (λ (n : ℕ). p ++ drop n cells) (sym e)

  pub written_length : k ≤ length cells → length (p ++ drop k cells) ≡ length cells
  written_length h = omega (arith, length-append p (drop k cells), length-drop k cells)
