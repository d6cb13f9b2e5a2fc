-- Where the sections of an accepted plan start: within the plan, low enough for a cell, and kept in the cells.
use Prim.Native.Nat.{ℕ, zero, suc, ◌+◌, ◌*◌, ◌-◌, ◌<◌, ◌≤◌}
use mathlib.Core.Bool.{cond}
use mathlib.Core.List.{List}
use mathlib.Core.Logic.{⊎_elim}
use mathlib.Core.Option.{none}
use mathlib.Core.Path.{◌≡◌, ◌∙◌, ap}
use borrow.Author.Tests.{leb-true, eqb-true}
use native.Mathlib.Nat.{mul-le-mul_right}
use native.Mathlib.Omega.{arith}
use lib.Dec.{eqb}
use lib.ListN.{length}
use Rattle.base.proofs.Bools.{decided}
use Rattle.base.proofs.Choice.{cond_true, cond_false}
use Rattle.base.proofs.Loops.{loop_same, loop_from}
use Rattle.base.specs.Below.{loop}
use Rattle.base.specs.Bytes.{word_at}
use Rattle.plan.proofs.Faults.{sound_section}
use Rattle.plan.proofs.InOrder.{InOrder, ordered}
use Rattle.plan.proofs.Parts.{variables_read, constraints_read, size_read}
use Rattle.plan.proofs.SectionSays.{head_says, variable_says, constraint_says}
use Rattle.plan.proofs.Sections.{each_section, section_complete}
use Rattle.plan.proofs.WellFormed.{read_well_formed}
use Rattle.faults.specs.CheckList.{first_fault}
use Rattle.plan.specs.Check.{constraint_length}
use Rattle.plan.specs.Decode.{plan_fault, plan_of}
use Rattle.format.specs.Format.{section_start, variable_count, constraint_count, section_count, size_at, first_at, kind_at, is_set, further_count, numbered_size}
use Rattle.format.specs.Limits.{word_bytes, max_words, max_variables, max_values, max_constraints, max_further}
use Rattle.format.specs.Version.{max_size, row_bytes}
use Rattle.format.proofs.Widths.{words_range, size_range}
use Rattle.plan.specs.WellFormed.{WellFormed, VariableFits}
use Rattle.cells.proofs.Done.{Done}
use Rattle.cells.proofs.Stores.{store_same, store_other, store_apart}
use Rattle.index.specs.Index.{Located, place_m, places_m}
use Rattle.cells.specs.Layout.{PLACES}
use Rattle.cells.specs.Memory.{Mem, mem_of}

-- no section is longer: neither a variable's nor a table's with as many values as there may be
abbrev max_section : ℕ
max_section = 3 + 4 * max_values

module _ (b : List ℕ) (None-found : plan_fault b ≡ none) where
  fits : WellFormed (max_size b) (plan_of b)
  fits = read_well_formed b None-found

  pub few_sections : (variable_count b ≤ max_variables) × (constraint_count b ≤ max_constraints)
  few_sections = omega (arith, fits.variables_high, fits.constraints_high, variables_read b, constraints_read b)

  -- a variable has no more values than its plan's version gives a row bits
  pub row_values : (x : ℕ) → x < variable_count b → numbered_size b (suc x) ≤ max_size b
  row_values x h =
      let fit : VariableFits (max_size b) (plan_of b) x = fits.each_variable x (omega (arith, variables_read b)) in
      omega (arith, fit.few_values, size_read b x h)

  pub few_values : (x : ℕ) → x < variable_count b → numbered_size b (suc x) ≤ max_values
  few_values x h = omega (arith, row_values x h, size_range b)

  -- each section starts within the plan, and the last one ends there
  pub start_inside : (k : ℕ) → k ≤ section_count b → section_start b k ≤ length b
  unfolding section_start
  start_inside zero h = omega (arith, section_complete b 0 (sound_section b None-found 0 (omega arith)))
  start_inside (suc k) h = section_complete b k (sound_section b None-found k h)

  -- no constraint's section is longer
  constraint_short : (at : ℕ) → InOrder b at → further_count b at ≤ max_further → constraint_length b at ≤ max_section
  unfolding constraint_length
  constraint_short at order few =
      let size = numbered_size b (first_at b at) in
      let e : suc (first_at b at - 1) ≡ first_at b at = omega arith in
      let small : numbered_size b (suc (first_at b at - 1)) ≤ max_values = few_values (first_at b at - 1) (omega arith) in
      let short : row_bytes b * size ≤ word_bytes * max_words * size = mul-le-mul_right size (omega (arith, words_range b)) in
      let other : ℕ = cond (is_set b at) (6 + further_count b at) 5 in
      ⊎_elim (λ p. omega (arith, cond_true (3 + row_bytes b * size) other p, ap (numbered_size b) e))
      (λ p.
      ⊎_elim (λ q. omega (arith, cond_false (3 + row_bytes b * size) other p, cond_true (6 + further_count b at) 5 q))
      (λ q. omega (arith, cond_false (3 + row_bytes b * size) other p, cond_false (6 + further_count b at) 5 q)) (decided (is_set b at)))
      (decided (eqb (kind_at b at) 0))

  section_short : (k : ℕ) → k < section_count b → word_at b (section_start b k) ≤ max_section
  section_short k h =
      let at = section_start b k in
      let r = k - variable_count b in
      each_section (λ cs. first_fault cs ≡ none → word_at b (section_start b k) ≤ max_section) b k
      (λ e. omega (arith, eqb-true (word_at b at) 3 (head_says b at e).exact))
      (λ e.
      omega (
        arith,
        size_range b,
        leb-true (size_at b at) (max_size b) (variable_says b k at e).few_values,
        eqb-true (word_at b at) (2 + 4 * size_at b at) (variable_says b k at e).exact,
      ))
      (λ e.
      omega (
        arith,
        eqb-true (word_at b at) (constraint_length b at) (constraint_says b r at e).exact,
        constraint_short at (ordered b at (constraint_says b r at e).in_order)
            (leb-true (further_count b at) max_further (constraint_says b r at e).few_further),
      ))
      (sound_section b None-found k h)

  start_low : (k : ℕ) → k ≤ section_count b → section_start b k ≤ 1 + (2 + max_section) * k
  unfolding section_start
  start_low zero h = omega arith
  start_low (suc k) h = omega (arith, start_low k (omega arith), section_short k h)

  -- a cell holds each section's start
  pub start_fits : (k : ℕ) → k < section_count b → section_start b k < 65536
  start_fits k h = omega (arith, start_low k (omega arith), few_sections)

-- ---- in the cells

-- writing the places touches no other region
pub places_keep : (b : List ℕ) (m : Mem) (r i j : ℕ) → (r ≡ PLACES → ⊥) → places_m b m r i j ≡ m r i j
unfolding places_m
places_keep b m r i j h =
    loop_same (λ o. o r i j) (section_count b) (place_m b) (λ k l o. store_apart o PLACES 0 k (section_start b k) r i j h) m

-- and leaves each section's start
pub places_at : (b : List ℕ) (m : Mem) (k : ℕ) → k < section_count b → places_m b m PLACES 0 k ≡ section_start b k
unfolding places_m
places_at b m k h =
    loop_from (λ o. o PLACES 0 k ≡ section_start b k) (section_count b) (place_m b) m k h
    (store_same (loop k (place_m b) m) PLACES 0 k (section_start b k))
    (λ l after inside o e. store_other o PLACES 0 l (section_start b l) PLACES 0 k (λ p q r. omega arith) ∙ e)

-- the sections' places are still known where their cells are as they were
pub located_kept : (b old new : List ℕ) (n : Mem) → Located b old → length new ≡ length old → mem_of new ≡ n
    → ((k : ℕ) → n PLACES 0 k ≡ mem_of old PLACES 0 k) → Located b new
located_kept b old new n l e p same = record {
  sound = l.sound;
  places = λ k h. ap (λ (m : Mem). m PLACES 0 k) p ∙ same k ∙ l.places k h;
  long = omega (arith, l.long);
}

-- so they are while a loop goes on whose steps leave these cells alone
pub located_done : (b : List ℕ) {f : ℕ → Mem → Mem} {k : ℕ} {old new : List ℕ} → Located b old → Done f old k new
    → ((j : ℕ) (m : Mem) (s : ℕ) → f j m PLACES 0 s ≡ m PLACES 0 s) → Located b new
located_done b {f = f} {k = k} {old = old} {new = new} l d same =
    located_kept b old new _ l d.size d.mem (λ s. loop_same (λ m. m PLACES 0 s) k f (λ j h m. same j m s) (mem_of old))
