-- The list cells and the report, from the rows of the domains in memory.
use Prim.Native.Nat.{ℕ, suc, ◌+◌, ◌<◌}
use mathlib.Core.Bool.{cond}
use mathlib.Core.List.{List}
use mathlib.Core.Option.{Option, none, some, get_or}
use mathlib.Core.Path.{◌≡◌, refl, sym, ◌∙◌, ap, ap₂}
use native.Mathlib.Numerals.{add-one}
use borrow.Author.Tests.{ne_eqb}
use native.Mathlib.Omega.{arith}
use lib.Dec.{eqb}
use Rattle.base.proofs.Below.{first_at_lem, first_more}
use Rattle.base.proofs.Choice.{cond_true, cond_false}
use Rattle.base.proofs.Row.{row_none, row_some}
use Rattle.base.specs.Below.{any_below, first_below}
use Rattle.base.specs.Row.{row_of}
use Rattle.lending.specs.Call.{overwrite}
use Rattle.disac4.specs.Report.{lowest_empty, status_of, list_cells}
use Rattle.disac4.specs.System.{system_of, network_at, system_at}
use Rattle.disac4.specs.declared.Report.{Report}
use Rattle.disac4.specs.declared.Status.{Status}
use Rattle.disac4.specs.declared.Status.TheVariants.{Open, Closed, Bare}
use Rattle.disac4.specs.declared.Tally.{Tally}
use Rattle.cells.specs.Memory.{Mem}
use Rattle.listing.proofs.ListCells.{rows_before, rows_all}
use Rattle.refinement.specs.Run.{report_m}
use Rattle.cells.specs.View.{in_domain, view}
use Rattle.disac4.specs.declared.Progress.{Progress}
use Rattle.plan.proofs.Parts.{variables_read}
use Rattle.plan.specs.Decode.{plan_of}
use Rattle.format.specs.Format.{variable_count}
use Rattle.format.specs.Version.{row_words}
use Rattle.plan.specs.Network.{network_of}
use Rattle.plan.specs.Plan.{size_of}
use Rattle.std.specs.Prelude.{Option as RustOption, Some, None, IfSome, is_none, unwrap_or}

-- the row of a variable's domain
abbrev pub domain_row : List ℕ → Mem → ℕ → ℕ
domain_row b m x = row_of (size_of (plan_of b) x) (in_domain m x)

-- ---- the list cells

-- all rows are written
pub rows_written : (b : List ℕ) (m : Mem) (k : ℕ) (lists : List ℕ) → k ≡ variable_count b → (t : Tally)
    → rows_before (row_words b) (domain_row b m) k lists ≡ overwrite (list_cells (row_words b) (system_at b) (view (system_at b) m t)) lists
unfolding system_of network_of view
rows_written b m k lists e t = rows_all (row_words b) (network_at b) (in_domain m) lists k (e ∙ sym (variables_read b))

-- ---- empty domains

-- one more than a variable whose domain is empty
abbrev pub empty_at : List ℕ → Mem → ℕ → Option ℕ
empty_at b m x = cond (any_below (size_of (plan_of b) x) (in_domain m x)) none (some (suc x))

module _ (b : List ℕ) (m : Mem) (x : ℕ) (before : first_below x (empty_at b m) ≡ none) where
  empty_view : (t : Tally)
      → lowest_empty (system_at b) (view (system_at b) m t)
      ≡ get_or (first_below (variable_count b) (empty_at b m)) 0
  unfolding lowest_empty system_of network_of view
  empty_view t = ap (λ (n : ℕ). get_or (first_below n (empty_at b m)) 0) (variables_read b)

  pub empty_here : x < variable_count b → domain_row b m x ≡ 0 → (t : Tally)
      → x + 1 ≡ lowest_empty (system_at b) (view (system_at b) m t)
  empty_here h e t =
      add-one x
      ∙ ap (λ (o : Option ℕ). get_or o 0)
      (sym (first_at_lem (variable_count b) (empty_at b m) x (suc x) h before
      (cond_false none (some (suc x)) (row_none (size_of (plan_of b) x) (in_domain m x) e))))
      ∙ sym (empty_view t)

  pub empty_next : (domain_row b m x ≡ 0 → ⊥) → first_below (x + 1) (empty_at b m) ≡ none
  empty_next h =
      first_more x (empty_at b m) before
      (cond_true none (some (suc x)) (row_some (size_of (plan_of b) x) (in_domain m x) h))

  pub empty_nowhere : x ≡ variable_count b → (t : Tally)
      → 0 ≡ lowest_empty (system_at b) (view (system_at b) m t)
  empty_nowhere e t =
      ap (λ (o : Option ℕ). get_or o 0) (sym before)
      ∙ ap (λ (n : ℕ). get_or (first_below n (empty_at b m)) 0) e
      ∙ sym (empty_view t)

-- ---- the report

abbrev pub reported : Progress → Status → ℕ → Report
reported g s e = record { status = s; changes = g.changes; sends = g.sends; polls = g.polls; empty = e }

-- an empty domain is numbered from 1, so that 0 stands for none
numbered : (o : RustOption ℕ) → IfSome o (λ x. 0 < x) → eqb (unwrap_or o 0) 0 ≡ is_none o
numbered None h = refl
numbered (Some x) h = ne_eqb x 0 (λ e. omega arith)

pub report_law : (b : List ℕ) (m : Mem) (g : Progress) (s : Status) (o : RustOption ℕ) → IfSome o (λ x. 0 < x)
    → s ≡ cond g.tally.closed (cond (is_none o) Closed Bare) Open
    → unwrap_or o 0 ≡ lowest_empty (system_at b) (view (system_at b) m g.tally)
    → reported g s (unwrap_or o 0) ≡ report_m (system_at b) m g
unfolding report_m status_of view
report_law b m g s o h p q =
    let status : s ≡ cond g.tally.closed (cond (eqb (unwrap_or o 0) 0) Closed Bare) Open =
    rw (numbered o h) p in
    ap₂ (reported g) (status ∙ ap (λ (n : ℕ). cond g.tally.closed (cond (eqb n 0) Closed Bare) Open) q) q
