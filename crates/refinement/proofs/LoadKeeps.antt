-- What holds of the memory in every run holds of the loaded memory.
use Prim.Native.Nat.{ℕ, suc, ◌<◌}
use mathlib.Core.Bool.{not}
use mathlib.Core.Logic.{inl}
use mathlib.Core.Path.{◌≡◌, refl, sym, ◌∙◌, ap, fun_ext}
use native.Mathlib.Nat.{not-suc-le-zero}
use native.Mathlib.Omega.{arith}
use lib.ListN.{length}
use lib.Pow.{pow_pos}
use Rattle.base.proofs.Bools.{clash, and_left}
use Rattle.base.proofs.Sums.{sum_ext, sum_zero}
use Rattle.disac4.proofs.DomainSize.{load_size, deletions_loaded}
use Rattle.disac4.specs.Loading.{unsupported, loaded_deletions, load}
use Rattle.disac4.specs.System.{System}
use Rattle.network.specs.Network.{loaded, domain_size}
use Rattle.cells.specs.Layout.{WORKERS, CURSORS, BOUNDS, HEAD, TAIL, LOGEND, SENDS, LISTS, HELD, POLLS, OUTEND, OUTREAD}
use Rattle.loading.specs.Load.{load_m}
use Rattle.cells.specs.Memory.{Mem}
use Rattle.refinement.specs.Inv.{Small, Row, Totals, Inv, lists_out}
use Rattle.refinement.specs.Run.{fresh_tally}
use Rattle.index.specs.Index.{Paired}
use Rattle.refinement.proofs.InvKept.{paired_kept}
use Rattle.refinement.proofs.LoadRefines.{Blank, loaded_both, loaded_unmoved, column_loaded, domain_loaded, pairs_loaded}
use Rattle.refinement.proofs.Unmoved.{row_longer}

module _ (sys : System) (small : Small sys) (z : Mem) (paired : Paired sys z) (blank : Blank z) where
  abbrev n : Mem
  n = load_m sys z

  -- a row of a blank memory
  blank_row : (i : ℕ) → Row sys z fresh_tally i
  blank_row i = record {
    queue = omega (arith, blank WORKERS i HEAD (omega arith));
    first_bound = blank BOUNDS i 0 (omega arith);
    bounds_rise = λ c p. absurd (omega (arith, blank WORKERS i SENDS (omega arith)));
    last_bound = omega (arith, blank BOUNDS i (z WORKERS i SENDS) (omega arith));
    out_read = omega (arith, blank WORKERS i OUTREAD (omega arith));
    out_list = λ e p. absurd (omega (arith, blank WORKERS i OUTEND (omega arith)));
    polls_read = omega (arith, blank WORKERS i POLLS (omega arith));
    held_read = omega (arith, blank WORKERS i HELD (omega arith));
    log_labels = λ d p. absurd (omega (arith, blank WORKERS i LOGEND (omega arith)));
    work_labels = λ d p. absurd (omega (arith, blank WORKERS i TAIL (omega arith)));
  }

  -- a column other than the ends of the lists
  column : (i b : ℕ) → (b ≡ TAIL → ⊥) × (b ≡ LOGEND → ⊥) → n WORKERS i b ≡ 0
  column = column_loaded sys small z paired blank

  cursor : (j i : ℕ) → n CURSORS j i ≡ 0
  cursor j i = (loaded_unmoved sys small z paired blank).cursors j i ∙ blank CURSORS j i (omega arith)

  log_end : (i : ℕ) → i < sys.workers → n WORKERS i LOGEND ≡ length (loaded_deletions sys (suc i))
  log_end i h =
      (loaded_both sys small z paired blank i h).log.end ∙ omega (arith, blank WORKERS i LOGEND (omega arith))

  work_end : (i : ℕ) → i < sys.workers → n WORKERS i TAIL ≡ length (loaded_deletions sys (suc i))
  work_end i h =
      (loaded_both sys small z paired blank i h).work.end ∙ omega (arith, blank WORKERS i TAIL (omega arith))

  no_lists : (i c : ℕ) → c ≡ 0 → lists_out n i c ≡ 0
  no_lists i c e = ap (lists_out n i) e

  totals : Totals sys n fresh_tally
  unfolding load
  totals = record {
    own_cursor = λ i h. cursor i i;
    cursor = λ j i h k. omega (arith, cursor j i);
    pushed = λ i h.
        omega (
          arith,
          log_end i h,
          work_end i h,
          sum_zero sys.workers (λ j. n BOUNDS j (n CURSORS j i))
              (λ j k.
              (loaded_unmoved sys small z paired blank).bounds j (n CURSORS j i) ∙ blank BOUNDS j (n CURSORS j i) (omega arith)),
        );
    counted = λ i h.
        omega (
          arith,
          column i LISTS (omega arith),
          column i SENDS (omega arith),
          sum_zero sys.workers (λ j. n CURSORS j i) (λ j k. cursor j i),
        );
    logged = omega (
      arith,
      sum_ext sys.workers (λ i. n WORKERS i LOGEND) (λ i. length (loaded_deletions sys (suc i))) log_end,
      deletions_loaded sys small.sound.owned,
      ap (domain_size sys.net) (fun_ext λ x. fun_ext λ v. domain_loaded sys small z paired blank x v),
      load_size sys,
    );
    all_out = λ i h.
        no_lists i (n WORKERS i OUTEND) (column i OUTEND (omega arith))
        ∙ sym (column i SENDS (omega arith));
    lists_read_lem = sym (sum_zero sys.workers (λ i. lists_out n i (n WORKERS i OUTREAD))
        (λ i h. no_lists i (n WORKERS i OUTREAD) (column i OUTREAD (omega arith))));
  }

  -- the invariant holds of the loaded memory
  pub load_starts : Inv sys (record { mem = load_m sys z; tally = fresh_tally })
  load_starts = record {
    rows = λ i h.
        row_longer sys z n fresh_tally (loaded_unmoved sys small z paired blank) i (loaded_deletions sys (suc i))
        (loaded_both sys small z paired blank i h)
        (omega (arith, column i HEAD (omega arith)))
        (blank_row i);
    totals = totals;
    polled = record {
      rises = λ c p q. absurd (not-suc-le-zero q);
      wanted_open = λ e. clash e refl;
      wanted_ended = λ e p. absurd (not-suc-le-zero p);
    };
    replied = λ i h. inl (omega (arith, column i OUTEND (omega arith)));
    paired = paired_kept z n sys (pairs_loaded sys small z paired blank) paired;
    listed = λ x v e.
        and_left (loaded sys.net x v) (not (unsupported sys.net x v))
        (sym (domain_loaded sys small z paired blank x v) ∙ e);
    marks = pow_pos sys.workers;
  }
