-- Treating in memory keeps what holds of the memory in every run.
use Prim.Native.Nat.{ℕ, suc, ◌+◌, ◌<◌}
use mathlib.Core.Bool.{not}
use mathlib.Core.List.{List, []}
use mathlib.Core.Logic.{inl, ⊎_elim}
use mathlib.Core.Option.{some}
use mathlib.Core.Path.{◌≡◌, refl, sym, ◌∙◌, ap, fun_ext}
use native.Mathlib.Omega.{arith}
use lib.ListN.{length}
use Rattle.base.proofs.Bools.{and_left}
use Rattle.base.proofs.Choice.{everywhere, if_holds}
use Rattle.base.proofs.Sums.{sum_change}
use Rattle.disac4.proofs.DomainSize.{treat_size}
use Rattle.disac4.specs.Action.{deletes, deletions}
use Rattle.disac4.specs.State.{State}
use Rattle.disac4.specs.System.{System}
use Rattle.disac4.specs.declared.Tally.{Tally}
use Rattle.network.specs.Network.{Label, domain_size}
use Rattle.cells.specs.Layout.{WORKERS, LOG, WORK, HEAD, TAIL, LOGEND, SENDS, LISTS, OUTEND, OUTREAD}
use Rattle.cells.specs.Memory.{Mem, store}
use Rattle.controller.specs.Controller.{Machine}
use Rattle.treating.proofs.TreatLaws.{has_work_lem}
use Rattle.treating.specs.Treat.{has_work, treat_m}
use Rattle.cells.specs.View.{in_domain, label_of, view}
use Rattle.refinement.proofs.InvKept.{OnlyRow, worker_action, totals_kept}
use Rattle.refinement.proofs.LongerLists.{Both, both_none, both_more}
use Rattle.refinement.specs.Inv.{Small, Inv, OutCounted, Row, Totals, remaining}
use Rattle.refinement.proofs.TreatRefines.{treated_m, treated_apart, treated_both, treated_unmoved, head_after, other_row, domain_after, pairs_after}
use Rattle.refinement.proofs.Unmoved.{Unmoved, row_longer}

module _ (sys : System) (small : Small sys) (s : Machine) (inv : Inv sys s) (i : ℕ) (h : i < sys.workers)
    (busy : s.mem WORKERS i HEAD < s.mem WORKERS i TAIL) where
  abbrev m : Mem
  m = s.mem

  abbrev t : Tally
  t = s.tally

  abbrev n : Mem
  n = treated_m sys small s inv i h busy

  abbrev u : Unmoved m n
  u = treated_unmoved sys small s inv i h busy

  abbrev st : State
  st = view sys m t

  abbrev deleted : List Label
  deleted = deletions sys (suc i) (label_of (m WORK i (m WORKERS i HEAD))) st

  both : Both sys i m n deleted
  both =
      both_more sys i m taken n [] deleted (both_none sys i m taken refl refl (λ d. refl) (λ d. refl))
      (treated_both sys small s inv i h busy)
    where
      taken : Mem
      taken = store m WORKERS i HEAD (m WORKERS i HEAD + 1)

  only_row : OnlyRow m n i
  unfolding view
  only_row = record {
    others = λ j d. record {
      workers = λ c. other_row sys small s inv i h busy j c d;
      bounds = u.bounds j;
      log = λ c. treated_apart sys small s inv i h busy LOG j c (λ x v k l. omega arith);
      work = λ c. treated_apart sys small s inv i h busy WORK j c (λ x v k l. omega arith);
      out = u.out j;
    };
    wanted = u.wanted 0;
    pairs = pairs_after sys small s inv i h busy;
    listed = λ x v e.
        and_left (in_domain m x v)
        (not (deletes sys (suc i) (label_of (m WORK i (m WORKERS i HEAD))) st x v))
        (sym (domain_after sys small s inv i h busy x v) ∙ e);
  }

  row : Row sys n t i
  row =
      row_longer sys m n t u i deleted both (omega (arith, head_after sys small s inv i h busy, both.work.end)) (inv.rows i h)

  size_after : remaining sys n + length deleted ≡ remaining sys m
  unfolding view
  size_after =
      ap (λ d. domain_size sys.net d + length deleted)
      (fun_ext λ x. fun_ext λ v. domain_after sys small s inv i h busy x v)
      ∙ treat_size sys (suc i) (label_of (m WORK i (m WORKERS i HEAD))) st

  totals : Totals sys n t
  totals =
      totals_kept sys m n t t
      (record {
        sends = λ j. u.column j SENDS (omega arith);
        lists = λ j. u.column j LISTS (omega arith);
        out_end = λ j. u.column j OUTEND (omega arith);
        out_read = λ j. u.column j OUTREAD (omega arith);
        cursors = u.cursors;
        bounds = u.bounds;
        out = u.out;
        ends =
            everywhere (λ j. n WORKERS j TAIL + m WORKERS j LOGEND ≡ m WORKERS j TAIL + n WORKERS j LOGEND) i
            (omega (arith, both.work.end, both.log.end))
            (λ j d. omega (arith, (only_row.others j d).workers TAIL, (only_row.others j d).workers LOGEND));
        logged = omega (
          arith,
          sum_change sys.workers (λ j. m WORKERS j LOGEND) (λ j. n WORKERS j LOGEND) i h (λ j k d. sym ((only_row.others j d).workers LOGEND)),
          both.log.end,
          size_after,
        );
      })
      refl inv.totals

  -- a row with work has not replied at its present count
  outs : OutCounted n t i
  outs =
      ⊎_elim (λ p. inl (omega (arith, u.column i OUTEND (omega arith), u.column i LISTS (omega arith))))
      (λ p. absurd (omega (arith, p.no_work))) (inv.replied i h)

  inv_after : Inv sys (record { mem = n; tally = t })
  inv_after = worker_action sys s n i inv only_row row totals outs

-- treating keeps the invariant
pub treat_keeps : (sys : System) → Small sys → (s : Machine) → Inv sys s → (i : ℕ) → i < sys.workers → (m' : Mem)
    → treat_m sys i s.mem ≡ some m' → Inv sys (record { mem = m'; tally = s.tally })
unfolding treat_m
treat_keeps sys small s inv i h m' e =
    if_holds (λ n. Inv sys (record { mem = n; tally = s.tally })) (has_work i s.mem) e (λ has.
    inv_after sys small s inv i h (has_work_lem i s.mem has).untreated)
