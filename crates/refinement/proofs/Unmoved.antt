-- What a memory action leaves alone when it only deletes labels: polls, counts of lists and channels; its rows stay in order.
use Prim.Native.Nat.{ℕ, ◌-◌, ◌<◌, ◌≤◌}
use mathlib.Core.Bool.{cond}
use mathlib.Core.List.{List}
use mathlib.Core.Option.{none}
use mathlib.Core.Path.{◌≡◌, refl, ◌∙◌, ap}
use native.Mathlib.Omega.{arith}
use lib.Dec.{eqb}
use Rattle.network.specs.Network.{Label}
use Rattle.disac4.specs.System.{System}
use Rattle.disac4.specs.declared.Tally.{Tally}
use Rattle.cells.specs.Layout.{WORKERS, CURSORS, BOUNDS, LOG, OUT, WANTED, HEAD, TAIL, LOGEND, SENDS, LISTS, HELD, POLLS, OUTEND, OUTREAD}
use Rattle.cells.specs.Memory.{Mem}
use Rattle.cells.specs.View.{is_worker, view_lists, held_of, at_actor, rows_of, at_channel}
use Rattle.controller.specs.Controller.{Machine}
use Rattle.refinement.specs.Inv.{Small, Row, Inv}
use Rattle.refinement.proofs.ChannelRows.{channels_stay}
use Rattle.refinement.proofs.InvKept.{row_grown}
use Rattle.refinement.proofs.LongerLists.{Both}
use Rattle.refinement.proofs.ChannelsKept.{channels_kept, held_row}
use Rattle.refinement.proofs.Actors.{actors_same}

-- a column that deletions don't touch
abbrev pub Steady : ℕ → Type 0
Steady b = (b ≡ HEAD → ⊥) × (b ≡ TAIL → ⊥) × (b ≡ LOGEND → ⊥)

-- all but the heads and ends of the lists, and the labels behind the logs' ends
pub record Unmoved (m n : Mem) : Type 0 where
  pub column : (i b : ℕ) → Steady b → n WORKERS i b ≡ m WORKERS i b
  pub cursors : (i b : ℕ) → n CURSORS i b ≡ m CURSORS i b
  pub bounds : (i b : ℕ) → n BOUNDS i b ≡ m BOUNDS i b
  pub out : (i b : ℕ) → n OUT i b ≡ m OUT i b
  pub wanted : (i b : ℕ) → n WANTED i b ≡ m WANTED i b
  pub logs : (i d : ℕ) → d < m WORKERS i LOGEND → n LOG i d ≡ m LOG i d

module _ (sys : System) (m n : Mem) (t : Tally) (u : Unmoved m n) where
  -- the polls that workers hold
  pub held_kept : (k : ℕ) → at_actor sys (held_of n) none k ≡ at_actor sys (held_of m) none k
  held_kept = actors_same sys (held_of m) (held_of n) none (λ i h. held_row m n i (u.column i HELD (omega arith)) (u.wanted 0 (m WORKERS i HELD)))

  -- the counts of lists
  pub lists_kept : (k : ℕ) → view_lists sys n t k ≡ view_lists sys m t k
  unfolding view_lists
  lists_kept k =
      ap (λ (c : ℕ). cond (eqb k 0) t.lists.0 (cond (is_worker sys k) c 0))
      (u.column (k - 1) LISTS (omega arith))

  -- where a row's last list message ends
  pub same_bound : (i : ℕ) → n BOUNDS i (n WORKERS i SENDS) ≡ m BOUNDS i (m WORKERS i SENDS)
  same_bound i = ap (n BOUNDS i) (u.column i SENDS (omega arith)) ∙ u.bounds i (m WORKERS i SENDS)

  -- a row whose lists have grown
  pub row_longer : (i : ℕ) (l : List Label) → Both sys i m n l → n WORKERS i HEAD ≤ n WORKERS i TAIL → Row sys m t i
      → Row sys n t i
  row_longer i l both queue row =
      row_grown m n sys t t i
      (record {
        column = λ c p. u.column i c (p.0, p.1, p.2);
        bounds = u.bounds i;
        out = u.out i;
        queue = queue;
        log_end = omega (arith, both.log.end);
        log_labels = both.log.numbers row.log_labels;
        work_labels = both.work.numbers row.work_labels;
      })
      (omega arith) row

-- the channels
pub channel_kept : (sys : System) → Small sys → (s : Machine) → Inv sys s → (n : Mem) → Unmoved s.mem n → (j k : ℕ)
    → at_channel sys (rows_of n s.tally) j k ≡ at_channel sys (rows_of s.mem s.tally) j k
channel_kept sys small s inv n u j k =
    channels_stay sys (λ j k. Unit) (rows_of s.mem s.tally) (rows_of n s.tally)
    (channels_kept sys small s inv n
    (record {
      logs = λ i h. u.logs i;
      bounds = λ i h c l. u.bounds i c;
      outs = λ i h e l. u.out i e;
      wanted = λ c l. u.wanted 0 c;
    })
    s.tally (λ j k. Unit)
    (record {
      cursors = λ j i hj hi o. u.cursors j i;
      sends = λ j i hj hi o. u.column j SENDS (omega arith);
      out_read = λ j hj o. u.column j OUTREAD (omega arith);
      out_end = λ j hj o. u.column j OUTEND (omega arith);
      polls = λ i hi o. u.column i POLLS (omega arith);
      timestamp = λ i hi o. refl;
    }))
    j k tt
