-- A row's log or work list that has grown: its end, the labels before it, and the new ones behind them.
use Prim.Native.Nat.{ℕ, suc, ◌+◌, ◌/◌, ◌%◌, ◌<◌, ◌≤◌}
use mathlib.Core.Bool.{Bool, true, false, cond}
use mathlib.Core.List.{List, [], ◌∷◌, ◌++◌, append_assoc, append-nil}
use mathlib.Core.Path.{◌≡◌, refl, sym, ◌∙◌, ap, ap₂, subst}
use native.Mathlib.Decide.{ℕ_discrete}
use native.Mathlib.Omega.{arith}
use lib.ListN.{length, length-append}
use Rattle.base.proofs.Loops.{loop_carries}
use Rattle.disac4.specs.System.{System}
use Rattle.network.specs.Network.{Label, label}
use Rattle.cells.proofs.Queue.{labels_same, labels_none, labels_last, labels_length, label_of_number}
use Rattle.cells.proofs.Stores.{store_same, store_other, OffList, push_stores, push_other, copy_other}
use Rattle.cells.specs.Layout.{WORKERS, LOG, WORK, DOMAIN, TAIL, LOGEND, LABELROOM, VALUEROOM}
use Rattle.cells.specs.Queues.{push_m, delete_m, copy_label_m, copy_m}
use Rattle.cells.specs.Memory.{Mem, store}
use Rattle.cells.specs.View.{label_number, label_of, labels_between}
use Rattle.refinement.specs.Inv.{LoadedNumber}
use Rattle.refinement.proofs.DeleteApart.{delete_if}

-- the number of a loaded label stands for it
loaded_number : (sys : System) (x v : ℕ) → v < VALUEROOM → x < sys.net.variables → v < sys.net.size x
    → LoadedNumber sys (label_number x v)
loaded_number sys x v h k l =
    let p : label_number x v / VALUEROOM ≡ x = omega arith in
    let q : label_number x v % VALUEROOM ≡ v = omega arith in
    record { variable = omega arith; value = omega (arith, ap sys.net.size p) }

-- ---- a row that has grown by the labels `l`; its end is kept in a column of the worker's row

pub record Longer (sys : System) (q col i : ℕ) (m n : Mem) (l : List Label) : Type 0 where
  pub end : n WORKERS i col ≡ m WORKERS i col + length l
  pub old : (d : ℕ) → d < m WORKERS i col → n q i d ≡ m q i d
  pub new : (from : ℕ) → from ≤ m WORKERS i col
      → labels_between n q i from (n WORKERS i col) ≡ labels_between m q i from (m WORKERS i col) ++ l
  pub numbers : ((d : ℕ) → d < m WORKERS i col → LoadedNumber sys (m q i d)) → (d : ℕ) → d < n WORKERS i col → LoadedNumber sys (n q i d)

module _ (sys : System) (q col i : ℕ) where
  -- a row that stays
  longer_none : (m n : Mem) → n WORKERS i col ≡ m WORKERS i col → ((d : ℕ) → n q i d ≡ m q i d)
      → Longer sys q col i m n []
  longer_none m n e h = record {
    end = omega arith;
    old = λ d p. h d;
    new = λ from p.
        labels_same m n q i from (m WORKERS i col) refl e (λ d p q. h d)
        ∙ sym (append-nil (labels_between m q i from (m WORKERS i col)));
    numbers = λ c d p. subst (LoadedNumber sys) (sym (h d)) (c d (omega arith));
  }

  -- first by some labels, then by others
  longer_more : (m n o : Mem) (l k : List Label) → Longer sys q col i m n l → Longer sys q col i n o k
      → Longer sys q col i m o (l ++ k)
  longer_more m n o l k g h = record {
    end = omega (arith, g.end, h.end, length-append l k);
    old = λ d p. h.old d (omega (arith, g.end)) ∙ g.old d p;
    new = λ from p.
        h.new from (omega (arith, g.end))
        ∙ ap (λ (a : List Label). a ++ k) (g.new from p)
        ∙ append_assoc (labels_between m q i from (m WORKERS i col)) l k;
    numbers = λ c. h.numbers (g.numbers c);
  }

  -- a push
  longer_push : (m : Mem) (c : ℕ) → (q ≡ WORKERS → ⊥) → m WORKERS i col < LABELROOM → LoadedNumber sys c
      → Longer sys q col i m (push_m q col i c m) (label_of c ∷ [])
  longer_push m c apart room number = subst (λ n. Longer sys q col i m n (label_of c ∷ [])) (sym (push_stores q col i c m room)) stored
    where
      at : ℕ
      at = m WORKERS i col

      put : Mem
      put = store m q i at c

      n : Mem
      n = store put WORKERS i col (at + 1)

      end_at : n WORKERS i col ≡ at + 1
      end_at = store_same put WORKERS i col (at + 1)

      new_at : n q i at ≡ c
      new_at =
          store_other put WORKERS i col (at + 1) q i at (λ e. absurd (apart e)) ∙ store_same m q i at c

      old_at : (d : ℕ) → (d ≡ at → ⊥) → n q i d ≡ m q i d
      old_at d h =
          store_other put WORKERS i col (at + 1) q i d (λ e. absurd (apart e))
          ∙ store_other m q i at c q i d (λ e f. h)

      stored : Longer sys q col i m n (label_of c ∷ [])
      stored = record {
        end = end_at;
        old = λ d p. old_at d (λ e. omega arith);
        new = λ from p.
            ap (labels_between n q i from) end_at
            ∙ labels_last n q i from at p
            ∙ ap₂ (λ l a. l ++ (label_of a ∷ [])) (labels_same m n q i from at refl refl (λ d h k. old_at d (λ e. omega arith))) new_at;
        numbers = λ h d p.
            elim (ℕ_discrete d at) [
              | yes e ↦ subst (λ (a : ℕ). LoadedNumber sys (n q i a)) (sym e) (subst (LoadedNumber sys) (sym new_at) number)
              | no e ↦ subst (LoadedNumber sys) (sym (old_at d e)) (h d (omega (arith, end_at)))
            ];
      }

-- a copied list message: labels of row `j`'s log join the end of row `i`'s work list
pub longer_copy : (sys : System) (j i from n : ℕ) (m : Mem) → m WORKERS i TAIL + n ≤ LABELROOM
    → ((d : ℕ) → d < from + n → LoadedNumber sys (m LOG j d))
    → Longer sys WORK TAIL i m (copy_m j i from n m) (labels_between m LOG j from (from + n))
unfolding copy_m
longer_copy sys j i from n m room numbers =
    loop_carries (λ k o. Longer sys WORK TAIL i m o (copied k)) n (copy_label_m j i from) m step
    (subst (Longer sys WORK TAIL i m m) (sym (labels_none m LOG j from (from + 0) (omega arith)))
    (longer_none sys WORK TAIL i m m refl (λ d. refl)))
  where
    copied : ℕ → List Label
    copied k = labels_between m LOG j from (from + k)

    step : (k : ℕ) → k < n → Longer sys WORK TAIL i m (copy_m j i from k m) (copied k)
        → Longer sys WORK TAIL i m (copy_label_m j i from k (copy_m j i from k m)) (copied (suc k))
    step k h grown =
        let before = copy_m j i from k m in
        let next = before LOG j (from + k) in
        let same : next ≡ m LOG j (from + k) = copy_other j i from k m LOG j (from + k) (omega arith) in
        let end : from + k + 1 ≡ from + suc k = omega arith in
        subst (Longer sys WORK TAIL i m (push_m WORK TAIL i next before))
        (ap (λ (c : ℕ). copied k ++ (label_of c ∷ [])) same
        ∙ sym (labels_last m LOG j from (from + k) (omega arith))
        ∙ ap (labels_between m LOG j from) end)
        (longer_more sys WORK TAIL i m before (push_m WORK TAIL i next before) (copied k) (label_of next ∷ []) grown
        (longer_push sys WORK TAIL i before next (λ e. omega arith)
        (omega (arith, grown.end, labels_length m LOG j from (from + k)))
        (subst (LoadedNumber sys) (sym same) (numbers (from + k) (omega arith)))))

-- ---- a row's log and work list that have grown by the same labels

pub record Both (sys : System) (i : ℕ) (m n : Mem) (l : List Label) : Type 0 where
  pub log : Longer sys LOG LOGEND i m n l
  pub work : Longer sys WORK TAIL i m n l

-- where there is room, they grow by the labels `l`
abbrev pub Appends : System → ℕ → Mem → Mem → List Label → Type 0
Appends sys i m n l = m WORKERS i LOGEND + length l ≤ LABELROOM → m WORKERS i TAIL + length l ≤ LABELROOM → Both sys i m n l

module _ (sys : System) (i : ℕ) where
  -- lists that stay
  pub both_none : (m n : Mem) → n WORKERS i LOGEND ≡ m WORKERS i LOGEND → n WORKERS i TAIL ≡ m WORKERS i TAIL
      → ((d : ℕ) → n LOG i d ≡ m LOG i d) → ((d : ℕ) → n WORK i d ≡ m WORK i d) → Both sys i m n []
  both_none m n e f g h = record {
    log = longer_none sys LOG LOGEND i m n e g;
    work = longer_none sys WORK TAIL i m n f h;
  }

  -- first by some labels, then by others
  pub both_more : (m n o : Mem) (l k : List Label) → Both sys i m n l → Both sys i n o k → Both sys i m o (l ++ k)
  both_more m n o l k g h = record {
    log = longer_more sys LOG LOGEND i m n o l k g.log h.log;
    work = longer_more sys WORK TAIL i m n o l k g.work h.work;
  }

  -- with room, a deleted label joins both
  both_delete : (m : Mem) (x v : ℕ) → x < sys.net.variables → v < sys.net.size x → v < VALUEROOM
      → m WORKERS i LOGEND < LABELROOM → m WORKERS i TAIL < LABELROOM → Both sys i m (delete_m i x v m) (label x v ∷ [])
  unfolding delete_m
  both_delete m x v h k l room room' =
      subst (λ a. Both sys i m (delete_m i x v m) (a ∷ [])) (label_of_number x v l)
      (record {
        log = longer_more sys LOG LOGEND i m logged (delete_m i x v m) (label_of c ∷ []) []
            (longer_more sys LOG LOGEND i m out logged [] (label_of c ∷ []) (longer_none sys LOG LOGEND i m out refl (λ d. refl))
            (longer_push sys LOG LOGEND i out c (λ e. omega arith) room number))
            (longer_none sys LOG LOGEND i logged (delete_m i x v m)
            (worked_other WORKERS LOGEND (omega arith))
            (λ d. worked_other LOG d (omega arith)));
        work = longer_more sys WORK TAIL i m logged (delete_m i x v m) [] (label_of c ∷ [])
            (longer_none sys WORK TAIL i m logged (logged_other WORKERS TAIL (omega arith))
            (λ d. logged_other WORK d (omega arith)))
            (longer_push sys WORK TAIL i logged c (λ e. omega arith)
            (omega (arith, logged_other WORKERS TAIL (omega arith))) number);
      })
    where
      c : ℕ
      c = label_number x v

      number : LoadedNumber sys c
      number = loaded_number sys x v l h k

      out : Mem
      out = store m DOMAIN x v 0

      logged : Mem
      logged = push_m LOG LOGEND i c out

      logged_other : (r b : ℕ) → OffList LOG LOGEND i r i b → logged r i b ≡ out r i b
      logged_other r b e = push_other LOG LOGEND i c out r i b e

      worked_other : (r b : ℕ) → OffList WORK TAIL i r i b → push_m WORK TAIL i c logged r i b ≡ logged r i b
      worked_other r b e = push_other WORK TAIL i c logged r i b e

  -- a label joins both if it is deleted
  pub appends_if : (z : Bool) (m low : Mem) (x v : ℕ) → x < sys.net.variables → v < sys.net.size x → v < VALUEROOM
      → Both sys i m low [] → Appends sys i m (delete_if z i x v low) (cond z (label x v ∷ []) [])
  appends_if true m low x v h k l same room room' =
      both_more m low (delete_m i x v low) [] (label x v ∷ []) same
      (both_delete low x v h k l (omega (arith, same.log.end)) (omega (arith, same.work.end)))
  appends_if false m low x v h k l same room room' = same
