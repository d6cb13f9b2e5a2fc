-- Laws that the code of a treatment meets its definitions in memory by.
use Prim.Native.Nat.{ℕ, suc, ◌+◌, ◌-◌, ◌<◌, ◌≤◌, zero-le}
use mathlib.Core.Bool.{Bool, true, false, cond, ◌&&◌}
use mathlib.Core.List.{List}
use mathlib.Core.Option.{none, some}
use mathlib.Core.Path.{◌≡◌, refl, sym, ◌∙◌, ap, ap₂}
use native.Mathlib.Nat.{lt_of_le_of_lt}
use native.Mathlib.Omega.{arith}
use borrow.Author.Tests.{lt-ltb, ltb-true, eq-eqb, ne_eqb}
use lib.Bits.{bit_and, and_le_l}
use lib.Dec.{eqb}
use Rattle.base.proofs.Bools.{and_left, and_right, and_intro, and_false_right, refuted}
use Rattle.base.proofs.Choice.{cond_true, cond_false}
use Rattle.base.proofs.Row.{row_held, row_small, bit_past, bit-bit_and}
use Rattle.base.specs.Below.{loop}
use Rattle.base.specs.Row.{bit, row_of}
use Rattle.disac4.specs.System.{System, system_of, system_at}
use Rattle.network.specs.Network.{supports}
use Rattle.plan.proofs.Pairs.{allowed_symmetric}
use Rattle.plan.specs.Decode.{plan_of}
use Rattle.plan.specs.Network.{pair_allowed, share_constraint, network_of}
use Rattle.plan.specs.Plan.{size_of}
use Rattle.index.proofs.Linked.{supports_allowed}
use Rattle.rows.specs.Permits.{Loaded}
use Rattle.cells.specs.Layout.{WORKERS, WORK, DOMAIN, COUNTERS, HEAD, TAIL, LABELROOM, VALUEROOM, LISTED}
use Rattle.cells.specs.Queues.{delete_m}
use Rattle.cells.specs.Memory.{Mem, store}
use Rattle.treating.proofs.LoseLaws.{LosingRow}
use Rattle.treating.specs.Treat.{lose_m, touch_m, touch_variable_m, touch_variables_m, has_work, HeadLoaded, treat_m}
use Rattle.cells.specs.View.{in_domain, counter_row, label_of}

-- ---- a count goes down

module _ (i x v y r n : ℕ) (m m₁ : Mem) (row : r ≡ counter_row m x y) (count : n ≡ m COUNTERS r v) where
  counted : n ≡ m COUNTERS (counter_row m x y) v
  counted = count ∙ ap (λ (k : ℕ). m COUNTERS k v) row

  pub lost_last : (m₂ : Mem) → n ≤ 1 → m₁ ≡ store m COUNTERS r v 0 → m₂ ≡ delete_m i x v m₁ → m₂ ≡ lose_m i x v y m
  unfolding lose_m
  lost_last m₂ h p q =
      let z : m COUNTERS (counter_row m x y) v - 1 ≡ 0 = omega (arith, counted) in
      q ∙ ap (delete_m i x v) (p ∙ ap (λ (k : ℕ). store m COUNTERS k v 0) row ∙ ap (store m COUNTERS (counter_row m x y) v) (sym z))
      ∙ sym (cond_true _ _ (eq-eqb _ 0 z))

  pub lost_one : 1 < n → m₁ ≡ store m COUNTERS r v (n - 1) → m₁ ≡ lose_m i x v y m
  unfolding lose_m
  lost_one h p =
      p ∙ ap (λ (k : ℕ). store m COUNTERS k v (n - 1)) row
      ∙ ap (λ (k : ℕ). store m COUNTERS (counter_row m x y) v (k - 1)) counted
      ∙ sym (cond_false _ _ (ne_eqb (m COUNTERS (counter_row m x y) v - 1) 0 (omega (arith, counted))))

-- ---- a variable

-- the labels that lose the treated one are in the domain's row and in that of its supports: a pair reads the same from either
-- side
module _ (b : List ℕ) (m : Mem) (y w x listed : ℕ) (size : size_of (plan_of b) x ≤ VALUEROOM)
    (read : listed ≡ row_of VALUEROOM (λ v. eqb (m DOMAIN x v) LISTED)) where
  in_row : (v : ℕ) → v < size_of (plan_of b) x → bit listed v ≡ in_domain m x v
  in_row v h = row_held VALUEROOM _ (λ v. eqb (m DOMAIN x v) LISTED) read v (omega arith)

  pub losing : (s : ℕ) → share_constraint (plan_of b) y x ≡ true → s ≡ row_of (size_of (plan_of b) x) (supports (network_of (plan_of b)) y w x)
      → LosingRow (system_at b) m y w x (bit_and s listed)
  unfolding system_of network_of
  losing s l e = record {
    holds = λ v h.
        bit-bit_and s listed v ∙ ap₂ (λ (t u : Bool). t && u) (allowed v h) (in_row v h);
    few = omega (arith, and_le_l s listed, row_small (size_of (plan_of b) x) (supports (network_of (plan_of b)) y w x), e);
  }
    where
      allowed : (v : ℕ) → v < size_of (plan_of b) x → bit s v ≡ pair_allowed (plan_of b) x v y w
      allowed v h =
          row_held (size_of (plan_of b) x) s (pair_allowed (plan_of b) y w x) (e ∙ supports_allowed b (size_of (plan_of b) x) y w x l) v h
          ∙ allowed_symmetric (plan_of b) y w x v

  -- with an empty domain there are none
  pub losing_none : listed ≡ 0 → LosingRow (system_at b) m y w x 0
  unfolding system_of network_of
  losing_none e = record {
    holds = λ v h.
        let none : bit 0 v ≡ false = bit_past 0 0 v (omega arith) (omega arith) in
        none ∙ sym (and_false_right (pair_allowed (plan_of b) x v y w) (sym (in_row v h) ∙ ap (λ (r : ℕ). bit r v) e ∙ none));
    few = lt_of_le_of_lt zero-le (row_small (size_of (plan_of b) x) (λ v. false));
  }

-- a test that fails behind another
second_fails : (t : Bool) {u : Bool} (n m : Mem) → u ≡ false → m ≡ cond t (cond u n m) m
second_fails true n m e = sym (cond_false n m e)
second_fails false n m e = refl

module _ (sys : System) (i y w x : ℕ) (m : Mem) where
  pub variable_touched : (n : Mem) → eqb (sys.owner x) (suc i) ≡ true → sys.net.linked x y ≡ true
      → n ≡ loop (sys.net.size x) (touch_m sys i y w x) m → n ≡ touch_variable_m sys i y w x m
  unfolding touch_variable_m
  variable_touched n o l e = e ∙ sym (cond_true _ _ o ∙ cond_true _ _ l)

  pub not_linked : sys.net.linked x y ≡ false → m ≡ touch_variable_m sys i y w x m
  unfolding touch_variable_m
  not_linked l = second_fails (eqb (sys.owner x) (suc i)) (loop (sys.net.size x) (touch_m sys i y w x) m) m l

  pub not_owned : eqb (sys.owner x) (suc i) ≡ false → m ≡ touch_variable_m sys i y w x m
  unfolding touch_variable_m
  not_owned o = sym (cond_false _ _ o)

-- ---- the label at the head of the work list

-- what treating asks: a label on the work list, within the row
pub record HasWork (i : ℕ) (m : Mem) : Type 0 where
  pub untreated : m WORKERS i HEAD < m WORKERS i TAIL
  pub head_room : m WORKERS i HEAD < LABELROOM

-- the test taken apart
pub has_work_lem : (i : ℕ) (m : Mem) → has_work i m ≡ true → HasWork i m
unfolding has_work
has_work_lem i m e = search (and_left, and_right, ltb-true)

module _ (sys : System) (i : ℕ) (m : Mem) where
  -- and put together: the label is treated
  pub treat_goes : {head c : ℕ} → head ≡ m WORKERS i HEAD → c ≡ m WORK i head → HasWork i m
      → treat_m sys i m
      ≡ some (touch_variables_m sys i (label_of c).variable (label_of c).value (store m WORKERS i HEAD (head + 1)))
  unfolding treat_m has_work
  treat_goes p q h = cond_true {b = has_work i m} _ none (search (and_intro, lt-ltb)) ∙ rw (q, p)

  -- where a part of the test fails, treating is idle
  pub treat_idle : (HasWork i m → ⊥) → treat_m sys i m ≡ none
  unfolding treat_m
  treat_idle n = cond_false _ none (refuted (has_work i m) (λ e. n (has_work_lem i m e)))

-- it was loaded
pub head_loaded : (b : List ℕ) (i : ℕ) (m : Mem) {head tail c : ℕ} → head ≡ m WORKERS i HEAD → tail ≡ m WORKERS i TAIL
    → head < tail → c ≡ m WORK i head
    → HeadLoaded b m i → Loaded b (label_of c).variable (label_of c).value
head_loaded b i m p q l e f = rw (e, p) (f (omega arith))
