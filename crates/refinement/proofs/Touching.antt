-- Treating a label in memory goes over the labels one by one, and each loses and is deleted as document 01 words it.
use Prim.Native.Nat.{ℕ, suc, ◌-◌, ◌<◌}
use mathlib.Core.Bool.{Bool, true, false, cond, ◌&&◌}
use mathlib.Core.List.{List, [], ◌∷◌}
use mathlib.Core.Path.{◌≡◌, refl, sym, ◌∙◌, ap, subst}
use native.Mathlib.Decide.{ℕ_discrete}
use native.Mathlib.Omega.{arith}
use borrow.Author.Tests.{eq-eqb, ne_eqb}
use lib.Dec.{eqb}
use Rattle.base.proofs.Bools.{and_left, and_right, and_intro}
use Rattle.base.proofs.Choice.{cond_true, cond_false}
use Rattle.base.proofs.Loops.{loop_ext, loop_if}
use Rattle.base.specs.Below.{loop}
use Rattle.disac4.specs.Action.{loses, lowered, deletes}
use Rattle.disac4.specs.State.{State}
use Rattle.disac4.specs.System.{System}
use Rattle.disac4.specs.declared.Tally.{Tally}
use Rattle.network.proofs.Loaded.{loaded_intro}
use Rattle.network.specs.Network.{label, supports, Label}
use Rattle.cells.proofs.Stores.{store_same, store_other}
use Rattle.cells.specs.Layout.{DOMAIN, COUNTERS, LISTED}
use Rattle.cells.specs.Memory.{Mem, store}
use Rattle.index.proofs.Kept.{row_pairs}
use Rattle.treating.specs.Treat.{lose_m, touch_m, touch_variable_m, touch_variables_m}
use Rattle.cells.specs.View.{in_domain, counter_row, view_counter, view}
use Rattle.refinement.proofs.DeleteApart.{Apart, delete_if, delete_if_apart}
use Rattle.refinement.proofs.LongerLists.{both_none, Appends, appends_if}
use Rattle.refinement.specs.Inv.{Small}
use Rattle.index.specs.Index.{Paired}
use Rattle.refinement.proofs.Labelwise.{own_row, Shows, As, shows_if}
use Rattle.refinement.proofs.Walking.{values, walk}

module _ (sys : System) (i y w : ℕ) where
  -- the step at one label
  abbrev pub touch_label_m : ℕ → ℕ → Mem → Mem
  touch_label_m x v m =
      cond (eqb (sys.owner x) (suc i)) (cond (sys.net.linked x y) (touch_m sys i y w x v m) m) m

  -- the two loops are a walk over the labels
  pub touch_walk : (m : Mem) → touch_variables_m sys i y w m ≡ walk sys.net touch_label_m m
  unfolding touch_variables_m touch_variable_m
  touch_walk m =
      loop_ext sys.net.variables (touch_variable_m sys i y w) (values sys.net touch_label_m) m
      (λ x h. variable x (loop x (values sys.net touch_label_m) m))
    where
      variable : (x : ℕ) (o : Mem) → touch_variable_m sys i y w x o ≡ values sys.net touch_label_m x o
      variable x o =
          ap (λ (n : Mem). cond (eqb (sys.owner x) (suc i)) n o) (loop_if (sys.net.linked x y) (sys.net.size x) (touch_m sys i y w x) o)
          ∙ loop_if (eqb (sys.owner x) (suc i)) (sys.net.size x) (λ v n. cond (sys.net.linked x y) (touch_m sys i y w x v n) n) o

  -- ---- one label

  -- with the counter `c` in row `k`
  abbrev lower : ℕ → ℕ → ℕ → Mem → Mem
  lower v k c m = store m COUNTERS k v (c - 1)

  abbrev lose : ℕ → ℕ → ℕ → ℕ → Mem → Mem
  lose x v k c m = delete_if (eqb (c - 1) 0) i x v (lower v k c m)

  lose_with : (x v k c : ℕ) (m : Mem) → counter_row m x y ≡ k → m COUNTERS k v ≡ c → lose_m i x v y m ≡ lose x v k c m
  unfolding lose_m
  lose_with x v k c m p q =
      ap (λ (a : ℕ). lose x v a (m COUNTERS a v) m) p ∙ ap (λ (a : ℕ). lose x v k a m) q

  module _ (t : Tally) where
    -- a label that loses, in the state that the memory stands for
    abbrev loses_in : Mem → ℕ → ℕ → Bool
    loses_in m x v = loses sys (suc i) (label y w) (view sys m t) x v

    touch_loses : (x v : ℕ) (m : Mem) → touch_label_m x v m ≡ cond (loses_in m x v) (lose_m i x v y m) m
    unfolding touch_m loses view supports
    touch_loses x v m =
        go (eqb (sys.owner x) (suc i)) (in_domain m x v) (sys.net.linked x y) (sys.net.allows x v y w)
        (lose_m i x v y m)
      where
        go : (a b c d : Bool) (n : Mem) → cond a (cond c (cond b (cond d n m) m) m) m ≡ cond (a && b && (c && d)) n m
        go true true true d n = refl
        go true true false d n = refl
        go true false true d n = refl
        go true false false d n = refl
        go false b c d n = refl

    loses_linked : (x v : ℕ) (m : Mem) → loses_in m x v ≡ true → sys.net.linked x y ≡ true
    unfolding loses supports
    loses_linked x v m e =
        and_left (sys.net.linked x y) (sys.net.allows x v y w)
        (and_right (eqb (sys.owner x) (suc i) && (view sys m t).domain x v) (supports sys.net x v y w) e)

    -- a step leaves alone what stands apart from its label and its row's lists
    pub touch_apart : (x v : ℕ) (m : Mem) (r a b : ℕ) → Apart sys m i x v r a b → touch_label_m x v m r a b ≡ m r a b
    touch_apart x v m r a b p = ap (λ (n : Mem). n r a b) (touch_loses x v m) ∙ go (loses_in m x v) refl
      where
        k : ℕ
        k = counter_row m x y

        c : ℕ
        c = m COUNTERS k v

        low : sys.net.linked x y ≡ true → lower v k c m r a b ≡ m r a b
        low l = store_other m COUNTERS k v (c - 1) r a b (p.counter y l)

        go : (z : Bool) → loses_in m x v ≡ z → cond z (lose_m i x v y m) m r a b ≡ m r a b
        go true e =
            ap (λ (n : Mem). n r a b) (lose_with x v k c m refl refl)
            ∙ delete_if_apart sys i x v (lower v k c m) (eqb (c - 1) 0) m r a b p
            ∙ low (loses_linked x v m e)
        go false e = refl

    -- ---- a label that stands as it stood in `m₀`

    module _ (small : Small sys) (m₀ : Mem) (paired : Paired sys m₀) (x v : ℕ) (h : x < sys.net.variables)
        (l : v < sys.net.size x) where
      abbrev st : State
      st = view sys m₀ t

      abbrev counter_of : ℕ → ℕ
      counter_of y' = m₀ COUNTERS (counter_row m₀ x y') v

      abbrev lowered_to : ℕ
      lowered_to = counter_of y - 1

      -- the label has lost one
      abbrev low : Mem → Mem
      low m = store m COUNTERS (counter_row m₀ x y) v lowered_to

      abbrev outcome : Bool → Mem → Mem
      outcome a m = cond a (delete_if (eqb lowered_to 0) i x v (low m)) m

      same_loses : (m : Mem) → As sys m₀ x v m → loses_in m x v ≡ loses_in m₀ x v
      unfolding loses view
      same_loses m s =
          ap (λ (d : ℕ). eqb (sys.owner x) (suc i) && eqb d LISTED && supports sys.net x v y w) s.domain

      touch_is : (m : Mem) → As sys m₀ x v m → touch_label_m x v m ≡ outcome (loses_in m₀ x v) m
      touch_is m s =
          touch_loses x v m
          ∙ ap (λ (b : Bool). cond b (lose_m i x v y m) m) (same_loses m s)
          ∙ go (loses_in m₀ x v) refl
        where
          go : (b : Bool) → loses_in m₀ x v ≡ b → cond b (lose_m i x v y m) m ≡ outcome b m
          go true e =
              lose_with x v (counter_row m₀ x y) (counter_of y) m (row_pairs m₀ m x y (s.pairs x y))
              (s.counter y (loses_linked x v m₀ e))
          go false e = refl

      shown_counter : (y' : ℕ) → sys.net.linked x y' ≡ true → st.counter x v y' ≡ counter_of y'
      unfolding view view_counter
      shown_counter y' k = cond_true (counter_of y') 0 (and_intro (loaded_intro sys.net x v h l) k)

      -- the counters after the label has lost one, and its deletion

      lowered_when : (b : Bool) → loses_in m₀ x v ≡ b → (y' : ℕ) → sys.net.linked x y' ≡ true
          → lowered sys (suc i) (label y w) st x v y' ≡ cond (b && eqb y' y) (counter_of y' - 1) (counter_of y')
      unfolding lowered
      lowered_when b e y' k =
          ap (λ (a : Bool). cond (a && eqb y' y) (st.counter x v y' - 1) (st.counter x v y')) e
          ∙ ap (λ (c : ℕ). cond (b && eqb y' y) (c - 1) c) (shown_counter y' k)

      deletes_when : (b : Bool) → loses_in m₀ x v ≡ b → deletes sys (suc i) (label y w) st x v ≡ b && eqb lowered_to 0
      unfolding deletes
      deletes_when true e =
          ap (λ (a : Bool). a && eqb (lowered sys (suc i) (label y w) st x v y) 0) e
          ∙ ap (λ (n : ℕ). eqb n 0)
          (lowered_when true e y (loses_linked x v m₀ e) ∙ cond_true (counter_of y - 1) (counter_of y) (eq-eqb y y refl))
      deletes_when false e = ap (λ (a : Bool). a && eqb (lowered sys (suc i) (label y w) st x v y) 0) e

      -- the label's domain cell and counters after its step
      pub touch_shows : (m : Mem) → As sys m₀ x v m
          → Shows sys m₀ x v (cond (deletes sys (suc i) (label y w) st x v) 0 (m₀ DOMAIN x v))
          (lowered sys (suc i) (label y w) st x v) (touch_label_m x v m)
      touch_shows m s = subst (Shows sys m₀ x v _ _) (sym (touch_is m s)) (go (loses_in m₀ x v) refl)
        where
          low_counter : sys.net.linked x y ≡ true → (y' : ℕ) → sys.net.linked x y' ≡ true
              → low m COUNTERS (counter_row m₀ x y') v ≡ cond (eqb y' y) (counter_of y' - 1) (counter_of y')
          low_counter k y' k' =
              elim (ℕ_discrete y' y) [
                | yes e ↦
                    ap (λ (a : ℕ). low m COUNTERS (counter_row m₀ x a) v) e
                    ∙ store_same m COUNTERS (counter_row m₀ x y) v lowered_to
                    ∙ sym (cond_true (counter_of y - 1) (counter_of y) (eq-eqb y y refl))
                    ∙ ap (λ (a : ℕ). cond (eqb a y) (counter_of a - 1) (counter_of a)) (sym e)
                | no e ↦
                    store_other m COUNTERS (counter_row m₀ x y) v lowered_to COUNTERS (counter_row m₀ x y') v
                    (λ p q r. e (own_row sys small m₀ paired x y' x y k' k q).1)
                    ∙ s.counter y' k'
                    ∙ sym (cond_false (counter_of y' - 1) (counter_of y') (ne_eqb y' y e))
              ]

          lost : ℕ → ℕ
          lost = lowered sys (suc i) (label y w) st x v

          go : (a : Bool) → loses_in m₀ x v ≡ a
              → Shows sys m₀ x v (cond (deletes sys (suc i) (label y w) st x v) 0 (m₀ DOMAIN x v)) lost (outcome a m)
          go true e =
              subst (λ z. Shows sys m₀ x v (cond z 0 (m₀ DOMAIN x v)) lost (outcome true m)) (sym (deletes_when true e))
              (shows_if sys m₀ i x v (m₀ DOMAIN x v) lost (eqb lowered_to 0) (low m) (record {
                pairs = s.pairs;
                domain = s.domain;
                counter = λ y' k. low_counter (loses_linked x v m₀ e) y' k ∙ sym (lowered_when true e y' k);
              }))
          go false e =
              subst (λ z. Shows sys m₀ x v (cond z 0 (m₀ DOMAIN x v)) lost m) (sym (deletes_when false e))
              (record {
                pairs = s.pairs;
                domain = s.domain;
                counter = λ y' k. s.counter y' k ∙ sym (lowered_when false e y' k);
              })

      -- it is appended to the lists of row `i` exactly if it is deleted
      pub touch_both : (m : Mem) → As sys m₀ x v m
          → Appends sys i m (touch_label_m x v m) (cond (deletes sys (suc i) (label y w) st x v) (label x v ∷ []) [])
      touch_both m s =
          subst (λ n. Appends sys i m n (appended (deletes sys (suc i) (label y w) st x v))) (sym (touch_is m s))
          (subst (λ z. Appends sys i m (outcome (loses_in m₀ x v) m) (appended z))
          (sym (deletes_when (loses_in m₀ x v) refl)) (go (loses_in m₀ x v)))
        where
          appended : Bool → List Label
          appended b = cond b (label x v ∷ []) []

          go : (a : Bool) → Appends sys i m (outcome a m) (appended (a && eqb lowered_to 0))
          go true =
              appends_if sys i (eqb lowered_to 0) m (low m) x v h l (omega (arith, small.few_values x h))
              (both_none sys i m (low m) refl refl (λ d. refl) (λ d. refl))
          go false = λ room room'. both_none sys i m m refl refl (λ d. refl) (λ d. refl)
