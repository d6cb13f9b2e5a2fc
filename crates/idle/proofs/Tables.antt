-- Laws of a table's cells.
use Prim.Native.Nat.{ℕ, ◌+◌, ◌*◌, ◌<◌, ◌≤◌}
use mathlib.Core.Bool.{Bool, true, false, cond, ◌&&◌, ◌||◌, or_comm}
use mathlib.Core.List.{List}
use mathlib.Core.Path.{◌≡◌, refl, sym, ◌∙◌, ap}
use native.Mathlib.Decide.{ℕ_discrete}
use native.Mathlib.Omega.{arith}
use borrow.Author.Tests.{eq-eqb, ne_eqb, lt-leb, lt-ltb, le-ltb}
use lib.Dec.{leb, eqb}
use lib.ListN.{length, set, length-set}
use lib.Seq.{get_or-set_same, get_or-set_other}
use Rattle.base.proofs.Below.{any_below_lem, some_below}
use Rattle.base.proofs.Bools.{bool_ext, and_intro, and_right, or_false}
use Rattle.base.proofs.Choice.{pair_other, cond_true, cond_false}
use Rattle.base.specs.Below.{any_below}
use Rattle.disac4.specs.Turn.{turn, treat_action, send_action, answer_action, poll_action}
use Rattle.flags.specs.Flags.{actors, actions, cell_count, cell_at}
use Rattle.idle.specs.Table.{Puts, enables}

-- one cell is stored
pub puts_one : (v : Bool) (k d : ℕ) (table : List Bool) → length table ≡ cell_count → k < actors → d < actions
    → Puts v (λ j a. eqb j k && eqb a d) table (set table (k * actions + d) v)
puts_one v k d table l h e = record { long = length-set table (k * actions + d) v ∙ l; each = each }
  where
    each : (j a : ℕ) → j < actors → a < actions
        → cell_at (set table (k * actions + d) v) j a ≡ cond (eqb j k && eqb a d) v (cell_at table j a)
    each j a m n =
        elim (ℕ_discrete (j * actions + a) (k * actions + d)) [
          | yes same ↦ rw same (get_or-set_same table (k * actions + d) v false (omega (arith, l)))
              ∙ sym (cond_true v (cell_at table j a) (and_intro (eq-eqb j k (omega arith)) (eq-eqb a d (omega arith))))
          | no other ↦ get_or-set_other table (k * actions + d) (j * actions + a) v false other
              ∙ sym (cond_false v (cell_at table j a) (pair_other k d j a (λ p q. other (omega arith))))
        ]

module _ {v : Bool} {p q : ℕ → ℕ → Bool} {before after : List Bool} where
  -- two changes after each other are one
  pub puts_both : {then : List Bool} → Puts v p before then → Puts v q then after → Puts v (λ k d. p k d || q k d) before after
  puts_both {then} f g = record {
    long = g.long;
    each = λ k d h e.
        g.each k d h e ∙ ap (λ (n : Bool). cond (q k d) v n) (f.each k d h e) ∙ either (p k d) (q k d) (cell_at before k d);
  }
    where
      either : (a b n : Bool) → cond b v (cond a v n) ≡ cond (a || b) v n
      either true true n = refl
      either true false n = refl
      either false b n = refl

  -- a change may be said by another test that agrees with its own
  pub puts_as : ((k d : ℕ) → k < actors → d < actions → p k d ≡ q k d) → Puts v p before after → Puts v q before after
  puts_as e f = record {
    long = f.long;
    each = λ k d h a. f.each k d h a ∙ ap (λ (t : Bool). cond t v (cell_at before k d)) (e k d h a);
  }

-- an actor's actions that are no reads, one by one
pub own_actions : (c : Bool) (a : ℕ) → a < actions
    → (((c && eqb a treat_action) || (c && eqb a send_action)) || (c && eqb a answer_action)) || (c && eqb a poll_action) ≡ c && leb treat_action a
own_actions false a h = refl
own_actions true a h =
    elim (ℕ_discrete a treat_action) [
      | yes e ↦ rw e refl
      | no n₁ ↦ elim (ℕ_discrete a send_action) [
        | yes e ↦ rw e refl
        | no n₂ ↦ elim (ℕ_discrete a answer_action) [
          | yes e ↦ rw e refl
          | no n₃ ↦ elim (ℕ_discrete a poll_action) [
            | yes e ↦ rw e refl
            | no n₄ ↦ or_false (or_false (or_false (ne_eqb a treat_action n₁) (ne_eqb a send_action n₂)) (ne_eqb a answer_action n₃)) (ne_eqb a poll_action n₄)
                ∙ sym (lt-leb treat_action a (omega arith))
          ]
        ]
      ]
    ]

-- the reads from actor `k`, one actor after the other
pub all_reads : (k j a : ℕ) → j < actors → any_below actors (λ i. eqb j i && eqb a k) ≡ eqb a k
all_reads k j a h =
    bool_ext _ _
    (λ e. let w = some_below actors (λ i. eqb j i && eqb a k) e in and_right (eqb j w.0) (eqb a k) w.2)
    (λ e. any_below_lem actors (λ i. eqb j i && eqb a k) j h (and_intro (eq-eqb j j refl) e))

-- ---- what `forget` forgets, with the reads and without

-- the same turn, and what its actor does but read
abbrev own : ℕ → ℕ → ℕ → ℕ → Bool
own k d j a = (eqb j k && eqb a d) || (eqb j k && leb treat_action a)

module _ (k d : ℕ) {before after : List Bool} where
  pub forgets_reads : treat_action < d → Puts false (λ j a. own k d j a || eqb a k) before after
      → Puts false (λ j a. enables (turn k d) (turn j a)) before after
  unfolding enables
  forgets_reads h = puts_as (λ j a l m. ap (λ (t : Bool). own k d j a || (t && eqb a k)) (sym (lt-ltb treat_action d h)))

  pub forgets_own : d ≤ treat_action → Puts false (own k d) before after → Puts false (λ j a. enables (turn k d) (turn j a)) before after
  unfolding enables
  forgets_own h =
      puts_as
      (λ j a l m. or_comm false (own k d j a) ∙ ap (λ (t : Bool). own k d j a || (t && eqb a k)) (sym (le-ltb treat_action d h)))
