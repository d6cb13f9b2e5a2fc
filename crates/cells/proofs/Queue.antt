-- Laws of queues in a row: they grow at their ends and are taken from their fronts. The labels of a row are one.
use Prim.Native.Nat.{ℕ, suc, ◌+◌, ◌-◌, ◌/◌, ◌%◌, ◌<◌, ◌≤◌}
use mathlib.Core.List.{List, [], ◌∷◌, ◌++◌}
use mathlib.Core.Path.{◌≡◌, refl, sym, ◌∙◌, ap, ap₂}
use native.Mathlib.Decide.{ℕ_discrete, dec_lt}
use native.Mathlib.Omega.{arith}
use borrow.Author.Tests.{eq-eqb, ne_eqb}
use lib.Dec.{eqb}
use lib.ListN.{length}
use Rattle.base.proofs.Below.{list_ext, list_first_lem, length_list_below}
use Rattle.base.specs.Below.{list_below}
use Rattle.network.specs.Network.{Label, label}
use Rattle.disac4.specs.Action.{is_empty}
use Rattle.cells.specs.Memory.{Mem}
use Rattle.cells.specs.Layout.{VALUEROOM}
use Rattle.cells.specs.View.{label_number, label_of, Queue, queue, contents, labels_between}

module _ {A : Type 0} where
  -- what stands in the first queue stands there in the second
  abbrev pub QueueKept : Queue A → Queue A → Type 0
  QueueKept q q' = (n : ℕ) → q.start ≤ n → n < q.stop → q'.place n ≡ q.place n

  -- as many places, each with the same content
  queue_shift : (q q' : Queue A) → q.stop - q.start ≡ q'.stop - q'.start
      → ((d : ℕ) → d < q.stop - q.start → q.place (q.start + d) ≡ q'.place (q'.start + d)) → contents q ≡ contents q'
  unfolding contents
  queue_shift q q' e h =
      list_ext (q.stop - q.start) (λ d. q.place (q.start + d)) (λ d. q'.place (q'.start + d)) h
      ∙ ap (λ (n : ℕ). list_below n (λ d. q'.place (q'.start + d))) e

  -- the same ends
  pub queue_same : (q q' : Queue A) → QueueKept q q' → q'.start ≡ q.start → q'.stop ≡ q.stop → contents q' ≡ contents q
  queue_same q q' h a b =
      queue_shift q' q (omega arith)
      (λ d l. h (q'.start + d) (omega arith) (omega arith) ∙ ap (λ (k : ℕ). q.place (k + d)) a)

  -- it ends where it begins
  pub queue_none : (q : Queue A) → q.stop ≤ q.start → contents q ≡ []
  unfolding contents
  queue_none q h =
      let e : q.stop - q.start ≡ 0 = omega arith in
      ap (λ (n : ℕ). list_below n (λ d. q.place (q.start + d))) e

  -- one more at the end
  pub queue_put : (q q' : Queue A) → QueueKept q q' → q.start ≤ q.stop → q'.start ≡ q.start → q'.stop ≡ q.stop + 1
      → contents q' ≡ contents q ++ (q'.place q.stop ∷ [])
  unfolding contents
  queue_put q q' h l a b =
      let e : q'.stop - q'.start ≡ suc (q.stop - q'.start) = omega arith in
      let z : q'.start + (q.stop - q'.start) ≡ q.stop = omega arith in
      ap (λ (n : ℕ). list_below n (λ d. q'.place (q'.start + d))) e
      ∙ ap₂ (λ (l : List A) (a : A). l ++ (a ∷ []))
      (queue_same q (queue q'.start q.stop q'.place) h a refl) (ap q'.place z)

  -- the oldest taken
  queue_taken : (q q' : Queue A) → QueueKept q q' → q.start < q.stop → q'.start ≡ q.start + 1 → q'.stop ≡ q.stop
      → contents q ≡ q.place q.start ∷ contents q'
  unfolding contents
  queue_taken q q' h l a b =
      let e : q.stop - q.start ≡ suc (q'.stop - q'.start) = omega arith in
      let z : q.start + 0 ≡ q.start = omega arith in
      ap (λ (n : ℕ). list_below n (λ d. q.place (q.start + d))) e
      ∙ list_first_lem (q'.stop - q'.start) (λ d. q.place (q.start + d))
      ∙ ap₂ (λ (a : A) (l : List A). a ∷ l) (ap q.place z)
      (list_ext (q'.stop - q'.start) (λ d. q.place (q.start + suc d)) (λ d. q'.place (q'.start + d)) same)
    where
      same : (d : ℕ) → d < q'.stop - q'.start → q.place (q.start + suc d) ≡ q'.place (q'.start + d)
      same d k =
          let y : q'.start + d ≡ q.start + suc d = omega arith in
          sym (h (q.start + suc d) (omega arith) (omega arith)) ∙ ap q'.place (sym y)

  -- a read makes something of the oldest and the others, or of an empty queue
  pub read_queue : {S : Type 0} (from : List A → S) (q q' : Queue A) (z : S) → QueueKept q q' → q'.start ≡ q.start + 1
      → q'.stop ≡ q.stop → (q.start < q.stop → z ≡ from (q.place q.start ∷ contents q'))
      → (q.stop ≤ q.start → z ≡ from []) → z ≡ from (contents q)
  read_queue from q q' z h a b oldest none =
      elim (dec_lt q.start q.stop) [
        | yes l ↦ oldest l ∙ ap from (sym (queue_taken q q' h l a b))
        | no n ↦ none (omega arith) ∙ ap from (sym (queue_none q (omega arith)))
      ]

  -- it is empty exactly if it ends where it begins
  queue_empty : (q : Queue A) → q.start ≤ q.stop → is_empty (contents q) ≡ eqb q.start q.stop
  queue_empty q l =
      elim (ℕ_discrete q.start q.stop) [
        | yes e ↦ ap is_empty (queue_none q (omega arith)) ∙ sym (eq-eqb q.start q.stop e)
        | no n ↦ ap is_empty
            (queue_taken q (queue (q.start + 1) q.stop q.place) (λ d a b. refl) (omega arith) refl refl)
            ∙ sym (ne_eqb q.start q.stop n)
      ]

-- ---- the labels of a row

-- they are a queue
abbrev pub label_queue : Mem → ℕ → ℕ → ℕ → ℕ → Queue Label
label_queue m r i from to = queue from to (λ d. label_of (m r i d))

-- cells that agree between the same ends
pub labels_same : (m n : Mem) (r i from to : ℕ) {from' to' : ℕ} → from' ≡ from → to' ≡ to
    → ((d : ℕ) → from ≤ d → d < to → n r i d ≡ m r i d) → labels_between n r i from' to' ≡ labels_between m r i from to
unfolding labels_between
labels_same m n r i from to {from'} {to'} e f h =
    queue_same (label_queue m r i from to) (label_queue n r i from' to') (λ d p q. ap label_of (h d p q)) e f

-- no labels
pub labels_none : (m : Mem) (r i from to : ℕ) → to ≤ from → labels_between m r i from to ≡ []
unfolding labels_between
labels_none m r i from to h = queue_none (label_queue m r i from to) h

-- there are none exactly if the ends are the same
pub labels_empty : (m : Mem) (r i from to : ℕ) → from ≤ to → is_empty (labels_between m r i from to) ≡ eqb from to
unfolding labels_between
labels_empty m r i from to h = queue_empty (label_queue m r i from to) h

-- one more label at the end
pub labels_last : (m : Mem) (r i from to : ℕ) → from ≤ to
    → labels_between m r i from (to + 1) ≡ labels_between m r i from to ++ (label_of (m r i to) ∷ [])
unfolding labels_between
labels_last m r i from to h =
    queue_put (label_queue m r i from to) (label_queue m r i from (to + 1)) (λ d p q. refl) h refl refl

-- how many there are
pub labels_length : (m : Mem) (r i from to : ℕ) → length (labels_between m r i from to) ≡ to - from
unfolding labels_between contents
labels_length m r i from to = length_list_below (to - from) (λ d. label_of (m r i (from + d)))

-- a cell holds the label that was put into it
pub label_of_number : (x v : ℕ) → v < VALUEROOM → label_of (label_number x v) ≡ label x v
label_of_number x v h =
    let p : label_number x v / VALUEROOM ≡ x = omega arith in
    let q : label_number x v % VALUEROOM ≡ v = omega arith in
    λ i. record { variable = p i; value = q i }
