-- The supports of a label that its owner has not treated: what a treat does to their number, it does to the counter.
use Prim.Native.Nat.{ℕ, ◌+◌, ◌-◌, ◌<◌, ◌≤◌}
use mathlib.Core.Bool.{true, false, cond, ◌&&◌, not}
use mathlib.Core.List.{List, [], ◌∷◌, ◌++◌}
use mathlib.Core.Logic.{⊎_elim}
use mathlib.Core.Path.{◌≡◌, refl, sym, ◌∙◌, ap}
use native.Mathlib.Omega.{arith}
use borrow.Author.Tests.{eqb-true, eq-eqb}
use lib.Dec.{eqb}
use Rattle.base.proofs.Bools.{decided, clash, and_left, and_right, and_intro, and_false_right, refuted}
use Rattle.base.proofs.Choice.{cond_true, cond_false, cond_ext}
use Rattle.base.proofs.Sums.{sum_ext, sum_change, sum_part, sum_some, one_le, one_mono, one_passes}
use Rattle.base.proofs.Weight.{weigh, weigh_append}
use Rattle.base.specs.Below.{sum_below, one}
use Rattle.network.proofs.Labels.{is_label_same, is_label_other, is_label_eq}
use Rattle.network.proofs.Loaded.{loaded_value}
use Rattle.network.specs.Network.{Label, label, is_label, loaded, supports}
use Rattle.disac4.proofs.Flow.{Flow}
use Rattle.disac4.proofs.Occurrences.{occurs, treated_by}
use Rattle.disac4.proofs.Treated.{treated_or_waits}
use Rattle.disac4.specs.Action.{loses, lowered}
use Rattle.disac4.specs.Event.{Event, treated, deleted}
use Rattle.disac4.specs.State.{State}
use Rattle.disac4.specs.System.{System, Worker}

-- 1 for a support that the label's owner has not treated
abbrev pub untreated_support : System → List Event → ℕ → ℕ → ℕ → ℕ → ℕ
untreated_support sys es x v y w = cond (supports sys.net x v y w) (1 - weigh (treated_by y w (sys.owner x)) es) 0

-- how many supports of a label its owner has not treated
abbrev pub remaining : System → List Event → ℕ → ℕ → ℕ → ℕ
remaining sys es x v y = sum_below (sys.net.size y) (untreated_support sys es x v y)

-- a support that was treated as often counts alike
pub support_ext : (sys : System) (es now : List Event) (x v y w : ℕ)
    → (supports sys.net x v y w ≡ true
    → weigh (treated_by y w (sys.owner x)) now ≡ weigh (treated_by y w (sys.owner x)) es)
    → untreated_support sys now x v y w ≡ untreated_support sys es x v y w
support_ext sys es now x v y w h = cond_ext (supports sys.net x v y w) _ _ 0 0 (λ p. ap (λ (n : ℕ). 1 - n) (h p)) (λ p. refl)

-- a support that was not treated remains
pub support_remains : (sys : System) (es : List Event) (x v y w : ℕ) → w < sys.net.size y
    → supports sys.net x v y w ≡ true → weigh (treated_by y w (sys.owner x)) es ≡ 0 → 0 < remaining sys es x v y
support_remains sys es x v y w h s z =
    omega (
      arith,
      sum_part (sys.net.size y) (untreated_support sys es x v y) w h,
      cond_true (1 - weigh (treated_by y w (sys.owner x)) es) 0 s,
    )

-- and what remains is such a support
pub remains_support : (sys : System) (es : List Event) (x v y : ℕ) → 0 < remaining sys es x v y
    → (w : ℕ) × (w < sys.net.size y) × (supports sys.net x v y w ≡ true)
    × (weigh (treated_by y w (sys.owner x)) es ≡ 0)
remains_support sys es x v y h =
    let (w, i, p) = sum_some (sys.net.size y) (untreated_support sys es x v y) h in
    ⊎_elim
    (λ s. (w, i, s, omega (arith, cond_true (1 - weigh (treated_by y w (sys.owner x)) es) 0 s)))
    (λ s. absurd (omega (arith, cond_false (1 - weigh (treated_by y w (sys.owner x)) es) 0 s)))
    (decided (supports sys.net x v y w))

-- ---- worker `k` treats `a`

module _ (sys : System) (k : ℕ) (a : Label) (st : State) (x v : ℕ) (l : loses sys k a st x v ≡ true) where
  -- a label that loses a support is `k`'s own
  pub loses_owner : sys.owner x ≡ k
  unfolding loses
  loses_owner =
      eqb-true (sys.owner x) k
      (and_left (eqb (sys.owner x) k) (st.domain x v)
      (and_left (eqb (sys.owner x) k && st.domain x v) (supports sys.net x v a.variable a.value) l))

  -- and the label treated is its support
  pub loses_support : supports sys.net x v a.variable a.value ≡ true
  unfolding loses
  loses_support =
      and_right (eqb (sys.owner x) k && st.domain x v) (supports sys.net x v a.variable a.value) l

module _ (sys : System) (st : State) (es : List Event) (flow : (x v : ℕ) → Flow sys x v st es)
    (k : ℕ) (a : Label) (rest : List Label) (worker : Worker sys k) (oldest : st.work_list k ≡ a ∷ rest) where
  abbrev now : List Event
  now = es ++ (treated k a ∷ [])

  -- how often worker `o` has treated a label now
  now_treated : (o y w : ℕ)
      → weigh (treated_by y w o) now ≡ weigh (treated_by y w o) es + one (eqb k o && is_label y w a)
  now_treated o y w = omega (arith, weigh_append (treated_by y w o) es (treated k a ∷ []))

  -- what `k` has treated, this label too, was deleted before
  pub now_deleted : (y w : ℕ) → weigh (treated_by y w k) now ≤ one (deleted sys st y w)
  now_deleted y w =
      omega (
        arith,
        now_treated k y w,
        treated_or_waits sys y w st es (flow y w) k worker,
        ap (occurs y w) oldest,
        one_mono (eqb k k && is_label y w a) (is_label y w a) (and_right (eqb k k) (is_label y w a)),
      )

  -- so `k` treats the label for the first time
  head : weigh (treated_by a.variable a.value k) es + 1 ≤ one (deleted sys st a.variable a.value)
  head =
      omega (
        arith,
        now_deleted a.variable a.value,
        now_treated k a.variable a.value,
        ap one (and_intro (eq-eqb k k refl) (is_label_same a.variable a.value)),
      )

  -- and it was loaded
  pub head_loaded : loaded sys.net a.variable a.value ≡ true
  unfolding deleted
  head_loaded =
      and_left (loaded sys.net a.variable a.value) (not (st.domain a.variable a.value))
      (one_passes (deleted sys st a.variable a.value) (omega (arith, head)))

  -- a label of `k` that had `a` as a support has one support less
  one_less_support : (x v : ℕ) → loses sys k a st x v ≡ true
      → remaining sys now x v a.variable + 1 ≡ remaining sys es x v a.variable
  one_less_support x v l =
      omega (
        arith,
        sum_change (sys.net.size y) (untreated_support sys es x v y) (untreated_support sys now x v y) w
            (loaded_value sys.net y w head_loaded)
            (λ j h n.
            sym
            (support_ext sys es now x v y j
            (λ p.
            omega (
              arith,
              now_treated (sys.owner x) y j,
              ap one (and_false_right (eqb k (sys.owner x)) (is_label_other y j y w (λ q r. n (sym r)))),
            )))),
        cond_true (1 - weigh (treated_by y w (sys.owner x)) es) 0 supported,
        cond_true (1 - weigh (treated_by y w (sys.owner x)) now) 0 supported,
        now_treated (sys.owner x) y w,
        head,
        one_le (deleted sys st y w),
        ap (λ (o : ℕ). weigh (treated_by y w o) es) owns,
        ap one (and_intro (eq-eqb k (sys.owner x) (sym owns)) (is_label_same y w)),
      )
    where
      y : ℕ
      y = a.variable

      w : ℕ
      w = a.value

      owns : sys.owner x ≡ k
      owns = loses_owner sys k a st x v l

      supported : supports sys.net x v a.variable a.value ≡ true
      supported = loses_support sys k a st x v l

  -- any other keeps its supports
  same_supports : (x v y : ℕ) → st.domain x v ≡ true → (loses sys k a st x v && eqb y a.variable) ≡ false
      → remaining sys now x v y ≡ remaining sys es x v y
  unfolding loses
  same_supports x v y d n =
      sum_ext (sys.net.size y) (untreated_support sys now x v y) (untreated_support sys es x v y)
      (λ w h. support_ext sys es now x v y w (λ p. omega (arith, now_treated (sys.owner x) y w, ap one (not_now w p))))
    where
      not_now : (w : ℕ) → supports sys.net x v y w ≡ true → (eqb k (sys.owner x) && is_label y w a) ≡ false
      not_now w p =
          refuted (eqb k (sys.owner x) && is_label y w a)
          (λ t.
          let e : a ≡ label y w = is_label_eq y w a (and_right (eqb k (sys.owner x)) (is_label y w a) t) in
          let o : sys.owner x ≡ k = sym (eqb-true k (sys.owner x) (and_left (eqb k (sys.owner x)) (is_label y w a) t)) in
          clash
          (and_intro
          (and_intro (and_intro (eq-eqb (sys.owner x) k o) d)
          (ap (λ (b : Label). supports sys.net x v b.variable b.value) e ∙ p))
          (eq-eqb y a.variable (sym (ap (λ (b : Label). b.variable) e))))
          n)

  -- so the counters are right after the treat, where they were right before it
  pub lowered_counts : (x v y : ℕ) → st.domain x v ≡ true → st.counter x v y ≡ remaining sys es x v y
      → lowered sys k a st x v y ≡ remaining sys now x v y
  unfolding lowered
  lowered_counts x v y d h =
      ⊎_elim
      (λ p.
      let e : y ≡ a.variable = eqb-true y a.variable (and_right (loses sys k a st x v) (eqb y a.variable) p) in
      omega (
        arith,
        cond_true (st.counter x v y - 1) (st.counter x v y) p,
        one_less_support x v (and_left (loses sys k a st x v) (eqb y a.variable) p),
        ap (remaining sys es x v) e,
        ap (remaining sys now x v) e,
      ))
      (λ p. omega (arith, cond_false (st.counter x v y - 1) (st.counter x v y) p, same_supports x v y d p))
      (decided (loses sys k a st x v && eqb y a.variable))
