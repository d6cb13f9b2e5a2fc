-- Sweeps: each takes away every label that lacks a support in some domain. Sweeps from the loaded domains come to rest, since
-- every other sweep takes a label away, and domains within the loaded ones are arc-consistent exactly if a sweep deletes nothing.
use Prim.Native.Nat.{ℕ, zero, suc, ◌+◌, ◌<◌, ◌≤◌}
use mathlib.Core.Bool.{true, false, cond, ◌&&◌}
use mathlib.Core.Logic.{◌↔◌, ⊎_elim}
use mathlib.Core.Option.{Option, none, some, get_or}
use mathlib.Core.Path.{◌≡◌, refl, sym, ◌∙◌, ap, fun_ext}
use native.Mathlib.Decide.{dec_lt}
use native.Mathlib.Nat.{le_refl, le_step, le_of_suc-le-suc}
use native.Mathlib.Omega.{arith}
use Rattle.base.proofs.Below.{any_below_lem, some_below, all_below_lem, every_below, fails_below, first_below_lem, none_first}
use Rattle.base.proofs.Bools.{decided, clash, refuted, bool_ext, and_left, and_right, and_intro, and_false_right, implied, implies, not_implied}
use Rattle.base.proofs.Choice.{none≢some, if_some, cond_true}
use Rattle.base.proofs.Sums.{count_le, sum_le, sum_less, one_mono, one_less}
use Rattle.base.specs.Below.{one, first_below}
use Rattle.network.proofs.Loaded.{loaded_variable, loaded_value}
use Rattle.network.specs.Consistency.{Within, Supported, ArcConsistent, ConsistentWithin}
use Rattle.network.specs.Network.{Network, Domains, loaded, label_count, domain_size}
use Rattle.network.specs.Sweep.{has_support, has_supports, sweep, rests, swept, sweep_count}

-- domains within the loaded ones that contain all arc-consistent ones
pub record Around (net : Network) (d : Domains) : Type 0 where
  pub inner : Within d (loaded net)
  pub outer : (e : Domains) → ConsistentWithin net e → Within e d

module _ (net : Network) (d : Domains) (inner : Within d (loaded net)) (x v : ℕ) where
  -- the test for supports says that there is one in every domain that the label needs one in
  supported_exactly : (has_supports net d x v ≡ true)
      ↔ ((y : ℕ) → y < net.variables → net.linked x y ≡ true → Supported net d x v y)
  unfolding Within Supported has_supports has_support
  supported_exactly = (
    λ all y l q.
        let here : has_support net d x v y ≡ true =
        implied (net.linked x y) (has_support net d x v y) (all_below_lem net.variables _ all y l) q in
        let s = some_below (net.size y) _ here in
        (s.0, and_left (d y s.0) (net.allows x v y s.0) s.2, and_right (d y s.0) (net.allows x v y s.0) s.2),
    λ each.
        every_below net.variables _ (λ y l.
        implies (net.linked x y) (has_support net d x v y) (λ q.
        let s : Supported net d x v y = each y l q in
        any_below_lem (net.size y) (λ w. d y w && net.allows x v y w) s.0 (loaded_value net y s.0 (inner y s.0 s.1))
        (and_intro s.1 s.2))),
  )

  -- of domains within the loaded ones a sweep keeps a label exactly if it was in its domain and had, against every variable that
  -- it shares a constraint with, a support in the domains from before the sweep
  pub sweep_exactly : (sweep net d x v ≡ true)
      ↔ ((d x v ≡ true) × ((y : ℕ) → y < net.variables → net.linked x y ≡ true → Supported net d x v y))
  unfolding sweep
  sweep_exactly = (
    λ e. (and_left (d x v) (has_supports net d x v) e, supported_exactly.0 (and_right (d x v) (has_supports net d x v) e)),
    λ h. and_intro h.0 (supported_exactly.1 h.1),
  )

module _ (net : Network) (d : Domains) where
  -- what contains all arc-consistent domains still does after a sweep
  sweep_around : Around net d → Around net (sweep net d)
  unfolding Within ArcConsistent Supported sweep
  sweep_around a = record {
    inner = λ x v e. a.inner x v (and_left (d x v) (has_supports net d x v) e);
    outer = λ e c x v p.
        (sweep_exactly net d a.inner x v).1 (
          a.outer e c x v p,
          λ y l q.
              let s : Supported net e x v y = c.consistent x v p y l q in
              (s.0, a.outer e c y s.0 s.1, s.2),
        );
  }

  -- a label stays as it is if it has its supports whenever it is in its domain
  stays : (x v : ℕ) → (d x v ≡ true → has_supports net d x v ≡ true) → sweep net d x v ≡ d x v
  unfolding sweep
  stays x v h =
      bool_ext (d x v && has_supports net d x v) (d x v) (and_left (d x v) (has_supports net d x v)) (λ e. and_intro e (h e))

  -- a sweep deletes nothing exactly if it leaves each label as it is
  pub rests_each : (rests net d ≡ true) ↔ ((x v : ℕ) → x < net.variables → v < net.size x → sweep net d x v ≡ d x v)
  unfolding rests sweep
  rests_each = (
    λ r x v p q.
        stays x v
        (implied (d x v) (has_supports net d x v) (all_below_lem (net.size x) _ (all_below_lem net.variables _ r x p) v q)),
    λ h.
        every_below net.variables _ (λ x p.
        every_below (net.size x) _ (λ v q.
        let has = has_supports net d x v in
        implies (d x v) has (λ e. and_right (d x v) has (h x v p q ∙ e)))),
  )

  -- so in domains that it leaves alone every label has its supports
  resting_supports : Within d (loaded net) → rests net d ≡ true → (x v : ℕ) → d x v ≡ true → has_supports net d x v ≡ true
  unfolding Within sweep
  resting_supports inner r x v p =
      let low = inner x v p in
      and_right (d x v) (has_supports net d x v)
      (rests_each.0 r x v (loaded_variable net x v low) (loaded_value net x v low) ∙ p)

  -- so a sweep deletes nothing exactly from arc-consistent domains
  pub rests_consistent : Within d (loaded net) → (rests net d ≡ true) ↔ ArcConsistent net d
  unfolding ArcConsistent
  rests_consistent inner = (
    λ r x v p. (supported_exactly net d inner x v).0 (resting_supports inner r x v p),
    λ c. rests_each.1 (λ x v h l. stays x v (λ p. (supported_exactly net d inner x v).1 (c x v p))),
  )

  -- any other sweep takes a label away
  sweep_fewer : rests net d ≡ false → domain_size net (sweep net d) < domain_size net d
  unfolding domain_size sweep rests
  sweep_fewer r =
      let i = fails_below net.variables _ r in
      let j = fails_below (net.size i.0) _ i.2 in
      sum_less net.variables _ _ (λ x l. sum_le (net.size x) _ _ (λ v m. fewer x v)) i.0 i.1
      (sum_less (net.size i.0) _ _ (λ v m. fewer i.0 v) j.0 j.1
      (gone i.0 j.0 (not_implied (d i.0 j.0) (has_supports net d i.0 j.0) j.2)))
    where
      fewer : (x v : ℕ) → one (sweep net d x v) ≤ one (d x v)
      fewer x v = one_mono (sweep net d x v) (d x v) (and_left (d x v) (has_supports net d x v))

      gone : (x v : ℕ) → (d x v ≡ true) × (has_supports net d x v ≡ false) → one (sweep net d x v) < one (d x v)
      gone x v p = one_less (sweep net d x v) (d x v) (and_false_right (d x v) p.1) p.0

  -- a sweep leaves the domains as they are exactly if it deletes nothing
  pub rests_exactly : Within d (loaded net) → (rests net d ≡ true) ↔ (sweep net d ≡ d)
  rests_exactly inner = (
    λ r. fun_ext (λ x. fun_ext (λ v. stays x v (resting_supports inner r x v))),
    λ e. ⊎_elim (λ p. p) (λ r. absurd (omega (arith, sweep_fewer r, ap (domain_size net) e))) (decided (rests net d)),
  )

module _ (net : Network) where
  -- any number of sweeps of the loaded domains stays between the arc-consistent ones and those
  swept_around : (k : ℕ) → Around net (swept net k)
  unfolding swept Within
  swept_around zero = record { inner = λ x v e. e; outer = λ e c. c.within }
  swept_around (suc k) = sweep_around net (swept net k) (swept_around k)

  -- so within the loaded ones, where the restriction holds exactly
  pub swept_exactly : (k x v : ℕ) → (swept net (suc k) x v ≡ true)
      ↔ ((swept net k x v ≡ true) × ((y : ℕ) → y < net.variables → net.linked x y ≡ true → Supported net (swept net k) x v y))
  unfolding swept
  swept_exactly k = sweep_exactly net (swept net k) (swept_around k).inner

  -- and one sweep more changes nothing exactly if it deletes nothing
  swept_rests : (k : ℕ) → (rests net (swept net k) ≡ true) ↔ (swept net (suc k) ≡ swept net k)
  unfolding swept
  swept_rests k = rests_exactly net (swept net k) (swept_around k).inner

  -- there are at most L labels
  loaded_size : domain_size net (loaded net) ≤ label_count net
  unfolding domain_size label_count
  loaded_size = sum_le net.variables _ _ (λ x h. count_le (net.size x) (loaded net x))

  -- each sweep that deletes something takes a label away
  sweeps_fewer : (k : ℕ) → ((j : ℕ) → j < k → rests net (swept net j) ≡ false)
      → domain_size net (swept net k) + k ≤ label_count net
  unfolding swept
  sweeps_fewer zero h = omega (arith, loaded_size)
  sweeps_fewer (suc k) h =
      omega (arith, sweeps_fewer k (λ j l. h j (le_step l)), sweep_fewer net (swept net k) (h k (le_refl (suc k))))

  -- so there are at most L of them
  pub few_sweeps : (k : ℕ) → ((j : ℕ) → j < k → rests net (swept net j) ≡ false) → k ≤ label_count net
  few_sweeps k h = omega (arith, sweeps_fewer k h)

  -- the number of a sweep that deletes nothing
  abbrev resting : ℕ → Option ℕ
  resting k = cond (rests net (swept net k)) (some (suc k)) none

  -- where none of the first `k` is such a sweep, each of them deletes something
  none_resting : (k : ℕ) → first_below k resting ≡ none → (j : ℕ) → j < k → rests net (swept net j) ≡ false
  none_resting k e j h =
      refuted (rests net (swept net j)) (λ p. none≢some (sym (none_first k resting e j h) ∙ cond_true (some (suc j)) none p))

  -- the last sweep, counted from 0: it deletes nothing, and it is one of the first L + 1
  pub record Last (k : ℕ) : Type 0 where
    pub count : sweep_count net ≡ suc k
    pub within : k ≤ label_count net
    pub at_rest : rests net (swept net k) ≡ true
    pub before : (j : ℕ) → j < k → rests net (swept net j) ≡ false

  pub comes_to_rest : (k : ℕ) × Last k
  unfolding sweep_count
  comes_to_rest = go (first_below (suc (label_count net)) resting) refl
    where
      go : (o : Option ℕ) → first_below (suc (label_count net)) resting ≡ o → (k : ℕ) × Last k
      go none e = absurd (omega (arith, few_sweeps (suc (label_count net)) (none_resting (suc (label_count net)) e)))
      go (some a) e =
          let f = first_below_lem (suc (label_count net)) resting a e in
          let r = if_some (rests net (swept net f.0)) f.2 in (
            f.0,
            record {
              count = ap (λ (o : Option ℕ). get_or o 0) (e ∙ sym r.1);
              within = le_of_suc-le-suc f.1;
              at_rest = r.0;
              before = none_resting f.0 f.3;
            },
          )

  -- the first that deletes nothing is the last
  pub last_is : (k : ℕ) → ((j : ℕ) → j < k → rests net (swept net j) ≡ false) → rests net (swept net k) ≡ true → sweep_count net ≡ suc k
  last_is k h e =
      let l = comes_to_rest in
      l.1.count
      ∙ ap suc
      (elim (dec_lt l.0 k) [
        | yes p ↦ clash l.1.at_rest (h l.0 p)
        | no p ↦ elim (dec_lt k l.0) [ yes q ↦ clash e (l.1.before k q) | no q ↦ omega arith ]
      ])

  module _ (k : ℕ) (l : Last k) where
    -- the last sweep leaves the domains as they were before it
    pub last_same : swept net (suc k) ≡ swept net k
    last_same = (swept_rests k).0 l.at_rest

    -- and is the first that does
    pub last_first : (j : ℕ) → j < k → swept net (suc j) ≡ swept net j → ⊥
    last_first j h e = clash ((swept_rests j).1 e) (l.before j h)

  -- at most L + 1 sweeps
  pub sweeps_bounded : sweep_count net ≤ suc (label_count net)
  sweeps_bounded = let l = comes_to_rest in omega (arith, l.1.count, l.1.within)

-- sweeps from the loaded domains come to rest at arc-consistent domains that contain all others
pub sweeps_end : (net : Network) → ConsistentWithin net (swept net (sweep_count net)) × Around net (swept net (sweep_count net))
sweeps_end net =
    let l = comes_to_rest net in
    let same : swept net (sweep_count net) ≡ swept net l.0 = ap (swept net) l.1.count ∙ last_same net l.0 l.1 in
    rw same (
      record {
        within = (swept_around net l.0).inner;
        consistent = (rests_consistent net (swept net l.0) (swept_around net l.0).inner).0 l.1.at_rest;
      },
      swept_around net l.0,
    )
