-- Treating deletes nothing that an arc-consistent family of domains needs; where nothing is left to treat, what remains is
-- the largest such family.
use Prim.Native.Nat.{ℕ, ◌<◌}
use mathlib.Core.Bool.{Bool, true, false, ◌&&◌, not}
use mathlib.Core.List.{List, [], ◌∷◌, ◌++◌}
use mathlib.Core.Path.{◌≡◌, refl, ap}
use native.Mathlib.Omega.{arith}
use borrow.Author.Tests.{eqb-true}
use lib.Dec.{eqb}
use Rattle.base.proofs.Below.{some_below}
use Rattle.base.proofs.Bools.{clash, and_left, and_right, and_intro, and_false_right, not_of, not_of_true, refuted}
use Rattle.base.proofs.Weight.{weigh}
use Rattle.base.specs.Below.{one}
use Rattle.network.proofs.Largest.{largest_of}
use Rattle.network.proofs.Loaded.{loaded_variable, loaded_value, loaded_intro}
use Rattle.network.specs.Consistency.{Within, Supported, ArcConsistent, ConsistentWithin, Largest}
use Rattle.network.specs.Network.{Label, Domains, loaded, supports}
use Rattle.disac4.proofs.ByTreat.{by_treat}
use Rattle.disac4.proofs.Counters.{Accounts, loaded_counts, load_accounts, move_accounts, accounts}
use Rattle.disac4.proofs.Moves.{Moves, kept}
use Rattle.disac4.proofs.Occurrences.{treated_by}
use Rattle.disac4.proofs.Quiet.{Quiet}
use Rattle.disac4.proofs.Remaining.{support_remains, remains_support, loses_owner, loses_support, now_deleted, head_loaded, lowered_counts}
use Rattle.disac4.proofs.Treated.{treated_exactly}
use Rattle.disac4.specs.Action.{loses, lowered, deletes, after_treat}
use Rattle.disac4.specs.Event.{Event, treated, events, deleted}
use Rattle.disac4.specs.Loading.{unsupported, loaded_counter, load}
use Rattle.disac4.specs.State.{State}
use Rattle.disac4.specs.System.{System, Worker, Sound}
use Rattle.disac4.specs.Turn.{Turn, play}

-- a label in the domain is not deleted
in_domain_lem : (sys : System) (st : State) (x v : ℕ) → st.domain x v ≡ true → deleted sys st x v ≡ false
unfolding deleted
in_domain_lem sys st x v d = and_false_right (loaded sys.net x v) (not_of_true d)

-- a family of arc-consistent domains, each within the loaded one
module _ (sys : System) (e : Domains) (c : ConsistentWithin sys.net e) where
  abbrev Support : ℕ → ℕ → ℕ → Type 0
  Support x v y =
      (w : ℕ) × (w < sys.net.size y) × (e y w ≡ true) × (supports sys.net x v y w ≡ true)

  -- each label of it has supports in it
  support : (x v : ℕ) → e x v ≡ true → (y : ℕ) → y < sys.net.variables → sys.net.linked x y ≡ true → Support x v y
  unfolding Within Supported ArcConsistent supports
  support x v p y h l =
      let s = c.consistent x v p y h l in
      (s.0, loaded_value sys.net y s.0 (c.within y s.0 s.1), s.1, and_intro l s.2)

  -- so loading deletes none of them
  load_keeps : Within e (load sys).domain
  unfolding Within load unsupported
  load_keeps x v p =
      and_intro inside
      (not_of
      (refuted (unsupported sys.net x v)
      (λ u.
      let (y, h, t) = some_below sys.net.variables (λ i. sys.net.linked x i && eqb (loaded_counter sys.net x v i) 0) u in
      let (w, b, q, s) = support x v p y h (and_left (sys.net.linked x y) (eqb (loaded_counter sys.net x v y) 0) t) in
      omega (
        arith,
        eqb-true (loaded_counter sys.net x v y) 0
            (and_right (sys.net.linked x y) (eqb (loaded_counter sys.net x v y) 0) t),
        loaded_counts sys x v inside y,
        support_remains sys [] x v y w b s refl,
      ))))
    where
      inside : loaded sys.net x v ≡ true
      inside = c.within x v p

  module _ (st : State) (es : List Event) (b : Accounts sys st es) (inner : Within e st.domain)
      (k : ℕ) (a : Label) (rest : List Label) (worker : Worker sys k) (oldest : st.work_list k ≡ a ∷ rest) where
    -- and where a treat lowers a counter, a support that nobody has treated remains
    remains : (x v : ℕ) → e x v ≡ true → loses sys k a st x v ≡ true → 0 < lowered sys k a st x v a.variable
    unfolding Within supports
    remains x v p l =
        let y : ℕ = a.variable in
        let h = loaded_variable sys.net y a.value (head_loaded sys st es b.flow k a rest worker oldest) in
        let (w, i, q, s) =
        support x v p y h
        (and_left (sys.net.linked x y) (sys.net.allows x v y a.value) (loses_support sys k a st x v l)) in
        omega (
          arith,
          lowered_counts sys st es b.flow k a rest worker oldest x v y (inner x v p)
              (b.counters.counts x v (inner x v p) y),
          support_remains sys (es ++ (treated k a ∷ [])) x v y w i s
              (omega (
                arith,
                now_deleted sys st es b.flow k a rest worker oldest y w,
                ap one (in_domain_lem sys st y w (inner y w q)),
                ap (λ (o : ℕ). weigh (treated_by y w o) (es ++ (treated k a ∷ []))) (loses_owner sys k a st x v l),
              )),
        )

    treat_keeps : Within e (after_treat sys k a rest st).domain
    unfolding Within after_treat deletes
    treat_keeps x v p =
        and_intro (inner x v p)
        (not_of
        (refuted (deletes sys k a st x v)
        (λ d.
        omega (
          arith,
          remains x v p (and_left (loses sys k a st x v) (eqb (lowered sys k a st x v a.variable) 0) d),
          eqb-true (lowered sys k a st x v a.variable) 0
              (and_right (loses sys k a st x v) (eqb (lowered sys k a st x v a.variable) 0) d),
        ))))

  -- the family within the domains, with what is known of flow and counters
  record Contained (st : State) (es : List Event) : Type 0 where
    known : Accounts sys st es
    inner : Within e st.domain

  move_keeps : (st : State) (es : List Event) (s : State) (new : List Event) → Contained st es → Moves sys st s new
      → Contained s (es ++ new)
  move_keeps st es s new h m = record {
    known = move_accounts sys st es s new h.known m;
    inner =
        by_treat sys st (λ t n. Within e t.domain) (treat_keeps st es h.known h.inner)
        (λ t n p q u. rw p h.inner) s new m;
  }

-- every arc-consistent family of domains within the loaded ones lies inside the current domains, always
pub never_lost : (sys : System) → Sound sys → (ts : List Turn) (e : Domains) → ConsistentWithin sys.net e
    → Within e (play sys (load sys) ts).domain
never_lost sys sound ts e c =
    (kept sys sound.few (Contained sys e c) (λ st es s new o h m. move_keeps sys e c st es s new h m) ts (load sys)
    (record { known = load_accounts sys; inner = load_keeps sys e c })
    ).inner

-- in a quiet state each worker has treated every deleted label, so a support that it has not treated is in the domain
quiet_consistent : (sys : System) → Sound sys → (st : State) (es : List Event) → Accounts sys st es → Quiet sys st
    → ArcConsistent sys.net st.domain
unfolding Supported ArcConsistent supports deleted
quiet_consistent sys sound st es b q x v d y h l =
    let (w, i, s, z) =
    remains_support sys es x v y (omega (arith, b.counters.counts x v d y, b.counters.positive x v d y h l)) in
    (w, stands w i (omega (arith, if_deleted w)), and_right (sys.net.linked x y) (sys.net.allows x v y w) s)
  where
    if_deleted : (w : ℕ) → weigh (treated_by y w (sys.owner x)) es ≡ one (deleted sys st y w)
    if_deleted w =
        treated_exactly sys y w st es (b.flow y w) (sound.owned y h) q (sys.owner x)
        (sound.owned x (loaded_variable sys.net x v (b.counters.inside x v d)))

    stands : (w : ℕ) → w < sys.net.size y → one (deleted sys st y w) ≡ 0 → st.domain y w ≡ true
    stands w i = go (loaded sys.net y w) (st.domain y w) (loaded_intro sys.net y w h i)
      where
        go : (a b : Bool) → a ≡ true → one (a && not b) ≡ 0 → b ≡ true
        go true true p e = refl
        go true false p e = absurd (omega arith)
        go false b p e = clash p refl

-- a quiet state holds the largest arc-consistent domains
pub quiet_largest : (sys : System) → Sound sys → (ts : List Turn) → Quiet sys (play sys (load sys) ts)
    → Largest sys.net (play sys (load sys) ts).domain
unfolding Within
quiet_largest sys sound ts q =
    largest_of sys.net (play sys (load sys) ts).domain
    (record {
      within = known.counters.inside;
      consistent = quiet_consistent sys sound (play sys (load sys) ts) (events sys (load sys) ts) known q;
    })
    (never_lost sys sound ts)
  where
    known : Accounts sys (play sys (load sys) ts) (events sys (load sys) ts)
    known = accounts sys sound ts
