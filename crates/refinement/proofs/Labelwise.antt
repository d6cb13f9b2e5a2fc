-- A walk over the labels in memory whose steps each change what is their label's own and the lists of one row: the labels
-- don't disturb one another.
use Prim.Native.Nat.{ℕ, ◌+◌, ◌<◌}
use mathlib.Core.Bool.{Bool, true, false, cond}
use mathlib.Core.List.{List, [], ◌++◌}
use mathlib.Core.Logic.{◌⊎◌, inl, inr}
use mathlib.Core.Path.{◌≡◌, refl, sym, ◌∙◌, ap, subst}
use native.Mathlib.Decide.{dec_lt}
use native.Mathlib.Omega.{arith}
use borrow.Author.Tests.{lt-ltb, le-ltb}
use lib.Dec.{ltb}
use lib.ListN.{length, length-append}
use Rattle.base.proofs.Bools.{clash}
use Rattle.base.proofs.Sums.{one_le}
use Rattle.base.specs.Below.{one}
use Rattle.disac4.specs.System.{System}
use Rattle.network.proofs.Loaded.{loaded_intro}
use Rattle.network.specs.Network.{Label, loaded}
use Rattle.cells.specs.Layout.{WORKERS, LOG, WORK, DOMAIN, COUNTERS, PAIRS, TAIL, LOGEND}
use Rattle.cells.specs.Memory.{Mem}
use Rattle.cells.specs.View.{counter_row}
use Rattle.index.proofs.Kept.{row_pairs}
use Rattle.refinement.proofs.InvKept.{SameNumbers}
use Rattle.refinement.proofs.DeleteApart.{Apart, domain_apart, delete_if, delete_apart, delete_domain, delete_counter}
use Rattle.refinement.proofs.LongerLists.{Both, both_none, both_more, Appends}
use Rattle.refinement.specs.Inv.{Small}
use Rattle.index.specs.Index.{Paired}
use Rattle.refinement.proofs.Walking.{walk, gathered, Others, walk_keeps, walk_at, walk_gather}

-- ---- the rows of counters

one_side : (x y : ℕ) → (x ≡ y → ⊥) → one (ltb y x) ≡ one (ltb x y) → ⊥
one_side x y n e =
    elim (dec_lt y x) [
      | yes l ↦ omega (arith, ap one (lt-ltb y x l), ap one (le-ltb x y (omega arith)))
      | no l ↦ omega (arith, ap one (le-ltb y x (omega arith)), ap one (lt-ltb x y (omega arith)))
    ]

-- two variables and side have a row of their own
pub own_row : (sys : System) → Small sys → (m : Mem) → Paired sys m → (x y x' y' : ℕ) → sys.net.linked x y ≡ true
    → sys.net.linked x' y' ≡ true → counter_row m x y ≡ counter_row m x' y' → (x ≡ x') × (y ≡ y')
unfolding counter_row
own_row sys small m paired x y x' y' l l' e =
    go (paired.own x y x' y' l l'
    (omega (arith, paired.low x y l, paired.low x' y' l', one_le (ltb y x), one_le (ltb y' x'))))
  where
    go : ((x ≡ x') × (y ≡ y')) ⊎ ((x ≡ y') × (y ≡ x')) → (x ≡ x') × (y ≡ y')
    go (inl p) = p
    go (inr p) =
        absurd
        (one_side x y (small.links_inside x y l).2
        (omega (
          arith,
          paired.low x y l,
          paired.low x' y' l',
          one_le (ltb y x),
          one_le (ltb y' x'),
          ap (λ (a : ℕ). one (ltb a x')) p.0,
          ap (λ (a : ℕ). one (ltb x a)) p.1,
        )))

-- ---- what is a label's own

-- label `v` of `x` has the domain cell `d` and the counters `c`; the index is that of `m₀`
pub record Shows (sys : System) (m₀ : Mem) (x v d : ℕ) (c : ℕ → ℕ) (m : Mem) : Type 0 where
  pub pairs : (a b : ℕ) → m PAIRS a b ≡ m₀ PAIRS a b
  pub domain : m DOMAIN x v ≡ d
  pub counter : (y : ℕ) → sys.net.linked x y ≡ true → m COUNTERS (counter_row m₀ x y) v ≡ c y

-- what is the label's own is that of `m₀`
abbrev pub As : System → Mem → ℕ → ℕ → Mem → Type 0
As sys m₀ x v m = Shows sys m₀ x v (m₀ DOMAIN x v) (λ y. m₀ COUNTERS (counter_row m₀ x y) v) m

-- so it is at the start
as_start : (sys : System) (m : Mem) (x v : ℕ) → As sys m x v m
as_start sys m x v = record { pairs = λ a b. refl; domain = refl; counter = λ y l. refl }

-- a label that is deleted if a test holds
pub shows_if : (sys : System) (m₀ : Mem) (i x v d : ℕ) (c : ℕ → ℕ) (z : Bool) (m : Mem) → Shows sys m₀ x v d c m
    → Shows sys m₀ x v (cond z 0 d) c (delete_if z i x v m)
shows_if sys m₀ i x v d c true m s = record {
  pairs = λ a b. delete_apart sys i x v m m PAIRS a b (omega arith) ∙ s.pairs a b;
  domain = delete_domain sys i x v m;
  counter = λ y k. delete_counter sys i x v m (counter_row m₀ x y) v ∙ s.counter y k;
}
shows_if sys m₀ i x v d c false m s = s

module _ (sys : System) (small : Small sys) (f : ℕ → ℕ → Mem → Mem) (row : ℕ → ℕ) where
  -- each step leaves alone what stands apart from its label and its row's lists
  abbrev pub Local : Type 0
  Local = (x v : ℕ) → x < sys.net.variables → v < sys.net.size x → (m : Mem) (r a b : ℕ)
      → Apart sys m (row x) x v r a b → f x v m r a b ≡ m r a b

  -- the walk from `m₀` ends in `m₁`
  module _ (local : Local) (m₀ : Mem) (paired : Paired sys m₀) (m₁ : Mem)
      (walked : m₁ ≡ walk sys.net f m₀) where
    keeps_pairs : (x v : ℕ) → x < sys.net.variables → v < sys.net.size x → (m : Mem) → SameNumbers m₀ m
        → SameNumbers m₀ (f x v m)
    keeps_pairs x v h l m s a b = local x v h l m PAIRS a b (omega arith) ∙ s a b

    moved : (i x v r a b : ℕ) (m : Mem) → SameNumbers m₀ m → Apart sys m₀ i x v r a b → Apart sys m i x v r a b
    moved i x v r a b m s p = record {
      domain = p.domain;
      counter = λ y l e q. p.counter y l e (q ∙ row_pairs m₀ m x y (s x y));
      log = p.log;
      work = p.work;
      log_end = p.log_end;
      work_end = p.work_end;
    }

    -- a point that stands apart from all labels is left alone
    pub walk_apart : (r a b : ℕ)
        → ((x v : ℕ) → x < sys.net.variables → v < sys.net.size x → Apart sys m₀ (row x) x v r a b)
        → m₁ r a b ≡ m₀ r a b
    walk_apart r a b p =
        ap (λ (m : Mem). m r a b) walked
        ∙ (walk_keeps sys.net f (λ m. SameNumbers m₀ m × (m r a b ≡ m₀ r a b))
        (λ x v h l m s.
        (keeps_pairs x v h l m s.0, local x v h l m r a b (moved (row x) x v r a b m s.0 (p x v h l)) ∙ s.1))
        m₀ ((λ a b. refl), refl)).1

    -- what is a label's own is left alone by the others
    shows_others : (x v d : ℕ) (c : ℕ → ℕ) → Others sys.net f (Shows sys m₀ x v d c) x v
    shows_others x v d c x' v' n h l m s = record {
      pairs = keeps_pairs x' v' h l m s.pairs;
      domain = local x' v' h l m DOMAIN x v (domain_apart sys m (row x') x v x' v' (λ p q. n (sym p) (sym q))) ∙ s.domain;
      counter = λ y k. local x' v' h l m COUNTERS (counter_row m₀ x y) v (record {
        domain = λ e. omega arith;
        counter = λ y' k' e p q.
            n
            (sym (own_row sys small m₀ paired x y x' y' k k' (p ∙ row_pairs m₀ m x' y' (s.pairs x' y'))).0)
            (sym q);
        log = λ e. omega arith;
        work = λ e. omega arith;
        log_end = λ e. omega arith;
        work_end = λ e. omega arith;
      }) ∙ s.counter y k;
    }

    -- each label has, at the end, what its own step gives it
    pub walk_shows : (x v d : ℕ) (c : ℕ → ℕ) → x < sys.net.variables → v < sys.net.size x
        → ((m : Mem) → As sys m₀ x v m → Shows sys m₀ x v d c (f x v m)) → Shows sys m₀ x v d c m₁
    walk_shows x v d c h l s =
        subst (Shows sys m₀ x v d c) (sym walked)
        (walk_at sys.net f (As sys m₀ x v) (Shows sys m₀ x v d c) x v h l (shows_others x v _ _) (shows_others x v d c) s m₀
        (as_start sys m₀ x v))

    -- the lists of row `i` grow by what the steps append, as long as there is room
    pub walk_both : (i : ℕ) (g : ℕ → ℕ → List Label)
        → ((x v : ℕ) → x < sys.net.variables → v < sys.net.size x → (m : Mem) → As sys m₀ x v m
        → Appends sys i m (f x v m) (g x v))
        → Appends sys i m₀ m₁ (gathered sys.net g)
    walk_both i g s =
        subst (λ m. Appends sys i m₀ m (gathered sys.net g)) (sym walked)
        (walk_gather sys.net f (As sys m₀) (λ x v. shows_others x v _ _) (λ l m. Appends sys i m₀ m l) g step m₀
        (λ x v h l. as_start sys m₀ x v) (λ k k'. both_none sys i m₀ m₀ refl refl (λ d. refl) (λ d. refl)))
      where
        step : (x v : ℕ) → x < sys.net.variables → v < sys.net.size x → (l : List Label) (m : Mem)
            → As sys m₀ x v m → Appends sys i m₀ m l → Appends sys i m₀ (f x v m) (l ++ g x v)
        step x v h k l m q b room room' =
            let fit : length (l ++ g x v) ≡ length l + length (g x v) = length-append l (g x v) in
            let so_far : Both sys i m₀ m l = b (omega arith) (omega arith) in
            both_more sys i m₀ m (f x v m) l (g x v) so_far
            (s x v h k m q (omega (arith, so_far.log.end)) (omega (arith, so_far.work.end)))

-- a step at a label whose row is `j` leaves the lists of another row alone
pub both_other : (sys : System) (m n : Mem) (i j x v : ℕ)
    → ((r a b : ℕ) → Apart sys m j x v r a b → n r a b ≡ m r a b) → (i ≡ j → ⊥) → Both sys i m n []
both_other sys m n i j x v same d =
    both_none sys i m n (same WORKERS i LOGEND (omega arith)) (same WORKERS i TAIL (omega arith))
    (λ c. same LOG i c (omega arith)) (λ c. same WORK i c (omega arith))

-- the domain cell of a label that was not loaded stands apart from all labels
pub unloaded_apart : (sys : System) (m : Mem) (i x v : ℕ) → loaded sys.net x v ≡ false → (x' v' : ℕ)
    → x' < sys.net.variables → v' < sys.net.size x' → Apart sys m i x' v' DOMAIN x v
unloaded_apart sys m i x v e x' v' h l =
    domain_apart sys m i x v x' v'
    (λ p q. clash (loaded_intro sys.net x v (omega arith) (omega (arith, ap sys.net.size p))) e)
