-- Each counter of a label in the domain is the number of its supports that the label's owner has not treated, and is above 0.
use Prim.Native.Nat.{ℕ, ◌-◌, ◌<◌}
use mathlib.Core.Bool.{true, false, ◌&&◌, not}
use mathlib.Core.List.{List, [], ◌∷◌, ◌++◌}
use mathlib.Core.Logic.{◌⊎◌, inl, inr}
use mathlib.Core.Path.{◌≡◌, sym, ◌∙◌, ap}
use native.Mathlib.Omega.{arith}
use borrow.Author.Tests.{eqb-true, eqb-false, not-true}
use lib.Dec.{eqb}
use Rattle.base.proofs.Below.{none_below}
use Rattle.base.proofs.Bools.{decided, clash, and_left, and_right, and_intro, refuted}
use Rattle.base.proofs.Choice.{cond_true, cond_false}
use Rattle.base.proofs.Row.{row_count_counts}
use Rattle.base.proofs.Sums.{sum_ext}
use Rattle.base.proofs.Weight.{weigh, weigh_append}
use Rattle.network.specs.Network.{Label, loaded, supports, support_count}
use Rattle.disac4.proofs.ByTreat.{by_treat}
use Rattle.disac4.proofs.Flow.{Flow, load_flow, move_flow}
use Rattle.disac4.proofs.Moves.{Moves, kept}
use Rattle.disac4.proofs.Occurrences.{treated_by}
use Rattle.disac4.proofs.Remaining.{untreated_support, remaining, support_ext, lowered_counts}
use Rattle.disac4.specs.Action.{loses, lowered, deletes, after_treat}
use Rattle.disac4.specs.Event.{Event, treated, events}
use Rattle.disac4.specs.Loading.{unsupported, loaded_counter, load}
use Rattle.disac4.specs.State.{State}
use Rattle.disac4.specs.System.{System, Worker, Sound}
use Rattle.disac4.specs.Turn.{Turn, play}

module _ (sys : System) where
  -- of the labels in the domain, after the events `es`
  pub record Counters (st : State) (es : List Event) : Type 0 where
    -- they were loaded
    pub inside : (x v : ℕ) → st.domain x v ≡ true → loaded sys.net x v ≡ true
    -- the counter is the number of supports that the owner has not treated
    pub counts : (x v : ℕ) → st.domain x v ≡ true → (y : ℕ) → st.counter x v y ≡ remaining sys es x v y
    -- it is above 0 against every variable that shares a constraint with the label's
    pub positive : (x v : ℕ) → st.domain x v ≡ true → (y : ℕ) → y < sys.net.variables → sys.net.linked x y ≡ true
        → 0 < st.counter x v y

  -- the loaded counter is the number of all supports
  pub loaded_counts : (x v : ℕ) → loaded sys.net x v ≡ true → (y : ℕ)
      → loaded_counter sys.net x v y ≡ remaining sys [] x v y
  unfolding loaded_counter support_count
  loaded_counts x v l y =
      cond_true (support_count sys.net x v y) 0 l ∙ row_count_counts (sys.net.size y) (supports sys.net x v y)

  load_counters : Counters (load sys) []
  unfolding load unsupported
  load_counters = record {
    inside = λ x v d. and_left (loaded sys.net x v) (not (unsupported sys.net x v)) d;
    counts = λ x v d y. loaded_counts x v (and_left (loaded sys.net x v) (not (unsupported sys.net x v)) d) y;
    positive = λ x v d y h l. omega (arith, eqb-false (loaded_counter sys.net x v y) 0 (some_support x v d y h l));
  }
    where
      some_support : (x v : ℕ) → (load sys).domain x v ≡ true → (y : ℕ) → y < sys.net.variables → sys.net.linked x y ≡ true
          → eqb (loaded_counter sys.net x v y) 0 ≡ false
      some_support x v d y h l =
          refuted (eqb (loaded_counter sys.net x v y) 0)
          (λ z.
          clash (and_intro l z)
          (none_below sys.net.variables (λ i. sys.net.linked x i && eqb (loaded_counter sys.net x v i) 0)
          (not-true (unsupported sys.net x v) (and_right (loaded sys.net x v) (not (unsupported sys.net x v)) d))
          y h))

  module _ (st : State) (es : List Event) (flow : (x v : ℕ) → Flow sys x v st es) (c : Counters st es) where
    treat_counters : (k : ℕ) (a : Label) (rest : List Label) → Worker sys k → st.work_list k ≡ a ∷ rest
        → Counters (after_treat sys k a rest st) (es ++ (treated k a ∷ []))
    unfolding after_treat deletes lowered
    treat_counters k a rest w e = record {
      inside = λ x v d. c.inside x v (was x v d);
      counts = λ x v d y. lowered_counts sys st es flow k a rest w e x v y (was x v d) (c.counts x v (was x v d) y);
      positive = λ x v d y h l. above x v d y (c.positive x v (was x v d) y h l);
    }
      where
        was : (x v : ℕ) → (st.domain x v && not (deletes sys k a st x v)) ≡ true → st.domain x v ≡ true
        was x v d = and_left (st.domain x v) (not (deletes sys k a st x v)) d

        -- a label whose counter fell to 0 is deleted
        above : (x v : ℕ) → (st.domain x v && not (deletes sys k a st x v)) ≡ true → (y : ℕ) → 0 < st.counter x v y
            → 0 < lowered sys k a st x v y
        above x v d y h = go (decided (loses sys k a st x v && eqb y a.variable))
          where
            stays : deletes sys k a st x v ≡ false
            stays = not-true (deletes sys k a st x v) (and_right (st.domain x v) (not (deletes sys k a st x v)) d)

            go : ((loses sys k a st x v && eqb y a.variable) ≡ true) ⊎ ((loses sys k a st x v && eqb y a.variable) ≡ false)
                → 0 < lowered sys k a st x v y
            go (inl p) =
                omega (
                  arith,
                  ap (lowered sys k a st x v)
                      (eqb-true y a.variable (and_right (loses sys k a st x v) (eqb y a.variable) p)),
                  eqb-false (lowered sys k a st x v a.variable) 0
                      (refuted (eqb (lowered sys k a st x v a.variable) 0)
                      (λ z. clash (and_intro (and_left (loses sys k a st x v) (eqb y a.variable) p) z) stays)),
                )
            go (inr p) = omega (arith, cond_false (st.counter x v y - 1) (st.counter x v y) p)

    other_counters : (s : State) (new : List Event) → s.domain ≡ st.domain → s.counter ≡ st.counter
        → ((x v k : ℕ) → weigh (treated_by x v k) new ≡ 0) → Counters s (es ++ new)
    other_counters s new p q u = record {
      inside = λ x v d. c.inside x v (was x v d);
      counts = λ x v d y. rw q (c.counts x v (was x v d) y ∙ sym (same x v y));
      positive = λ x v d y h l. rw q (c.positive x v (was x v d) y h l);
    }
      where
        was : (x v : ℕ) → s.domain x v ≡ true → st.domain x v ≡ true
        was x v d = rw p at d

        same : (x v y : ℕ) → remaining sys (es ++ new) x v y ≡ remaining sys es x v y
        same x v y =
            sum_ext (sys.net.size y) (untreated_support sys (es ++ new) x v y) (untreated_support sys es x v y)
            (λ w h.
            support_ext sys es (es ++ new) x v y w
            (λ i. omega (arith, weigh_append (treated_by y w (sys.owner x)) es new, u y w (sys.owner x))))

  -- ---- together

  -- what is known after the events `es`: the flow of every label, and the counters
  pub record Accounts (st : State) (es : List Event) : Type 0 where
    pub flow : (x v : ℕ) → Flow sys x v st es
    pub counters : Counters st es

  -- they hold at loading
  pub load_accounts : Accounts (load sys) []
  load_accounts = record { flow = λ x v. load_flow sys x v; counters = load_counters }

  -- and every move keeps them
  pub move_accounts : (st : State) (es : List Event) (s : State) (new : List Event) → Accounts st es → Moves sys st s new
      → Accounts s (es ++ new)
  move_accounts st es s new b m = record {
    flow = λ x v. move_flow sys x v st es s new (b.flow x v) m;
    counters =
        by_treat sys st (λ t n. Counters t (es ++ n)) (treat_counters st es b.flow b.counters)
        (other_counters st es b.flow b.counters) s new m;
  }

  -- flow and counters are right, whatever turns are played
  pub accounts : Sound sys → (ts : List Turn) → Accounts (play sys (load sys) ts) (events sys (load sys) ts)
  accounts sound ts =
      kept sys sound.few Accounts (λ st es s new o b m. move_accounts st es s new b m) ts (load sys) load_accounts
