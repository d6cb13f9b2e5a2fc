-- The walk along the chain of tables over two variables, and what it leaves to be accepted; the limits are judged before it.
use Prim.Native.Nat.{ℕ, suc, ◌<◌, ◌≤◌}
use mathlib.Core.Bool.{Bool, true, false, ◌&&◌, ◌||◌, not, and_comm}
use mathlib.Core.List.{List}
use mathlib.Core.Logic.{⊎_elim}
use mathlib.Core.Option.{none}
use mathlib.Core.Path.{◌≡◌, refl, sym, ◌∙◌, ap, ap₂}
use native.Mathlib.Omega.{arith}
use Rattle.base.proofs.Below.{all_both, all_ext}
use Rattle.base.proofs.Bools.{and-false, and_true, or_left, or_right}
use Rattle.base.proofs.Members.{all_places}
use Rattle.base.specs.Below.{all_below}
use Rattle.format.specs.Format.{section_start, constraint_start, constraint_count, limit_at, figure_at}
use Rattle.index.proofs.Nearest.{last_low, last_settled, last_passes, last_all}
use Rattle.index.specs.Index.{table_over, limit_over, table_below, within_each}
use Rattle.plan.proofs.Parts.{constraints_read}
use Rattle.plan.specs.Decode.{plan_fault, plan_of}
use Rattle.plan.specs.Network.{within_limit, accepts, pair_allowed}
use Rattle.plan.specs.Plan.{no_constraint, constraint_of}
use Rattle.rows.proofs.Accepted.{accepts_at, accepts_apart, limit_accepts_lem}
use Rattle.rows.specs.Permits.{Loaded, over, is_table}

-- ---- the walk

-- it has come to the table before `n`, or with 0 to the end
pub record Along (b : List ℕ) (x y n : ℕ) : Type 0 where
  pub low : n ≤ constraint_count b
  pub settled : table_below b x y n ≡ n

module _ (b : List ℕ) (x y : ℕ) where
  -- it starts at the last table over the two variables
  pub along_start : (n : ℕ) → n ≡ table_below b x y (constraint_count b) → Along b x y n
  along_start n e =
      rw e (record { low = last_low (table_over b x y) (constraint_count b); settled = last_settled (table_over b x y) (constraint_count b) })

  module _ (c : ℕ) (a : Along b x y (suc c)) where
    -- what it has come to is a table over them
    pub along_over : table_over b x y c ≡ true
    along_over = last_passes (table_over b x y) c a.settled

    -- and it goes on to the one before
    pub along_next : (n : ℕ) → n ≡ table_below b x y c → Along b x y n
    along_next n e =
        rw e (record { low = omega (arith, a.low, last_low (table_over b x y) c); settled = last_settled (table_over b x y) c })

-- ---- what is left

-- if the constraint is a table, it accepts the pair; if it is a limit
abbrev pub table_accepts : List ℕ → ℕ → ℕ → ℕ → ℕ → ℕ → Bool
table_accepts b x v y w c = not (is_table b c) || accepts_at b x v y w c

abbrev pub limit_accepts : List ℕ → ℕ → ℕ → ℕ → ℕ → ℕ → Bool
limit_accepts b x v y w c = is_table b c || accepts_at b x v y w c

-- the pair is allowed where the limits and the tables behind the walk accept it, `t`, and those from `n` on do
abbrev pub Rest : List ℕ → ℕ → ℕ → ℕ → ℕ → Bool → ℕ → Type 0
Rest b x v y w t n = pair_allowed (plan_of b) x v y w ≡ t && all_below n (table_accepts b x v y w)

-- the last of three tests in front of the second
last_first : (t p q : Bool) → t && (p && q) ≡ (t && q) && p
last_first true p q = and_comm p q
last_first false p q = refl

module _ (b : List ℕ) (x v y w : ℕ) where
  -- a constraint is a limit or a table
  either_kind : (c : ℕ) → accepts_at b x v y w c ≡ limit_accepts b x v y w c && table_accepts b x v y w c
  either_kind c = go (is_table b c)
    where
      go : (t : Bool) → accepts_at b x v y w c ≡ (t || accepts_at b x v y w c) && (not t || accepts_at b x v y w c)
      go true = refl
      go false = sym (and_true (accepts_at b x v y w c) refl)

  -- what is no table over the two variables leaves the pair to others
  no_table : (c : ℕ) → table_over b x y c ≡ false → table_accepts b x v y w c ≡ true
  unfolding table_over
  no_table c e =
      ⊎_elim (λ p. or_right (not (is_table b c)) (accepts_apart b x v y w c p)) (λ p. or_left (accepts_at b x v y w c) (ap not p))
      (and-false (over b x y c) (is_table b c) e)

  -- a pair is allowed where all limits and the tables along its chain accept it
  allowed_chain :
      pair_allowed (plan_of b) x v y w
      ≡ all_below (constraint_count b) (limit_accepts b x v y w) && all_below (table_below b x y (constraint_count b)) (table_accepts b x v y w)
  unfolding pair_allowed constraint_of
  allowed_chain =
      all_places (λ c. accepts (plan_of b) c x v y w) (plan_of b).constraints no_constraint
      ∙ ap (λ (n : ℕ). all_below n (accepts_at b x v y w)) (constraints_read b)
      ∙ all_ext (constraint_count b) (accepts_at b x v y w) (λ c. limit_accepts b x v y w c && table_accepts b x v y w c) (λ c h. either_kind c)
      ∙ all_both (constraint_count b) (limit_accepts b x v y w) (table_accepts b x v y w)
      ∙ ap (λ (t : Bool). all_below (constraint_count b) (limit_accepts b x v y w) && t)
      (last_all (table_over b x y) (table_accepts b x v y w) no_table (constraint_count b))

  -- so once the limits are judged it is left to the whole chain
  pub rest_start : (t : Bool) → t ≡ all_below (constraint_count b) (limit_accepts b x v y w) → (n : ℕ)
      → n ≡ table_below b x y (constraint_count b) → Rest b x v y w t n
  rest_start t p n e = rw (p, e) allowed_chain

  -- and behind each table to the rest of the chain
  pub rest_next : (t : Bool) (c : ℕ) → Rest b x v y w t (suc c) → (r : Bool) → r ≡ t && table_accepts b x v y w c
      → (n : ℕ) → n ≡ table_below b x y c → Rest b x v y w r n
  rest_next t c a r p n e =
      a ∙ last_first t (all_below c (table_accepts b x v y w)) (table_accepts b x v y w c)
      ∙ ap₂ ◌&&◌ (sym p)
      (last_all (table_over b x y) (table_accepts b x v y w) no_table c ∙ ap (λ (k : ℕ). all_below k (table_accepts b x v y w)) (sym e))

  -- the limits judge the figures of the two values
  pub limits_judge : plan_fault b ≡ none → Loaded b x v → Loaded b y w
      → all_below (constraint_count b) (limit_accepts b x v y w)
      ≡ within_each b x y (constraint_count b) (figure_at b (section_start b (suc x)) v) (figure_at b (section_start b (suc y)) w)
  unfolding within_each limit_over
  limits_judge sound one other = all_ext (constraint_count b) (limit_accepts b x v y w) _ judged
    where
      f : ℕ
      f = figure_at b (section_start b (suc x)) v

      g : ℕ
      g = figure_at b (section_start b (suc y)) w

      judged : (c : ℕ) → c < constraint_count b
          → limit_accepts b x v y w c ≡ not (over b x y c && not (is_table b c)) || within_limit (limit_at b (constraint_start b c)) f g
      judged c h = go (over b x y c) refl (is_table b c) refl
        where
          go : (o : Bool) → over b x y c ≡ o → (t : Bool) → is_table b c ≡ t
              → t || accepts_at b x v y w c ≡ not (o && not t) || within_limit (limit_at b (constraint_start b c)) f g
          go true p true q = refl
          go false p true q = refl
          go true p false q = limit_accepts_lem b sound c h x v y w p one other q
          go false p false q = accepts_apart b x v y w c p
