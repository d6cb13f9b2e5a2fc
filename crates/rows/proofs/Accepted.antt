-- A constraint of the plan accepts what the bytes of its table or of its limit permit.
use Prim.Native.Nat.{ℕ, suc, ◌<◌}
use mathlib.Core.Bool.{Bool, true, false, cond, and_comm}
use mathlib.Core.List.{List}
use mathlib.Core.Logic.{⊎_elim}
use mathlib.Core.Option.{none}
use mathlib.Core.Path.{◌≡◌, refl, sym, ◌∙◌, ap, ap₂}
use native.Mathlib.Omega.{arith}
use borrow.Author.Tests.{lt-ltb, le-ltb}
use lib.Dec.{ltb}
use Rattle.base.proofs.Below.{get_d_list_below}
use Rattle.base.proofs.Bools.{refuted, or_false_left, or_false_right, and_true}
use Rattle.base.proofs.Choice.{cond_true, cond_false}
use Rattle.base.specs.Below.{list_below}
use Rattle.base.specs.Row.{bit}
use Rattle.format.specs.Format.{section_start, constraint_start, constraint_count, first_at, table_row_at, limit_at, figure_at, numbered_size}
use Rattle.plan.proofs.Limits.{limit_turned}
use Rattle.plan.proofs.Links.{joins_of}
use Rattle.plan.proofs.Parts.{constraint_read, size_read, value_read}
use Rattle.plan.specs.Decode.{plan_fault, relation_at, constraint_at, plan_of}
use Rattle.plan.specs.Network.{within_limit, permits, joins, ties, spares, accepts}
use Rattle.plan.specs.Plan.{Value, table, sum_limit, Constraint, value_of, constraint_of}
use Rattle.rows.proofs.Scopes.{JoinedBy, over_sides, table_ends}
use Rattle.rows.specs.Permits.{table_permits, in_column, Loaded, over, is_table}

-- the constraint at an index does not forbid the pair
abbrev pub accepts_at : List ℕ → ℕ → ℕ → ℕ → ℕ → ℕ → Bool
accepts_at b x v y w c = accepts (plan_of b) (constraint_of (plan_of b) c) x v y w

-- one that is over other variables accepts it
pub accepts_apart : (b : List ℕ) (x v y w c : ℕ) → over b x y c ≡ false → accepts_at b x v y w c ≡ true
unfolding accepts spares over ties
accepts_apart b x v y w c p =
    let s = (constraint_of (plan_of b) c).scope in
    rw (or_false_left (joins s x y) (joins s y x) p, or_false_right (joins s x y) (joins s y x) p)

-- it reads the same from either variable
accepts_turned : (b : List ℕ) (x v y w c : ℕ) → accepts_at b x v y w c ≡ accepts_at b y w x v c
unfolding accepts
accepts_turned b x v y w c =
    and_comm (spares (plan_of b) (constraint_of (plan_of b) c) x v y w) (spares (plan_of b) (constraint_of (plan_of b) c) y w x v)

-- one that has the two variables in this order accepts what it permits
accepts_ordered : (b : List ℕ) (x v y w c : ℕ) → JoinedBy b c x y
    → accepts_at b x v y w c ≡ permits (plan_of b) (constraint_of (plan_of b) c).relation x v y w
unfolding accepts spares
accepts_ordered b x v y w c e =
    let s = (constraint_of (plan_of b) c).scope in
    let not_turned : joins s y x ≡ false = refuted (joins s y x) (λ r. omega (arith, joins_of s x y e, joins_of s y x r)) in
    rw (e, not_turned) (and_true (permits (plan_of b) (constraint_of (plan_of b) c).relation x v y w) refl)

-- the figure of a value, read from its section
figure_read : (b : List ℕ) (x v : ℕ) → Loaded b x v → (value_of (plan_of b) x v).figure ≡ figure_at b (section_start b (suc x)) v
figure_read b x v l =
    ap (λ (a : Value). a.figure) (value_read b x l.variable v (omega (arith, l.value, size_read b x l.variable)))

module _ (b : List ℕ) (None-found : plan_fault b ≡ none) (c : ℕ) (h : c < constraint_count b) where
  abbrev at : ℕ
  at = constraint_start b c

  -- what a table permits is a bit of its row
  table_read : is_table b c ≡ true → (x v y w : ℕ) → JoinedBy b c x y → Loaded b x v
      → permits (plan_of b) (constraint_of (plan_of b) c).relation x v y w ≡ bit (table_row_at b at v) w
  unfolding permits relation_at constraint_at is_table
  table_read t x v y w e one =
      let rows = list_below (numbered_size b (first_at b at)) (table_row_at b at) in
      let row : v < numbered_size b (first_at b at) =
      omega (arith, size_read b x one.variable, ap (numbered_size b) (table_ends b None-found c h t x y e).0, one.value) in
      ap (λ (k : Constraint). permits (plan_of b) k.relation x v y w) (constraint_read b c h)
      ∙ ap (λ (r : Bool). permits (plan_of b) (cond r (table rows) (sum_limit (limit_at b at))) x v y w) t
      ∙ ap (λ (r : ℕ). bit r w) (get_d_list_below (numbered_size b (first_at b at)) (table_row_at b at) 0 v row)

  -- what a limit permits goes by the two figures
  limit_read : is_table b c ≡ false → (x v y w : ℕ) → Loaded b x v → Loaded b y w
      → permits (plan_of b) (constraint_of (plan_of b) c).relation x v y w
      ≡ within_limit (limit_at b at) (figure_at b (section_start b (suc x)) v) (figure_at b (section_start b (suc y)) w)
  unfolding permits relation_at constraint_at is_table
  limit_read t x v y w one other =
      let rows = list_below (numbered_size b (first_at b at)) (table_row_at b at) in
      ap (λ (k : Constraint). permits (plan_of b) k.relation x v y w) (constraint_read b c h)
      ∙ ap (λ (r : Bool). permits (plan_of b) (cond r (table rows) (sum_limit (limit_at b at))) x v y w) t
      ∙ ap₂ (within_limit (limit_at b at)) (figure_read b x v one) (figure_read b y w other)

  module _ (x v y w : ℕ) (o : over b x y c ≡ true) (one : Loaded b x v) (other : Loaded b y w) where
    -- a table over the two variables accepts the pair where its bytes permit it
    pub table_accepts_lem : is_table b c ≡ true → accepts_at b x v y w c ≡ table_permits b at (ltb x y) v w
    unfolding table_permits in_column
    table_accepts_lem t =
        ⊎_elim
        (λ e.
        accepts_ordered b x v y w c e ∙ table_read t x v y w e one
        ∙ sym (cond_true (bit (table_row_at b at v) w) (bit (table_row_at b at w) v) (lt-ltb x y (joins_of _ x y e).0)))
        (λ e.
        accepts_turned b x v y w c ∙ accepts_ordered b y w x v c e ∙ table_read t y w x v e other
        ∙ sym
        (cond_false (bit (table_row_at b at v) w) (bit (table_row_at b at w) v) (le-ltb x y (omega (arith, (joins_of _ y x e).0)))))
        (over_sides b x y c o)

    -- a limit over them accepts it where it permits the two figures
    pub limit_accepts_lem : is_table b c ≡ false
        → accepts_at b x v y w c ≡ within_limit (limit_at b at) (figure_at b (section_start b (suc x)) v) (figure_at b (section_start b (suc y)) w)
    limit_accepts_lem t =
        ⊎_elim (λ e. accepts_ordered b x v y w c e ∙ limit_read t x v y w one other)
        (λ e.
        accepts_turned b x v y w c ∙ accepts_ordered b y w x v c e ∙ limit_read t y w x v other one
        ∙ limit_turned (limit_at b at) (figure_at b (section_start b (suc y)) w) (figure_at b (section_start b (suc x)) v))
        (over_sides b x y c o)
