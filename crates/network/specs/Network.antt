-- A binary constraint network, definitions 1 to 3 of source document 001. Variables and values are counted from 0.
use Rattle.std.specs.Prelude.{ℕ, Bool, cond, ◌&&◌, List, [], ◌∷◌, ltb, eqb}
use Rattle.base.specs.Below.{sum_below, count_below, gather_below}
use Rattle.base.specs.Row.{row_of, row_count}

-- the variables and values of a plan, and which two values its constraints allow together
pub record Network : Type 0 where
  -- how many variables (slots) there are
  pub variables : ℕ
  -- how many values (dishes) each of them was loaded with
  pub size : ℕ → ℕ
  -- the two variables share a constraint (rule); this goes both ways
  pub linked : ℕ → ℕ → Bool
  -- value `v` of variable `x` may stand with value `w` of variable `y`: `allows x v y w`
  pub allows : ℕ → ℕ → ℕ → ℕ → Bool

-- a label: one value of one variable
pub record Label : Type 0 where
  pub variable : ℕ
  pub value : ℕ

-- value `v` of variable `x`
abbrev pub label : ℕ → ℕ → Label
label x v = record { variable = x; value = v }

-- the label is value `v` of variable `x`
unfoldable pub is_label : ℕ → ℕ → Label → Bool
is_label x v a = eqb a.variable x && eqb a.value v

-- which values stand in each variable's domain (list)
abbrev pub Domains : Type 0
Domains = ℕ → ℕ → Bool

-- the domains as loaded
unfoldable pub loaded : Network → Domains
loaded net x v = ltb x net.variables && ltb v (net.size x)

-- the loaded labels that pass a test, variables and values ascending
unfoldable pub labels_where : Network → (ℕ → ℕ → Bool) → List Label
labels_where net t =
    gather_below net.variables (λ x. gather_below (net.size x) (λ v. cond (t x v) (label x v ∷ []) []))

-- L: how many labels were loaded
unfoldable pub label_count : Network → ℕ
label_count net = sum_below net.variables net.size

-- how many pairs of variables share a constraint, each counted once, with the lower one first
unfoldable pub pair_count : Network → ℕ
pair_count net = sum_below net.variables (λ y. count_below y (λ x. net.linked x y))

-- label `w` of `y` is a support of label `v` of `x`: the variables share a constraint, and the pair is allowed
unfoldable pub supports : Network → ℕ → ℕ → ℕ → ℕ → Bool
supports net x v y w = net.linked x y && net.allows x v y w

-- how many of the loaded values of `y` support label `v` of `x`, counted by the row of them
unfoldable pub support_count : Network → ℕ → ℕ → ℕ → ℕ
support_count net x v y = row_count (net.size y) (row_of (net.size y) (supports net x v y))

-- how many of the loaded labels are in the domains
unfoldable pub domain_size : Network → Domains → ℕ
domain_size net d = sum_below net.variables (λ x. count_below (net.size x) (d x))
