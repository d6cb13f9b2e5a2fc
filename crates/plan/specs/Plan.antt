-- A plan as plain data. Slot s of document 01 is variable s - 1; kitchens are workers 1 to p.
use Rattle.std.specs.Prelude.{ℕ, List, [], length, get_or}

-- a dish: its code and its sodium figure in mg
pub record Value : Type 0 where
  pub code : ℕ
  pub figure : ℕ

-- a slot: the kitchen that owns it and its dishes
pub record Variable : Type 0 where
  pub owner : ℕ
  pub values : List Value

-- what a rule says of two of its slots: a table has a row for each dish of the first slot, lowest bit for the second slot's first
-- dish; a sodium rule, over two slots or a set of them, has a limit
pub data Relation : Type 0 where
  table : List ℕ → Relation
  sum_limit : ℕ → Relation

-- a rule: its slots by their numbers from 1, ascending, and what it says of two of them; a pair rule has two slots, a set rule two or
-- more
pub record Constraint : Type 0 where
  pub scope : List ℕ
  pub relation : Relation

-- what a plan's bytes hold: kitchens, slots and rules
pub record Plan : Type 0 where
  -- p
  pub workers : ℕ
  pub variables : List Variable
  pub constraints : List Constraint

-- past the end of the variables: one without owner and values
abbrev pub no_variable : Variable
no_variable = record { owner = 0; values = [] }

-- past the end of a variable's values
abbrev pub no_value : Value
no_value = record { code = 0; figure = 0 }

-- past the end of the constraints: one over no variables
abbrev pub no_constraint : Constraint
no_constraint = record { scope = []; relation = sum_limit 0 }

-- the variable at an index
unfoldable pub variable_of : Plan → ℕ → Variable
variable_of plan x = get_or plan.variables x no_variable

-- the value at an index of a variable's list
unfoldable pub value_of : Plan → ℕ → ℕ → Value
value_of plan x v = get_or (variable_of plan x).values v no_value

-- how many values a variable has
unfoldable pub size_of : Plan → ℕ → ℕ
size_of plan x = length (variable_of plan x).values

-- the constraint at an index
unfoldable pub constraint_of : Plan → ℕ → Constraint
constraint_of plan c = get_or plan.constraints c no_constraint
