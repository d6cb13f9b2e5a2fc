-- What an accepted plan says of its labels: they fit the regions, each variable has its owner, and linked ones are numbered.
use Prim.Native.Nat.{ℕ, suc, ◌<◌, ◌≤◌}
use mathlib.Core.Bool.{Bool, true, ◌&&◌}
use mathlib.Core.List.{List}
use mathlib.Core.Option.{none}
use mathlib.Core.Path.{◌≡◌, refl, sym, ◌∙◌, ap}
use native.Mathlib.Omega.{arith}
use lib.ListN.{length}
use Rattle.disac4.specs.System.{system_of, system_at}
use Rattle.disac4.specs.Need.{work_need}
use Rattle.plan.proofs.Parts.{variables_read, variable_read, size_read}
use Rattle.plan.specs.Decode.{plan_fault, plan_of, variable_at}
use Rattle.format.specs.Format.{section_start, variable_count, owner_at}
use Rattle.format.specs.Limits.{max_workers, max_variables}
use Rattle.format.specs.Version.{max_size}
use Rattle.plan.specs.Network.{share_constraint, network_of}
use Rattle.plan.specs.Plan.{Variable, size_of}
use Rattle.index.proofs.Owners.{owner_range}
use Rattle.index.proofs.Pairing.{paired}
use Rattle.index.proofs.Linked.{linked_over, linked_inside}
use Rattle.index.proofs.Places.{few_sections, row_values, few_values}
use Rattle.rows.specs.Permits.{Loaded}
use Rattle.index.specs.Index.{owns, own_linked, Indexed, Located, Ready}
use Rattle.cells.specs.Memory.{Mem, mem_of}
use Rattle.cells.specs.Layout.{VALUEROOM}
use Rattle.cells.specs.View.{Numbered}

-- the system's sizes are those that the plan's bytes give
pub variables_are : (b : List ℕ) → (system_at b).net.variables ≡ variable_count b
unfolding system_of network_of
variables_are b = variables_read b

pub size_is : (b : List ℕ) (x : ℕ) → size_of (plan_of b) x ≡ (system_at b).net.size x
unfolding system_of network_of
size_is b x = refl

-- a variable is in a chain of row `i` for `y` where the row owns it and it shares a constraint with `y`
pub own_linked_lem : (b : List ℕ) (i y x : ℕ) → own_linked b i y x ≡ owns b i x && share_constraint (plan_of b) x y
unfolding own_linked
own_linked_lem b i y x =
    ap (λ (t : Bool). owns b i x && t) (sym (linked_over b x y))

-- a plan that is indexed has its sections' places in the cells
pub located : (b cells : List ℕ) → Ready b cells → Located b cells
located b cells r = record { sound = r.sound; places = r.index.places; long = r.long }

module _ (b : List ℕ) (sound : plan_fault b ≡ none) where
  -- a variable has no more values than there is room for
  pub values_low : (x : ℕ) → x < variable_count b → size_of (plan_of b) x ≤ VALUEROOM
  values_low x h = omega (arith, few_values b sound x h, size_read b x h)

  -- a label's variable and value are within that room
  pub label_small : (x v : ℕ) → Loaded b x v → (x < max_variables) × (v < VALUEROOM)
  label_small x v l =
      omega (arith, few_sections b sound, few_values b sound x l.variable, size_read b x l.variable)

  -- its value has a bit in a row
  pub label_in_row : (x v : ℕ) → Loaded b x v → v < max_size b
  label_in_row x v l = omega (arith, l.value, row_values b sound x l.variable, size_read b x l.variable)

  -- what is read at a variable's place
  pub owner_there : (x at r : ℕ) → x < variable_count b → at ≡ section_start b (suc x) → r ≡ owner_at b at
      → (r ≡ (system_at b).owner x) × (0 < r) × (r ≤ max_workers)
  unfolding system_of variable_at
  owner_there x at r h e q =
      let o : r ≡ (system_at b).owner x =
      q ∙ ap (owner_at b) e ∙ sym (ap (λ (a : Variable). a.owner) (variable_read b x h)) in
      (o, omega (arith, owner_range b sound x h), omega (arith, owner_range b sound x h))

  -- linked variables are two of the plan's, and have a row of counters
  pub numbered : (m : Mem) → Indexed b m → (x y : ℕ) → share_constraint (plan_of b) x y ≡ true
      → (x < variable_count b) × (y < variable_count b) × Numbered m x y
  unfolding system_of network_of
  numbered m index x y e =
      let i = linked_inside b sound x y e in
      let p = paired b m index in
      (i.0, i.1, record { low = p.low x y e; high = p.high x y e })

-- so the row can be read
pub linked_row : (b cells : List ℕ) → Ready b cells → (x y : ℕ) → share_constraint (plan_of b) x y ≡ true
    → (work_need ≤ length cells) × (x < max_variables) × (y < max_variables) × Numbered (mem_of cells) x y
linked_row b cells ready x y e =
    omega (
      arith,
      few_sections b ready.sound,
      ready.long,
      numbered b ready.sound (mem_of cells) ready.index x y e,
    )
