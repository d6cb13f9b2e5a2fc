-- The index of a plan in memory: where its sections start; a number for each pair of linked variables, with the tables over them as a
-- chain and the lowest limit; and each worker's own variables that are linked with another one as chains too.
use Rattle.std.specs.Prelude.{ℕ, zero, suc, ◌+◌, ◌-◌, ◌<◌, ◌≤◌, Bool, true, cond, ◌&&◌, ◌||◌, not, List, ◌⊎◌, ◌≡◌, leb, ltb, eqb, length}
use Rattle.std.proofs.Math.Option.{none}
use Rattle.base.specs.Below.{all_below, any_below, loop}
use Rattle.disac4.specs.System.{System, system_at}
use Rattle.disac4.specs.Need.{work_need}
use Rattle.cells.specs.Layout.{PAIRS, PLACES, NEXT, FIRST, FOLLOW, LASTS, LIMITS, PAIREND, LIMITED, LOWEST}
use Rattle.cells.specs.Memory.{Mem, mem_of, store}
use Rattle.plan.specs.Decode.{plan_fault}
use Rattle.plan.specs.Network.{within_limit}
use Rattle.format.specs.Format.{section_start, constraint_start, variable_count, constraint_count, section_count, first_at, second_at, limit_at, figure_at, further_count, scope_size, scope_at}
use Rattle.format.specs.Limits.{max_workers, max_variables, max_pairs, max_further}
use Rattle.rows.specs.Permits.{over, is_table}

-- one more than the last of `at 0`, `at 1`, .. before `at n` that passes the test, 0 for none
unfoldable pub nearest : (ℕ → ℕ) → (ℕ → Bool) → ℕ → ℕ
nearest at t zero = 0
nearest at t (suc n) = cond (t (at n)) (suc (at n)) (nearest at t n)

-- constraint `c` is a table over `x` and `y`
unfoldable pub table_over : List ℕ → ℕ → ℕ → ℕ → Bool
table_over b x y c = over b x y c && is_table b c

-- constraint `c` is a limit over `x` and `y`
unfoldable pub limit_over : List ℕ → ℕ → ℕ → ℕ → Bool
limit_over b x y c = over b x y c && not (is_table b c)

-- one more than the last table below `c` that is over `x` and `y`, 0 for none
abbrev pub table_below : List ℕ → ℕ → ℕ → ℕ → ℕ
table_below b x y c = nearest (λ k. k) (table_over b x y) c

-- each limit below `c` that is over `x` and `y` permits the two figures
unfoldable pub within_each : List ℕ → ℕ → ℕ → ℕ → ℕ → ℕ → Bool
within_each b x y c f g = all_below c (λ k. not (limit_over b x y k) || within_limit (limit_at b (constraint_start b k)) f g)

-- the limit that the memory has for a pair, if there is one, permits the two figures
unfoldable pub within_lowest : Mem → ℕ → ℕ → ℕ → Bool
within_lowest m p f g = cond (eqb (m LIMITS p LIMITED) 0) true (within_limit (m LIMITS p LOWEST) f g)

-- it permits the figures of value `v` of the variable at `here` and value `w` of the one at `there`
unfoldable pub lowest_limited : List ℕ → Mem → ℕ → ℕ → ℕ → ℕ → ℕ → Bool
lowest_limited b m p here v there w = within_lowest m p (figure_at b here v) (figure_at b there w)

-- two variables are the same two as two others, either way round
abbrev pub SamePair : ℕ → ℕ → ℕ → ℕ → Type 0
SamePair x y x' y' = ((x ≡ x') × (y ≡ y')) ⊎ ((x ≡ y') × (y ≡ x'))

-- some constraint is over `x` and `y`
abbrev pub any_over : List ℕ → ℕ → ℕ → Bool
any_over b x y = any_below (constraint_count b) (over b x y)

-- row `i` owns variable `x`
unfoldable pub owns : List ℕ → ℕ → ℕ → Bool
owns b i x = eqb ((system_at b).owner x) (suc i)

-- it does, and some constraint is over `x` and `y`
unfoldable pub own_linked : List ℕ → ℕ → ℕ → ℕ → Bool
own_linked b i y x = owns b i x && any_over b x y

-- one more than the first of the last `n` variables that row `i` owns and that is linked with `y`, 0 for none
abbrev pub next_own : List ℕ → ℕ → ℕ → ℕ → ℕ
next_own b i y n = nearest (λ k. variable_count b - suc k) (own_linked b i y) n

-- the memory holds the plan's index
pub record Indexed (b : List ℕ) (m : Mem) : Type 0 where
  -- where each section starts
  pub places : (k : ℕ) → k < section_count b → m PLACES 0 k ≡ section_start b k
  -- two variables have a number exactly if they are linked
  pub numbered : (x y : ℕ) → eqb (m PAIRS x y) 0 ≡ not (any_over b x y)
  -- there are no more numbers than pairs
  pub few : (x y : ℕ) → m PAIRS x y ≤ max_pairs
  -- each pair has its own
  pub own : (x y x' y' : ℕ) → 0 < m PAIRS x y → m PAIRS x y ≡ m PAIRS x' y' → SamePair x y x' y'
  -- the last table over two variables
  pub lasts : (x y : ℕ) → any_over b x y ≡ true → m LASTS 0 (m PAIRS x y) ≡ table_below b x y (constraint_count b)
  -- the one before it over the same two variables
  pub nexts : (c : ℕ) → c < constraint_count b → (x y : ℕ) → table_over b x y c ≡ true → m NEXT 0 c ≡ table_below b x y c
  -- all limits over two variables, by the lowest of them
  pub limits : (x y : ℕ) → any_over b x y ≡ true → (f g : ℕ) → within_lowest m (m PAIRS x y) f g ≡ within_each b x y (constraint_count b) f g
  -- the first variable of each row that is linked with another one
  pub first : (i : ℕ) → i < max_workers → (y : ℕ) → y < variable_count b → m FIRST i y ≡ next_own b i y (variable_count b)
  -- the next one behind it
  pub follow : (i : ℕ) → i < max_workers → (x y : ℕ) → x < variable_count b → y < variable_count b → own_linked b i y x ≡ true
      → m FOLLOW x y ≡ next_own b i y (variable_count b - suc x)

-- an accepted plan, with the places of its sections in the work cells
pub record Located (b cells : List ℕ) : Type 0 where
  pub sound : plan_fault b ≡ none
  pub places : (k : ℕ) → k < section_count b → mem_of cells PLACES 0 k ≡ section_start b k
  pub long : work_need ≤ length cells

-- the constraint at `at` stands inside the plan, and its scope has variables that the cells have room for
pub record Scoped (b : List ℕ) (at : ℕ) : Type 0 where
  pub section : at ≤ length b
  pub few : further_count b at ≤ max_further
  pub low : (i : ℕ) → i < scope_size b at → 1 ≤ scope_at b at i
  pub high : (i : ℕ) → i < scope_size b at → scope_at b at i ≤ max_variables

-- an accepted plan, with its index in the work cells
pub record Ready (b cells : List ℕ) : Type 0 where
  pub sound : plan_fault b ≡ none
  pub index : Indexed b (mem_of cells)
  pub long : work_need ≤ length cells

-- the index gives each two linked variables a number of their own, from 1 to the most pairs there can be
pub record Paired (sys : System) (m : Mem) : Type 0 where
  pub low : (x y : ℕ) → sys.net.linked x y ≡ true → 0 < m PAIRS x y
  pub high : (x y : ℕ) → sys.net.linked x y ≡ true → m PAIRS x y ≤ max_pairs
  pub own : (x y x' y' : ℕ) → sys.net.linked x y ≡ true → sys.net.linked x' y' ≡ true → m PAIRS x y ≡ m PAIRS x' y'
      → SamePair x y x' y'

-- ---- the memory that indexing leaves

-- the start of section `k`
abbrev pub place_m : List ℕ → ℕ → Mem → Mem
place_m b k m = store m PLACES 0 k (section_start b k)

-- the starts of all sections
unfoldable pub places_m : List ℕ → Mem → Mem
places_m b = loop (section_count b) (place_m b)

-- the number of the pair that `x` and `y` are, 0 where they have none; a number that no pair can have counts as none
unfoldable pub pair_in : Mem → ℕ → ℕ → ℕ
pair_in m x y = cond (leb (m PAIRS x y) max_pairs) (m PAIRS x y) 0

-- `x` and `y` get number `p`, which is then the highest
unfoldable pub pair_m : ℕ → ℕ → ℕ → Mem → Mem
pair_m x y p m = store (store (store m PAIREND 0 0 p) PAIRS x y p) PAIRS y x p

-- they get the next number, unless they have one
unfoldable pub number_m : ℕ → ℕ → Mem → Mem
number_m x y m =
    cond (eqb (pair_in m x y) 0) (cond (ltb (m PAIREND 0 0) max_pairs) (pair_m x y (m PAIREND 0 0 + 1) m) m) m

-- table `c` in front of the chain of pair `p`
unfoldable pub chain_m : ℕ → ℕ → Mem → Mem
chain_m p c m = store (store m NEXT 0 c (m LASTS 0 p)) LASTS 0 p (c + 1)

-- pair `p` has a limit that is at most this one
unfoldable pub lower_m : ℕ → ℕ → Mem → Mem
lower_m p limit m =
    cond (not (eqb (m LIMITS p LIMITED) 0) && leb (m LIMITS p LOWEST) limit) m
    (store (store m LIMITS p LIMITED 1) LIMITS p LOWEST limit)

-- table `c` over `x` and `y`
unfoldable pub table_m : ℕ → ℕ → ℕ → Mem → Mem
table_m x y c m = chain_m (pair_in (number_m x y m) x y) c (number_m x y m)

-- a limit over `x` and `y`
unfoldable pub limit_m : ℕ → ℕ → ℕ → Mem → Mem
limit_m limit x y m = lower_m (pair_in (number_m x y m) x y) limit (number_m x y m)

-- the limit of the constraint at `at` over the variable at place `j` of its scope and each of the first `n`
unfoldable pub beside_m : List ℕ → ℕ → ℕ → ℕ → Mem → Mem
beside_m b at j n = loop n (λ i. limit_m (limit_at b at) (scope_at b at i - 1) (scope_at b at j - 1))

-- its limit over each two variables of its scope
unfoldable pub limits_m : List ℕ → ℕ → Mem → Mem
limits_m b at = loop (scope_size b at) (λ j. beside_m b at j j)

-- constraint `c`: a table, or a limit
unfoldable pub constraint_m : List ℕ → ℕ → Mem → Mem
constraint_m b c m =
    cond (is_table b c) (table_m (first_at b (constraint_start b c) - 1) (second_at b (constraint_start b c) - 1) c m)
    (limits_m b (constraint_start b c) m)

-- all constraints
unfoldable pub constraints_m : List ℕ → Mem → Mem
constraints_m b = loop (constraint_count b) (constraint_m b)

-- variable `x` in front of the chain of row `i` for `y`, if the two are linked
unfoldable pub lead_m : ℕ → ℕ → ℕ → Mem → Mem
lead_m i x y m = cond (eqb (m PAIRS x y) 0) m (store (store m FOLLOW x y (m FIRST i y)) FIRST i y (x + 1))

-- variable `x` in front of its owner's chains for all variables
abbrev pub leads_m : List ℕ → ℕ → Mem → Mem
leads_m b x = loop (variable_count b) (lead_m ((system_at b).owner x - 1) x)

-- the same for the last variable but `k`
abbrev pub last_leads_m : List ℕ → ℕ → Mem → Mem
last_leads_m b k = leads_m b (variable_count b - suc k)

-- each variable, from the last one on, in front of its owner's chains
unfoldable pub own_m : List ℕ → Mem → Mem
own_m b = loop (variable_count b) (last_leads_m b)

-- the whole index: the starts of the sections, the constraints, and the chains of own variables
unfoldable pub index_m : List ℕ → Mem → Mem
index_m b m = own_m b (constraints_m b (places_m b m))
