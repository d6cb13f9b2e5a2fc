-- What a constraint whose variables are in order says of their numbers.
use Prim.Native.Nat.{ℕ, zero, suc, ◌+◌, ◌<◌, ◌≤◌}
use mathlib.Core.Bool.{Bool, true, ◌&&◌}
use mathlib.Core.List.{List}
use mathlib.Core.Logic.{⊎_elim}
use mathlib.Core.Path.{◌≡◌, refl, ap}
use native.Mathlib.Omega.{arith}
use borrow.Author.Tests.{leb-true, ltb-true}
use lib.Dec.{leb, ltb}
use lib.ListN.{length, get_or}
use Rattle.base.proofs.Below.{below_cases, all_below_lem, length_list_below, get_d_list_below}
use Rattle.base.proofs.Bools.{and_left, and_right}
use Rattle.base.specs.Bytes.{byte_at}
use Rattle.format.specs.Format.{first_at, second_at, further_count, scope_size, scope_at, scope_of, variable_count}
use Rattle.plan.specs.Check.{variables_in_order, further_in_order}

-- the numbers of the first two variables in the constraint's section at `at`
pub record InOrder (b : List ℕ) (at : ℕ) : Type 0 where
  pub first_low : 1 ≤ first_at b at
  pub in_order : first_at b at < second_at b at
  pub second_high : second_at b at ≤ variable_count b

-- they are so where the check holds
pub ordered : (b : List ℕ) (at : ℕ) → variables_in_order b at ≡ true → InOrder b at
unfolding variables_in_order
ordered b at e =
    let first : Bool = leb 1 (first_at b at) in
    let less : Bool = ltb (first_at b at) (second_at b at) in
    let second : Bool = leb (second_at b at) (variable_count b) in
    let both : first && less ≡ true = and_left (first && less) second e in
    record {
      first_low = leb-true 1 (first_at b at) (and_left first less both);
      in_order = ltb-true (first_at b at) (second_at b at) (and_right first less both);
      second_high = leb-true (second_at b at) (variable_count b) (and_right (first && less) second e);
    }

module _ (b : List ℕ) (at : ℕ) where
  -- the scope as a list of numbers
  pub scope_length : length (scope_of b at) ≡ scope_size b at
  unfolding scope_of
  scope_length = length_list_below (scope_size b at) (scope_at b at)

  pub scope_number : (i : ℕ) → i < scope_size b at → get_or (scope_of b at) i 0 ≡ scope_at b at i
  unfolding scope_of
  scope_number i h = get_d_list_below (scope_size b at) (scope_at b at) 0 i h

  -- its first two numbers
  pub scope_first : scope_at b at 0 ≡ first_at b at
  unfolding scope_at
  scope_first = let e : at + 2 + 0 ≡ at + 2 = omega arith in ap (byte_at b) e

  pub scope_second : scope_at b at 1 ≡ second_at b at
  unfolding scope_at
  scope_second = refl

-- the numbers of all its variables: those of the plan's, ascending
pub record Ascends (b : List ℕ) (at : ℕ) : Type 0 where
  pub low : (i : ℕ) → i < scope_size b at → 1 ≤ scope_at b at i
  pub ascending : (i j : ℕ) → i < j → j < scope_size b at → scope_at b at i < scope_at b at j
  pub high : (i : ℕ) → i < scope_size b at → scope_at b at i ≤ variable_count b

module _ (b : List ℕ) (at : ℕ) (two : variables_in_order b at ≡ true) (more : further_in_order b at ≡ true) where
  first_two : InOrder b at
  first_two = ordered b at two

  abbrev further : ℕ → Bool
  further i = ltb (scope_at b at (i + 1)) (scope_at b at (i + 2)) && leb (scope_at b at (i + 2)) (variable_count b)

  checked : (i : ℕ) → i < further_count b at → further i ≡ true
  unfolding further_in_order
  checked = all_below_lem (further_count b at) further more

  -- each is above the one before it, and in range
  next : (i : ℕ) → suc i < scope_size b at → (scope_at b at i < scope_at b at (suc i)) × (scope_at b at (suc i) ≤ variable_count b)
  next zero h = omega (arith, first_two, scope_first b at, scope_second b at)
  next (suc i) h =
      let both = checked i (omega arith) in
      let e : i + 1 ≡ suc i = omega arith in
      let f : i + 2 ≡ suc (suc i) = omega arith in (
        rw (e, f) at (ltb-true (scope_at b at (i + 1)) (scope_at b at (i + 2)) (and_left _ (leb (scope_at b at (i + 2)) (variable_count b)) both)),
        rw f at (leb-true (scope_at b at (i + 2)) (variable_count b) (and_right (ltb (scope_at b at (i + 1)) (scope_at b at (i + 2))) _ both)),
      )

  all_low : (i : ℕ) → i < scope_size b at → 1 ≤ scope_at b at i
  all_low zero h = omega (arith, first_two, scope_first b at)
  all_low (suc i) h = omega (arith, (next i h).0)

  all_ascending : (i j : ℕ) → i < j → j < scope_size b at → scope_at b at i < scope_at b at j
  all_ascending i zero l h = omega arith
  all_ascending i (suc j) l h =
      ⊎_elim (λ e. rw e (next j h).0) (λ k. omega (arith, all_ascending i j k (omega arith), (next j h).0)) (below_cases l)

  all_high : (i : ℕ) → i < scope_size b at → scope_at b at i ≤ variable_count b
  all_high zero h = omega (arith, first_two, scope_first b at)
  all_high (suc i) h = (next i h).1

  pub ascends : Ascends b at
  ascends = record { low = all_low; ascending = all_ascending; high = all_high }
