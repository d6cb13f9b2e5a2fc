-- Plans that differ in nothing but how their rules are written.
use Rattle.std.specs.Prelude.{ℕ, List, ◌≡◌}
use Rattle.format.specs.Version.{version}
use Rattle.plan.specs.Decode.{plan_of}
use Rattle.plan.specs.Network.{pair_allowed, share_constraint}

-- the plans of these bytes have all in common that a run or a sweep goes by
pub record SamePlans (b c : List ℕ) : Type 0 where
  -- they are of one version
  pub one_version : version b ≡ version c
  -- the kitchens are as many
  pub workers : (plan_of b).workers ≡ (plan_of c).workers
  -- the slots are the same, each with its owner and its dishes
  pub variables : (plan_of b).variables ≡ (plan_of c).variables
  -- the same two slots share a rule
  pub shared : (x y : ℕ) → share_constraint (plan_of b) x y ≡ share_constraint (plan_of c) x y
  -- the same two dishes may stand together; asked of all numbers, also past a slot's dishes
  pub allowed : (x v y w : ℕ) → pair_allowed (plan_of b) x v y w ≡ pair_allowed (plan_of c) x v y w
