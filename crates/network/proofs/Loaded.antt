-- The loaded domains: variables below their number, values below the variable's size.
use Prim.Native.Nat.{ℕ, ◌<◌}
use mathlib.Core.Bool.{true}
use mathlib.Core.Path.{◌≡◌}
use borrow.Author.Tests.{ltb-true, lt-ltb}
use lib.Dec.{ltb}
use Rattle.base.proofs.Bools.{and_left, and_right, and_intro}
use Rattle.network.specs.Network.{Network, loaded}

module _ (net : Network) (x v : ℕ) where
  -- the value of a loaded label is one of its variable's
  pub loaded_value : loaded net x v ≡ true → v < net.size x
  unfolding loaded
  loaded_value e = ltb-true v (net.size x) (and_right (ltb x net.variables) (ltb v (net.size x)) e)

  -- and the variable is one of the network's
  pub loaded_variable : loaded net x v ≡ true → x < net.variables
  unfolding loaded
  loaded_variable e = ltb-true x net.variables (and_left (ltb x net.variables) (ltb v (net.size x)) e)

  -- nothing else is asked of it
  pub loaded_intro : x < net.variables → v < net.size x → loaded net x v ≡ true
  unfolding loaded
  loaded_intro l m = and_intro (lt-ltb x net.variables l) (lt-ltb v (net.size x) m)
