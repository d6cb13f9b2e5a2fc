-- The rows of the loaded domains hold all values.
use Prim.Native.Nat.{ℕ, ◌-◌, ◌^◌, ◌<◌}
use mathlib.Core.Bool.{true}
use mathlib.Core.Path.{◌≡◌, sym, ◌∙◌}
use Rattle.base.proofs.Row.{row_full, row_ext}
use Rattle.disac4.specs.Report.{row_from}
use Rattle.network.proofs.Loaded.{loaded_intro}
use Rattle.network.specs.Network.{Network, loaded}

pub loaded_row : (net : Network) (x : ℕ) → x < net.variables → 2 ^ net.size x - 1 ≡ row_from net (loaded net) x
loaded_row net x h =
    row_full (net.size x) ∙ row_ext (net.size x) (λ v. true) (loaded net x) (λ v l. sym (loaded_intro net x v h l))
