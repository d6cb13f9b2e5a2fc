-- Named on an `unfolding` line, this opens what the crate and those below it compute with, for facts that hold by computing.
use Rattle.base.specs.Computes.{base_computes}
use Rattle.network.specs.Network.{is_label, loaded, labels_where, label_count, supports, support_count}
use Rattle.network.specs.Solution.{agrees, solvable_from, solvable}

unfoldable pub network_computes : Unit {0}
unfolding is_label loaded labels_where label_count supports support_count agrees solvable_from solvable base_computes
network_computes = tt
