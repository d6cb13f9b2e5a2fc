-- Named on an `unfolding` line, this opens what the crate and those below it compute with, for facts that hold by computing.
use Rattle.base.specs.Computes.{base_computes}
use Rattle.format.specs.Computes.{format_computes}
use Rattle.network.specs.Computes.{network_computes}
use Rattle.plan.specs.Check.{complete, head_in_range, head_checks, repeats_code, variable_checks, variables_in_order, has_count, constraint_length, further_in_order, table_fits, touched, pairs_to, constraint_checks, section_checks, section_fault}
use Rattle.plan.specs.Decode.{plan_end, trailing_fault, sections_fault, plan_fault, variable_at, relation_at, constraint_at, plan_of, decode}
use Rattle.plan.specs.Network.{unrecorded, within_limit, permits, in_scope, joins, ties, spares, accepts, pair_allowed, share_constraint, network_of}
use Rattle.plan.specs.Plan.{variable_of, value_of, size_of}

unfoldable pub plan_computes : Unit {0}
unfolding complete head_in_range head_checks repeats_code variable_checks variables_in_order has_count constraint_length further_in_order table_fits touched pairs_to constraint_checks section_checks section_fault plan_end trailing_fault sections_fault plan_fault variable_at relation_at constraint_at plan_of decode unrecorded within_limit permits in_scope joins ties spares accepts pair_allowed share_constraint network_of size_of variable_of value_of base_computes format_computes network_computes
plan_computes = tt
