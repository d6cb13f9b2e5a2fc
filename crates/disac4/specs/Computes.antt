-- Named on an `unfolding` line, this opens what the crate and those below it compute with, for facts that hold by computing.
use Rattle.base.specs.Computes.{base_computes}
use Rattle.network.specs.Computes.{network_computes}
use Rattle.plan.specs.Computes.{plan_computes}
use Rattle.disac4.specs.Action.{broadcast, loses, lowered, deletes, deletions, after_treat, treat, after_send, send, after_list, after_poll, after_drop, read_worker, after_answer, ready, answer, next_poll, after_new_poll, new_poll, after_count, all_marked, after_mark, current, read_controller}
use Rattle.disac4.specs.Event.{events_at, holds, unsent, unread, untreated, deleted}
use Rattle.disac4.specs.Fold.{after_by, play_by, gather_by, count_by}
use Rattle.disac4.specs.Loading.{loaded_counter, unsupported, loaded_deletions, load}
use Rattle.disac4.specs.Outcome.{input_fault}
use Rattle.disac4.specs.Report.{lowest_empty, status_of, domain_cells, final, report_of}
use Rattle.disac4.specs.Round.{others, worker_round, round, round_turns, round_run_turns}
use Rattle.disac4.specs.System.{system_of, turn_bound, bound_of}
use Rattle.disac4.specs.Turn.{worker_may, controller_may, allowed, worker_step, controller_step, step, turn_at, turns_of, turn_list_fits, turn_fault}
use Rattle.disac4.specs.Worked.{allowed_turns, ran, unsent_labels, finding_of, table}

unfoldable pub disac4_computes : Unit {0}
unfolding broadcast loses lowered deletes deletions after_treat treat after_send send after_list after_poll after_drop read_worker after_answer ready answer next_poll after_new_poll new_poll after_count all_marked after_mark current read_controller events_at holds unsent unread untreated deleted loaded_counter unsupported loaded_deletions load input_fault lowest_empty status_of domain_cells final report_of others worker_round round round_turns round_run_turns system_of turn_bound bound_of worker_may controller_may allowed worker_step controller_step after_by play_by gather_by count_by step turn_at turns_of turn_list_fits turn_fault allowed_turns ran unsent_labels finding_of table base_computes network_computes plan_computes
disac4_computes = tt
