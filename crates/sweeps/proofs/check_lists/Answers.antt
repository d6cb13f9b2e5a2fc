-- `sweeps::check_lists` gives 10 for too few cells in the first buffer, then in the second. Assumes nothing.
use mathlib.Core.List.{[], ◌∷◌}
use mathlib.Core.Path.{◌∙◌}
use Rattle.disac4.specs.Need.{list_need}
use Rattle.lending.proofs.Buffers.{first_short, first_long}
use Rattle.lending.specs.Call.{buffer_checks}
use Rattle.std.proofs.lemmas.Result.{err_from_is_err_and}
use Rattle.sweeping.specs.Outcome.{two_lists, first_buffer, second_buffer}
use Rattle.sweeps.proofs.check_lists.Goals as goal

pub returns-in_err-check_length : goal.returns-in_err-check_length
unfolding list_need
returns-in_err-check_length c =
    let fails = err_from_is_err_and c.from_residual.result c.from_residual.ensures.1 in
    let l = two_lists c.args.first.now c.args.second.now in
    rw (fails.1, fails.2) (first_short l first_buffer (second_buffer ∷ []) _ c.check_length.ensures _ c.in_err-check_length.was)

pub returns : goal.returns
unfolding buffer_checks list_need
returns c =
    let l = two_lists c.args.first.now c.args.second.now in
    c.check_length-2.ensures ∙ first_long l first_buffer (second_buffer ∷ []) _ c.check_length.ensures _ c.in_ok-check_length.was
