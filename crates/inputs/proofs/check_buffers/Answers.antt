-- `inputs::check_buffers` gives 9 for too few work cells, then 10 for too few list cells. Assumes nothing.
use mathlib.Core.List.{[], ◌∷◌}
use mathlib.Core.Path.{◌∙◌}
use Rattle.disac4.specs.Need.{work_need, list_need}
use Rattle.disac4.specs.Outcome.{lent, work_buffer, list_buffer}
use Rattle.inputs.proofs.check_buffers.Goals as goal
use Rattle.lending.proofs.Buffers.{first_short, first_long}
use Rattle.lending.specs.Call.{buffer_checks}
use Rattle.std.proofs.lemmas.Result.{err_from_is_err_and}

pub returns-in_err-check_length : goal.returns-in_err-check_length
unfolding work_need
returns-in_err-check_length c =
    let fails = err_from_is_err_and c.from_residual.result c.from_residual.ensures.1 in
    let l = lent c.args.work.now c.args.lists.now in
    rw (fails.1, fails.2) (first_short l work_buffer (list_buffer ∷ []) _ c.check_length.ensures _ c.in_err-check_length.was)

pub returns : goal.returns
unfolding buffer_checks work_need list_need
returns c =
    let l = lent c.args.work.now c.args.lists.now in
    c.check_length-2.ensures ∙ first_long l work_buffer (list_buffer ∷ []) _ c.check_length.ensures _ c.in_ok-check_length.was
