-- One turn in memory.
use Rattle.std.specs.Prelude.{ℕ, ◌-◌, cond, ◌||◌, not, eqb}
use Rattle.std.proofs.Math.Option.{Option, none, map}
use Rattle.disac4.specs.Fold.{after_by}
use Rattle.disac4.specs.System.{System}
use Rattle.disac4.specs.Turn.{Turn, treat_action, send_action, answer_action, poll_action, allowed}
use Rattle.disac4.specs.declared.Tally.{Tally}
use Rattle.controller.specs.Controller.{Machine, poll_m, controller_read_m}
use Rattle.cells.specs.Memory.{Mem}
use Rattle.sends.specs.Sends.{send_m}
use Rattle.reads.specs.Reads.{read_list_m, read_poll_m}
use Rattle.answers.specs.Answers.{answer_m}
use Rattle.treating.specs.Treat.{treat_m}

-- a worker's action leaves the tally as it is
abbrev pub with_mem : Tally → Option Mem → Option Machine
with_mem t = map (λ (m : Mem). record { mem = m; tally = t })

-- row `i` reads from actor `d`
unfoldable pub read_m : ℕ → ℕ → Machine → Option Mem
read_m d i s = cond (eqb d 0) (read_poll_m i s.tally.timestamp.0 s.mem) (read_list_m (d - 1) i s.mem)

-- the action `d` of row `i`
unfoldable pub worker_m : System → ℕ → ℕ → Machine → Option Mem
worker_m sys i d s =
    cond (eqb d treat_action) (treat_m sys i s.mem)
    (cond (eqb d send_action) (send_m i s.mem) (cond (eqb d answer_action) (answer_m i s.mem) (read_m d i s)))

-- a turn: the machine after, or nothing where it is idle
unfoldable pub step_m : System → Machine → Turn → Option Machine
step_m sys s t =
    cond (s.tally.closed || not (allowed sys.workers t)) none
    (cond (eqb t.actor 0)
    (cond (eqb t.action poll_action) (poll_m s) (controller_read_m sys (t.action - 1) s))
    (with_mem s.tally (worker_m sys (t.actor - 1) t.action s)))

-- the machine after a turn
abbrev pub after_m : System → Machine → Turn → Machine
after_m sys = after_by (step_m sys)
