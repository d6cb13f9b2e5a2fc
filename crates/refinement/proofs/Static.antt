-- No turn writes the plan's index or the cells behind the needed ones.
use Prim.Native.Nat.{ℕ, ◌+◌, ◌-◌}
use mathlib.Core.Bool.{Bool, true, false, cond, ◌||◌, not}
use mathlib.Core.List.{List}
use mathlib.Core.Option.{Option, none, some}
use mathlib.Core.Path.{subst}
use native.Mathlib.Omega.{arith}
use lib.Dec.{ltb, eqb}
use Rattle.disac4.proofs.Fold.{after_keeps, play_keeps}
use Rattle.disac4.specs.System.{System}
use Rattle.disac4.specs.Turn.{Turn, poll_action, allowed}
use Rattle.disac4.specs.declared.Tally.{Tally}
use Rattle.cells.proofs.RegionsKept.{kept_same, kept_then, kept_repeated, kept_stored, push_kept}
use Rattle.cells.specs.Layout.{WORKERS, CURSORS, BOUNDS, LOG, WORK, OUT, WANTED, HEAD, TAIL, POLLS}
use Rattle.cells.specs.Queues.{copy_label_m, copy_m}
use Rattle.cells.specs.Memory.{Mem}
use Rattle.index.proofs.Kept.{IndexKept}
use Rattle.sends.specs.Sends.{sent_m, may_send, send_m}
use Rattle.reads.specs.Reads.{list_end, list_start, taken_m, has_list, read_list_m, read_poll_m}
use Rattle.answers.specs.Answers.{answered_m, may_answer, answer_m}
use Rattle.controller.specs.Controller.{put_poll_m, may_poll_t, has_out, out_read_m, Machine, controller_read_m, poll_m}
use Rattle.refinement.specs.Run.{play_m}
use Rattle.refinement.specs.Step.{with_mem, read_m, worker_m, step_m}
use Rattle.treating.proofs.Kept.{touch_variables_kept}
use Rattle.treating.specs.Treat.{has_work, treat_m}

-- an action gives a memory, or a turn a machine, that keeps the index and the cells behind, or nothing
data StaticKept {A : Type 0} (mem : A → Mem) (m : Mem) : Option A → Type 0 where
  idle : StaticKept mem m none
  keeps : {n : A} → IndexKept m (mem n) → StaticKept mem m (some n)

kept_if : {A : Type 0} {mem : A → Mem} {m : Mem} (t : Bool) {o p : Option A} → StaticKept mem m o → StaticKept mem m p
    → StaticKept mem m (cond t o p)
kept_if true x y = x
kept_if false x y = y

-- ---- actions

-- by an action
abbrev KeptM : Mem → Option Mem → Type 0
KeptM = StaticKept (λ n. n)

send_kept : (i : ℕ) (m : Mem) → KeptM m (send_m i m)
unfolding send_m sent_m
send_kept i m =
    kept_if (may_send i m)
    (keeps
    (kept_stored WORKERS i _ _ (omega arith)
    (kept_stored WORKERS i _ _ (omega arith)
    (kept_stored WORKERS i _ _ (omega arith)
    (kept_stored OUT i _ _ (omega arith) (kept_stored BOUNDS i _ _ (omega arith) kept_same))))))
    idle

list_kept : (j i : ℕ) (m : Mem) → KeptM m (read_list_m j i m)
unfolding read_list_m taken_m copy_m
list_kept j i m =
    kept_if (has_list j i m)
    (keeps
    (kept_stored WORKERS i _ _ (omega arith)
    (kept_stored CURSORS j i _ (omega arith)
    (kept_repeated (copy_label_m j i (list_start j i m))
    (λ k n. push_kept WORK TAIL i (n LOG j (list_start j i m + k)) (λ r h. omega arith) (omega arith) kept_same)
    (list_end j i m - list_start j i m) m))))
    idle

poll_kept : (i n : ℕ) (m : Mem) → KeptM m (read_poll_m i n m)
unfolding read_poll_m
poll_kept i n m =
    kept_if (ltb (m WORKERS i POLLS) n)
    (keeps (kept_stored WORKERS i _ _ (omega arith) (kept_stored WORKERS i _ _ (omega arith) kept_same))) idle

answer_kept : (i : ℕ) (m : Mem) → KeptM m (answer_m i m)
unfolding answer_m answered_m
answer_kept i m =
    kept_if (may_answer i m)
    (keeps
    (kept_stored WORKERS i _ _ (omega arith)
    (kept_stored WORKERS i _ _ (omega arith) (kept_stored OUT i _ _ (omega arith) kept_same))))
    idle

treat_kept : (sys : System) (i : ℕ) (m : Mem) → KeptM m (treat_m sys i m)
unfolding treat_m
treat_kept sys i m =
    kept_if (has_work i m)
    (keeps (kept_then (kept_stored WORKERS i HEAD _ (omega arith) kept_same) (touch_variables_kept sys i _ _ _)))
    idle

worker_kept : (sys : System) (i d : ℕ) (s : Machine) → KeptM s.mem (worker_m sys i d s)
unfolding worker_m read_m
worker_kept sys i d s = search (kept_if, treat_kept, send_kept, answer_kept, poll_kept, list_kept)

-- ---- turns

-- by a turn
abbrev KeptS : Mem → Option Machine → Type 0
KeptS = StaticKept (λ s. s.mem)

with_kept : (t : Tally) (m : Mem) (o : Option Mem) → KeptM m o → KeptS m (with_mem t o)
with_kept t m none k = idle
with_kept t m (some n) (keeps p) = keeps p

step_kept : (sys : System) (s : Machine) (t : Turn) → KeptS s.mem (step_m sys s t)
unfolding step_m controller_read_m poll_m put_poll_m out_read_m
step_kept sys s t =
    kept_if (s.tally.closed || not (allowed sys.workers t)) idle
    (kept_if (eqb t.actor 0)
    (kept_if (eqb t.action poll_action)
    (kept_if (may_poll_t s.tally) (keeps (kept_stored WANTED 0 _ _ (omega arith) kept_same)) idle)
    (kept_if (has_out (t.action - 1) s.tally s.mem)
    (keeps (kept_stored WORKERS _ _ _ (omega arith) kept_same)) idle))
    (with_kept s.tally s.mem (worker_m sys (t.actor - 1) t.action s) (worker_kept sys (t.actor - 1) t.action s)))

-- any turns keep the plan's index and the cells behind
pub play_static : (sys : System) (ts : List Turn) (s : Machine) → IndexKept s.mem (play_m sys s ts).mem
play_static sys ts s =
    play_keeps (step_m sys) (λ (s' : Machine). IndexKept s.mem s'.mem)
    (λ s₀ t p. after_keeps (step_m sys) (λ (s' : Machine). IndexKept s.mem s'.mem) s₀ t p (λ s' e.
    kept_then p (moved (subst (KeptS s₀.mem) e (step_kept sys s₀ t))))) ts s kept_same
  where
    moved : {m : Mem} {s' : Machine} → KeptS m (some s') → IndexKept m s'.mem
    moved (keeps p) = p
