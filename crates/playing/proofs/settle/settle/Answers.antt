-- `playing::settle::settle` notes what the cells show to be idle. Assumes nothing.
use Prim.Native.Nat.{ℕ}
use mathlib.Core.List.{List}
use mathlib.Core.Path.{◌≡◌, refl, ◌∙◌}
use native.Mathlib.Omega.{arith}
use Rattle.playing.proofs.Idling.{noted, work_idle}
use Rattle.engine.proofs.RunLaws.{worker_treats, worker_sends, worker_answers, worker_reads}
use Rattle.playing.specs.Known.{KnownIdle}
use Rattle.disac4.specs.System.{system_at}
use Rattle.disac4.specs.Turn.{treat_action, send_action, answer_action}
use Rattle.playing.proofs.settle.settle.Goals as goal
use Rattle.playing.proofs.settle.settle.Goals.{After-note-3}

-- the worker is not the controller
works : (c : After-note-3) → c.args.k ≡ 0 → ⊥
works c e = omega (arith, c.requires.2)

-- the three actions that are no reads
own-noted : (c : After-note-3) (b : List ℕ) → let a = c.args in
    KnownIdle b a.cells.now a.t a.table.now → KnownIdle b a.cells.now a.t c.note-3.new.table
own-noted c b known =
    let a = c.args in
    let rests = work_idle b a.cells.now a.t a.k in
    noted _ a.k answer_action
    (λ e. rests answer_action (works c) (worker_answers _ _ _ _ _ (λ p. omega arith) (λ p. omega arith) refl ∙ c.no_answer.ensures e))
    c.note-3.ensures
    (noted _ a.k send_action (λ e. rests send_action (works c) (worker_sends _ _ _ _ _ (λ p. omega arith) refl ∙ c.all_sent.ensures e))
    c.note-2.ensures
    (noted _ a.k treat_action (λ e. rests treat_action (works c) (worker_treats _ _ _ _ _ refl ∙ c.no_work.ensures (system_at b) e))
    c.note.ensures known))

pub returns-then-d-lt-TREAT_ACTION : goal.returns-then-d-lt-TREAT_ACTION
returns-then-d-lt-TREAT_ACTION c b known =
    let a = c.args in
    noted _ a.k a.d
    (λ e.
    work_idle b a.cells.now a.t a.k a.d (works (goal.at.returns-then-d-lt-TREAT_ACTION c).After-note-3)
    (worker_reads _ _ _ _ _ (λ p. omega (arith, c.if-d-lt-TREAT_ACTION.true)) (λ p. omega (arith, c.if-d-lt-TREAT_ACTION.true)) (λ p. omega (arith, c.if-d-lt-TREAT_ACTION.true))
    ∙ c.all_read.ensures e))
    c.note-then-d-lt-TREAT_ACTION.ensures (own-noted (goal.at.returns-then-d-lt-TREAT_ACTION c).After-note-3 b known)

pub returns-else-d-lt-TREAT_ACTION : goal.returns-else-d-lt-TREAT_ACTION
returns-else-d-lt-TREAT_ACTION c b known = own-noted (goal.at.returns-else-d-lt-TREAT_ACTION c).After-note-3 b known
