-- Turns of workers, one after the other: they leave the tally as it is, so that only their counts are passed on.
use Prim.Native.Nat.{ℕ, ◌+◌, ◌-◌, ◌<◌, ◌≤◌}
use mathlib.Core.Bool.{Bool, true, false, cond, ◌&&◌, not}
use mathlib.Core.List.{List, [], ◌∷◌, ◌++◌}
use mathlib.Core.Path.{◌≡◌, refl, sym, ◌∙◌, ap, subst}
use mir.Val.{bool_byte}
use native.Mathlib.Numerals.{add-one}
use native.Mathlib.Omega.{arith}
use borrow.Author.Tests.{ne_eqb}
use lib.Dec.{eqb}
use lib.ListN.{length}
use Rattle.base.proofs.Choice.{cond_false}
use Rattle.base.proofs.Sums.{one_le}
use Rattle.base.specs.Below.{gather_below, one}
use Rattle.cells.proofs.Acting.{idle, acts_as}
use Rattle.cells.specs.Acts.{Acts}
use Rattle.cells.specs.Memory.{mem_of}
use Rattle.controller.specs.Controller.{machine}
use Rattle.disac4.specs.Report.{is_send, is_poll}
use Rattle.disac4.specs.System.{system_at}
use Rattle.disac4.specs.Turn.{Turn, turn, send_action, poll_action, allowed, treat_action}
use Rattle.disac4.specs.declared.Tally.{Tally}
use Rattle.engine.proofs.Advancing.{playable, advanced, one_byte, none_added}
use Rattle.engine.proofs.RunLaws.{workers_are, acts_beside, turn_closed, turn_works, worker_numbers}
use Rattle.engine.specs.Play.{Running, Grows, Works}
use Rattle.format.specs.Format.{worker_count}
use Rattle.refinement.proofs.Underway.{plays_none, plays_then, goes_after}
use Rattle.refinement.specs.Run.{Going, Plays, Playable, turn_on, worker_on}
use Rattle.refinement.specs.Step.{worker_m}
use Rattle.disac4.specs.declared.Progress.{Progress}

-- ---- no turns, and two lists of turns

-- a run with these counts added
abbrev grown : Tally → ℕ → ℕ → Progress → Progress
grown t n s g = record { tally = t; changes = g.changes + n; sends = g.sends + s; polls = g.polls }

grows : (t : Tally) (n s : ℕ) (g : Progress) → g.tally ≡ t → Grows t n s g (grown t n s g)
grows t n s g e = record { before = e; after = refl; changes = refl; sends = refl; polls = refl }

pub works_none : (b cells : List ℕ) (t : Tally) → Works b [] cells t cells 0 0
unfolding Works
works_none b cells t g g' a = subst (λ (h : Progress). Plays b [] cells g cells h) same (plays_none b cells g)
  where
    tally : g.tally ≡ g'.tally
    tally = a.before ∙ sym a.after

    changes : g.changes ≡ g'.changes
    changes = omega (arith, a.changes)

    sends : g.sends ≡ g'.sends
    sends = omega (arith, a.sends)

    same : g ≡ g'
    same = λ i. record { tally = tally i; changes = changes i; sends = sends i; polls = sym a.polls i }

pub works_then : (b : List ℕ) (us vs : List Turn) (c₀ c₁ c₂ : List ℕ) (t : Tally) (n n' s s' : ℕ) → Works b us c₀ t c₁ n s
    → Works b vs c₁ t c₂ n' s' → Works b (us ++ vs) c₀ t c₂ (n + n') (s + s')
unfolding Works
works_then b us vs c₀ c₁ c₂ t n n' s s' p q g g'' a =
    plays_then b us vs c₀ c₁ c₂ g (grown t n s g) g'' (p g (grown t n s g) (grows t n s g a.before))
    (q (grown t n s g) g'' (record {
      before = refl;
      after = a.after;
      changes = omega (arith, a.changes);
      sends = omega (arith, a.sends);
      polls = a.polls;
    }))

-- what such turns are to a run with these counts
pub worked_plays : (b : List ℕ) (us : List Turn) (cells cells' : List ℕ) (t : Tally) (n : ℕ) {s : ℕ} (g g' : Progress) → Works b us cells t cells' n s
    → Grows t n s g g' → Plays b us cells g cells' g'
unfolding Works
worked_plays b us cells cells' t n g g' w a = w g g' a

-- an idle turn leaves a run as it is, and one that changes something adds to its counts
module _ (b : List ℕ) (us : List Turn) (cells cells' : List ℕ) {c : Bool} (kind : Bool) (g : Progress)
    (w : Works b us cells g.tally cells' (one c) (cond kind (one c) 0)) where
  pub plays_idle : c ≡ false → Plays b us cells g cells' g
  plays_idle h =
      worked_plays b us cells cells' g.tally (one c) g g w (record {
        before = refl;
        after = refl;
        changes = omega (arith, ap one h);
        sends = omega (arith, ap (λ (k : Bool). cond kind (one k) 0) h, none_added kind);
        polls = refl;
      })

  pub plays_changed : {s : ℕ} → c ≡ true → s ≡ bool_byte kind
      → Plays b us cells g cells' (record { tally = g.tally; changes = g.changes + 1; sends = g.sends + s; polls = g.polls })
  plays_changed {s} h e =
      worked_plays b us cells cells' g.tally (one c) g _ w (record {
        before = refl;
        after = refl;
        changes = omega (arith, ap one h);
        sends = omega (arith, ap (λ (k : Bool). cond kind (one k) 0) h, one_byte kind e);
        polls = refl;
      })

-- ---- a run goes on

pub running_by : (b cells : List ℕ) (g : Progress) → Going b cells g → Running b cells g.tally
running_by b cells g go = record { progress = g; same = refl; going = go }

pub running_after : (b : List ℕ) (us : List Turn) (cells cells' : List ℕ) (t : Tally) (n s : ℕ) → Running b cells t
    → length cells' ≡ length cells → Works b us cells t cells' n s → Running b cells' t
unfolding Works
running_after b us cells cells' t n s r e w =
    let g = r.progress in
    record {
      progress = grown t n s g;
      same = refl;
      going = goes_after b us cells cells' g (grown t n s g) r.going e (w g (grown t n s g) (grows t n s g r.same));
    }

pub running_playable : (b cells : List ℕ) (t : Tally) → Running b cells t → Playable b cells t
running_playable b cells t r = subst (Playable b cells) r.same (playable b cells r.progress r.going)

-- ---- one turn of a worker

-- what it adds to sends and polls
sends_by : (k d r : ℕ) → (k ≡ 0 → ⊥) → cond (is_send (turn k d)) r 0 ≡ cond (eqb d send_action) r 0
sends_by k d r n = ap (λ (c : Bool). cond (not c && eqb d send_action) r 0) (ne_eqb k 0 n)

polls_none : (k d r : ℕ) → (k ≡ 0 → ⊥) → cond (is_poll (turn k d)) r 0 ≡ 0
polls_none k d r n = ap (λ (c : Bool). cond (c && eqb d poll_action) r 0) (ne_eqb k 0 n)

module _ (b cells : List ℕ) (t : Tally) (k d : ℕ) (run : Running b cells t) (some : k ≡ 0 → ⊥) where
  -- from what the code of a turn ensures
  worked : (cells' : List ℕ) (c : Bool) → Acts (turn_on (system_at b) k d) (machine cells t) (machine cells' t) c
      → Works b (turn k d ∷ []) cells t cells' (one c) (cond (eqb d send_action) (one c) 0)
  unfolding Works
  worked cells' c does g g' a =
      advanced b cells cells' g g' k d c run.going.sound (rw (a.before, a.after) does) a.changes
      (a.sends ∙ ap (λ (n : ℕ). g.sends + n) (sym (sends_by k d (one c) some)))
      (omega (arith, a.polls, polls_none k d (one c) some))

  -- in a closed plan it is idle
  pub worked_closed : t.closed ≡ true → Works b (turn k d ∷ []) cells t cells 0 (cond (eqb d send_action) 0 0)
  worked_closed e = worked cells false (idle _ _ (turn_closed (system_at b) k d (machine cells t) e))

  module _ {p : ℕ} (q : p ≡ worker_count b) (ok : allowed p (turn k d) ≡ true) where
    -- in an open one it does what its action does
    pub worked_open : (cells' : List ℕ) (c : Bool) → t.closed ≡ false
        → Acts (worker_on (system_at b) t (k - 1) d) (mem_of cells) (mem_of cells') c
        → Works b (turn k d ∷ []) cells t cells' (one c) (cond (eqb d send_action) (one c) 0)
    worked_open cells' c e act =
        worked cells' c
        (acts_as (turn_works (system_at b) k d (machine cells t) e (rw (workers_are b, ← q) ok) some)
        (acts_beside (worker_m (system_at b) (k - 1) d) t act))

    -- what the code of its action asks
    pub may_act : Playable b cells t × (k - 1 < worker_count b) × (d < poll_action)
    may_act =
        let can = running_playable b cells t run in
        let w = worker_numbers p k d (omega (arith, can.workers)) ok some in
        (can, omega (arith, w.0), w.1)

-- a read sends nothing
pub no_send : (j r : ℕ) → j < treat_action → cond (eqb j send_action) r 0 ≡ 0
no_send j r low = cond_false r 0 (ne_eqb j send_action (omega arith))

-- ---- a loop that plays the list `f i` in step `i`, each with at most one changing turn

pub record Working (b : List ℕ) (f : ℕ → List Turn) (cells₀ : List ℕ) (t : Tally) (k changes : ℕ) (cells : List ℕ) : Type 0 where
  pub few : changes ≤ k
  pub same : length cells ≡ length cells₀
  pub works : Works b (gather_below k f) cells₀ t cells changes 0

pub none_worked : (b : List ℕ) (f : ℕ → List Turn) (cells : List ℕ) (t : Tally) → Working b f cells t 0 0 cells
none_worked b f cells t = record { few = omega arith; same = refl; works = works_none b cells t }

module _ {b : List ℕ} {f : ℕ → List Turn} {cells₀ : List ℕ} {t : Tally} {k changes : ℕ} {cells : List ℕ}
    (p : Working b f cells₀ t k changes cells) where
  pub working_on : Running b cells₀ t → Running b cells t
  working_on r = running_after b (gather_below k f) cells₀ cells t changes 0 r p.same p.works

  pub one_worked : (cells' : List ℕ) (c : Bool) → length cells' ≡ length cells → Works b (f k) cells t cells' (one c) 0
      → Working b f cells₀ t (k + 1) (changes + one c) cells'
  one_worked cells' c e q = record {
    few = omega (arith, p.few, one_le c);
    same = e ∙ p.same;
    works = rw add-one (works_then b (gather_below k f) (f k) cells₀ cells cells' t changes (one c) 0 0 p.works q);
  }

  pub all_worked : (n : ℕ) → k ≡ n → Works b (gather_below n f) cells₀ t cells changes 0
  all_worked n e = subst (λ (j : ℕ). Works b (gather_below j f) cells₀ t cells changes 0) e p.works
