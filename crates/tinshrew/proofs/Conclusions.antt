-- What a caller may conclude from a call's contract: the promises of the calls, from the plan's bytes, the turns and the buffers.
use Prim.Native.Nat.{ℕ, ◌/◌}
use mathlib.Core.Bool.{Bool, true, false, cond}
use mathlib.Core.List.{List, [], ◌∷◌}
use mathlib.Core.Logic.{◌↔◌}
use mathlib.Core.Path.{◌≡◌, refl, sym, ◌∙◌, ap}
use native.Mathlib.Omega.{arith}
use lib.Dec.{eqb}
use lib.ListN.{length}
use Rattle.base.proofs.Bools.{and_left}
use Rattle.base.proofs.Each.{each_all, each_gather}
use Rattle.base.proofs.Choice.{between_intro}
use Rattle.base.specs.Choice.{between, all_of}
use Rattle.disac4.proofs.Demands.{demand2, demand3, round_closes_plan}
use Rattle.disac4.proofs.Order.{no_turn_list}
use Rattle.disac4.proofs.Outcome.{lists_length, cells_written, run_answers}
use Rattle.disac4.specs.Demands.{closed_after, RoundCloses}
use Rattle.lending.specs.Call.{outcome, Gives, LongEnough}
use Rattle.disac4.specs.Outcome.{Lent, work_buffer, list_buffer, written, Run, played, call_of, run_of, turn_run, round_run, final_cells, Written}
use Rattle.format.specs.Version.{row_words}
use Rattle.listing.proofs.ListCells.{shows_cells, shown_listed, plan_wide}
use Rattle.listing.specs.ListCells.{listed_in}
use Rattle.disac4.specs.Report.{final, lowest_empty, status_of, report_of}
use Rattle.disac4.specs.Round.{round_run_turns}
use Rattle.disac4.specs.System.{System, system_of, system_at}
use Rattle.disac4.specs.Turn.{Turn, allowed, turns_of}
use Rattle.disac4.specs.declared.Report.{Report}
use Rattle.disac4.specs.declared.Status.{Status}
use Rattle.disac4.specs.declared.Status.TheVariants.{Open, Closed, Bare}
use Rattle.network.proofs.Largest.{largest_consistent}
use Rattle.network.specs.Consistency.{Within, Largest}
use Rattle.network.specs.Network.{Domains, loaded}
use Rattle.plan.proofs.Answer.{plan_check_lem, no_fault, its_fault}
use Rattle.plan.proofs.Faults.{sound_version, decoded, not_decoded, decode_plan}
use Rattle.plan.proofs.WellFormed.{read_well_formed}
use Rattle.plan.specs.Answer.{plan_check, checked_as, counts_of}
use Rattle.plan.specs.Decode.{plan_of, decode, accepted, declined}
use Rattle.plan.specs.Network.{network_of}
use Rattle.faults.specs.declared.Decline.{Decline}
use Rattle.plan.specs.declared.Counts.{Counts}
use Rattle.std.specs.Prelude.{Result, Ok, Err}
use Rattle.tinshrew.proofs.Calls.{call_tells}
use Rattle.tinshrew.proofs.Faults.{declined_plan, in_table, no_turns_fit, in_short_table}
use Rattle.tinshrew.specs.Conclusions.{AcceptedPlan, DeclinedPlan, turn_given, round_given, PlanAndBuffersFit, TurnsFit, list_length, ReportedRun, RunTells}

-- ---- the plan check

-- the plan check accepts a plan exactly if it has none of the faults 1 to 8
pub check_accepts : (b : List ℕ) (r : Result Counts Decline) → r ≡ plan_check b
    → ((f : Counts) × (r ≡ Ok f)) ↔ (decode b ≡ accepted (plan_of b))
unfolding plan_check
check_accepts b r g = (
  λ s. decoded b (no_fault b _ s.0 (sym s.1 ∙ g ∙ plan_check_lem b)).0,
  λ e. (counts_of (plan_of b), g ∙ ap checked_as e),
)

-- and then gives p, n, the number of rules and L
pub check_accepted : (b : List ℕ) (f : Counts) → Ok f ≡ plan_check b → AcceptedPlan b f
unfolding counts_of
check_accepted b f g =
    let sound = no_fault b _ f (g ∙ plan_check_lem b) in
    let fits = read_well_formed b sound.0 in
    rw sound.1
    (record {
      accepts = decoded b sound.0;
      known = sound_version b sound.0;
      counts = refl;
      workers = (fits.workers_low, fits.workers_high);
      variables = (fits.variables_low, fits.variables_high);
      constraints = fits.constraints_high;
      labels = fits.few_labels;
    })

-- it declines a plan exactly for its first fault
pub check_declines : (b : List ℕ) (r : Result Counts Decline) → r ≡ plan_check b
    → (d : Decline) → (r ≡ Err d) ↔ (decode b ≡ declined d)
unfolding plan_check
check_declines b r g d = (λ e. not_decoded b d (its_fault b _ d (sym e ∙ g ∙ plan_check_lem b)), λ e. g ∙ ap checked_as e)

-- whose number is from 1 to 8
pub check_declined : (b : List ℕ) (d : Decline) → Err d ≡ plan_check b → DeclinedPlan b d
check_declined b d g = declined_plan b d ((check_declines b _ g d).0 refl)

-- ---- the status

-- what is not open is closed
closed_unless_open : (closed : Bool) (s : Status) → (cond closed s Open ≡ Open → ⊥) → closed ≡ true
closed_unless_open true s h = refl
closed_unless_open false s h = absurd (h refl)

-- what is closed is not open
never_open : (closed full : Bool) → closed ≡ true → cond closed (cond full Closed Bare) Open ≡ Open → ⊥
never_open true true e h = let z : ◌≡◌ {A = ℕ} 0 1 = cc in omega arith
never_open true false e h = let z : ◌≡◌ {A = ℕ} 0 1 = cc in omega arith
never_open false full e h = let z : ◌≡◌ {A = ℕ} 0 1 = cc in omega arith

-- ---- a reported run

-- what it leaves in the buffers is what is written, cell by cell
abbrev Writes : Run → Lent → Type 0
Writes run l = Written l run.plan run.turns (run.leaves l)

module _ (run : Run) (l after : Lent) (r : Report) (accepts : decode run.plan ≡ accepted (plan_of run.plan))
    (writes : Writes run l) (g : Gives (played run l) (Ok r) after) where
  abbrev sys : System
  sys = system_at run.plan

  abbrev words : ℕ
  words = row_words run.plan

  -- the report is that of the turns
  told : r ≡ report_of sys run.turns
  unfolding played
  told = let e = g.answer in cc

  -- and so is every cell
  wrote : Written l run.plan run.turns after
  unfolding played
  wrote = rw g.cells writes

  -- the lists take so many cells
  lists_take : length (final_cells run.plan run.turns) ≡ list_length run.plan
  unfolding counts_of system_of network_of
  lists_take = lists_length words sys.net (final sys run.turns).domain

  -- list cells as the turns leave them hold a label exactly if it is still in its domain
  holds : (x v : ℕ) → loaded sys.net x v ≡ true
      → listed_in words sys.net after.lists x v ≡ (final sys run.turns).domain x v
  unfolding system_of
  holds =
      shown_listed words sys.net (final sys run.turns).domain after.lists
      (shows_cells words sys.net _ after.lists (plan_wide run.plan (decode_plan run.plan _ accepts).0) wrote.lists.start)

  -- so they hold every label of the largest domains
  keeps : (d : Domains) → Largest sys.net d → Within d (listed_in words sys.net after.lists)
  unfolding Within
  keeps d most x v p =
      holds x v ((largest_consistent sys.net d most).within x v p)
      ∙ (demand3 run.plan (plan_of run.plan) accepts run.turns).keeps_largest d most x v p

  -- allowed turns that were played on fitting inputs
  reported_run : all_of (allowed sys.workers) run.turns ≡ true → ReportedRun run l after r
  unfolding report_of status_of closed_after Largest Within listed_in
  reported_run fine =
      let b = run.plan in
      let second = demand2 b (plan_of b) accepts run.turns in
      let third = demand3 b (plan_of b) accepts run.turns in record {
        accepts = accepts;
        all_allowed = fine;
        report = told;
        cells = wrote;
        lists_length = lists_take;
        demand2 = second;
        demand3 = third;
        listed = holds;
        keeps_largest = keeps;
        largest = λ h.
            let most = second.largest (closed_unless_open _ _ (λ e. h (ap (λ (r : Report). r.status) told ∙ e))) in
            λ x v. (λ p. (most x v).0 (sym (holds x v (and_left _ _ p)) ∙ p), λ s. keeps _ most x v ((most x v).1 s));
        bounded = rw told third.bounded;
      }

-- unless it is open, a reported run has closed its plan
pub reported_closed : (run : Run) (l after : Lent) (r : Report) → ReportedRun run l after r → (r.status ≡ Open → ⊥)
    → closed_after (system_at run.plan) run.turns ≡ true
unfolding report_of status_of closed_after
reported_closed run l after r ran h =
    closed_unless_open _ _ (λ e. h (ap (λ (s : Report). s.status) ran.report ∙ e))

-- both buffers of an accepted plan's run, where they are long enough
both_written : (b : List ℕ) (l : Lent) → LongEnough (work_buffer ∷ list_buffer ∷ []) l
    → decode b ≡ accepted (plan_of b) → (turns : List Turn) → Written l b turns (written b turns l)
both_written b l long accepts turns =
    cells_written b l (decode_plan b (plan_of b) accepts).0 long.0 long.1.0 turns

-- ---- the turn run

-- a list of allowed turns, as they are played
list_allowed : (b ts : List ℕ) (l : Lent) → TurnsFit (turn_given b ts l) → all_of (allowed (system_at b).workers) (turns_of ts) ≡ true
unfolding turns_of
list_allowed b ts l fits =
    each_all (allowed (system_at b).workers) (turns_of ts)
    (each_gather (λ t. allowed (system_at b).workers t ≡ true) (length ts / 2) _ (λ i h. (fits.all_allowed i h, tt)))

-- it reports exactly if none of the listed faults is there; otherwise it declines the first of them, with a number from 1 to 12
pub turn_run_tells : (b ts : List ℕ) (l : Lent) (a : Result Report Decline) (after : Lent) → Gives (run_of (turn_run b ts) l) a after
    → let here = turn_given b ts l in RunTells (PlanAndBuffersFit here × TurnsFit here) (turn_run b ts) here (outcome a after)
turn_run_tells b ts l a after g =
    call_tells (call_of (turn_run b ts)) Ok (run_answers (turn_run b ts)) b ts refl (between 1 12) l a after g _ (λ h. h, λ h. h)
    (in_table (turn_given b ts l) refl (λ k low high. between_intro 1 12 k low (omega arith)) (λ h. refl) (λ h. refl)) _
    (λ r fits turns did.
    reported_run (turn_run b ts) l after r fits.accepts (both_written b l fits.buffers fits.accepts (turns_of ts)) did
    (list_allowed b ts l turns))

-- ---- the round run

-- it reports exactly if the buffers are long enough and the plan is accepted; otherwise the number is from 1 to 10, never 11 or 12
pub round_run_tells : (b : List ℕ) (l : Lent) (a : Result Report Decline) (after : Lent) → Gives (run_of (round_run b) l) a after
    → RunTells (PlanAndBuffersFit (round_given b l)) (round_run b) (round_given b l) (outcome a after)
round_run_tells b l a after g =
    let c = call_of (round_run b) in
    call_tells c Ok (run_answers (round_run b)) b [] (sym (no_turn_list b)) (between 1 10) l a after g _
    (λ h. (h, no_turns_fit c b (between 1 10) l), λ h. h.0)
    (in_short_table c b (between 1 10) l refl (λ k low high. between_intro 1 10 k low (omega arith))) _
    (λ r fits turns did.
    reported_run (round_run b) l after r fits.accepts
    (both_written b l fits.buffers fits.accepts (round_run_turns (system_at b))) did
    (round_closes_plan b (plan_of b) fits.accepts).all_allowed)

-- where it reports, the plan is closed after its turns, and the status is never open
pub round_ends : (b : List ℕ) (l after : Lent) (r : Report) → ReportedRun (round_run b) l after r
    → RoundCloses (system_at b) × (r.status ≡ Open → ⊥)
unfolding report_of status_of closed_after
round_ends b l after r ran =
    let closes = round_closes_plan b (plan_of b) ran.accepts in (
      closes,
      λ o.
          never_open _ (eqb (lowest_empty (system_at b) (final (system_at b) (round_run_turns (system_at b)))) 0) closes.closes
          (sym (ap (λ (r : Report). r.status) ran.report) ∙ o),
    )

-- so of what the call gives
pub round_run_ends : (b : List ℕ) (l : Lent) (r : Report) (after : Lent) → Gives (run_of (round_run b) l) (Ok r) after
    → RoundCloses (system_at b) × (r.status ≡ Open → ⊥)
round_run_ends b l r after g = round_ends b l after r ((round_run_tells b l _ after g).told r refl)
