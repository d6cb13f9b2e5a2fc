-- What a caller may conclude from the slow engine's two calls: that their lists are the largest, and those of every run that
-- closes the plan.
use Prim.Native.Nat.{ℕ, ◌<◌, ◌≤◌}
use mathlib.Core.Bool.{Bool, true, false, cond}
use mathlib.Core.List.{List, []}
use mathlib.Core.Logic.{◌⊎◌, inl, inr}
use mathlib.Core.Path.{◌≡◌, refl, sym, ◌∙◌, ap, subst}
use native.Mathlib.Omega.{arith}
use borrow.Author.Tests.{le-leb, lt-leb, leb-true}
use lib.Dec.{leb, eqb}
use lib.Seq.{length-take-le}
use lib.ListN.{length, get_or, take}
use Rattle.base.proofs.Bools.{or_left}
use Rattle.base.proofs.Choice.{between_intro}
use Rattle.base.specs.Row.{is_odd}
use Rattle.disac4.proofs.Demands.{demand2, round_closes_plan}
use Rattle.disac4.proofs.Order.{no_turn_list}
use Rattle.disac4.proofs.Outcome.{lists_length, lists_fit}
use Rattle.disac4.specs.Demands.{closed_after}
use Rattle.disac4.specs.Need.{list_need}
use Rattle.disac4.specs.Outcome.{Lent, Run, final_cells}
use Rattle.disac4.specs.Report.{domain_cells}
use Rattle.disac4.specs.Round.{round_run_turns}
use Rattle.disac4.specs.System.{system_of, network_at, system_at}
use Rattle.disac4.specs.Turn.{Turn}
use Rattle.disac4.specs.declared.Report.{Report}
use Rattle.disac4.specs.declared.Status.TheVariants.{Open}
use Rattle.faults.specs.declared.Decline.{Decline}
use Rattle.lending.proofs.Outcome.{Answers, result_answers}
use Rattle.lending.proofs.Overwritten.{overwrite_starts}
use Rattle.lending.specs.Call.{outcome, Gives, outcome_of}
use Rattle.format.specs.Version.{row_words}
use Rattle.listing.proofs.ListCells.{shows_cells, shown_domains, plan_wide}
use Rattle.listing.specs.ListCells.{listed_in}
use Rattle.network.proofs.Largest.{largest_unique, largest_consistent, sweeps_largest}
use Rattle.network.proofs.Sweeps.{swept_exactly, comes_to_rest, last_same, last_first, sweeps_bounded}
use Rattle.network.specs.Network.{Network, Domains}
use Rattle.network.specs.Sweep.{swept, sweep_count}
use Rattle.numbers.specs.Numbers.{swept_numbers, part_numbers, last_sweep_numbers}
use Rattle.plan.proofs.Faults.{decode_plan}
use Rattle.plan.specs.Answer.{counts_of}
use Rattle.plan.specs.Decode.{plan_of}
use Rattle.plan.specs.Network.{network_of}
use Rattle.sweeping.proofs.Ended.{ended, alike_part}
use Rattle.sweeping.specs.Outcome.{TwoLists, one_of, holding, swept_cells, after_sweeps, sweep_outcome, sweep_call, part_of, last_sweep}
use Rattle.std.specs.Prelude.{Result, Ok}
use Rattle.tinshrew.proofs.Calls.{call_tells}
use Rattle.tinshrew.proofs.Conclusions.{reported_closed}
use Rattle.tinshrew.proofs.Faults.{no_turns_fit, in_short_table}
use Rattle.tinshrew.proofs.Numbers.{with_answer, call_numbers}
use Rattle.tinshrew.specs.Conclusions.{PlanAndBuffersFit, ReportedRun, list_length}
use Rattle.tinshrew.specs.Numbers.{GivesNumbers}
use Rattle.tinshrew.specs.Sweeps.{sweeps_given, SameLists, SweptPlan, SweepsTell, SweepNumbers, buffer_numbered, PartTold, LargestPart}

-- ---- the sweeps of an accepted plan

module _ (b : List ℕ) (l : TwoLists) (fits : PlanAndBuffersFit (sweeps_given b l)) where
  abbrev words : ℕ
  words = row_words b

  abbrev net : Network
  net = network_at b

  -- the lists of the last sweep, as domains and as cells
  abbrev last : Domains
  last = swept net (sweep_count net)

  abbrev last_cells : List ℕ
  last_cells = swept_cells words net (sweep_count net)

  abbrev after : TwoLists
  after = after_sweeps words net (sweep_count net) l

  -- they take so many cells
  n_cells : length last_cells ≡ list_length b
  unfolding counts_of network_of
  n_cells = lists_length words net last

  -- for which either buffer has room
  room : (cells : List ℕ) → list_need ≤ length cells → length last_cells ≤ length cells
  room cells long = omega (arith, lists_fit b (decode_plan b (plan_of b) fits.accepts).0 last)

  -- they are the part that is returned
  part_cells : last_sweep (sweep_count net) (list_length b) after ≡ last_cells
  part_cells =
      rw (← n_cells, ended words net l)
      (alike_part (sweep_count net) last_cells l.first l.second (room l.first fits.buffers.0)
      (room l.second fits.buffers.1.0))

  -- in which the domains are listed
  part_listed : listed_in words net last_cells ≡ last
  part_listed =
      shown_domains words net last last_cells
      (shows_cells words net last last_cells (plan_wide b (decode_plan b (plan_of b) fits.accepts).0) (λ i h. refl))
      (largest_consistent net last (sweeps_largest net)).within

  -- they are those of every list of turns that closes the plan
  same_closed : (turns : List Turn) → closed_after (system_at b) turns ≡ true → SameLists b l after (sweep_count net) turns
  unfolding system_of
  same_closed turns closed =
      let alike = largest_unique net _ _ (sweeps_largest net) ((demand2 b (plan_of b) fits.accepts turns).largest closed) in
      record { domains = alike; cells = part_cells ∙ ap (domain_cells words net) alike }

  -- so those that a closed run has left
  same_run : (run : Run) (before left : Lent) (r : Report) → run.plan ≡ b → ReportedRun run before left r → (r.status ≡ Open → ⊥)
      → (i : ℕ) → i < list_length b → get_or left.lists i 0 ≡ get_or (last_sweep (sweep_count net) (list_length b) after) i 0
  unfolding system_of
  same_run run before left r e ran closed i h =
      let turns = run.turns in
      let at_plan : closed_after (system_at b) turns ≡ true =
      subst (λ (p : List ℕ). closed_after (system_at p) turns ≡ true) e (reported_closed run before left r ran closed) in
      let same = (same_closed turns at_plan).cells in
      let cells_of : List ℕ → List ℕ = λ p. final_cells p turns in
      let low : i < length (cells_of run.plan) = omega (arith, h, n_cells, ap length (sym part_cells ∙ same ∙ ap cells_of (sym e))) in
      ran.cells.lists.start i low ∙ ap (λ (c : List ℕ). get_or c i 0) (ap cells_of e ∙ sym same)

  -- all of it
  swept_plan : SweptPlan b l after (sweep_count net)
  swept_plan =
      let k = comes_to_rest net in record {
        accepts = fits.accepts;
        restricts = swept_exactly net;
        ended = (k.0, k.1.count, ap (swept net) k.1.count ∙ last_same net k.0 k.1, last_first net k.0 k.1);
        count = refl;
        bounded = (omega (arith, k.1.count), sweeps_bounded net);
        largest = sweeps_largest net;
        lists_length = n_cells;
        first_cells = rw (ended words net l) (overwrite_starts last_cells l.first (room l.first fits.buffers.0));
        second_cells = rw (ended words net l) (overwrite_starts last_cells l.second (room l.second fits.buffers.1.0));
        part_cells = part_cells;
        part_largest = rw (part_cells, part_listed) (sweeps_largest net);
        as_closed = same_closed;
        as_round = same_closed (round_run_turns (system_at b)) (round_closes_plan b (plan_of b) fits.accepts).closes;
        as_run = same_run;
      }

-- ---- the first call

-- it answers as a call does
sweep_answers : (b : List ℕ) → Answers (sweep_call b) Ok
unfolding sweep_outcome
sweep_answers b = result_answers (sweep_call b) (λ d. refl) (λ l. (sweep_count (network_at b), refl))

-- it gives the number of sweeps exactly if both buffers are long enough and the plan is accepted; otherwise it declines, with a
-- number from 1 to 8 or with 10
pub run_sweeps_tells : (b : List ℕ) (l : TwoLists) (a : Result ℕ Decline) (after : TwoLists) → Gives (outcome_of (sweep_call b) l) a after
    → SweepsTell b l (outcome a after)
unfolding sweep_outcome
run_sweeps_tells b l a after g =
    let c = sweep_call b in
    let numbers = (sweeps_given b l).numbers in
    call_tells c Ok (sweep_answers b) b [] (sym (no_turn_list b)) numbers l a after g _
    (λ h. (h, no_turns_fit c b numbers l), λ h. h.0)
    (in_short_table c b numbers l refl (λ k low high. or_left (eqb k 10) (between_intro 1 8 k low high))) _
    (λ k fits turns did.
    let count : k ≡ sweep_count (network_at b) = let e = did.answer in cc in
    rw (did.cells, count) (swept_plan b l fits))

-- the same from the numbers that C gets
pub sweep_numbers : (b : List ℕ) (l : TwoLists) (out : List ℕ) (after : TwoLists)
    → GivesNumbers swept_numbers (outcome_of (sweep_call b) l) out after → SweepNumbers b l out after
unfolding swept_numbers
sweep_numbers b l out after g =
    rw g.numbers
    (call_numbers (sweep_call b) Ok (sweep_answers b) swept_numbers (λ k. refl) (λ d. refl) _
    (run_sweeps_tells b l _ after (with_answer _ _ out after g)))

-- ---- the second call

-- its numbers tell C the part
pub last_sweep_told : (sweeps count : ℕ) (l : TwoLists) (out : List ℕ) → out ≡ last_sweep_numbers sweeps count l
    → PartTold sweeps count l out
unfolding part_numbers last_sweep holding part_of
last_sweep_told sweeps count l out e =
    let held = one_of (is_odd sweeps) l in
    rw e
    (record {
      zero_first = refl;
      one_or_two = number (is_odd sweeps);
      buffer = numbered (is_odd sweeps);
      enough = λ h. rw (le-leb count (length held) h) (length-take-le count held h);
      too_few = λ h. rw (lt-leb count (length held) h);
      part = taken held (leb count (length held)) refl ∙ ap (take (length (part_of count held))) (sym (numbered (is_odd sweeps)));
    })
  where
    number : (b : Bool) → (◌≡◌ {A = ℕ} (cond b 2 1) 1) ⊎ (◌≡◌ {A = ℕ} (cond b 2 1) 2)
    number true = inr refl
    number false = inl refl

    numbered : (b : Bool) → buffer_numbered (cond b 2 1) l ≡ one_of b l
    numbered true = refl
    numbered false = refl

    taken : (held : List ℕ) (b : Bool) → leb count (length held) ≡ b
        → cond b (take count held) [] ≡ take (length (cond b (take count held) [])) held
    taken held true e = ap (λ (n : ℕ). take n held) (sym (length-take-le count held (leb-true count (length held) e)))
    taken held false e = refl

-- ---- both together

-- the part for the number of sweeps that the first call gave, and the number of cells that the lists take
largest_part : (b : List ℕ) (l after : TwoLists) (k : ℕ) (part : List ℕ) → SweptPlan b l after k → part ≡ last_sweep k (list_length b) after
    → LargestPart b part
largest_part b l after k part told e =
    rw e (record { whole = ap length told.part_cells ∙ told.lists_length; largest = told.part_largest })

-- a caller of both
pub both_tell : (b : List ℕ) (l after : TwoLists) (k : ℕ) (part : List ℕ) → Gives (outcome_of (sweep_call b) l) (Ok k) after
    → part ≡ last_sweep k (list_length b) after → LargestPart b part
both_tell b l after k part g = largest_part b l after k part ((run_sweeps_tells b l _ after g).told k refl)

-- the same for C, which takes so many cells of the buffer that the second call names
pub both_numbers_tell : (b : List ℕ) (l after : TwoLists) (out : List ℕ) → GivesNumbers swept_numbers (outcome_of (sweep_call b) l) out after
    → get_or out 0 0 ≡ 0 → (found : List ℕ) → found ≡ last_sweep_numbers (get_or out 1 0) (list_length b) after
    → LargestPart b (take (get_or found 2 0) (buffer_numbered (get_or found 1 0) after))
unfolding swept_numbers
both_numbers_tell b l after out g zero found e =
    let swept = (sweep_numbers b l out after g).zero_told zero in
    let k : get_or out 1 0 ≡ swept.0 = ap (λ (o : List ℕ). get_or o 1 0) swept.2 in
    largest_part b l after swept.0 _ swept.1
    (sym (last_sweep_told (get_or out 1 0) (list_length b) after found e).part
    ∙ ap (λ (n : ℕ). last_sweep n (list_length b) after) k)
