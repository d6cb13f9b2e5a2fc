-- In a quiet state every deletion was sent, read and treated: none waits.
use Prim.Native.Nat.{ℕ, suc, ◌+◌, ◌<◌, ◌≤◌}
use mathlib.Core.Bool.{Bool, true, false, not}
use mathlib.Core.List.{List}
use mathlib.Core.Path.{◌≡◌, ◌∙◌, ap}
use native.Mathlib.Omega.{arith}
use borrow.Author.Tests.{le-ltb}
use Rattle.base.proofs.Below.{some_below}
use Rattle.base.proofs.Bools.{clash, and_left, refuted}
use Rattle.base.specs.Below.{any_below}
use Rattle.network.proofs.Loaded.{loaded_variable}
use Rattle.network.specs.Network.{Label, loaded}
use Rattle.disac4.proofs.Occurrences.{occurs}
use Rattle.disac4.proofs.Pending.{waits_read, waits_treated, pinned}
use Rattle.disac4.proofs.Quiet.{Quiet}
use Rattle.disac4.proofs.Treated.{on_its_way, on_its_way_lem, none_later}
use Rattle.disac4.specs.Demands.{Done}
use Rattle.disac4.specs.Event.{holds, deleted}
use Rattle.disac4.specs.Loading.{load}
use Rattle.disac4.specs.Pending.{to_be_sent, to_be_read, to_be_treated, Pinned}
use Rattle.disac4.specs.Report.{final}
use Rattle.disac4.specs.State.{State}
use Rattle.disac4.specs.System.{System, Worker, Sound}
use Rattle.disac4.specs.Turn.{Turn, play}

module _ (sys : System) (x v : ℕ) (st : State) (o : Worker sys (sys.owner x)) (q : Quiet sys st) where
  -- no label is to be sent
  none_to_send : to_be_sent sys st x v ≡ false
  unfolding to_be_sent holds
  none_to_send = ap (λ (l : List Label). holds l x v) (q.no_send (sys.owner x) o)

  -- or read
  none_to_read : (i : ℕ) → i ≤ sys.workers → to_be_read sys st i x v ≡ false
  none_to_read i h =
      waits_read sys x v st i
      ∙ le-ltb 0 (on_its_way sys x v st i) (omega (arith, on_its_way_lem sys x v st i, none_later sys x v st o q i h))

  -- or treated
  none_to_treat : (k : ℕ) → Worker sys k → to_be_treated sys st k x v ≡ false
  none_to_treat k w =
      waits_treated sys x v st k
      ∙ le-ltb 0 (occurs x v (st.work_list k) + on_its_way sys x v st k)
      (omega (
        arith,
        ap (occurs x v) (q.no_work k w),
        on_its_way_lem sys x v st k,
        none_later sys x v st o q k w.within,
      ))

-- where each fails, none passes
none_passes : (n : ℕ) (t : ℕ → Bool) → ((i : ℕ) → i < n → t i ≡ false) → any_below n t ≡ false
none_passes n t f = refuted (any_below n t) (λ e. let (i, h, p) = some_below n t e in clash p (f i h))

-- in a quiet state a deletion is neither unsent nor unread nor untreated
pub quiet_done : (sys : System) → Sound sys → (ts : List Turn) → Quiet sys (play sys (load sys) ts) → (x v : ℕ)
    → deleted sys (play sys (load sys) ts) x v ≡ true → Done sys ts x v
unfolding final deleted
quiet_done sys sound ts q x v gone = record {
  is_sent = pin.unsent_exactly ∙ none_to_send sys x v end own q;
  is_read =
      pin.unread_exactly
      ∙ none_passes (suc sys.workers) (λ i. to_be_read sys end i x v)
      (λ i h. none_to_read sys x v end own q i (omega arith));
  is_treated =
      pin.untreated_exactly
      ∙ none_passes sys.workers (λ i. to_be_treated sys end (suc i) x v)
      (λ i h. none_to_treat sys x v end own q (suc i) (record { above = omega arith; within = h }));
}
  where
    end : State
    end = play sys (load sys) ts

    pin : Pinned sys ts x v
    pin = pinned sys sound ts x v gone

    own : Worker sys (sys.owner x)
    own = sound.owned x (loaded_variable sys.net x v (and_left (loaded sys.net x v) (not (end.domain x v)) gone))
