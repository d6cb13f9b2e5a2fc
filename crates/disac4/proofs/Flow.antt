-- Labels flow once: from the domain to the owner's lists, from there to every other actor, at last to be treated. At each
-- stage what came in is what went out and what still waits there.
use Prim.Native.Nat.{ℕ, ◌+◌, ◌<◌, ◌≤◌}
use mathlib.Core.Bool.{Bool, ◌&&◌}
use mathlib.Core.List.{List, [], ◌∷◌, ◌++◌}
use mathlib.Core.Path.{◌≡◌, refl, sym, ap}
use native.Mathlib.Omega.{arith}
use borrow.Author.Tests.{ne_eqb}
use Rattle.base.proofs.Weight.{weigh, weigh_append}
use Rattle.base.specs.Below.{one}
use Rattle.network.specs.Network.{Label}
use Rattle.disac4.proofs.Deleted.{deleted_by, load_deletes}
use Rattle.disac4.proofs.Moves.{Moves, kept}
use Rattle.disac4.proofs.Occurrences.{occurs, carried, sent_by, read_by, treated_by}
use Rattle.disac4.proofs.Steps.{Step, step_of}
use Rattle.disac4.specs.Event.{Event, events, deleted}
use Rattle.disac4.specs.Loading.{load}
use Rattle.disac4.specs.State.{State, Message, list}
use Rattle.disac4.specs.System.{System, Sound}
use Rattle.disac4.specs.Turn.{Turn, play}

module _ (sys : System) (x v : ℕ) where
  -- of one label, after the events `es`
  pub record Flow (st : State) (es : List Event) : Type 0 where
    -- what `j` deleted, it has sent, or it stands on its to-send list
    pub sending : (j : ℕ) → weigh (sent_by x v j) es + occurs x v (st.to_send j) ≡ deleted_by sys x v st j
    -- what `j` sent, `i` has read, or it is on its way
    pub reading : (j i : ℕ) → i ≤ sys.workers → (i ≡ j → ⊥)
        → weigh (read_by x v i j) es + weigh (carried x v) (st.channel j i) ≡ weigh (sent_by x v j) es
    -- nobody reads from itself
    pub unread_own : (k : ℕ) → weigh (read_by x v k k) es ≡ 0
    -- what worker `k` deleted, or read from the label's owner, it has treated, or it stands on its work list
    pub treating : (k : ℕ) → 0 < k
        → weigh (treated_by x v k) es + occurs x v (st.work_list k)
        ≡ deleted_by sys x v st k + weigh (read_by x v k (sys.owner x)) es

  step_flow : {st s : State} {es new : List Event} → Flow st es → Step sys x v st s new → Flow s (es ++ new)
  step_flow {st} {s} {es} {new} f c = record {
    sending = λ j. omega (arith, f.sending j, c.sending j, weigh_append (sent_by x v j) es new);
    reading = λ j i h n. omega (
      arith,
      f.reading j i h n,
      c.reading j i h n,
      weigh_append (sent_by x v j) es new,
      weigh_append (read_by x v i j) es new,
    );
    unread_own = λ k. omega (arith, f.unread_own k, c.unread_own k, weigh_append (read_by x v k k) es new);
    treating = λ k h. omega (
      arith,
      f.treating k h,
      c.treating k h,
      weigh_append (treated_by x v k) es new,
      weigh_append (read_by x v k (sys.owner x)) es new,
    );
  }

  -- only its owner sends a label
  foreign : (st : State) (es : List Event) → Flow st es → (j k : ℕ) (labels : List Label) (rest : List Message)
      → k ≤ sys.workers → (j ≡ k → ⊥) → st.channel j k ≡ list labels ∷ rest → (j ≡ sys.owner x → ⊥)
      → occurs x v labels ≡ 0
  foreign st es f j k labels rest h n m d =
      omega (
        arith,
        f.sending j,
        f.reading j k h (λ p. n (sym p)),
        ap (weigh (carried x v)) m,
        ap (λ (b : Bool). one (b && deleted sys st x v)) (ne_eqb (sys.owner x) j (λ p. d (sym p))),
      )

  -- the flow at loading: each worker's first deletions stand on its lists
  pub load_flow : Flow (load sys) []
  unfolding load
  load_flow = record {
    sending = λ j. omega (arith, load_deletes sys x v j);
    reading = λ j i h n. refl;
    unread_own = λ k. refl;
    treating = λ k h. omega (arith, load_deletes sys x v k);
  }

  -- every move keeps the flow
  pub move_flow : (st : State) (es : List Event) (s : State) (new : List Event) → Flow st es → Moves sys st s new
      → Flow s (es ++ new)
  move_flow st es s new f m = step_flow f (step_of sys x v st (foreign st es f) s new m)

  -- every label flows once, whatever turns are played
  pub flows : Sound sys → (ts : List Turn) → Flow (play sys (load sys) ts) (events sys (load sys) ts)
  flows sound ts = kept sys sound.few Flow (λ st es s new c f m. move_flow st es s new f m) ts (load sys) load_flow
