-- The definitions' tests find a label exactly where it occurs: in a list, in a channel, in the events of a run.
use Prim.Native.Nat.{ℕ}
use mathlib.Core.Bool.{Bool, true, false, cond, ◌&&◌}
use mathlib.Core.List.{List}
use mathlib.Core.Path.{◌≡◌, refl}
use lib.Dec.{ltb, eqb}
use Rattle.base.proofs.Weight.{weigh, any_above}
use Rattle.base.specs.Below.{one}
use Rattle.base.specs.Choice.{any_of}
use Rattle.network.specs.Network.{Label, is_label}
use Rattle.disac4.proofs.Occurrences.{occurs, carried, sent_by, read_by, treated_by}
use Rattle.disac4.specs.Event.{Event, sent, taken, treated, holds, is_sent_with, is_read_with, is_treat_of}
use Rattle.disac4.specs.Pending.{carries}
use Rattle.disac4.specs.State.{Message, list, poll, reply}

-- ---- a number above 0

-- a test counts above 0 exactly if it holds
above_one : (b : Bool) → b ≡ ltb 0 (one b)
above_one true = refl
above_one false = refl

-- two tests hold exactly if the second one's number, where the first holds, is above 0
above_where : (b c : Bool) (n : ℕ) → c ≡ ltb 0 n → b && c ≡ ltb 0 (cond b n 0)
above_where true c n e = e
above_where false c n e = refl

-- ---- a label

module _ (x v : ℕ) where
  -- in a list
  pub found_listed : (l : List Label) → holds l x v ≡ ltb 0 (occurs x v l)
  unfolding holds
  found_listed = any_above (λ a. one (is_label x v a)) (is_label x v) (λ a. above_one (is_label x v a))

  -- in the list messages of a channel
  pub found_on_way : (c : List Message) → any_of (carries x v) c ≡ ltb 0 (weigh (carried x v) c)
  found_on_way = any_above (carried x v) (carries x v) found
    where
      found : (m : Message) → carries x v m ≡ ltb 0 (carried x v m)
      found (list labels) = found_listed labels
      found (poll q) = refl
      found (reply n) = refl

  -- in the messages that worker `k` sent
  pub found_sent : (k : ℕ) (es : List Event) → any_of (is_sent_with k x v) es ≡ ltb 0 (weigh (sent_by x v k) es)
  found_sent k = any_above (sent_by x v k) (is_sent_with k x v) found
    where
      found : (e : Event) → is_sent_with k x v e ≡ ltb 0 (sent_by x v k e)
      found (sent j labels) = above_where (eqb j k) (holds labels x v) (occurs x v labels) (found_listed labels)
      found (taken i j labels) = refl
      found (treated j a) = refl

  -- in the messages from worker `k` that actor `i` read
  pub found_read : (k i : ℕ) (es : List Event) → any_of (is_read_with k i x v) es ≡ ltb 0 (weigh (read_by x v i k) es)
  found_read k i = any_above (read_by x v i k) (is_read_with k i x v) found
    where
      found : (e : Event) → is_read_with k i x v e ≡ ltb 0 (read_by x v i k e)
      found (taken l j labels) =
          above_where (eqb l i && eqb j k) (holds labels x v) (occurs x v labels) (found_listed labels)
      found (sent j labels) = refl
      found (treated j a) = refl

  -- among the labels that worker `k` treated
  pub found_treated : (k : ℕ) (es : List Event) → any_of (is_treat_of k x v) es ≡ ltb 0 (weigh (treated_by x v k) es)
  found_treated k = any_above (treated_by x v k) (is_treat_of k x v) (λ e. above_one (is_treat_of k x v e))
