-- A worker's channel to the controller, as the controller will read it while a poll is open: does a reply to it stand there,
-- and does a list message stand before any such reply.
use Prim.Native.Nat.{ℕ, ◌<◌}
use mathlib.Core.Bool.{Bool, true, false, ◌&&◌, not, false≢true}
use mathlib.Core.List.{List, [], ◌∷◌, ◌++◌}
use mathlib.Core.Logic.{⊎_elim}
use mathlib.Core.Path.{◌≡◌, refl}
use native.Mathlib.Nat.{not-suc-le-zero}
use native.Mathlib.Omega.{arith}
use borrow.Author.Tests.{ne_eqb}
use lib.Dec.{eqb}
use Rattle.base.proofs.Bools.{clash, refuted, or_false, or_false_left, or_false_right, and_left, and_right, and_intro, and-false, and_false_left, not_of, not_of_true}
use Rattle.base.proofs.Each.{Each}
use Rattle.base.proofs.Members.{any_of_split}
use Rattle.base.proofs.Weight.{weigh, weigh_append}
use Rattle.base.specs.Choice.{any_of}
use Rattle.network.specs.Network.{Label}
use Rattle.disac4.proofs.ByKind.{list_message}
use Rattle.disac4.proofs.Typed.{Typed, Fits}
use Rattle.disac4.specs.Action.{current}
use Rattle.disac4.specs.State.{State, Message, list, poll, reply}
use Rattle.disac4.specs.System.{System}
use Rattle.disac4.specs.declared.Timestamp.{Timestamp}

-- a reply to poll `n`
abbrev pub is_reply : ℕ → Message → Bool
is_reply n (list labels) = false
is_reply n (poll q) = false
is_reply n (reply m) = eqb m.0 n

-- one of the messages is a reply to poll `n`
abbrev pub replied : ℕ → List Message → Bool
replied n l = any_of (is_reply n) l

-- of the list messages and the replies to poll `n`, a list message comes first
abbrev pub list_first : ℕ → List Message → Bool
list_first n [] = false
list_first n (list labels ∷ l) = true
list_first n (poll q ∷ l) = list_first n l
list_first n (reply m ∷ l) = not (eqb m.0 n) && list_first n l

module _ (n : ℕ) where
  -- messages behind it change nothing
  pub first_append : (l m : List Message) → list_first n l ≡ true → list_first n (l ++ m) ≡ true
  first_append [] m e = absurd (false≢true e)
  first_append (list labels ∷ l) m e = refl
  first_append (poll q ∷ l) m e = first_append l m e
  first_append (reply i ∷ l) m e =
      and_intro (and_left (not (eqb i.0 n)) _ e) (first_append l m (and_right (not (eqb i.0 n)) _ e))

  -- without a reply, a list message comes first as soon as there is one
  pub first_some : (l : List Message) → replied n l ≡ false → 0 < weigh list_message l → list_first n l ≡ true
  first_some [] r h = absurd (not-suc-le-zero h)
  first_some (list labels ∷ l) r h = refl
  first_some (poll q ∷ l) r h = first_some l r (omega arith)
  first_some (reply m ∷ l) r h =
      and_intro (not_of (or_false_left (eqb m.0 n) _ r)) (first_some l (or_false_right (eqb m.0 n) _ r) (omega arith))

  -- a message that is no reply to the poll adds none
  pub replied_append : (l : List Message) (m : Message) → replied n l ≡ false → is_reply n m ≡ false
      → replied n (l ++ (m ∷ [])) ≡ false
  replied_append l m r e =
      refuted _ (λ x. ⊎_elim (λ y. clash y r) (λ y. clash y (or_false e refl)) (any_of_split (is_reply n) l (m ∷ []) x))

  -- so with a list message behind it a list message comes first
  pub first_sent : (l : List Message) (labels : List Label) → replied n l ≡ false
      → list_first n (l ++ (list labels ∷ [])) ≡ true
  first_sent l labels r =
      first_some (l ++ (list labels ∷ [])) (replied_append l (list labels) r refl)
      (omega (arith, weigh_append list_message l (list labels ∷ [])))

  -- a message that is neither a list message nor a reply to the poll is of no account
  pub first_pass : (m : Message) (l : List Message) → list_message m ≡ 0 → is_reply n m ≡ false
      → list_first n (m ∷ l) ≡ true → list_first n l ≡ true
  first_pass (list labels) l i r e = absurd (omega arith)
  first_pass (poll q) l i r e = e
  first_pass (reply k) l i r e = and_right (not (eqb k.0 n)) _ e

  -- a reply to the poll comes first itself
  pub reply_first : (m : Message) (l : List Message) → is_reply n m ≡ true → list_first n (m ∷ l) ≡ false
  reply_first (list labels) l r = absurd (false≢true r)
  reply_first (poll q) l r = absurd (false≢true r)
  reply_first (reply k) l r = and_false_left (list_first n l) (not_of_true r)

-- no reply to a poll that is not yet sent is on its way
pub none_replied : {sys : System} {st : State} → Typed sys st → (n : ℕ) → st.controller.timestamp < n → (j k : ℕ)
    → replied n (st.channel j k) ≡ false
none_replied {sys} {st} t n later j k = go (st.channel j k) (t.messages j k)
  where
    go : (l : List Message)
        → Each (Fits sys.workers st.controller.timestamp st.controller.poll_open (st.list_counter 0) j k) l
        → replied n l ≡ false
    go [] h = refl
    go (list labels ∷ l) h = go l h.1
    go (poll q ∷ l) h = go l h.1
    go (reply m ∷ l) h = or_false (ne_eqb m.0 n (λ e. omega (arith, h.0.kind.1))) (go l h.1)

-- what the controller drops is no reply to the open poll
pub not_current : (st : State) (m : Timestamp) → st.controller.poll_open ≡ true → current m st ≡ false
    → is_reply st.controller.timestamp (reply m) ≡ false
unfolding current
not_current st m o e =
    ⊎_elim (λ x. clash o x) (λ x. x) (and-false st.controller.poll_open (eqb m.0 st.controller.timestamp) e)
