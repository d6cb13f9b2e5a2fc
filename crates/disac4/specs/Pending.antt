-- A deletion (strike) that is still to be sent, read or treated, as the state shows it; and the claim that it is unsent, unread or
-- untreated exactly then. `proofs/Pending.antt` proves it for every list of turns.
use Rattle.std.specs.Prelude.{ℕ, suc, Bool, false, ◌&&◌, ◌||◌, not, List, ◌≡◌, eqb}
use Rattle.base.specs.Below.{any_below}
use Rattle.base.specs.Choice.{any_of}
use Rattle.disac4.specs.Event.{events, holds, unsent, unread, untreated}
use Rattle.disac4.specs.Loading.{load}
use Rattle.disac4.specs.Report.{final}
use Rattle.disac4.specs.State.{State, Message, list, poll, reply}
use Rattle.disac4.specs.System.{System}
use Rattle.disac4.specs.Turn.{Turn}

-- Of a deleted label:

-- its owner has still to send it: it stands on the owner's to-send list (out list)
unfoldable pub to_be_sent : System → State → ℕ → ℕ → Bool
to_be_sent sys st x v = holds (st.to_send (sys.owner x)) x v

-- a list message that holds label `v` of `x`
abbrev pub carries : ℕ → ℕ → Message → Bool
carries x v (list labels) = holds labels x v
carries x v (poll q) = false
carries x v (reply n) = false

-- it is on its way to actor `i`: a list message in the channel (mailbox) from its owner to `i` holds it
unfoldable pub on_the_way : System → State → ℕ → ℕ → ℕ → Bool
on_the_way sys st i x v = any_of (carries x v) (st.channel (sys.owner x) i)

-- actor `i`, another than its owner, has still to read it: it is still to be sent, or on its way to `i`
unfoldable pub to_be_read : System → State → ℕ → ℕ → ℕ → Bool
to_be_read sys st i x v = not (eqb i (sys.owner x)) && (to_be_sent sys st x v || on_the_way sys st i x v)

-- worker `k` has still to treat it: it stands on the work list of `k`, or `k` has still to read it
unfoldable pub to_be_treated : System → State → ℕ → ℕ → ℕ → Bool
to_be_treated sys st k x v = holds (st.work_list k) x v || to_be_read sys st k x v

-- after these turns what the events say of a deleted label is what the state shows of it
pub record Pinned (sys : System) (ts : List Turn) (x v : ℕ) : Type 0 where
  -- unsent exactly while its owner has still to send it
  pub unsent_exactly : unsent sys (events sys (load sys) ts) x v ≡ to_be_sent sys (final sys ts) x v
  -- unread exactly while some actor, another worker or the controller, has still to read it
  pub unread_exactly : unread sys (events sys (load sys) ts) x v
      ≡ any_below (suc sys.workers) (λ i. to_be_read sys (final sys ts) i x v)
  -- untreated exactly while some worker, its owner too, has still to treat it
  pub untreated_exactly : untreated sys (events sys (load sys) ts) x v
      ≡ any_below sys.workers (λ i. to_be_treated sys (final sys ts) (suc i) x v)
