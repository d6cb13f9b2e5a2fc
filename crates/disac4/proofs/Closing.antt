-- Closing is safe: an open poll either is ended by a list message, or no list message is on its way to the controller and
-- every worker that replied has nothing left to do.
use Prim.Native.Nat.{ℕ, zero, suc, ◌<◌, ◌≤◌}
use mathlib.Core.Bool.{Bool, true, false, ◌&&◌, false≢true}
use mathlib.Core.List.{List, [], ◌∷◌, ◌++◌}
use mathlib.Core.Logic.{◌⊎◌, inl, inr, ⊎_elim}
use mathlib.Core.Option.{some}
use mathlib.Core.Path.{◌≡◌, refl, sym, ◌∙◌, ap}
use native.Mathlib.Decide.{ℕ_discrete}
use native.Mathlib.Omega.{arith}
use borrow.Author.Tests.{eqb-true}
use lib.Dec.{eqb}
use Rattle.base.proofs.Bools.{decided, clash, and_left, and_right, or_left, or_false_right}
use Rattle.base.proofs.Choice.{update_other, update₂_first, update₂_second}
use Rattle.base.proofs.Sums.{sum_some}
use Rattle.base.proofs.Weight.{weigh}
use Rattle.base.specs.Choice.{update, update₂}
use Rattle.network.specs.Network.{Label}
use Rattle.disac4.proofs.ByKind.{list_message}
use Rattle.disac4.proofs.Channels.{Channels, into, into_take, into_put, into_same, broadcast_to, broadcast_self, keeps_put, keeps_broadcast}
use Rattle.disac4.proofs.Conservation.{Conserved}
use Rattle.disac4.proofs.Empty.{empty}
use Rattle.disac4.proofs.Moves.{Moves, treats, sends, reads, takes_poll, ignores, answers, new_poll_lem, tallies, marks, drops, discards}
use Rattle.disac4.proofs.Replies.{is_reply, replied, list_first, first_append, first_some, first_sent, first_pass, replied_append, reply_first, none_replied, not_current}
use Rattle.disac4.proofs.Typed.{Typed, no_self, not_controller, controller_count}
use Rattle.disac4.specs.Action.{is_empty, ready, current, broadcast, after_treat, after_send, after_list, after_poll, after_drop, after_answer, after_new_poll, after_count, after_mark}
use Rattle.disac4.specs.Event.{Event}
use Rattle.disac4.specs.State.{State, Message, list, poll, reply}
use Rattle.disac4.specs.System.{System, Worker}
use Rattle.disac4.specs.declared.Poll.{Poll}

-- ---- over the timestamp `n`, the marks, the channels, the counts of lists, the work lists and the to-send lists

-- a worker that is not marked will end poll `n`: the controller reads a list message before its reply
pub record Doomed (sys : System) (n : ℕ) (marked : ℕ → Bool) (channel : Channels) : Type 0 where
  pub worker : ℕ
  pub is_worker_lem : Worker sys worker
  pub unmarked : marked worker ≡ false
  pub first : list_first n (channel worker 0) ≡ true

-- worker `k` has not replied
pub record Waiting (n : ℕ) (marked : ℕ → Bool) (channel : Channels) (k : ℕ) : Type 0 where
  pub unmarked : marked k ≡ false
  pub no_reply : replied n (channel k 0) ≡ false

-- worker `k` has nothing to do, and counts as many lists as the controller
pub record AtRest (count : ℕ → ℕ) (work out : ℕ → List Label) (k : ℕ) : Type 0 where
  pub no_work : work k ≡ []
  pub no_send : out k ≡ []
  pub counts : count k ≡ count 0

-- the controller has read every list message, and whoever replied is at rest
pub record Agreed (sys : System) (n : ℕ) (marked : ℕ → Bool) (channel : Channels) (count : ℕ → ℕ) (work out : ℕ → List Label)
    : Type 0 where
  pub all_read : into list_message sys.workers channel 0 ≡ 0
  pub each : (k : ℕ) → Worker sys k → Waiting n marked channel k ⊎ AtRest count work out k

-- what holds of an open poll
abbrev pub Poised : System → ℕ → (ℕ → Bool) → Channels → (ℕ → ℕ) → (ℕ → List Label) → (ℕ → List Label) → Type 0
Poised sys n marked channel count work out = Doomed sys n marked channel ⊎ Agreed sys n marked channel count work out

-- the invariant
abbrev pub Closing : System → State → Type 0
Closing sys st =
    st.controller.poll_open ≡ true
    → Poised sys st.controller.timestamp st.controller.marked st.channel st.list_counter st.work_list st.to_send

module _ {sys : System} {n : ℕ} {marked marked' : ℕ → Bool} {channel channel' : Channels} where
  -- a poll stays doomed while no worker without a mark gets one, nor loses the list message in front
  doomed_map : ((k : ℕ) → Worker sys k → marked k ≡ false → list_first n (channel k 0) ≡ true
      → (marked' k ≡ false) × (list_first n (channel' k 0) ≡ true))
      → Doomed sys n marked channel → Doomed sys n marked' channel'
  doomed_map f x =
      let r = f x.worker x.is_worker_lem x.unmarked x.first in
      record { worker = x.worker; is_worker_lem = x.is_worker_lem; unmarked = r.0; first = r.1 }

  agreed_map : {count count' : ℕ → ℕ} {work work' out out' : ℕ → List Label}
      → into list_message sys.workers channel' 0 ≡ into list_message sys.workers channel 0
      → ((k : ℕ) → Worker sys k → Waiting n marked channel k ⊎ AtRest count work out k
      → Waiting n marked' channel' k ⊎ AtRest count' work' out' k)
      → Agreed sys n marked channel count work out → Agreed sys n marked' channel' count' work' out'
  agreed_map e f x = record { all_read = e ∙ x.all_read; each = λ k w. f k w (x.each k w) }

-- no channel to the controller changes, and no worker that is at rest gets something to do
still : {sys : System} {n : ℕ} {marked : ℕ → Bool} {channel channel' : Channels} {count count' : ℕ → ℕ}
    {work work' out out' : ℕ → List Label}
    → ((k : ℕ) → channel' k 0 ≡ channel k 0)
    → (into list_message sys.workers channel 0 ≡ 0 → (k : ℕ) → Worker sys k → AtRest count work out k
    → AtRest count' work' out' k)
    → Poised sys n marked channel count work out → Poised sys n marked channel' count' work' out'
still {sys} {n} {marked} {channel} {channel'} same f (inl x) = inl (doomed_map (λ k w u e. (u, rw (same k) e)) x)
still {sys} {n} {marked} {channel} {channel'} same f (inr x) =
    inr
    (agreed_map (into_same list_message sys.workers channel channel' 0 same)
    (λ k w. ⊎_elim (λ y. inl (record { unmarked = y.unmarked; no_reply = rw (same k) y.no_reply }))
    (λ y. inr (f x.all_read k w y)))
    x)

-- ---- every move keeps it

module _ (sys : System) (st : State) where
  abbrev n : ℕ
  n = st.controller.timestamp

  abbrev marked : ℕ → Bool
  marked = st.controller.marked

  -- what holds of an open poll with other marks, channels, counts and lists
  abbrev With : (ℕ → Bool) → Channels → (ℕ → ℕ) → (ℕ → List Label) → (ℕ → List Label) → Type 0
  With marked' channel count work out = Poised sys n marked' channel count work out

  -- as it stands
  abbrev Now : Type 0
  Now = With marked st.channel st.list_counter st.work_list st.to_send

  -- a channel to a worker changes
  aside : (j k : ℕ) (l : List Message) → Worker sys k → (i : ℕ) → update₂ st.channel j k l i 0 ≡ st.channel i 0
  aside j k l w i = update₂_second st.channel j k l i 0 (not_controller w)

  -- worker `k` treats a label: it was not at rest
  treating : (k : ℕ) (a : Label) (rest work out : List Label) → st.work_list k ≡ a ∷ rest → Now
      → With marked st.channel st.list_counter (update st.work_list k work) (update st.to_send k out)
  treating k a rest work out e =
      still (λ i. refl)
      (λ r i v x.
      elim (ℕ_discrete i k) [
        | yes same ↦ absurd (let z : ◌≡◌ {A = ℕ} 0 1 = cc (ap st.work_list same, x.no_work) in omega arith)
        | no other ↦ record {
          no_work = update_other st.work_list k work i other ∙ x.no_work;
          no_send = update_other st.to_send k out i other ∙ x.no_send;
          counts = x.counts;
        }
      ])

  -- worker `k` reads a list message: with all read by the controller, it was not at rest
  reading : (es : List Event) → Conserved sys st es
      → (j k m : ℕ) (labels : List Label) (rest : List Message) (work : List Label) → Worker sys k → j ≤ sys.workers
      → st.channel j k ≡ list labels ∷ rest → Now
      → With marked (update₂ st.channel j k rest) (update st.list_counter k m) (update st.work_list k work) st.to_send
  reading es conserved j k m labels rest work w h e =
      still (aside j k rest w)
      (λ r i v x.
      elim (ℕ_discrete i k) [
        | yes same ↦
            absurd
            (omega (
              arith,
              conserved k w.within,
              conserved 0 (omega arith),
              r,
              ap st.list_counter same,
              x.counts,
              into_take list_message sys.workers st.channel j k (list labels) rest h e,
            ))
        | no other ↦ record {
          no_work = update_other st.work_list k work i other ∙ x.no_work;
          no_send = x.no_send;
          counts =
              update_other st.list_counter k m i other
              ∙ (x.counts ∙ sym (controller_count st.list_counter k m w));
        }
      ])

  -- the list message in front stays in every channel
  doomed_still : (d : Channels) → ((j i : ℕ) → list_first n (st.channel j i) ≡ true → list_first n (d j i) ≡ true)
      → Doomed sys n marked st.channel → Doomed sys n marked d
  doomed_still d keeps = doomed_map (λ i v u f. (u, keeps i 0 f))

  -- worker `k` sends: it was not at rest, so it had not replied, and its list message dooms the poll
  sending : (k : ℕ) (count : ℕ → ℕ) (out : ℕ → List Label) → Worker sys k → is_empty (st.to_send k) ≡ false → Now
      → With marked (broadcast sys.workers k (list (st.to_send k)) st.channel) count st.work_list out
  sending k count out w e (inl x) =
      inl
      (doomed_still _
      (keeps_broadcast (λ l. list_first n l ≡ true) sys.workers k (list (st.to_send k)) st.channel
      (λ l. first_append n l (list (st.to_send k) ∷ [])))
      x)
  sending k count out w e (inr x) =
      ⊎_elim
      (λ y.
      inl
      (record {
        worker = k;
        is_worker_lem = w;
        unmarked = y.unmarked;
        first =
            rw (broadcast_to sys.workers k (list (st.to_send k)) st.channel 0 (omega arith) (not_controller w))
            (first_sent n (st.channel k 0) (st.to_send k) y.no_reply);
      }))
      (λ y. clash (ap is_empty y.no_send) e)
      (x.each k w)

  -- the controller takes a message of no account to the poll
  passing : (k : ℕ) (m : Message) (rest : List Message) → Worker sys k → st.channel k 0 ≡ m ∷ rest → list_message m ≡ 0
      → is_reply n m ≡ false → Now
      → With marked (update₂ st.channel k 0 rest) st.list_counter st.work_list st.to_send
  passing k m rest w e no_list no_reply (inl x) =
      inl
      (doomed_still _
      (keeps_put (λ l. list_first n l ≡ true) st.channel k 0 rest
      (λ y. first_pass n m rest no_list no_reply (rw e at y)))
      x)
  passing k m rest w e no_list no_reply (inr x) =
      inr
      (agreed_map
      (omega (arith, into_take list_message sys.workers st.channel k 0 m rest w.within e))
      (λ i v.
      ⊎_elim
      (λ y.
      inl
      (record {
        unmarked = y.unmarked;
        no_reply =
            keeps_put (λ l. replied n l ≡ false) st.channel k 0 rest
            (λ z. or_false_right (is_reply n m) (replied n rest) (rw e at z)) i 0 y.no_reply;
      }))
      inr)
      x)

  -- worker `k`, which is at rest if this is the open poll, replies to it
  answering : (k : ℕ) (m : Message) → Worker sys k → list_message m ≡ 0
      → (is_reply n m ≡ true → AtRest st.list_counter st.work_list st.to_send k) → Now
      → With marked (update₂ st.channel k 0 (st.channel k 0 ++ (m ∷ []))) st.list_counter st.work_list st.to_send
  answering k m w no_list rests (inl x) =
      inl
      (doomed_still _
      (keeps_put (λ l. list_first n l ≡ true) st.channel k 0 _ (first_append n (st.channel k 0) (m ∷ [])))
      x)
  answering k m w no_list rests (inr x) =
      inr
      (agreed_map (omega (arith, into_put list_message sys.workers st.channel k 0 m w.within))
      (λ i v. ⊎_elim (λ y. waiting i y (decided (is_reply n m))) inr) x)
    where
      grown : Channels
      grown = update₂ st.channel k 0 (st.channel k 0 ++ (m ∷ []))

      waiting : (i : ℕ) → Waiting n marked st.channel i → (is_reply n m ≡ true) ⊎ (is_reply n m ≡ false)
          → Waiting n marked grown i ⊎ AtRest st.list_counter st.work_list st.to_send i
      waiting i y (inr r) =
          inl
          (record {
            unmarked = y.unmarked;
            no_reply =
                keeps_put (λ l. replied n l ≡ false) st.channel k 0 _
                (λ z. replied_append n (st.channel k 0) m z r) i 0 y.no_reply;
          })
      waiting i y (inl r) =
          elim (ℕ_discrete i k) [
            | yes same ↦ inr (rw same (rests r))
            | no other ↦ inl (record {
              unmarked = y.unmarked;
              no_reply = rw (update₂_first st.channel k 0 (st.channel k 0 ++ (m ∷ [])) i 0 other) y.no_reply;
            })
          ]

  -- the controller takes a reply to the poll
  marking : (k : ℕ) (m : Message) (rest : List Message) → Worker sys k → st.channel k 0 ≡ m ∷ rest → list_message m ≡ 0
      → is_reply n m ≡ true → Now
      → With (update marked k true) (update₂ st.channel k 0 rest) st.list_counter st.work_list st.to_send
  marking k m rest w e no_list is_reply_lem (inl x) =
      inl
      (doomed_map
      (λ i v u f.
      elim (ℕ_discrete i k) [
        | yes same ↦ clash (rw (same, e) at f) (reply_first n m rest is_reply_lem)
        | no other ↦ (
          update_other marked k true i other ∙ u,
          rw (update₂_first st.channel k 0 rest i 0 other) f,
        )
      ])
      x)
  marking k m rest w e no_list is_reply_lem (inr x) =
      inr
      (agreed_map
      (omega (arith, into_take list_message sys.workers st.channel k 0 m rest w.within e))
      (λ i v.
      ⊎_elim
      (λ y.
      elim (ℕ_discrete i k) [
        | yes same ↦ clash (or_left (replied n rest) is_reply_lem) (rw (same, e) at y.no_reply)
        | no other ↦ inl (record {
          unmarked = update_other marked k true i other ∙ y.unmarked;
          no_reply = rw (update₂_first st.channel k 0 rest i 0 other) y.no_reply;
        })
      ])
      inr)
      x)

  -- the controller sends a poll: it is doomed exactly if a list message is on its way to the controller
  new_poll_expected : Typed sys st → (d : Channels) → ((i : ℕ) → d i 0 ≡ st.channel i 0)
      → Poised sys (suc n) (λ k. false) d st.list_counter st.work_list st.to_send
  new_poll_expected t d same = go (into list_message sys.workers st.channel 0) refl
    where
      none_yet : (i : ℕ) → replied (suc n) (st.channel i 0) ≡ false
      none_yet i = none_replied t (suc n) (omega arith) i 0

      from_worker : (j : ℕ) → 0 < weigh list_message (st.channel j 0) → 0 < j
      from_worker j h =
          elim (ℕ_discrete j 0) [
            | yes same ↦ absurd (omega (arith, rw same at h, ap (weigh list_message) (no_self t 0)))
            | no other ↦ omega arith
          ]

      go : (l : ℕ) → into list_message sys.workers st.channel 0 ≡ l
          → Poised sys (suc n) (λ k. false) d st.list_counter st.work_list st.to_send
      go zero e =
          inr
          (record {
            all_read = into_same list_message sys.workers st.channel d 0 same ∙ e;
            each = λ k w. inl (record { unmarked = refl; no_reply = rw (same k) (none_yet k) });
          })
      go (suc l) e =
          let r = sum_some (suc sys.workers) (λ j. weigh list_message (st.channel j 0)) (omega arith) in
          inl
          (record {
            worker = r.0;
            is_worker_lem = record {
              above = from_worker r.0 r.2;
              within = omega (arith, r.1);
            };
            unmarked = refl;
            first = rw (same r.0) (first_some (suc n) (st.channel r.0 0) (none_yet r.0) r.2);
          })

  -- a worker that can answer the open poll is at rest
  ready_rests : Typed sys st → st.controller.poll_open ≡ true → (k : ℕ) (q : Poll) → st.held k ≡ some q
      → ready k q st ≡ true → eqb q.number.0 n ≡ true → AtRest st.list_counter st.work_list st.to_send k
  unfolding ready
  ready_rests t o k q e r same =
      let no_work : Bool = is_empty (st.work_list k) in
      let no_send : Bool = is_empty (st.to_send k) in
      let counts : Bool = eqb (st.list_counter k) q.wanted.0 in
      let both : (no_work && no_send) ≡ true = and_left (no_work && no_send) counts r in
      record {
        no_work = empty (st.work_list k) (and_left no_work no_send both);
        no_send = empty (st.to_send k) (and_right no_work no_send both);
        counts =
            eqb-true (st.list_counter k) q.wanted.0 (and_right (no_work && no_send) counts r)
            ∙ (t.polls k q e).wants o (eqb-true q.number.0 n same);
      }

  -- every move keeps what holds of an open poll
  pub closing_move : {s : State} {new : List Event} (es : List Event) → Typed sys st → Conserved sys st es → Closing sys st
      → Moves sys st s new → Closing sys s
  unfolding ready current after_treat after_send after_list after_poll after_drop after_answer after_new_poll after_count after_mark
  closing_move es t conserved g (treats k a rest w e) o = treating k a rest _ _ e (g o)
  closing_move es t conserved g (sends k w e) o = sending k _ _ w e (g o)
  closing_move es t conserved g (reads j k labels rest w h d e) o = reading es conserved j k _ labels rest _ w h e (g o)
  closing_move es t conserved g (takes_poll j k q rest w h d e) o = still (aside j k rest w) (λ r i v x. x) (g o)
  closing_move es t conserved g (ignores j k i rest w h d e) o = still (aside j k rest w) (λ r i v x. x) (g o)
  closing_move es t conserved g (answers k q w e r) o =
      answering k (reply q.number) w refl (ready_rests t o k q e r) (g o)
  closing_move es t conserved g (new_poll_lem e) o = new_poll_expected t _ (λ i. broadcast_self sys.workers 0 _ st.channel i)
  closing_move es t conserved g (tallies k labels rest w e) o = absurd (false≢true o)
  closing_move es t conserved g (marks k i rest w e r) o =
      marking k (reply i) rest w e refl (and_right st.controller.poll_open (eqb i.0 n) r) (g o)
  closing_move es t conserved g (drops k i rest w e r) o =
      passing k (reply i) rest w e refl (not_current st i o r) (g o)
  closing_move es t conserved g (discards k q rest w e) o = passing k (poll q) rest w e refl refl (g o)
