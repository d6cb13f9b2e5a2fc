-- How deletions lower the number of loaded labels in the domains.
use Prim.Native.Nat.{ℕ, zero, suc, ◌+◌, ◌<◌, ◌≤◌}
use mathlib.Core.Bool.{Bool, true, ◌&&◌, not}
use mathlib.Core.Path.{◌≡◌, refl, sym, ◌∙◌, ap}
use native.Mathlib.Nat.{not-suc-le-zero}
use native.Mathlib.Omega.{arith}
use borrow.Author.Tests.{eq-eqb, ne_eqb}
use lib.Dec.{eqb}
use lib.ListN.{length}
use Rattle.base.proofs.Bools.{and_left, and_right, and_false_left}
use Rattle.base.proofs.Sums.{sum_ext, sum_single, sum_swap, one_split}
use Rattle.base.specs.Below.{one}
use Rattle.network.proofs.DomainSize.{size_split}
use Rattle.network.proofs.Labels.{labels_length, label_count_lem}
use Rattle.network.proofs.Loaded.{loaded_intro}
use Rattle.network.specs.Network.{Domains, Label, label_count, supports, domain_size}
use Rattle.disac4.proofs.Workers.{over_workers}
use Rattle.disac4.specs.Action.{loses, lowered, deletes, deletions}
use Rattle.disac4.specs.Loading.{unsupported, loaded_deletions, load}
use Rattle.disac4.specs.State.{State}
use Rattle.disac4.specs.System.{System, Worker}

-- only labels in the domains are deleted
deletes_listed : (sys : System) (k : ℕ) (a : Label) (st : State) (x v : ℕ) → deletes sys k a st x v ≡ true
    → st.domain x v ≡ true
unfolding deletes loses
deletes_listed sys k a st x v e =
    and_right (eqb (sys.owner x) k) (st.domain x v)
    (and_left (eqb (sys.owner x) k && st.domain x v) (supports sys.net x v a.variable a.value)
    (and_left (loses sys k a st x v) (eqb (lowered sys k a st x v a.variable) 0) e))

-- the deletions of a treated label leave the domains
pub treat_size : (sys : System) (k : ℕ) (a : Label) (st : State)
    → domain_size sys.net (λ x v. st.domain x v && not (deletes sys k a st x v)) + length (deletions sys k a st)
    ≡ domain_size sys.net st.domain
unfolding deletions domain_size
treat_size sys k a st =
    let left : Domains = λ x v. st.domain x v && not (deletes sys k a st x v) in
    ap (λ n. domain_size sys.net left + n) (labels_length sys.net (deletes sys k a st))
    ∙ size_split sys.net st.domain left (deletes sys k a st)
    (λ x v h i. one_split (st.domain x v) (deletes sys k a st x v) (deletes_listed sys k a st x v))

-- of the workers, one owns the label
one_owner : (p k : ℕ) (b : Bool) → 0 < k → k ≤ p → over_workers p (λ i. one (eqb k i && b)) ≡ one b
one_owner p zero b a h = absurd (not-suc-le-zero a)
one_owner p (suc k) b a h =
    sum_single p (λ i. one (eqb (suc k) (suc i) && b)) k h
    (λ i j n. ap one (and_false_left b (ne_eqb (suc k) (suc i) (λ q. omega arith))))
    ∙ ap (λ x. one (x && b)) (eq-eqb (suc k) (suc k) refl)

-- each label is counted at its owner alone
size_by_owner : (sys : System) → ((x : ℕ) → x < sys.net.variables → Worker sys (sys.owner x)) → (t : Domains)
    → over_workers sys.workers (λ k. domain_size sys.net (λ x v. eqb (sys.owner x) k && t x v))
    ≡ domain_size sys.net t
unfolding domain_size
size_by_owner sys owned t =
    sum_swap sys.workers sys.net.variables _
    ∙ sum_ext sys.net.variables _ _ (λ x h.
    sum_swap sys.workers (sys.net.size x) _
    ∙ sum_ext (sys.net.size x) _ _ (λ v i.
    one_owner sys.workers (sys.owner x) (t x v) (owned x h).above (owned x h).within))

-- every loaded label is in its domain or on a list
pub load_size : (sys : System)
    → domain_size sys.net (load sys).domain + domain_size sys.net (unsupported sys.net) ≡ label_count sys.net
unfolding load domain_size
load_size sys =
    size_split sys.net (λ x v. true) (load sys).domain (unsupported sys.net)
    (λ x v h i.
    rw (loaded_intro sys.net x v h i) (one_split true (unsupported sys.net x v) (λ e. refl)))
    ∙ (sym (labels_length sys.net (λ x v. true)) ∙ label_count_lem sys.net)

-- every unsupported label is on one worker's list
pub deletions_loaded : (sys : System) → ((x : ℕ) → x < sys.net.variables → Worker sys (sys.owner x))
    → over_workers sys.workers (λ k. length (loaded_deletions sys k)) ≡ domain_size sys.net (unsupported sys.net)
unfolding loaded_deletions domain_size
deletions_loaded sys owned =
    sum_ext sys.workers _ _ (λ i h.
    labels_length sys.net (λ x v. eqb (sys.owner x) (suc i) && unsupported sys.net x v))
    ∙ size_by_owner sys owned (unsupported sys.net)
