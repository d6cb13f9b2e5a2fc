-- A machine as the state that it stands for, and a state by its parts.
use Prim.Native.Nat.{ℕ, ◌+◌, ◌-◌, ◌<◌}
use mathlib.Core.Bool.{Bool, true, false, cond, not}
use mathlib.Core.Option.{Option, none, some, map}
use mathlib.Core.Path.{◌≡◌, refl, ◌∙◌, ap, fun_ext}
use native.Mathlib.Omega.{arith}
use borrow.Author.Tests.{le-leb, lt-leb}
use Rattle.base.proofs.Choice.{cond_true, cond_false}
use Rattle.disac4.specs.State.{State, list, reply}
use Rattle.cells.specs.Memory.{Mem}
pub use Rattle.refinement.specs.Run.{view_of}
use Rattle.cells.specs.Layout.{LISTMARK}
use Rattle.cells.specs.View.{labels_between, list_at, message_of, poll_at, counter_row, view_counter, view_lists, view}

-- Named on an `unfolding` line, this opens the view down to the channels' contents.
unfoldable pub view_parts : Unit {0}
unfolding view labels_between poll_at counter_row view_lists view_counter
view_parts = tt

-- two states that agree in every part
pub record Same (s s' : State) : Type 0 where
  pub domain : (x v : ℕ) → s.domain x v ≡ s'.domain x v
  pub counter : (x v y : ℕ) → s.counter x v y ≡ s'.counter x v y
  pub work_list : (k : ℕ) → s.work_list k ≡ s'.work_list k
  pub to_send : (k : ℕ) → s.to_send k ≡ s'.to_send k
  pub held : (k : ℕ) → s.held k ≡ s'.held k
  pub list_counter : (k : ℕ) → s.list_counter k ≡ s'.list_counter k
  pub channel : (j k : ℕ) → s.channel j k ≡ s'.channel j k
  pub controller : s.controller ≡ s'.controller

-- they are one state
pub same_state : (s s' : State) → Same s s' → s ≡ s'
same_state s s' e = λ i. record {
  domain = fun_ext (λ x. fun_ext (e.domain x)) i;
  counter = fun_ext (λ x. fun_ext (λ v. fun_ext (e.counter x v))) i;
  work_list = fun_ext e.work_list i;
  to_send = fun_ext e.to_send i;
  held = fun_ext e.held i;
  list_counter = fun_ext e.list_counter i;
  channel = fun_ext (λ j. fun_ext (e.channel j)) i;
  controller = e.controller i;
}

-- a choice between two results, part by part
pub map_cond {ℓ κ} : {A : Type ℓ} {B : Type κ} (f : A → B) (b : Bool) (x y : Option A) (x' y' : Option B)
    → (b ≡ true → map f x ≡ x') → (b ≡ false → map f y ≡ y') → map f (cond b x y) ≡ cond b x' y'
map_cond f true x y x' y' p q = p refl
map_cond f false x y x' y' p q = q refl

-- an action in memory, by its test and its result: those of an action that goes where a test holds
pub map_when {ℓ κ} : {A : Type ℓ} {B : Type κ} (f : A → B) {b c : Bool} {x : A} {y : B} → b ≡ c → f x ≡ y
    → map f (cond b (some x) none) ≡ cond c (some y) none
map_when f {b} p e = rw (← p) (map_cond f b _ _ _ _ (λ h. ap some e) (λ h. refl))

-- or where it fails
pub map_unless {ℓ κ} : {A : Type ℓ} {B : Type κ} (f : A → B) (c : Bool) {b : Bool} {x : A} {y : B} → b ≡ not c → f x ≡ y
    → map f (cond b (some x) none) ≡ cond c none (some y)
map_unless f true p e = rw p
map_unless f false p e = rw p (ap some e)

-- a number from the mark on stands for a list message
pub list_of_number : (m : Mem) (i c n : ℕ) → c ≡ LISTMARK + n → message_of m i c ≡ list (list_at m i n)
unfolding message_of
list_of_number m i c n e =
    let d : c - LISTMARK ≡ n = omega arith in
    cond_true (list (list_at m i (c - LISTMARK))) (reply (record { 0 = c })) (le-leb LISTMARK c (omega arith))
    ∙ ap (λ (k : ℕ). list (list_at m i k)) d

-- any other for a reply
pub reply_of_number : (m : Mem) (i c : ℕ) → c < LISTMARK → message_of m i c ≡ reply (record { 0 = c })
unfolding message_of
reply_of_number m i c l = cond_false (list (list_at m i (c - LISTMARK))) (reply (record { 0 = c })) (lt-leb LISTMARK c l)
