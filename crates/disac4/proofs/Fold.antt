-- Laws of turns played one after the other, by any step.
use Prim.Native.Nat.{ℕ, ◌+◌}
use mathlib.Core.Bool.{Bool, true, false, ◌&&◌, false≢true}
use mathlib.Core.List.{List, [], ◌∷◌, ◌++◌}
use mathlib.Core.Option.{Option, none, some, map, get_or}
use mathlib.Core.Path.{◌≡◌, refl, sym}
use native.Mathlib.Nat.{add-zero, zero-add, add_assoc}
use native.Mathlib.Omega.{arith}
use Rattle.base.specs.Below.{one}
use Rattle.disac4.specs.Fold.{is_some, after_by, play_by, gather_by, count_by}

-- a result seen through a map is there where the result is
pub some_map {ℓ κ} : {A : Type ℓ} {B : Type κ} (f : A → B) (o : Option A) → is_some (map f o) ≡ is_some o
some_map f none = refl
some_map f (some a) = refl

-- and stands in for nothing as the result does
pub get_d_map {ℓ κ} : {A : Type ℓ} {B : Type κ} (f : A → B) (o : Option A) (a : A) → get_or (map f o) (f a) ≡ f (get_or o a)
get_d_map f none a = refl
get_d_map f (some b) a = refl

module _ {S T : Type 0} (step : S → T → Option S) where
  -- ---- one turn

  -- an idle turn leaves the state as it is
  pub after_idle : (s : S) (t : T) → step s t ≡ none → after_by step s t ≡ s
  unfolding after_by
  after_idle s t e = rw e

  -- any other leads to the next state
  pub after_move : (s : S) (t : T) (s' : S) → step s t ≡ some s' → after_by step s t ≡ s'
  unfolding after_by
  after_move s t s' e = rw e

  -- what holds of the state before an idle turn, and of the next state where it is not idle, holds of the state after it
  by_step : (P : S → Bool → Type 0) (s : S) (t : T) → (step s t ≡ none → P s false)
      → ((s' : S) → step s t ≡ some s' → P s' true) → P (after_by step s t) (is_some (step s t))
  unfolding after_by
  by_step P s t idle moves = go (step s t) refl
    where
      go : (o : Option S) → step s t ≡ o → P (get_or o s) (is_some o)
      go none e = idle e
      go (some s') e = moves s' e

  -- where the state before has something, and the next state too, the state after has it
  pub after_keeps : (P : S → Type 0) (s : S) (t : T) → P s → ((s' : S) → step s t ≡ some s' → P s') → P (after_by step s t)
  after_keeps P s t p moves = by_step (λ s' c. P s') s t (λ e. p) moves

  -- a turn that changes nothing leaves the state as it is
  pub after_same : (s : S) (t : T) → is_some (step s t) ≡ false → after_by step s t ≡ s
  after_same s t = by_step (λ s' c. c ≡ false → s' ≡ s) s t (λ e c. refl) (λ s' e c. absurd (false≢true (sym c)))

  -- ---- two lists of turns, one after the other

  pub play_append : (ts us : List T) (s : S) → play_by step s (ts ++ us) ≡ play_by step (play_by step s ts) us
  unfolding play_by
  play_append [] us s = refl
  play_append (t ∷ ts) us s = play_append ts us (after_by step s t)

  count_append : (test : T → Bool) (ts us : List T) (s : S)
      → count_by step test s (ts ++ us) ≡ count_by step test s ts + count_by step test (play_by step s ts) us
  unfolding play_by count_by gather_by
  count_append test [] us s = omega arith
  count_append test (t ∷ ts) us s = omega (arith, count_append test ts us (after_by step s t))

  -- ---- one turn more

  pub play_next : (ts : List T) (t : T) (s : S) → play_by step s (ts ++ (t ∷ [])) ≡ after_by step (play_by step s ts) t
  unfolding play_by
  play_next ts t s = play_append ts (t ∷ []) s

  pub count_next : (test : T → Bool) (ts : List T) (t : T) (s : S)
      → count_by step test s (ts ++ (t ∷ [])) ≡ count_by step test s ts + one (test t && is_some (step (play_by step s ts) t))
  unfolding count_by gather_by
  count_next test ts t s = omega (arith, count_append test ts (t ∷ []) s)

  -- ---- what every turn keeps

  -- of the state and of what was gathered so far
  pub gather_keeps : {M : Type 0} (nil : M) (join : M → M → M) → ((a : M) → join a nil ≡ a)
      → ((a b c : M) → join (join a b) c ≡ join a (join b c)) → (at : S → T → M) (I : S → M → Type 0)
      → ((s : S) (a : M) (t : T) → I s a → I (after_by step s t) (join a (at s t)))
      → (ts : List T) (s : S) (a : M) → I s a → I (play_by step s ts) (join a (gather_by step nil join at s ts))
  unfolding play_by gather_by
  gather_keeps nil join unit assoc at I keeps [] s a i = rw (unit a) i
  gather_keeps nil join unit assoc at I keeps (t ∷ ts) s a i =
      rw (← assoc a (at s t) (gather_by step nil join at (after_by step s t) ts))
      (gather_keeps nil join unit assoc at I keeps ts (after_by step s t) (join a (at s t)) (keeps s a t i))

  -- of the state and of how many turns have counted so far
  pub count_keeps : (test : T → Bool) (I : S → ℕ → Type 0)
      → ((s : S) (n : ℕ) (t : T) → I s n → I (after_by step s t) (n + one (test t && is_some (step s t))))
      → (ts : List T) (s : S) → I s 0 → I (play_by step s ts) (count_by step test s ts)
  unfolding count_by
  count_keeps test I keeps ts s i =
      rw zero-add at (gather_keeps 0 ◌+◌ add-zero add_assoc (λ s t. one (test t && is_some (step s t))) I keeps ts s 0 i)

  -- of the state alone
  pub play_keeps : (P : S → Type 0) → ((s : S) (t : T) → P s → P (after_by step s t)) → (ts : List T) (s : S) → P s
      → P (play_by step s ts)
  play_keeps P keeps = count_keeps (λ t. true) (λ s n. P s) (λ s n t p. keeps s t p)

  -- a state in which every turn is idle stays
  pub idle_stays : (s : S) → ((t : T) → step s t ≡ none) → (ts : List T) → play_by step s ts ≡ s
  idle_stays s idle ts = play_keeps (λ s'. s' ≡ s) (λ s' t e. rw e (after_idle s t (idle t))) ts s refl
