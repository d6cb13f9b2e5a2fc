-- Turns played one after the other, by any step: it gives the next state, or nothing where the turn is idle.
use Rattle.std.specs.Prelude.{ℕ, ◌+◌, Bool, true, false, ◌&&◌, List, [], ◌∷◌}
use Rattle.std.proofs.Math.Option.{Option, none, some, get_or}
use Rattle.base.specs.Below.{one}

-- there is a result
abbrev pub is_some {ℓ} : {A : Type ℓ} → Option A → Bool
is_some none = false
is_some (some a) = true

module _ {S T : Type 0} (step : S → T → Option S) where
  -- the state after a turn
  unfoldable pub after_by : S → T → S
  after_by s t = get_or (step s t) s

  -- the state after a list of turns
  unfoldable pub play_by : S → List T → S
  play_by s [] = s
  play_by s (t ∷ ts) = play_by (after_by s t) ts

  -- what each turn of a list gives in the state before it, joined in the turns' order
  unfoldable pub gather_by : {M : Type 0} → M → (M → M → M) → (S → T → M) → S → List T → M
  gather_by nil join at s [] = nil
  gather_by nil join at s (t ∷ ts) = join (at s t) (gather_by nil join at (after_by s t) ts)

  -- how many turns of a list pass a test and change something
  unfoldable pub count_by : (T → Bool) → S → List T → ℕ
  count_by test = gather_by 0 ◌+◌ (λ s t. one (test t && is_some (step s t)))
