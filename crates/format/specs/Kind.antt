-- The kinds of a rule, and the number that a plan's bytes have for each.
use Rattle.std.specs.Prelude.{ℕ, ◌≡◌, ◌<◌, Option, MatchOption}
use Rattle.format.specs.declared.kind.Kind.{Kind}
use Rattle.format.specs.declared.kind.Kind.TheVariants.{Table, Limit, SetLimit}

-- the number of each kind
abbrev pub number_of : Kind → ℕ
number_of Table = 0
number_of Limit = 1
number_of SetLimit = 2

-- the kind that has this number, or none where the number is above them all
abbrev pub Numbered : ℕ → Option Kind → Type 0
Numbered n o = MatchOption o (number_of SetLimit < n) (λ kind. number_of kind ≡ n)
