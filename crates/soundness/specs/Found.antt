-- What a search for a place answers.
use Rattle.std.specs.Prelude.{ℕ, ◌≡◌, ◌<◌, Option, Some, None}
use Rattle.rules.specs.Layout.{places}

-- a place of the table; none where the number of places is given
abbrev pub Finds : ℕ → Option ℕ → Type 0
Finds n None = places ≡ n
Finds n (Some i) = (i < places) × (i ≡ n)
