-- What soundness asks of a record's wiring, by the tests of its cells.
use Prim.Native.Nat.{ℕ}
use denote.Ref.{Bor}
use mathlib.Core.Path.{◌≡◌, sym, ◌∙◌, ap}
use mathlib.Core.Bool.{Bool, false}
use mathlib.Core.List.{List}
use mathlib.Core.Option.{Option, none, some}
use Rattle.std.specs.Prelude as Prelude
use Rattle.std.specs.Prelude.{MatchOption}
use Rattle.rules.specs.Facts.{Facts}
use Rattle.rules.specs.Cells.{record_at}

-- what is asked of a port that was looked for, by its record
module _ (look : Option Facts → Bool) (view : Option Facts) (nowhere : look none ≡ false) (b : Bool) (Answers : Bor (List ℕ) → Type 0) where
  pub looked : (r : Prelude.Option (Bor (List ℕ))) → MatchOption r (view ≡ none) (λ place. view ≡ some (record_at place.now).facts) → MatchOption r (b ≡ false) Answers
      → ((place : Bor (List ℕ)) → Answers place → b ≡ look (some (record_at place.now).facts)) → b ≡ look view
  looked Prelude.None is e there = e ∙ sym (ap look is ∙ nowhere)
  looked (Prelude.Some place) is e there = there place e ∙ sym (ap look is)
