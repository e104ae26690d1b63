-- A message that reading accepts, judged by the cells of a table.
use Rattle.std.specs.Prelude.{ℕ, List}
use Rattle.rules.specs.Answer.{Answer, accepted, unless_refused}
use Rattle.rules.specs.Effect.{Event, event}
use Rattle.rules.specs.Judge.{judge}
use Rattle.rules.specs.OpenBytes.{opens_in}
use Rattle.rules.specs.Offer.{ports_of_cells}
use Rattle.rules.specs.declared.Effect.{Effect}

-- its refusal, 0 where it is accepted, by its bytes
abbrev pub refusal_by : List ℕ → Effect → List ℕ → ℕ
refusal_by cells e s = judge (ports_of_cells cells) e (opens_in e s)

abbrev pub judged_by : List ℕ → Effect → List ℕ → Answer Event
judged_by cells e s = unless_refused (refusal_by cells e s) (accepted (event e (opens_in e s)))
