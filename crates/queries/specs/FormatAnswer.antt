-- What asking for the format of a port's mode answers: 9 where the table isn't sound, else the format; none where it isn't
-- known. Then document 01's answer for a result of the code.
use Rattle.std.specs.Prelude as Code
use Rattle.std.specs.Prelude.{ℕ, cond, List, Result}
use Rattle.std.proofs.Math.Option.{Option, none, some}
use Rattle.protocol.specs.declared.refusal.Refusal.{Refusal}
use Rattle.rules.specs.Answer.{Answer, refused, accepted, answered}
use Rattle.rules.specs.Facts.{Facts}
use Rattle.rules.specs.Cells.{sound}
use Rattle.rules.specs.Offer.{view_of_cells}
use Rattle.rules.specs.declared.Format.{Format}
use Rattle.queries.specs.Options.{option_of}

abbrev pub format_from : Option Facts → ℕ → Option Format
format_from none mode = none
format_from (some f) mode = f.settings.formats mode

unfoldable pub format_by_cells : List ℕ → ℕ → ℕ → Answer (Option Format)
format_by_cells cells port mode = cond (sound cells) (accepted (format_from (view_of_cells cells port) mode)) (refused 9 0)

abbrev pub known : Code.Option Format → Option Format
known = option_of (λ f. f)

abbrev pub answer_of : Result (Code.Option Format) Refusal → Answer (Option Format)
answer_of = answered known
