use mathlib.Core.Path.{ap, ◌∙◌}
use Rattle.rules.specs.Cells.{sound}
use Rattle.rules.proofs.Laws.{empty_sound}
use Rattle.logread.proofs.reading.Printer.new.Goals as goal

pub invariant_of-result : goal.invariant_of-result
invariant_of-result g c = record { is_sound = ap sound c.empty.ensures.1 ∙ empty_sound }
