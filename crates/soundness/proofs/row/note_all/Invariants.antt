use Rattle.soundness.specs.Row.{Indexed}
use Rattle.soundness.proofs.row.note_all.Given as goal

abbrev pub invariant-loop-i : goal.invariant-loop-i
invariant-loop-i l = Indexed l.table l.row l.i
