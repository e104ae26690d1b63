use mathlib.Core.Path.{◌≡◌}
use Rattle.rules.specs.Cells.{sound}
use Rattle.soundness.proofs.Sound.{sound_from}
use Rattle.soundness.proofs.is_sound.Given as goal

abbrev pub invariant-loop-i : goal.invariant-loop-i
invariant-loop-i l = sound l.table ≡ sound_from l.table l.i
