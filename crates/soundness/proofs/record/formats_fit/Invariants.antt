use mathlib.Core.Path.{◌≡◌}
use mathlib.Core.Bool.{◌&&◌}
use Rattle.soundness.specs.Soundness.{formats_in_fit}
use Rattle.soundness.proofs.FactsFit.{formats_below}
use Rattle.soundness.proofs.record.formats_fit.Given as goal

abbrev pub invariant-loop-mode : goal.invariant-loop-mode
invariant-loop-mode l = formats_in_fit l.place ≡ (l.fit && formats_below l.place l.mode)
