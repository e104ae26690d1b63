use native.Mathlib.Omega.{arith}
use Rattle.soundness.proofs.FactsFit.{settings_sound}
use Rattle.soundness.proofs.record.settings_fit.Goals as goal

pub returns-then-state_fits : goal.returns-then-state_fits
returns-then-state_fits c = rw (← settings_sound c.args.place.now c.told-place) (grind arith)

pub returns-else-state_fits : goal.returns-else-state_fits
returns-else-state_fits c = rw (← settings_sound c.args.place.now c.told-place) (grind arith)
