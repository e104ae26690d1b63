-- The examples of what one port is told hold, by computing. Their name is the first of the crate's proofs, so that a wrong change of a
-- table is found here, by a number.
use mathlib.Core.Path.{refl}
use Rattle.rules.specs.Learn.{learn}
use Rattle.rules.specs.Table.{apply}
use Rattle.rules.specs.AloneExamples.{AloneExamplesHold}

pub alone_examples_hold : AloneExamplesHold
unfolding apply learn
alone_examples_hold = (refl, refl, refl, refl, refl, refl, refl)
