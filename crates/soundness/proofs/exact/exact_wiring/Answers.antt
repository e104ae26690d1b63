use Rattle.soundness.specs.Soundness.{exact_wiring}
use Rattle.soundness.proofs.ExactCells.{same}
use borrow.Author.Rules.{rules}
use Rattle.soundness.proofs.exact.exact_wiring.Goals as goal

pub returns-in-1 : goal.returns-in-1
unfolding exact_wiring
returns-in-1 c = rw c.in-1.is

pub returns-in-2 : goal.returns-in-2
unfolding exact_wiring
returns-in-2 c = rw (c.in-2.is, same)

pub returns-in-3 : goal.returns-in-3
unfolding exact_wiring
returns-in-3 c = simp (c.in-3.is, same)

pub returns-in_default : goal.returns-in_default
unfolding exact_wiring
returns-in_default c = search rules
