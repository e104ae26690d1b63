use mathlib.Core.Path.{◌≡◌}
use mathlib.Core.Bool.{◌&&◌}
use lib.ListN.{drop}
use Rattle.soundness.specs.Soundness.{all_zeros}
use Rattle.soundness.proofs.exact.are_zeros.Given as goal

abbrev pub invariant-loop-cell : goal.invariant-loop-cell
invariant-loop-cell l = all_zeros l.cells ≡ (l.zeros && all_zeros (drop l.cell-index l.cells))
