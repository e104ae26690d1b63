use lib.Dec.{eqb}
use lib.ListN.{get_or}
use Rattle.soundness.proofs.Loops.{joins, joined}
use Rattle.soundness.proofs.Lists.{zeros_next, zeros_done}
use Rattle.soundness.proofs.exact.are_zeros.Goals as goal

pub loop-cell-preserved : goal.loop-cell-preserved
loop-cell-preserved c =
    let cells = c.args.cells.now in
    let loop = c.loop-cell in
    joins loop.zeros (eqb (get_or cells loop.cell-index 0) 0) _ loop.invariant (zeros_next cells loop.cell-index c.loop-cell-test.true)

pub returns : goal.returns
returns c = joined c.loop-cell.zeros c.loop-cell.invariant (zeros_done c.args.cells.now c.loop-cell.cell-index c.loop-cell-test.false)
