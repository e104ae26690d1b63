use native.Mathlib.Omega.{arith}
use mathlib.Core.Path.{◌∙◌, ap}
use lib.ListN.{length}
use Rattle.soundness.specs.Place.{free_place}
use Rattle.soundness.proofs.Places.{free_place_lem, no_free_place, free_start, free_here, free_later, free_end, step_on, step_last}
use Rattle.soundness.proofs.place.free_place.Goals as goal

pub returns-in_err-table : goal.returns-in_err-table
returns-in_err-table c = rw c.from_residual.ensures (no_free_place c.args.table.now c.in_err-table.ensures.cases)

pub loop-place-init : goal.loop-place-init
loop-place-init c =
    let chunk = c.in_ok-table.ensures.cases in
    let cells = c.in_ok-table.table.now in
    free_place_lem cells (ap length chunk.same ∙ chunk.long) ∙ free_start cells

pub returns-then-table-place-eq-FREE : goal.returns-then-table-place-eq-FREE
returns-then-table-place-eq-FREE c =
    let loop = c.loop-place in
    let below = c.loop-place-test.true in
    let is = step_last _ loop.place _ loop.invariant (free_here c.in_ok-table.table.now loop.place below c.if-table-place-eq-FREE.true) in
    (below, is ∙ ap free_place c.in_ok-table.ensures.cases.same)

pub loop-place-preserved : goal.loop-place-preserved
loop-place-preserved c =
    let loop = c.loop-place in
    step_on _ loop.place _ _ loop.invariant (free_later c.in_ok-table.table.now loop.place c.loop-place-test.true c.if-table-place-eq-FREE.false)

pub returns : goal.returns
returns c =
    let loop = c.loop-place in
    let past = c.loop-place-test.false in
    let same = ap free_place c.in_ok-table.ensures.cases.same in
    omega (arith, past, loop.invariant, free_end c.in_ok-table.table.now loop.place past, same)
