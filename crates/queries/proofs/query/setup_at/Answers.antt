use native.Mathlib.Omega.{arith}
use Prim.Native.Nat.{◌+◌}
use Rattle.soundness.specs.Place.{cell_of}
use Rattle.soundness.proofs.Bounds.{small_setup}
use Rattle.queries.proofs.query.setup_at.Goals as goal

pub overflow_cast-result : goal.overflow_cast-result
overflow_cast-result c =
    let a = c.args in
    let t = c.args.table.cells.now in
    let k = small_setup (cell_of t a.place a.index) (cell_of t a.place (a.index + 1)) (cell_of t a.place (a.index + 2)) c.requires.3 in
    record { fits = omega (arith, k.mode) }

pub overflow_cast-result-2 : goal.overflow_cast-result-2
overflow_cast-result-2 c =
    let a = c.args in
    let t = c.args.table.cells.now in
    let k = small_setup (cell_of t a.place a.index) (cell_of t a.place (a.index + 1)) (cell_of t a.place (a.index + 2)) c.requires.3 in
    record { fits = omega (arith, k.notify) }
