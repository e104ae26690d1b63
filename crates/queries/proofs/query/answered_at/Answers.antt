use native.Mathlib.Omega.{arith}
use Rattle.rules.specs.Layout.{answered_index}
use Rattle.soundness.specs.Place.{cell_of}
use Rattle.soundness.proofs.Bounds.{Mode, positive, combined_small, answered_fits_lem}
use borrow.Author.Rules.{rules}
use Rattle.queries.proofs.query.answered_at.Goals as goal

pub overflow_cast-result : goal.overflow_cast-result
overflow_cast-result c =
    let a = c.args in
    record { fits = omega (arith, (combined_small a.table.cells.now a.place c.args.table.tested c.requires c.in-17.is).pointers) }

pub setup_at-requires : goal.setup_at-requires
setup_at-requires c =
    let i = c.args.place in
    let t = c.args.table.cells.now in
    let ok = c.args.table.tested in
    let low = c.requires in
    let mode : Mode (cell_of t i answered_index) = record { set = search rules; single = search rules } in
    (low, omega arith, positive (cell_of t i answered_index) mode.set, answered_fits_lem t i ok low mode)
