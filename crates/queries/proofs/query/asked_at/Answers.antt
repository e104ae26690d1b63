use native.Mathlib.Omega.{arith}
use Rattle.rules.specs.Layout.{asked_index}
use Rattle.soundness.specs.Place.{cell_of}
use Rattle.soundness.proofs.Bounds.{Mode, positive, asked_fits_lem}
use borrow.Author.Rules.{rules}
use Rattle.queries.proofs.query.asked_at.Goals as goal

pub setup_at-requires : goal.setup_at-requires
setup_at-requires c =
    let i = c.args.place in
    let t = c.args.table.cells.now in
    let ok = c.args.table.tested in
    let low = c.requires in
    let mode : Mode (cell_of t i asked_index) = record { set = search rules; single = search rules } in
    (low, omega arith, positive (cell_of t i asked_index) mode.set, asked_fits_lem t i ok low mode)
