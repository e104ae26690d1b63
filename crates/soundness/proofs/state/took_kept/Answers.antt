use native.Mathlib.Omega.{arith}
use mathlib.Core.Path.{◌≡◌, ◌∙◌}
use mathlib.Core.Bool.{true}
use lib.ListN.{length-take, length-drop}
use borrow.Author.Tests.{eq-eqb, ne_eqb}
use Rattle.rules.specs.Layout.{answered_index, list_index, taken_index}
use Rattle.rules.specs.Facts.{same_list}
use Rattle.rules.specs.Cells.{combined_cell, cell_at}
use Rattle.soundness.specs.Soundness.{cells_of_list, took_kept}
use Rattle.soundness.proofs.Loops.{first_of, second_of}
use Rattle.soundness.proofs.state.took_kept.Goals as goal

pub same_cells-requires : goal.same_cells-requires
same_cells-requires c = simp (length-take, length-drop) (omega (arith, c.told-place))

pub returns-then-place-eq-COMBINED : goal.returns-then-place-eq-COMBINED
unfolding took_kept
returns-then-place-eq-COMBINED c =
    let place = c.args.place.now in
    let is : c.same_cells.result ≡ same_list (cells_of_list place taken_index) (cells_of_list place list_index) = c.same_cells.ensures in
    is ∙ first_of (same_list (cells_of_list place taken_index) (cells_of_list place list_index)) true (eq-eqb (cell_at place answered_index) combined_cell c.if-place-eq-COMBINED.true)

pub returns : goal.returns
unfolding took_kept
returns c = second_of _ _ (ne_eqb _ _ c.if-place-eq-COMBINED.false)
