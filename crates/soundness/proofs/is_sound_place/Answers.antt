use mathlib.Core.Path.{◌∙◌, ap}
use lib.ListN.{length}
use Rattle.soundness.proofs.Places.{place_size}
use Rattle.soundness.proofs.ExactCells.{empty_zeros}
use Rattle.soundness.proofs.Sound.{free_sound, record_alone}
use Rattle.soundness.proofs.Rows.{row_alone}
use Rattle.soundness.proofs.is_sound_place.Goals as goal

pub returns-then-place-eq-FREE : goal.returns-then-place-eq-FREE
returns-then-place-eq-FREE c =
    let a = c.args in
    let at = c.place_at-place in
    c.are_zeros.ensures ∙ empty_zeros at.result.now (ap length at.ensures ∙ place_size a.table.now a.i c.told-table c.requires.1) ∙ free_sound a.table.now at.result.now a.i at.ensures c.if-place-eq-FREE.true

pub returns : goal.returns
returns c =
    let a = c.args in
    let at = c.place_at-place in
    let used = c.if-place-eq-FREE.false in
    c.is_sound_record.ensures
    ∙ record_alone a.table.now at.result.now a.i at.ensures used (row_alone a.table.now a.row.now at.result.now a.i c.requires.1 c.requires.0 at.ensures used)
