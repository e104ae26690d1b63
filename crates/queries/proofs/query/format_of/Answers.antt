use mathlib.Core.Option.{Option}
use mathlib.Core.Path.{sym, ◌∙◌, ap}
use Rattle.rules.proofs.CellsSound.{sound_length}
use Rattle.rules.specs.Facts.{Facts}
use Rattle.soundness.proofs.Places.{found, nowhere}
use Rattle.queries.proofs.Queries.{no_format, the_format}
use Rattle.queries.specs.FormatAnswer.{format_from, known}
use Rattle.queries.proofs.query.format_of.Goals as goal

pub returns-in_err-place : goal.returns-in_err-place
returns-in_err-place c =
    let a = c.args in
    let cells = c.args.table.cells.now in
    ap known c.from_residual.ensures ∙ sym (ap (λ (x : Option Facts). format_from x a.mode) (found cells (sound_length cells c.args.table.tested) a.port _ c.in_err-place.ensures ∙ nowhere cells))

pub returns-then-mode-ge-MODE_COUNT : goal.returns-then-mode-ge-MODE_COUNT
returns-then-mode-ge-MODE_COUNT c =
    let a = c.args in
    let cells = c.args.table.cells.now in
    let ok = c.args.table.tested in
    let at = c.in_ok-place in
    sym (no_format cells at.place a.port ok at.ensures.0 (found cells (sound_length cells ok) a.port at.place at.ensures.1) a.mode c.if-mode-ge-MODE_COUNT.true)

pub returns : goal.returns
returns c =
    let a = c.args in
    let cells = c.args.table.cells.now in
    let ok = c.args.table.tested in
    let at = c.in_ok-place in
    c.known_format.ensures ∙ sym (the_format cells at.place a.port ok at.ensures.0 (found cells (sound_length cells ok) a.port at.place at.ensures.1) a.mode c.if-mode-ge-MODE_COUNT.false)
