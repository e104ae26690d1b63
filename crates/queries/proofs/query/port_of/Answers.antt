use native.Mathlib.Omega.{arith}
use mathlib.Core.Path.{refl, sym, ◌∙◌, ap, subst}
use Rattle.rules.proofs.CellsSound.{sound_length}
use Rattle.soundness.proofs.Places.{found, nowhere}
use Rattle.soundness.proofs.Bounds.{state_small, experiment_small}
use Rattle.soundness.proofs.Records.{device_small}
use Rattle.queries.proofs.Queries.{lists_stand_lem, partners_small, port_at_lem}
use Rattle.queries.specs.Options.{option_of}
use Rattle.queries.specs.PortAnswer.{facts_of, lists_of, port_facts}
use Rattle.queries.proofs.query.port_of.Goals as goal

pub returns-in_err-place : goal.returns-in_err-place
returns-in_err-place c =
    let cells = c.args.table.cells.now in
    let none = c.from_residual.ensures in
    (ap (option_of (facts_of cells)) none ∙ sym (ap port_facts (found cells (sound_length cells c.args.table.tested) c.args.port _ c.in_err-place.ensures ∙ nowhere cells)), subst (lists_of cells) (sym none) tt)

pub wiring_at-wiring-requires : goal.wiring_at-wiring-requires
wiring_at-wiring-requires c =
    let cells = c.args.table.cells.now in
    let ok = c.args.table.tested in
    let at = c.in_ok-place in
    let k = partners_small cells at.place c.args.port ok at.ensures.0 (found cells (sound_length cells ok) c.args.port at.place at.ensures.1) in
    (at.ensures.0, k.first, k.second)

pub overflow_cast-result : goal.overflow_cast-result
overflow_cast-result c =
    let cells = c.args.table.cells.now in
    let at = c.in_ok-place in
    record { fits = omega (arith, device_small cells at.place c.args.port c.args.table.tested at.ensures.0 (found cells (sound_length cells c.args.table.tested) c.args.port at.place at.ensures.1)) }

pub overflow_cast-result-2 : goal.overflow_cast-result-2
overflow_cast-result-2 c =
    let cells = c.args.table.cells.now in
    let at = c.in_ok-place in
    record { fits = omega (arith, state_small cells at.place c.args.port c.args.table.tested at.ensures.0 (found cells (sound_length cells c.args.table.tested) c.args.port at.place at.ensures.1)) }

pub overflow_cast-result-3 : goal.overflow_cast-result-3
overflow_cast-result-3 c =
    let cells = c.args.table.cells.now in
    let at = c.in_ok-place in
    record { fits = omega (arith, experiment_small cells at.place c.args.port c.args.table.tested at.ensures.0 (found cells (sound_length cells c.args.table.tested) c.args.port at.place at.ensures.1)) }

pub returns : goal.returns
returns c =
    let cells = c.args.table.cells.now in
    let ok = c.args.table.tested in
    let at = c.in_ok-place in
    let is = found cells (sound_length cells ok) c.args.port at.place at.ensures.1 in
    (port_at_lem cells at.place c.args.port ok at.ensures.0 is _ _ _ _ _ _ refl c.wiring_at-wiring.ensures c.answered_at-answered.ensures c.asked_at-asked.ensures refl refl, lists_stand_lem cells at.place ok at.ensures.0 _ c.answered_at-answered.ensures)
