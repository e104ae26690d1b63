use mathlib.Core.Path.{refl, sym, ◌∙◌, ap}
use mathlib.Core.Bool.{Bool, ◌&&◌}
use lib.Dec.{eqb}
use borrow.Author.Tests.{eq-eqb, ne_eqb}
use Rattle.rules.specs.Layout.{state_index}
use Rattle.rules.specs.Cells.{cell_at}
use Rattle.soundness.specs.Soundness.{took_kept}
use Rattle.soundness.proofs.States.{state_by_lem}
use Rattle.soundness.proofs.state.state_fits.Goals as goal

pub returns-then-place-eq0 : goal.returns-then-place-eq0
returns-then-place-eq0 c = state_by_lem c.args.place.now (eq-eqb _ _ c.if-place-eq0.true) refl refl

pub returns-then-state-eq1 : goal.returns-then-state-eq1
returns-then-state-eq1 c = state_by_lem c.args.place.now (ne_eqb _ _ c.if-place-eq0.false) (eq-eqb _ _ c.if-state-eq1.true) refl

pub returns-then-place-eq0-2 : goal.returns-then-place-eq0-2
returns-then-place-eq0-2 c = state_by_lem c.args.place.now (ne_eqb _ _ c.if-place-eq0.false) (ne_eqb _ _ c.if-state-eq1.false) (eq-eqb _ _ c.if-place-eq0-2.true)

pub returns-then-state-answer_state : goal.returns-then-state-answer_state
returns-then-state-answer_state c =
    let place = c.args.place.now in
    let is = ap (eqb (cell_at place state_index)) (sym c.answer_state.ensures) ∙ ne_eqb _ _ c.if-state-answer_state.true in
    sym (ap (λ (b : Bool). b && took_kept place) is) ∙ state_by_lem place (ne_eqb _ _ c.if-place-eq0.false) (ne_eqb _ _ c.if-state-eq1.false) (ne_eqb _ _ c.if-place-eq0-2.false)

pub returns : goal.returns
returns c =
    let place = c.args.place.now in
    let is = ap (eqb (cell_at place state_index)) (sym c.answer_state.ensures) ∙ eq-eqb _ _ c.if-state-answer_state.false in
    c.took_kept.ensures ∙ sym (ap (λ (b : Bool). b && took_kept place) is) ∙ state_by_lem place (ne_eqb _ _ c.if-place-eq0.false) (ne_eqb _ _ c.if-state-eq1.false) (ne_eqb _ _ c.if-place-eq0-2.false)
