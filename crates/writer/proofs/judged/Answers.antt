use mathlib.Core.Path.{◌≡◌, refl, sym, ◌∙◌, ap}
use Rattle.protocol.specs.Encode.{refused}
use Rattle.selectors.proofs.Choices.{by_choice, chosen}
use Rattle.writer.proofs.Encoding.{wrong_size, a_field_outside, an_open_byte_outside}
use Rattle.std.specs.Prelude.{Err}
use Rattle.writer.proofs.Judging.{all_good, judged_by, never}
use Rattle.writer.specs.Open.{open_outside}
use Rattle.writer.specs.Slots.{first_outside, type_place}
use Rattle.std.proofs.lemmas.Result.{err_from_is_err_and}
use Rattle.writer.proofs.judged.Goals as goal

pub smallest_size-requires : goal.smallest_size-requires
smallest_size-requires c = c.requires

pub returns-then-not-open_fits : goal.returns-then-not-open_fits
returns-then-not-open_fits c =
    let a = c.args in
    chosen a.way a.m a.«open».now _ c.selected.ensures c.in_ok-selected.was
    ∙ wrong_size a.m a.«open».now (sym c.open_fits.ensures ∙ c.if-not-open_fits.true)
    ∙ ap (refused 6) (sym c.smallest_size.ensures)

pub returns-in_err-selected : goal.returns-in_err-selected
returns-in_err-selected c =
    let a = c.args in
    let p = err_from_is_err_and c.from_residual.result c.from_residual.ensures.1 in
    rw (p.1, p.2) (by_choice a.way a.m a.«open».now _ _ c.selected.ensures c.in_err-selected.was)

pub returns-in_err-fields_listed : goal.returns-in_err-fields_listed
returns-in_err-fields_listed c =
    let a = c.args in
    let p = err_from_is_err_and c.from_residual-in_err-fields_listed.result c.from_residual-in_err-fields_listed.ensures.1 in
    let at = c.in_err-fields_listed.ensures in
    rw (p.1, p.2)
    (judged_by a.way a.m a.«open».now a.slots (first_outside type_place a.slots) (Err c.in_err-fields_listed.field-0.0) at.ok at.err
    (λ z. absurd (never (at.ok.1 z)))
    (λ n.
    chosen a.way a.m a.«open».now _ c.selected.ensures c.in_ok-selected.was
    ∙ a_field_outside a.m a.«open».now a.slots c.requires (sym c.open_fits.ensures ∙ c.if-not-open_fits.false) n))

pub open_listed-requires : goal.open_listed-requires
open_listed-requires c = sym c.open_fits.ensures ∙ c.if-not-open_fits.false

pub returns : goal.returns
returns c =
    let a = c.args in
    let own = chosen a.way a.m a.«open».now _ c.selected.ensures c.in_ok-selected.was in
    let right = sym c.open_fits.ensures ∙ c.if-not-open_fits.false in
    let none : first_outside type_place a.slots ≡ 0 = c.in_ok-fields_listed.ensures.ok.0 refl in
    judged_by a.way a.m a.«open».now a.slots (open_outside a.m a.«open».now) c.open_listed.result c.open_listed.ensures.ok c.open_listed.ensures.err
    (λ z. all_good a.way a.m a.«open».now a.slots c.requires own right none z)
    (λ n. own ∙ an_open_byte_outside a.m a.«open».now a.slots c.requires right none n)
