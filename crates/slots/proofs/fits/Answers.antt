use mathlib.Core.Path.{sym, ◌∙◌, ap}
use mir.Syntax.{w8, w32}
use Rattle.protocol.specs.Form.{signed_speed, degrees}
use native.Mathlib.Omega.{arith}
use mathlib.Core.Path.{◌≡◌}
use Rattle.slots.specs.Slot.{slot_fits}
use Rattle.slots.proofs.Ranges.{same, tested, slot_test, finite_same}
use borrow.Author.Rules.{rules}
use Rattle.slots.proofs.fits.Goals as goal

pub returns-in-Nothing : goal.returns-in-Nothing
returns-in-Nothing c =
    let t : slot_fits c.args.slot ≡ slot_test c.args.slot = tested c.args.slot _ c.well_formed.0 in
    grind arith

pub returns-in-UpTo : goal.returns-in-UpTo
returns-in-UpTo c = sym (tested c.args.slot _ c.well_formed.0 ∙ ap slot_test c.in-UpTo.is)

pub returns-in-Between : goal.returns-in-Between
returns-in-Between c =
    let t : slot_fits c.args.slot ≡ slot_test c.args.slot = tested c.args.slot _ c.well_formed.0 in
    grind arith

pub returns-in-InformationType : goal.returns-in-InformationType
returns-in-InformationType c = c.is_information_type.ensures ∙ sym (tested c.args.slot _ c.well_formed.0 ∙ ap slot_test c.in-InformationType.is)

pub returns-in-AlertStatus : goal.returns-in-AlertStatus
returns-in-AlertStatus c = c.is_alert_status.ensures ∙ sym (tested c.args.slot _ c.well_formed.0 ∙ ap slot_test c.in-AlertStatus.is)

pub returns-in-HighFirst : goal.returns-in-HighFirst
returns-in-HighFirst c = sym (tested c.args.slot _ c.well_formed.0 ∙ ap slot_test c.in-HighFirst.is)

pub returns-in-Float : goal.returns-in-Float
returns-in-Float c = c.is_finite.ensures.value ∙ finite_same c.in-Float.x ∙ sym (tested c.args.slot _ c.well_formed.0 ∙ ap slot_test c.in-Float.is)

pub returns-in-StartByte : goal.returns-in-StartByte
returns-in-StartByte c = c.is_start_byte.ensures ∙ sym (tested c.args.slot _ c.well_formed.0 ∙ ap slot_test c.in-StartByte.is)

pub returns-in-EndState : goal.returns-in-EndState
returns-in-EndState c = c.is_end_state.ensures ∙ sym (tested c.args.slot _ c.well_formed.0 ∙ ap slot_test c.in-EndState.is)

pub returns-in-SignedSpeed : goal.returns-in-SignedSpeed
returns-in-SignedSpeed c =
    c.is_signed_speed.ensures ∙ ap signed_speed (same w8 c.in-SignedSpeed.value (search rules))
    ∙ sym (tested c.args.slot _ c.well_formed.0 ∙ ap slot_test c.in-SignedSpeed.is)

pub returns-in-Degrees : goal.returns-in-Degrees
returns-in-Degrees c =
    c.is_degrees.ensures ∙ ap degrees (same w32 c.in-Degrees.value (search rules))
    ∙ sym (tested c.args.slot _ c.well_formed.0 ∙ ap slot_test c.in-Degrees.is)
