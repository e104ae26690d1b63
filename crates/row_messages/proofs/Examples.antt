-- The definitions give these answers of every row.
use mathlib.Core.Path.{refl}
use lib.Ieee.{of_bits, to_bits, fits}
use Rattle.protocol.specs.Properties.{permits, allowed, carries, greatest, longest}
use Rattle.protocol.specs.Form.{layout, alert_status, longest_mode_text, start_byte, signed_speed, degrees, end_state, feedback, first_time}
use Rattle.protocol.specs.Types.{types, payload, hub_properties, hub_alerts, hub_attached_io, port_information, port_mode_information, combined_format_setup, port_output_command}
use Rattle.protocol.specs.Encode.{low_first, encode_form, encode_values}
use Rattle.selectors.specs.Choice.{form_at}
use Rattle.row_messages.specs.Examples.{ExamplesHold}
use Rattle.row_messages.specs.RowWriting.{fitted, fitted_signed, settled_bits, row_values, message_in, own_numbers, form_encoded, row_encoded}

pub examples_hold : ExamplesHold
unfolding row_encoded form_encoded message_in row_values own_numbers form_at fitted fitted_signed settled_bits encode_values encode_form types hub_properties hub_alerts hub_attached_io port_information port_mode_information combined_format_setup port_output_command layout permits allowed carries greatest longest longest_mode_text payload alert_status start_byte signed_speed degrees end_state feedback first_time low_first of_bits to_bits fits
examples_hold = (refl, refl, refl, refl, refl, refl, refl, refl, refl, refl, refl, refl, refl, refl, refl, refl, refl)
