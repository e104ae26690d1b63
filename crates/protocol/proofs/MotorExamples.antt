-- The definitions give document 02's answer at every example of motor commands.
use mathlib.Core.Path.{refl}
use Rattle.protocol.specs.Number.{little_endian}
use Rattle.protocol.specs.Form.{layout, start_byte, signed_speed, degrees, end_state, feedback}
use Rattle.protocol.specs.Types.{types, port_output_command}
use Rattle.protocol.specs.Decode.{decode, decode_way, decode_type, decode_form}
use Rattle.protocol.specs.Encode.{low_first, encode_form, encode_values, encode}
use Rattle.protocol.specs.MotorExamples.{MotorExamplesHold}

pub motor_examples_hold : MotorExamplesHold
unfolding decode decode_way decode_type decode_form encode encode_values encode_form types port_output_command layout start_byte signed_speed degrees end_state feedback little_endian low_first
motor_examples_hold = (refl, refl, refl, refl, refl, refl, refl)
