-- The definitions give document 02's answer at every example of combined mode.
use mathlib.Core.Path.{refl}
use Rattle.protocol.specs.Number.{little_endian}
use Rattle.protocol.specs.Form.{layout, first_time}
use Rattle.protocol.specs.Types.{types, combined_format_setup}
use Rattle.protocol.specs.Decode.{decode, decode_way, decode_type, decode_form}
use Rattle.protocol.specs.Encode.{low_first, encode_form, encode_values, encode}
use Rattle.protocol.specs.CombinedExamples.{CombinedExamplesHold}

pub combined_examples_hold : CombinedExamplesHold
unfolding decode decode_way decode_type decode_form encode encode_values encode_form types combined_format_setup layout first_time little_endian low_first
combined_examples_hold = (refl, refl, refl, refl, refl, refl, refl)
