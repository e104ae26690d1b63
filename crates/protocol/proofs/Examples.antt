-- The definitions give document 01's answer at every example.
use mathlib.Core.Path.{refl}
use lib.Ieee.{of_bits}
use Rattle.protocol.specs.Number.{little_endian, big_endian}
use Rattle.protocol.specs.Field.{same_bytes}
use Rattle.protocol.specs.Properties.{permits, allowed, carries, longest}
use Rattle.protocol.specs.Form.{layout, longest_mode_text}
use Rattle.protocol.specs.Types.{types, payload, down_action, hub_properties, hub_actions, hub_alerts, hub_attached_io, port_information, port_mode_information, virtual_port_setup}
use Rattle.protocol.specs.Decode.{decode, decode_way, decode_type, decode_form}
use Rattle.protocol.specs.Encode.{low_first, encode_form, encode_values, encode}
use Rattle.protocol.specs.Examples.{ExamplesHold, WritingsHold}

pub examples_hold : ExamplesHold
unfolding decode decode_way decode_type decode_form types hub_properties hub_actions hub_alerts hub_attached_io port_information port_mode_information virtual_port_setup layout longest_mode_text permits allowed carries payload down_action little_endian big_endian same_bytes of_bits
examples_hold = refl

pub writings_hold : WritingsHold
unfolding encode encode_values encode_form types hub_properties hub_attached_io port_information port_mode_information layout longest longest_mode_text permits allowed carries payload low_first
writings_hold = refl
