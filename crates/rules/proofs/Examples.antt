-- The examples hold, by computing.
use mathlib.Core.Path.{refl}
use lib.Ieee.{of_bits}
use Rattle.protocol.specs.Decode.{decode, decode_way, decode_type, decode_form}
use Rattle.protocol.specs.Form.{layout, information_type, longest_mode_text, start_byte, signed_speed, degrees, end_state, feedback, first_time}
use Rattle.protocol.specs.Number.{little_endian, big_endian}
use Rattle.protocol.specs.Types.{types, hub_attached_io, port_information, port_mode_information, hub_actions, down_action, virtual_port_setup, port_output_command, combined_format_setup}
use Rattle.rules.specs.Effect.{effect_of}
use Rattle.rules.specs.ValueLookup.{value_lookup}
use Rattle.rules.specs.Judge.{judge}
use Rattle.rules.specs.Datasets.{all_datasets}
use Rattle.rules.specs.Dataset.{value_at, dataset_of, dataset_answer}
use Rattle.rules.specs.Learn.{learn}
use Rattle.rules.specs.Latest.{settings_of}
use Rattle.rules.specs.WellFormed.{well_formed}
use Rattle.rules.specs.History.{since_attached, view_of_history, modes_of_history, full_history}
use Rattle.rules.specs.Offer.{judge_entry, dataset_message}
use Rattle.rules.specs.Examples.{ExamplesHold}

pub examples_hold : ExamplesHold
unfolding decode decode_way decode_type decode_form layout information_type longest_mode_text start_byte signed_speed degrees end_state feedback first_time little_endian big_endian of_bits types hub_attached_io port_information port_mode_information hub_actions down_action virtual_port_setup port_output_command combined_format_setup effect_of value_lookup judge value_at dataset_of all_datasets dataset_answer settings_of since_attached view_of_history modes_of_history full_history judge_entry dataset_message learn well_formed
examples_hold = (refl, (refl, refl, refl), (refl, refl, refl, refl), refl, refl, refl, refl, refl, refl, refl, refl, refl, refl, refl, refl, refl, refl, refl, refl, refl, refl, refl, refl, refl, refl, refl)
