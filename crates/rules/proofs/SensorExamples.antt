-- The examples of combined mode hold, by computing.
use mathlib.Core.Path.{refl}
use Rattle.protocol.specs.Decode.{decode, decode_way, decode_type, decode_form}
use Rattle.protocol.specs.Form.{layout, first_time}
use Rattle.protocol.specs.Number.{little_endian}
use Rattle.protocol.specs.Types.{types, hub_attached_io, port_mode_information, combined_format_setup}
use Rattle.rules.specs.Effect.{effect_of}
use Rattle.rules.specs.Pointers.{is_one, ones_from, ones_of, pointed, pointers_fit, pointers_among}
use Rattle.rules.specs.ValueLookup.{value_lookup}
use Rattle.rules.specs.Judge.{judge}
use Rattle.rules.specs.Dataset.{value_at, dataset_of, dataset_answer}
use Rattle.rules.specs.Latest.{settings_of}
use Rattle.rules.specs.WellFormed.{list_fits, well_formed}
use Rattle.rules.specs.History.{since_attached, view_of_history, modes_of_history, full_history}
use Rattle.rules.specs.Offer.{judge_entry, dataset_message}
use Rattle.rules.specs.SensorExamples.{SensorExamplesHold}

pub sensor_examples_hold : SensorExamplesHold
unfolding decode decode_way decode_type decode_form layout first_time little_endian types hub_attached_io port_mode_information combined_format_setup effect_of is_one ones_from ones_of pointed pointers_fit pointers_among value_lookup judge value_at dataset_of dataset_answer settings_of since_attached view_of_history modes_of_history full_history judge_entry dataset_message list_fits well_formed
sensor_examples_hold = ((refl, refl), (refl, refl), (refl, refl), (refl, refl), (refl, refl, refl, refl), refl, refl, refl, refl, refl, refl, refl, refl)
