-- The examples of logs, by computing.
use mathlib.Core.Path.{refl}
use lib.Ieee.{of_bits, to_bits}
use Rattle.protocol.specs.Decode.{decode, decode_way, decode_type, decode_form}
use Rattle.protocol.specs.Form.{layout, start_byte, end_state, feedback, first_time}
use Rattle.protocol.specs.Number.{little_endian, big_endian}
use Rattle.protocol.specs.Types.{types, hub_attached_io, port_mode_information, port_output_command, combined_format_setup}
use Rattle.rules.specs.Effect.{effect_of}
use Rattle.rules.specs.Pointers.{is_one, ones_from, ones_of, pointed, pointers_fit, pointers_among}
use Rattle.rules.specs.ValueLookup.{value_lookup}
use Rattle.rules.specs.Judge.{judge}
use Rattle.rules.specs.Dataset.{value_at, dataset_of, dataset_answer}
use Rattle.rules.specs.Datasets.{all_datasets}
use Rattle.rules.specs.Learn.{learn}
use Rattle.rules.specs.Table.{apply}
use Rattle.rules.specs.WellFormed.{list_fits, well_formed}
use Rattle.rules.specs.Cells.{list_cells, record_cells, cells_of, record_at, table_at, sound, empty_cells}
use Rattle.rules.specs.Offer.{judge_entry, dataset_message, offer_by_cells, cells_after, dataset_by_cells}
use Rattle.log_rules.specs.Decimal.{decimal}
use Rattle.log_rules.specs.Record.{message_in, experiment_in, malformed}
use Rattle.log_rules.specs.Line.{value_line, record_line, cells_after_record}
use Rattle.log_rules.specs.Output.{all_lines, total_text, output}
use Rattle.log_rules.specs.Examples.{RecordExperiment, SignedText, ValuesLine, CombinedLine, SixRecords, OtherRecords, SignedRecords, MotorRecords, CombinedRecords, EmptyInput}

pub record_experiment : RecordExperiment
unfolding little_endian big_endian experiment_in
record_experiment = refl

pub signed_text : SignedText
unfolding decimal
signed_text = (refl, refl)

pub values_line : ValuesLine
values_line = refl

pub combined_line : CombinedLine
combined_line = refl

pub six_records_lem : SixRecords
unfolding decode decode_way decode_type decode_form layout little_endian types hub_attached_io port_mode_information effect_of value_lookup judge value_at dataset_of dataset_answer learn apply list_fits well_formed list_cells record_cells cells_of record_at table_at sound empty_cells judge_entry dataset_message offer_by_cells cells_after dataset_by_cells decimal message_in experiment_in malformed all_datasets value_line record_line cells_after_record all_lines total_text output
six_records_lem = refl

pub other_records_lem : OtherRecords
unfolding decode decode_way decode_type decode_form layout little_endian types hub_attached_io port_mode_information effect_of value_lookup judge value_at dataset_of dataset_answer learn apply list_fits well_formed list_cells record_cells cells_of record_at table_at sound empty_cells judge_entry dataset_message offer_by_cells cells_after dataset_by_cells decimal message_in experiment_in malformed all_datasets value_line record_line cells_after_record all_lines total_text output
other_records_lem = refl

pub signed_records_lem : SignedRecords
unfolding decode decode_way decode_type decode_form layout little_endian of_bits to_bits types hub_attached_io port_mode_information effect_of value_lookup judge value_at dataset_of dataset_answer learn apply list_fits well_formed list_cells record_cells cells_of record_at table_at sound empty_cells judge_entry dataset_message offer_by_cells cells_after dataset_by_cells decimal message_in experiment_in malformed all_datasets value_line record_line cells_after_record all_lines total_text output
signed_records_lem = refl

pub motor_records_lem : MotorRecords
unfolding decode decode_way decode_type decode_form layout start_byte end_state feedback little_endian types hub_attached_io port_output_command effect_of judge value_at dataset_of dataset_answer learn apply list_fits well_formed list_cells record_cells cells_of record_at table_at sound empty_cells judge_entry dataset_message offer_by_cells cells_after dataset_by_cells decimal message_in experiment_in malformed all_datasets value_line record_line cells_after_record all_lines total_text output
motor_records_lem = refl

pub combined_records_lem : CombinedRecords
unfolding decode decode_way decode_type decode_form layout first_time little_endian types hub_attached_io port_mode_information combined_format_setup effect_of is_one ones_from ones_of pointed pointers_fit pointers_among value_lookup judge value_at dataset_of dataset_answer learn apply list_fits well_formed list_cells record_cells cells_of record_at table_at sound empty_cells judge_entry dataset_message offer_by_cells cells_after dataset_by_cells decimal message_in experiment_in malformed all_datasets value_line record_line cells_after_record all_lines total_text output
combined_records_lem = refl

pub empty_input : EmptyInput
unfolding decimal all_lines total_text output
empty_input = refl
