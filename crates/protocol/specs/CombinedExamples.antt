-- Combined mode (42, 46 and 48), read and written: examples of document 02's W2.
use Rattle.std.specs.Prelude.{List, [], ◌∷◌}
use Rattle.protocol.specs.Field.{natural}
use Rattle.protocol.specs.Form
use Rattle.protocol.specs.Decode.{refused, accepted}
use Rattle.protocol.specs.Encode as Encode
use Rattle.protocol.specs.Encode.{encoded}
use Rattle.protocol.specs.Examples.{Example, down, up, Read, Writing, writing, Written}
use Rattle.protocol.specs.declared.Message.TheVariants as Message'
use Rattle.protocol.specs.declared.Way.TheVariants.{Down, Up}

-- 42: a list of two, one of sixteen; one entry, which may be 0; the other sub commands
abbrev combined_setups : List Example
combined_setups =
    down (0x08 ∷ 0x00 ∷ 0x42 ∷ 0x00 ∷ 0x01 ∷ 0x02 ∷ 0x10 ∷ 0x21 ∷ []) (accepted Form.mode_datasets (natural 0 ∷ natural 1 ∷ natural 2 ∷ []))
    ∷ down (0x16 ∷ 0x00 ∷ 0x42 ∷ 0xFF ∷ 0x01 ∷ 0xFF ∷ 0x00 ∷ 0x01 ∷ 0x02 ∷ 0x03 ∷ 0x04 ∷ 0x05 ∷ 0x06 ∷ 0x07 ∷ 0x08 ∷ 0x09 ∷ 0x0A ∷ 0x0B ∷ 0x0C ∷ 0x0D ∷ 0x0E ∷ 0x0F ∷ []) (accepted Form.mode_datasets (natural 255 ∷ natural 1 ∷ natural 255 ∷ []))
    ∷ down (0x07 ∷ 0x00 ∷ 0x42 ∷ 0x00 ∷ 0x01 ∷ 0x00 ∷ 0x00 ∷ []) (accepted Form.mode_datasets (natural 0 ∷ natural 1 ∷ natural 0 ∷ []))
    ∷ down (0x05 ∷ 0x00 ∷ 0x42 ∷ 0x00 ∷ 0x02 ∷ []) (accepted Form.combined_setup (natural 0 ∷ natural 2 ∷ []))
    ∷ down (0x05 ∷ 0x00 ∷ 0x42 ∷ 0x01 ∷ 0x06 ∷ []) (accepted Form.combined_setup (natural 1 ∷ natural 6 ∷ []))
    ∷ []

-- 7 at the later of two equal entries, and at the first that was there before
abbrev repeated_entries : List Example
repeated_entries =
    down (0x08 ∷ 0x00 ∷ 0x42 ∷ 0x00 ∷ 0x01 ∷ 0x02 ∷ 0x10 ∷ 0x10 ∷ []) (refused 7 7)
    ∷ down (0x0A ∷ 0x00 ∷ 0x42 ∷ 0x00 ∷ 0x01 ∷ 0x00 ∷ 0x10 ∷ 0x21 ∷ 0x21 ∷ 0x10 ∷ []) (refused 7 8)
    ∷ down (0x09 ∷ 0x00 ∷ 0x42 ∷ 0x00 ∷ 0x01 ∷ 0x00 ∷ 0x10 ∷ 0x21 ∷ 0x10 ∷ []) (refused 7 8)
    ∷ []

-- the sub command comes before the size, the size before the entries; no 42 comes up
abbrev combined_setup_sizes : List Example
combined_setup_sizes =
    down (0x04 ∷ 0x00 ∷ 0x42 ∷ 0x00 ∷ []) (refused 6 5)
    ∷ down (0x05 ∷ 0x00 ∷ 0x42 ∷ 0x00 ∷ 0x05 ∷ []) (refused 7 4)
    ∷ down (0x05 ∷ 0x00 ∷ 0x42 ∷ 0x00 ∷ 0x00 ∷ []) (refused 7 4)
    ∷ down (0x05 ∷ 0x00 ∷ 0x42 ∷ 0x00 ∷ 0x07 ∷ []) (refused 7 4)
    ∷ down (0x06 ∷ 0x00 ∷ 0x42 ∷ 0x00 ∷ 0x03 ∷ 0x00 ∷ []) (refused 6 5)
    ∷ down (0x06 ∷ 0x00 ∷ 0x42 ∷ 0x00 ∷ 0x01 ∷ 0x00 ∷ []) (refused 6 7)
    ∷ down (0x17 ∷ 0x00 ∷ 0x42 ∷ 0x00 ∷ 0x01 ∷ 0x00 ∷ 0x10 ∷ 0x10 ∷ 0x10 ∷ 0x10 ∷ 0x10 ∷ 0x10 ∷ 0x10 ∷ 0x10 ∷ 0x10 ∷ 0x10 ∷ 0x10 ∷ 0x10 ∷ 0x10 ∷ 0x10 ∷ 0x10 ∷ 0x10 ∷ 0x10 ∷ []) (refused 6 7)
    ∷ up (0x05 ∷ 0x00 ∷ 0x42 ∷ 0x00 ∷ 0x02 ∷ []) (refused 5 2)
    ∷ []

-- 48: any control byte, any pointer word; one size
abbrev combined_formats : List Example
combined_formats =
    up (0x07 ∷ 0x00 ∷ 0x48 ∷ 0x01 ∷ 0xFF ∷ 0x03 ∷ 0x80 ∷ []) (accepted Form.input_format_combined (natural 1 ∷ natural 255 ∷ natural 0x8003 ∷ []))
    ∷ up (0x07 ∷ 0x00 ∷ 0x48 ∷ 0x01 ∷ 0x00 ∷ 0x00 ∷ 0x00 ∷ []) (accepted Form.input_format_combined (natural 1 ∷ natural 0 ∷ natural 0 ∷ []))
    ∷ up (0x06 ∷ 0x00 ∷ 0x48 ∷ 0x01 ∷ 0x00 ∷ 0x03 ∷ []) (refused 6 7)
    ∷ up (0x08 ∷ 0x00 ∷ 0x48 ∷ 0x01 ∷ 0x00 ∷ 0x03 ∷ 0x00 ∷ 0x00 ∷ []) (refused 6 7)
    ∷ down (0x07 ∷ 0x00 ∷ 0x48 ∷ 0x01 ∷ 0x00 ∷ 0x03 ∷ 0x00 ∷ []) (refused 5 2)
    ∷ []

-- 46: any pointer word, one byte or more
abbrev combined_values : List Example
combined_values =
    up (0x09 ∷ 0x00 ∷ 0x46 ∷ 0x00 ∷ 0x03 ∷ 0x00 ∷ 0x80 ∷ 0xFE ∷ 0xFF ∷ []) (accepted Form.port_value_combined (natural 0 ∷ natural 3 ∷ []))
    ∷ up (0x07 ∷ 0x00 ∷ 0x46 ∷ 0xFF ∷ 0x00 ∷ 0x80 ∷ 0x00 ∷ []) (accepted Form.port_value_combined (natural 255 ∷ natural 0x8000 ∷ []))
    ∷ up (0x06 ∷ 0x00 ∷ 0x46 ∷ 0x00 ∷ 0x03 ∷ 0x00 ∷ []) (refused 6 7)
    ∷ up (0x03 ∷ 0x00 ∷ 0x46 ∷ []) (refused 6 7)
    ∷ down (0x07 ∷ 0x00 ∷ 0x46 ∷ 0x00 ∷ 0x01 ∷ 0x00 ∷ 0x00 ∷ []) (refused 5 2)
    ∷ []

-- writing: a list, its repeat at its place in the message to be written; no entry, too many; another sub command with a list
abbrev combined_setups_written : List Writing
combined_setups_written =
    writing Down (Message'.ModeDatasets 0 2) (0x10 ∷ 0x21 ∷ []) (encoded (0x08 ∷ 0x00 ∷ 0x42 ∷ 0x00 ∷ 0x01 ∷ 0x02 ∷ 0x10 ∷ 0x21 ∷ []))
    ∷ writing Down (Message'.ModeDatasets 0 0) (0x10 ∷ 0x21 ∷ 0x21 ∷ 0x10 ∷ []) (Encode.refused 7 8)
    ∷ writing Down (Message'.ModeDatasets 0 0) [] (Encode.refused 6 7)
    ∷ writing Down (Message'.ModeDatasets 0 0) (0x00 ∷ 0x01 ∷ 0x02 ∷ 0x03 ∷ 0x04 ∷ 0x05 ∷ 0x06 ∷ 0x07 ∷ 0x08 ∷ 0x09 ∷ 0x0A ∷ 0x0B ∷ 0x0C ∷ 0x0D ∷ 0x0E ∷ 0x0F ∷ 0x10 ∷ []) (Encode.refused 6 7)
    ∷ writing Down (Message'.CombinedSetup 1 6) [] (encoded (0x05 ∷ 0x00 ∷ 0x42 ∷ 0x01 ∷ 0x06 ∷ []))
    ∷ writing Down (Message'.CombinedSetup 1 5) (0x10 ∷ []) (Encode.refused 7 4)
    ∷ writing Down (Message'.CombinedSetup 1 2) (0x10 ∷ []) (Encode.refused 6 5)
    ∷ writing Up (Message'.CombinedSetup 1 2) [] (Encode.refused 5 2)
    ∷ []

-- 48 and 46
abbrev combined_answers_written : List Writing
combined_answers_written =
    writing Up (Message'.InputFormatCombined 1 255 0x8003) [] (encoded (0x07 ∷ 0x00 ∷ 0x48 ∷ 0x01 ∷ 0xFF ∷ 0x03 ∷ 0x80 ∷ []))
    ∷ writing Up (Message'.PortValueCombined 0 3) (0x80 ∷ 0xFE ∷ 0xFF ∷ []) (encoded (0x09 ∷ 0x00 ∷ 0x46 ∷ 0x00 ∷ 0x03 ∷ 0x00 ∷ 0x80 ∷ 0xFE ∷ 0xFF ∷ []))
    ∷ writing Up (Message'.PortValueCombined 0 0) [] (Encode.refused 6 7)
    ∷ writing Down (Message'.PortValueCombined 0 3) (0x80 ∷ []) (Encode.refused 5 2)
    ∷ []

-- one statement, `combined_examples_hold` in proofs/CombinedExamples.antt
abbrev pub CombinedExamplesHold : Type 0
CombinedExamplesHold =
    Read combined_setups
    × Read repeated_entries
    × Read combined_setup_sizes
    × Read combined_formats
    × Read combined_values
    × Written combined_setups_written
    × Written combined_answers_written
