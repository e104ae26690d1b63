-- Document 01's six records print exactly its seven lines; a log with two experiments, a malformed record and a short last
-- piece; a log with numbers below 0; and one with motor commands.
use Rattle.std.specs.Prelude.{ℕ, ◌-◌, ◌≡◌, List, [], ◌∷◌, ◌++◌, pos, neg_ℤ, length, replicate}
use Rattle.log_rules.specs.Decimal.{signed_decimal}
use Rattle.log_rules.specs.Record.{experiment_in}
use Rattle.log_rules.specs.Line.{values, combined_values, numbers_of}
use Rattle.log_rules.specs.Output.{output}

-- a record at time 0, with its direction, the byte after it, which is 0 in a good record, and the two of its experiment number
abbrev record_with : ℕ → ℕ → ℕ → ℕ → List ℕ → List ℕ
record_with way next low high message = (0 ∷ 0 ∷ 0 ∷ 0 ∷ way ∷ next ∷ low ∷ high ∷ message) ++ replicate (128 - length message) 0

abbrev record_of : ℕ → List ℕ → List ℕ
record_of way message = record_with way 0 0 0 message

-- bytes 2 and 1 are experiment number 258
abbrev pub RecordExperiment : Type 0
RecordExperiment = experiment_in (record_with 0 0 2 1 []) ≡ 258

abbrev six_records : List ℕ
six_records =
    record_of 1 (0x0F ∷ 0x00 ∷ 0x04 ∷ 0x00 ∷ 0x01 ∷ 0x26 ∷ 0x00 ∷ 0x00 ∷ 0x00 ∷ 0x00 ∷ 0x10 ∷ 0x00 ∷ 0x00 ∷ 0x00 ∷ 0x10 ∷ [])
    ++ record_of 1 (0x0A ∷ 0x00 ∷ 0x44 ∷ 0x00 ∷ 0x02 ∷ 0x80 ∷ 0x01 ∷ 0x02 ∷ 0x04 ∷ 0x00 ∷ [])
    ++ record_of 1 (0x08 ∷ 0x00 ∷ 0x45 ∷ 0x00 ∷ 0x05 ∷ 0x00 ∷ 0x00 ∷ 0x00 ∷ [])
    ++ record_of 0 (0x0A ∷ 0x00 ∷ 0x41 ∷ 0x00 ∷ 0x02 ∷ 0x01 ∷ 0x00 ∷ 0x00 ∷ 0x00 ∷ 0x01 ∷ [])
    ++ record_of 1 (0x0A ∷ 0x00 ∷ 0x47 ∷ 0x00 ∷ 0x02 ∷ 0x01 ∷ 0x00 ∷ 0x00 ∷ 0x00 ∷ 0x01 ∷ [])
    ++ record_of 1 (0x08 ∷ 0x00 ∷ 0x45 ∷ 0x00 ∷ 0x05 ∷ 0x00 ∷ 0x00 ∷ 0x00 ∷ [])

-- "1 0", "2 0", "3 14", "4 0", "5 0", "6 0 0 2 2 0 5", "total 6 refused 1"
abbrev seven_lines : List ℕ
seven_lines =
    49 ∷ 32 ∷ 48 ∷ 10
    ∷ 50 ∷ 32 ∷ 48 ∷ 10
    ∷ 51 ∷ 32 ∷ 49 ∷ 52 ∷ 10
    ∷ 52 ∷ 32 ∷ 48 ∷ 10
    ∷ 53 ∷ 32 ∷ 48 ∷ 10
    ∷ 54 ∷ 32 ∷ 48 ∷ 32 ∷ 48 ∷ 32 ∷ 50 ∷ 32 ∷ 50 ∷ 32 ∷ 48 ∷ 32 ∷ 53 ∷ 10
    ∷ 116 ∷ 111 ∷ 116 ∷ 97 ∷ 108 ∷ 32 ∷ 54 ∷ 32 ∷ 114 ∷ 101 ∷ 102 ∷ 117 ∷ 115 ∷ 101 ∷ 100 ∷ 32 ∷ 49 ∷ 10 ∷ []

abbrev pub SixRecords : Type 0
SixRecords = output 128 six_records ≡ seven_lines

-- mode 2 is asked for in experiment 258 and answered, and a value comes; then mode 3 in experiment 259, and the hub still
-- reports in mode 2. A malformed record is not followed: its 47 would make mode 0 the port's. A last piece of three bytes.
abbrev other_records : List ℕ
other_records =
    record_of 1 (0x0F ∷ 0x00 ∷ 0x04 ∷ 0x07 ∷ 0x01 ∷ 0x26 ∷ 0x00 ∷ 0x00 ∷ 0x00 ∷ 0x00 ∷ 0x10 ∷ 0x00 ∷ 0x00 ∷ 0x00 ∷ 0x10 ∷ [])
    ++ record_of 1 (0x0A ∷ 0x00 ∷ 0x44 ∷ 0x07 ∷ 0x02 ∷ 0x80 ∷ 0x02 ∷ 0x01 ∷ 0x04 ∷ 0x00 ∷ [])
    ++ record_with 0 0 2 1 (0x0A ∷ 0x00 ∷ 0x41 ∷ 0x07 ∷ 0x02 ∷ 0x01 ∷ 0x00 ∷ 0x00 ∷ 0x00 ∷ 0x01 ∷ [])
    ++ record_of 1 (0x0A ∷ 0x00 ∷ 0x47 ∷ 0x07 ∷ 0x02 ∷ 0x01 ∷ 0x00 ∷ 0x00 ∷ 0x00 ∷ 0x01 ∷ [])
    ++ record_of 1 (0x08 ∷ 0x00 ∷ 0x45 ∷ 0x07 ∷ 0x05 ∷ 0x00 ∷ 0x02 ∷ 0x01 ∷ [])
    ++ record_with 0 0 3 1 (0x0A ∷ 0x00 ∷ 0x41 ∷ 0x07 ∷ 0x03 ∷ 0x01 ∷ 0x00 ∷ 0x00 ∷ 0x00 ∷ 0x01 ∷ [])
    ++ record_with 1 9 0 0 (0x0A ∷ 0x00 ∷ 0x47 ∷ 0x07 ∷ 0x00 ∷ 0x01 ∷ 0x00 ∷ 0x00 ∷ 0x00 ∷ 0x01 ∷ [])
    ++ record_with 1 0 3 1 (0x08 ∷ 0x00 ∷ 0x45 ∷ 0x07 ∷ 0x05 ∷ 0x00 ∷ 0x02 ∷ 0x01 ∷ [])
    ++ (0x00 ∷ 0x00 ∷ 0x00 ∷ [])

-- "1 0", "2 0", "3 0", "4 0", "5 0 7 2 2 258 5 258", "6 0", "7 19", "8 0 7 2 1 0 5 258", "9 19", "total 9 refused 2"
abbrev other_lines : List ℕ
other_lines =
    49 ∷ 32 ∷ 48 ∷ 10
    ∷ 50 ∷ 32 ∷ 48 ∷ 10
    ∷ 51 ∷ 32 ∷ 48 ∷ 10
    ∷ 52 ∷ 32 ∷ 48 ∷ 10
    ∷ 53 ∷ 32 ∷ 48 ∷ 32 ∷ 55 ∷ 32 ∷ 50 ∷ 32 ∷ 50 ∷ 32 ∷ 50 ∷ 53 ∷ 56 ∷ 32 ∷ 53 ∷ 32 ∷ 50 ∷ 53 ∷ 56 ∷ 10
    ∷ 54 ∷ 32 ∷ 48 ∷ 10
    ∷ 55 ∷ 32 ∷ 49 ∷ 57 ∷ 10
    ∷ 56 ∷ 32 ∷ 48 ∷ 32 ∷ 55 ∷ 32 ∷ 50 ∷ 32 ∷ 49 ∷ 32 ∷ 48 ∷ 32 ∷ 53 ∷ 32 ∷ 50 ∷ 53 ∷ 56 ∷ 10
    ∷ 57 ∷ 32 ∷ 49 ∷ 57 ∷ 10
    ∷ 116 ∷ 111 ∷ 116 ∷ 97 ∷ 108 ∷ 32 ∷ 57 ∷ 32 ∷ 114 ∷ 101 ∷ 102 ∷ 117 ∷ 115 ∷ 101 ∷ 100 ∷ 32 ∷ 50 ∷ 10 ∷ []

abbrev pub OtherRecords : Type 0
OtherRecords = output 128 other_records ≡ other_lines

-- a value of each kind, by a mode of the same number: the datasets of one message are each read with their own sign, and a
-- float below 0 is its 32 bits
abbrev signed_records : List ℕ
signed_records =
    record_of 1 (0x0F ∷ 0x00 ∷ 0x04 ∷ 0x07 ∷ 0x01 ∷ 0x26 ∷ 0x00 ∷ 0x00 ∷ 0x00 ∷ 0x00 ∷ 0x10 ∷ 0x00 ∷ 0x00 ∷ 0x00 ∷ 0x10 ∷ [])
    ++ record_of 1 (0x0A ∷ 0x00 ∷ 0x44 ∷ 0x07 ∷ 0x00 ∷ 0x80 ∷ 0x03 ∷ 0x00 ∷ 0x04 ∷ 0x00 ∷ [])
    ++ record_of 1 (0x0A ∷ 0x00 ∷ 0x47 ∷ 0x07 ∷ 0x00 ∷ 0x01 ∷ 0x00 ∷ 0x00 ∷ 0x00 ∷ 0x01 ∷ [])
    ++ record_of 1 (0x07 ∷ 0x00 ∷ 0x45 ∷ 0x07 ∷ 0xFF ∷ 0x7F ∷ 0x80 ∷ [])
    ++ record_of 1 (0x0A ∷ 0x00 ∷ 0x44 ∷ 0x07 ∷ 0x01 ∷ 0x80 ∷ 0x02 ∷ 0x01 ∷ 0x04 ∷ 0x00 ∷ [])
    ++ record_of 1 (0x0A ∷ 0x00 ∷ 0x47 ∷ 0x07 ∷ 0x01 ∷ 0x01 ∷ 0x00 ∷ 0x00 ∷ 0x00 ∷ 0x01 ∷ [])
    ++ record_of 1 (0x08 ∷ 0x00 ∷ 0x45 ∷ 0x07 ∷ 0xFD ∷ 0xFF ∷ 0x03 ∷ 0x00 ∷ [])
    ++ record_of 1 (0x0A ∷ 0x00 ∷ 0x44 ∷ 0x07 ∷ 0x02 ∷ 0x80 ∷ 0x02 ∷ 0x02 ∷ 0x04 ∷ 0x00 ∷ [])
    ++ record_of 1 (0x0A ∷ 0x00 ∷ 0x47 ∷ 0x07 ∷ 0x02 ∷ 0x01 ∷ 0x00 ∷ 0x00 ∷ 0x00 ∷ 0x01 ∷ [])
    ++ record_of 1 (0x0C ∷ 0x00 ∷ 0x45 ∷ 0x07 ∷ 0x00 ∷ 0x00 ∷ 0x00 ∷ 0x80 ∷ 0xFD ∷ 0xFF ∷ 0xFF ∷ 0xFF ∷ [])
    ++ record_of 1 (0x0A ∷ 0x00 ∷ 0x44 ∷ 0x07 ∷ 0x03 ∷ 0x80 ∷ 0x01 ∷ 0x03 ∷ 0x04 ∷ 0x00 ∷ [])
    ++ record_of 1 (0x0A ∷ 0x00 ∷ 0x47 ∷ 0x07 ∷ 0x03 ∷ 0x01 ∷ 0x00 ∷ 0x00 ∷ 0x00 ∷ 0x01 ∷ [])
    ++ record_of 1 (0x08 ∷ 0x00 ∷ 0x45 ∷ 0x07 ∷ 0x00 ∷ 0x00 ∷ 0x80 ∷ 0xBF ∷ [])

-- "4 0 7 0 0 0 -1 127 -128", "7 0 7 1 0 0 -3 3", "10 0 7 2 0 0 -2147483648 -3", "13 0 7 3 0 0 3212836864"
abbrev signed_lines : List ℕ
signed_lines =
    49 ∷ 32 ∷ 48 ∷ 10
    ∷ 50 ∷ 32 ∷ 48 ∷ 10
    ∷ 51 ∷ 32 ∷ 48 ∷ 10
    ∷ 52 ∷ 32 ∷ 48 ∷ 32 ∷ 55 ∷ 32 ∷ 48 ∷ 32 ∷ 48 ∷ 32 ∷ 48 ∷ 32 ∷ 45 ∷ 49 ∷ 32 ∷ 49 ∷ 50 ∷ 55 ∷ 32 ∷ 45 ∷ 49 ∷ 50 ∷ 56 ∷ 10
    ∷ 53 ∷ 32 ∷ 48 ∷ 10
    ∷ 54 ∷ 32 ∷ 48 ∷ 10
    ∷ 55 ∷ 32 ∷ 48 ∷ 32 ∷ 55 ∷ 32 ∷ 49 ∷ 32 ∷ 48 ∷ 32 ∷ 48 ∷ 32 ∷ 45 ∷ 51 ∷ 32 ∷ 51 ∷ 10
    ∷ 56 ∷ 32 ∷ 48 ∷ 10
    ∷ 57 ∷ 32 ∷ 48 ∷ 10
    ∷ 49 ∷ 48 ∷ 32 ∷ 48 ∷ 32 ∷ 55 ∷ 32 ∷ 50 ∷ 32 ∷ 48 ∷ 32 ∷ 48 ∷ 32 ∷ 45 ∷ 50 ∷ 49 ∷ 52 ∷ 55 ∷ 52 ∷ 56 ∷ 51 ∷ 54 ∷ 52 ∷ 56 ∷ 32 ∷ 45 ∷ 51 ∷ 10
    ∷ 49 ∷ 49 ∷ 32 ∷ 48 ∷ 10
    ∷ 49 ∷ 50 ∷ 32 ∷ 48 ∷ 10
    ∷ 49 ∷ 51 ∷ 32 ∷ 48 ∷ 32 ∷ 55 ∷ 32 ∷ 51 ∷ 32 ∷ 48 ∷ 32 ∷ 48 ∷ 32 ∷ 51 ∷ 50 ∷ 49 ∷ 50 ∷ 56 ∷ 51 ∷ 54 ∷ 56 ∷ 54 ∷ 52 ∷ 10
    ∷ 116 ∷ 111 ∷ 116 ∷ 97 ∷ 108 ∷ 32 ∷ 49 ∷ 51 ∷ 32 ∷ 114 ∷ 101 ∷ 102 ∷ 117 ∷ 115 ∷ 101 ∷ 100 ∷ 32 ∷ 48 ∷ 10 ∷ []

abbrev pub SignedRecords : Type 0
SignedRecords = output 128 signed_records ≡ signed_lines

-- two motors; a command to port 16 before they are joined to it, and after; the same to port 0, and 0D to port 0; feedback of port 16,
-- with that of a port that is not present, and a feedback of 32
abbrev motor_records : List ℕ
motor_records =
    record_of 1 (0x0F ∷ 0x00 ∷ 0x04 ∷ 0x00 ∷ 0x01 ∷ 0x26 ∷ 0x00 ∷ 0x00 ∷ 0x00 ∷ 0x00 ∷ 0x10 ∷ 0x00 ∷ 0x00 ∷ 0x00 ∷ 0x10 ∷ [])
    ++ record_of 1 (0x0F ∷ 0x00 ∷ 0x04 ∷ 0x01 ∷ 0x01 ∷ 0x26 ∷ 0x00 ∷ 0x00 ∷ 0x00 ∷ 0x00 ∷ 0x10 ∷ 0x00 ∷ 0x00 ∷ 0x00 ∷ 0x10 ∷ [])
    ++ record_of 0 (0x12 ∷ 0x00 ∷ 0x81 ∷ 0x10 ∷ 0x11 ∷ 0x0E ∷ 0x5A ∷ 0x00 ∷ 0x00 ∷ 0x00 ∷ 0xA6 ∷ 0xFF ∷ 0xFF ∷ 0xFF ∷ 0x32 ∷ 0x64 ∷ 0x7F ∷ 0x03 ∷ [])
    ++ record_of 1 (0x09 ∷ 0x00 ∷ 0x04 ∷ 0x10 ∷ 0x02 ∷ 0x26 ∷ 0x00 ∷ 0x00 ∷ 0x01 ∷ [])
    ++ record_of 0 (0x12 ∷ 0x00 ∷ 0x81 ∷ 0x10 ∷ 0x11 ∷ 0x0E ∷ 0x5A ∷ 0x00 ∷ 0x00 ∷ 0x00 ∷ 0xA6 ∷ 0xFF ∷ 0xFF ∷ 0xFF ∷ 0x32 ∷ 0x64 ∷ 0x7F ∷ 0x03 ∷ [])
    ++ record_of 0 (0x12 ∷ 0x00 ∷ 0x81 ∷ 0x00 ∷ 0x11 ∷ 0x0E ∷ 0x5A ∷ 0x00 ∷ 0x00 ∷ 0x00 ∷ 0xA6 ∷ 0xFF ∷ 0xFF ∷ 0xFF ∷ 0x32 ∷ 0x64 ∷ 0x7F ∷ 0x03 ∷ [])
    ++ record_of 0 (0x0E ∷ 0x00 ∷ 0x81 ∷ 0x00 ∷ 0x11 ∷ 0x0D ∷ 0x5A ∷ 0x00 ∷ 0x00 ∷ 0x00 ∷ 0x32 ∷ 0x64 ∷ 0x7F ∷ 0x03 ∷ [])
    ++ record_of 1 (0x05 ∷ 0x00 ∷ 0x82 ∷ 0x10 ∷ 0x0A ∷ [])
    ++ record_of 1 (0x07 ∷ 0x00 ∷ 0x82 ∷ 0x10 ∷ 0x0A ∷ 0x02 ∷ 0x0A ∷ [])
    ++ record_of 1 (0x05 ∷ 0x00 ∷ 0x82 ∷ 0x02 ∷ 0x20 ∷ [])

-- "1 0", "2 0", "3 10", "4 0", "5 0", "6 22", "7 0", "8 0", "9 10", "10 7", "total 10 refused 4"
abbrev motor_lines : List ℕ
motor_lines =
    49 ∷ 32 ∷ 48 ∷ 10
    ∷ 50 ∷ 32 ∷ 48 ∷ 10
    ∷ 51 ∷ 32 ∷ 49 ∷ 48 ∷ 10
    ∷ 52 ∷ 32 ∷ 48 ∷ 10
    ∷ 53 ∷ 32 ∷ 48 ∷ 10
    ∷ 54 ∷ 32 ∷ 50 ∷ 50 ∷ 10
    ∷ 55 ∷ 32 ∷ 48 ∷ 10
    ∷ 56 ∷ 32 ∷ 48 ∷ 10
    ∷ 57 ∷ 32 ∷ 49 ∷ 48 ∷ 10
    ∷ 49 ∷ 48 ∷ 32 ∷ 55 ∷ 10
    ∷ 116 ∷ 111 ∷ 116 ∷ 97 ∷ 108 ∷ 32 ∷ 49 ∷ 48 ∷ 32 ∷ 114 ∷ 101 ∷ 102 ∷ 117 ∷ 115 ∷ 101 ∷ 100 ∷ 32 ∷ 52 ∷ 10 ∷ []

abbrev pub MotorRecords : Type 0
MotorRecords = output 128 motor_records ≡ motor_lines

-- a colour sensor: two formats, a list asked for in experiment 9, its 48 and a 46; a new list and a 46 of one value; a 45; a pointer that
-- the 48 hasn't
abbrev combined_records : List ℕ
combined_records =
    record_of 1 (0x0F ∷ 0x00 ∷ 0x04 ∷ 0x00 ∷ 0x01 ∷ 0x3D ∷ 0x00 ∷ 0x00 ∷ 0x00 ∷ 0x00 ∷ 0x10 ∷ 0x00 ∷ 0x00 ∷ 0x00 ∷ 0x10 ∷ [])
    ++ record_of 1 (0x0A ∷ 0x00 ∷ 0x44 ∷ 0x00 ∷ 0x01 ∷ 0x80 ∷ 0x01 ∷ 0x00 ∷ 0x04 ∷ 0x00 ∷ [])
    ++ record_of 1 (0x0A ∷ 0x00 ∷ 0x44 ∷ 0x00 ∷ 0x02 ∷ 0x80 ∷ 0x02 ∷ 0x01 ∷ 0x04 ∷ 0x00 ∷ [])
    ++ record_with 0 0 9 0 (0x08 ∷ 0x00 ∷ 0x42 ∷ 0x00 ∷ 0x01 ∷ 0x00 ∷ 0x10 ∷ 0x21 ∷ [])
    ++ record_of 1 (0x07 ∷ 0x00 ∷ 0x48 ∷ 0x00 ∷ 0x00 ∷ 0x03 ∷ 0x00 ∷ [])
    ++ record_of 1 (0x09 ∷ 0x00 ∷ 0x46 ∷ 0x00 ∷ 0x03 ∷ 0x00 ∷ 0x80 ∷ 0xFE ∷ 0xFF ∷ [])
    ++ record_of 0 (0x07 ∷ 0x00 ∷ 0x42 ∷ 0x00 ∷ 0x01 ∷ 0x00 ∷ 0x21 ∷ [])
    ++ record_of 1 (0x08 ∷ 0x00 ∷ 0x46 ∷ 0x00 ∷ 0x02 ∷ 0x00 ∷ 0xFE ∷ 0xFF ∷ [])
    ++ record_of 1 (0x05 ∷ 0x00 ∷ 0x45 ∷ 0x00 ∷ 0x80 ∷ [])
    ++ record_of 1 (0x08 ∷ 0x00 ∷ 0x46 ∷ 0x00 ∷ 0x04 ∷ 0x00 ∷ 0xFE ∷ 0xFF ∷ [])

-- "1 0", "2 0", "3 0", "4 0", "5 0", "6 0 0 2 9 3 -128 -2", "7 0", "8 0 0 1 0 2 -2", "9 14", "10 21", "total 10 refused 2"
abbrev combined_lines : List ℕ
combined_lines =
    49 ∷ 32 ∷ 48 ∷ 10
    ∷ 50 ∷ 32 ∷ 48 ∷ 10
    ∷ 51 ∷ 32 ∷ 48 ∷ 10
    ∷ 52 ∷ 32 ∷ 48 ∷ 10
    ∷ 53 ∷ 32 ∷ 48 ∷ 10
    ∷ 54 ∷ 32 ∷ 48 ∷ 32 ∷ 48 ∷ 32 ∷ 50 ∷ 32 ∷ 57 ∷ 32 ∷ 51 ∷ 32 ∷ 45 ∷ 49 ∷ 50 ∷ 56 ∷ 32 ∷ 45 ∷ 50 ∷ 10
    ∷ 55 ∷ 32 ∷ 48 ∷ 10
    ∷ 56 ∷ 32 ∷ 48 ∷ 32 ∷ 48 ∷ 32 ∷ 49 ∷ 32 ∷ 48 ∷ 32 ∷ 50 ∷ 32 ∷ 45 ∷ 50 ∷ 10
    ∷ 57 ∷ 32 ∷ 49 ∷ 52 ∷ 10
    ∷ 49 ∷ 48 ∷ 32 ∷ 50 ∷ 49 ∷ 10
    ∷ 116 ∷ 111 ∷ 116 ∷ 97 ∷ 108 ∷ 32 ∷ 49 ∷ 48 ∷ 32 ∷ 114 ∷ 101 ∷ 102 ∷ 117 ∷ 115 ∷ 101 ∷ 100 ∷ 32 ∷ 50 ∷ 10 ∷ []

abbrev pub CombinedRecords : Type 0
CombinedRecords = output 128 combined_records ≡ combined_lines

-- the longest number of 32 bits, "-2147483648"; 0 has no sign
abbrev pub SignedText : Type 0
SignedText = (signed_decimal (neg_ℤ (pos 2147483648)) ≡ 45 ∷ 50 ∷ 49 ∷ 52 ∷ 55 ∷ 52 ∷ 56 ∷ 51 ∷ 54 ∷ 52 ∷ 56 ∷ []) × (signed_decimal (neg_ℤ (pos 0)) ≡ 48 ∷ [])

-- port 7 in mode 1 and state 2, experiment 9, with two datasets: "0 7 1 2 9 5 -258"
abbrev pub ValuesLine : Type 0
ValuesLine = numbers_of (values 7 1 2 9 (pos 5 ∷ neg_ℤ (pos 258) ∷ [])) ≡ pos 0 ∷ pos 7 ∷ pos 1 ∷ pos 2 ∷ pos 9 ∷ pos 5 ∷ neg_ℤ (pos 258) ∷ []

-- port 7 in state 2, experiment 9, by pointers 3, with two values: "0 7 2 9 3 5 -258"
abbrev pub CombinedLine : Type 0
CombinedLine = numbers_of (combined_values 7 2 9 3 (pos 5 ∷ neg_ℤ (pos 258) ∷ [])) ≡ pos 0 ∷ pos 7 ∷ pos 2 ∷ pos 9 ∷ pos 3 ∷ pos 5 ∷ neg_ℤ (pos 258) ∷ []

-- "total 0 refused 0"
abbrev pub EmptyInput : Type 0
EmptyInput = output 128 [] ≡ 116 ∷ 111 ∷ 116 ∷ 97 ∷ 108 ∷ 32 ∷ 48 ∷ 32 ∷ 114 ∷ 101 ∷ 102 ∷ 117 ∷ 115 ∷ 101 ∷ 100 ∷ 32 ∷ 48 ∷ 10 ∷ []
