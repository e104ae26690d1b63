-- Rows and what writing gives of them, in a table a rule: document 01's refusal where it has one, and 255 for what is left.
use Rattle.std.specs.Prelude.{ℕ, ◌≡◌, List, [], ◌∷◌, map, length}
use Rattle.protocol.specs.Encode.{Encoded, refused, encoded}
use Rattle.protocol.specs.declared.Way.{Way}
use Rattle.protocol.specs.declared.Way.TheVariants.{Down, Up}
use Rattle.message_rows.specs.Row.{padded}
use Rattle.row_messages.specs.RowWriting.{row_encoded}

pub record Example : Type 0 where
  pub way : Way
  pub form : ℕ
  pub numbers : List ℕ
  pub opens : List ℕ
  pub answer : Encoded

abbrev down : ℕ → List ℕ → List ℕ → Encoded → Example
down f ns opens a = record { way = Down; form = f; numbers = ns; opens = opens; answer = a }

abbrev up : ℕ → List ℕ → List ℕ → Encoded → Example
up f ns opens a = record { way = Up; form = f; numbers = ns; opens = opens; answer = a }

-- no form, then the way
abbrev first_tests : List Example
first_tests =
    up 43 [] [] (refused 255 0)
    ∷ up 0 [] [] (refused 255 0)
    ∷ down 11 (300 ∷ 300 ∷ []) [] (refused 5 2)
    ∷ []

-- then memory lock, which is read only, before a second slice and a number that is too wide
abbrev memory_lock : List Example
memory_lock =
    down 16 [] [] (refused 23 0)
    ∷ up 16 [] [] (refused 5 2)
    ∷ down 17 [] (0x01 ∷ []) (refused 23 0)
    ∷ up 17 [] (0x01 ∷ []) (refused 5 2)
    ∷ up 18 (0xFF ∷ []) [] (refused 23 0)
    ∷ up 18 (300 ∷ []) [] (refused 23 0)
    ∷ down 18 (300 ∷ []) [] (refused 5 2)
    ∷ []

-- a detachment whose event is another's, or wider than its byte; a port has no list
abbrev detachments : List Example
detachments =
    up 11 (300 ∷ 1 ∷ []) [] (refused 7 4)
    ∷ up 11 (0 ∷ 300 ∷ []) [] (refused 7 4)
    ∷ up 11 (300 ∷ 0 ∷ []) [] (refused 255 0)
    ∷ up 11 (7 ∷ 0 ∷ []) [] (encoded (0x05 ∷ 0x00 ∷ 0x04 ∷ 0x07 ∷ 0x00 ∷ []))
    ∷ []

-- the signal strength of no property, of another, and one that is no i8
abbrev signals : List Example
signals =
    up 4 (300 ∷ 6 ∷ 0 ∷ []) [] (refused 7 3)
    ∷ up 4 (3 ∷ 6 ∷ 0 ∷ []) [] (refused 7 4)
    ∷ up 4 (5 ∷ 6 ∷ 128 ∷ []) [] (refused 255 0)
    ∷ up 4 (5 ∷ 6 ∷ 18446744073709551488 ∷ []) [] (encoded (0x06 ∷ 0x00 ∷ 0x01 ∷ 0x05 ∷ 0x06 ∷ 0x80 ∷ []))
    ∷ []

-- a status is 00 or FF; a battery voltage has a list, a network id none
abbrev lists : List Example
lists =
    up 10 (1 ∷ 4 ∷ 300 ∷ []) [] (refused 7 5)
    ∷ up 3 (6 ∷ 6 ∷ 300 ∷ []) [] (refused 7 5)
    ∷ up 3 (12 ∷ 6 ∷ 300 ∷ []) [] (refused 255 0)
    ∷ []

-- a mode before a delta that is too wide
abbrev deltas : List Example
deltas =
    down 21 (0 ∷ 300 ∷ 4294967296 ∷ 0 ∷ []) [] (refused 7 4)
    ∷ down 21 (0 ∷ 2 ∷ 4294967296 ∷ 0 ∷ []) [] (refused 255 0)
    ∷ down 21 (0 ∷ 2 ∷ 4294967296 ∷ 0 ∷ []) (0x01 ∷ []) (refused 6 10)
    ∷ []

-- counts, and entries past them
abbrev counts : List Example
counts =
    up 23 (0 ∷ 2 ∷ 300 ∷ []) [] (refused 6 7)
    ∷ up 23 (0 ∷ 2 ∷ 0 ∷ []) [] (refused 6 7)
    ∷ up 23 (0 ∷ 2 ∷ 9 ∷ []) [] (refused 6 7)
    ∷ up 23 (0 ∷ 2 ∷ 2 ∷ []) (0x01 ∷ []) (refused 6 7)
    ∷ up 23 (0 ∷ 2 ∷ 1 ∷ 258 ∷ 18446744073709551615 ∷ []) [] (encoded (0x07 ∷ 0x00 ∷ 0x43 ∷ 0x00 ∷ 0x02 ∷ 0x02 ∷ 0x01 ∷ []))
    ∷ up 23 (0 ∷ 2 ∷ 2 ∷ 258 ∷ 65536 ∷ []) [] (refused 255 0)
    ∷ []

-- too few and too many open bytes, and any where there are none
abbrev open_bytes : List Example
open_bytes =
    up 24 (300 ∷ 300 ∷ 0 ∷ []) [] (refused 6 7)
    ∷ up 24 (0 ∷ 0 ∷ 4 ∷ []) (0x41 ∷ 0x42 ∷ 0x43 ∷ 0x44 ∷ 0x45 ∷ 0x46 ∷ []) (refused 6 7)
    ∷ up 30 (0 ∷ []) [] (refused 6 5)
    ∷ down 2 (1 ∷ 1 ∷ []) [] (refused 6 6)
    ∷ down 15 [] (0x4C ∷ []) (refused 6 12)
    ∷ up 12 (0 ∷ 1 ∷ 38 ∷ 0 ∷ 0 ∷ []) (0x01 ∷ []) (refused 6 15)
    ∷ []

-- six bytes, and floats
abbrev wide_numbers : List Example
wide_numbers =
    up 28 (0 ∷ 0 ∷ 8 ∷ 281474976710656 ∷ []) [] (refused 7 6)
    ∷ up 25 (0 ∷ 0 ∷ 1 ∷ 0 ∷ 2139095040 ∷ []) [] (refused 7 10)
    ∷ up 25 (0 ∷ 0 ∷ 1 ∷ 0 ∷ 4294967296 ∷ []) [] (refused 255 0)
    ∷ []

-- a motor command: both speeds with their signs; its sub command is another's, or of no list
abbrev motor_commands : List Example
motor_commands =
    down 34 (16 ∷ 0x11 ∷ 12 ∷ 90 ∷ 18446744073709551516 ∷ 100 ∷ 100 ∷ 127 ∷ 3 ∷ []) [] (encoded (0x0F ∷ 0x00 ∷ 0x81 ∷ 0x10 ∷ 0x11 ∷ 0x0C ∷ 0x5A ∷ 0x00 ∷ 0x00 ∷ 0x00 ∷ 0x9C ∷ 0x64 ∷ 0x64 ∷ 0x7F ∷ 0x03 ∷ []))
    ∷ up 34 (16 ∷ 0x11 ∷ 12 ∷ []) [] (refused 5 2)
    ∷ down 34 (16 ∷ 0x11 ∷ 13 ∷ 90 ∷ 0 ∷ 0 ∷ 0 ∷ 0 ∷ 0 ∷ []) [] (refused 7 5)
    ∷ down 34 (16 ∷ 0x11 ∷ 268 ∷ 90 ∷ 0 ∷ 0 ∷ 0 ∷ 0 ∷ 0 ∷ []) [] (refused 7 5)
    ∷ []

-- degrees of -1 and of 2 ^ 32, speeds of -101, 300 and -129: outside their lists
abbrev speeds : List Example
speeds =
    down 34 (16 ∷ 0x11 ∷ 12 ∷ 18446744073709551615 ∷ 0 ∷ 0 ∷ 0 ∷ 0 ∷ 0 ∷ []) [] (refused 7 6)
    ∷ down 34 (16 ∷ 0x11 ∷ 12 ∷ 4294967296 ∷ 0 ∷ 0 ∷ 0 ∷ 0 ∷ 0 ∷ []) [] (refused 7 6)
    ∷ down 34 (16 ∷ 0x11 ∷ 12 ∷ 90 ∷ 18446744073709551515 ∷ 0 ∷ 0 ∷ 0 ∷ 0 ∷ []) [] (refused 7 10)
    ∷ down 34 (16 ∷ 0x11 ∷ 12 ∷ 90 ∷ 300 ∷ 0 ∷ 0 ∷ 0 ∷ 0 ∷ []) [] (refused 7 10)
    ∷ down 34 (16 ∷ 0x11 ∷ 12 ∷ 90 ∷ 0 ∷ 18446744073709551487 ∷ 0 ∷ 0 ∷ 0 ∷ []) [] (refused 7 11)
    ∷ []

-- a position has no list
abbrev positions : List Example
positions =
    down 35 (0 ∷ 1 ∷ 13 ∷ 2147483648 ∷ 1 ∷ 100 ∷ 126 ∷ 0 ∷ []) [] (refused 255 0)
    ∷ down 35 (0 ∷ 1 ∷ 13 ∷ 2147483648 ∷ 1 ∷ 101 ∷ 126 ∷ 0 ∷ []) [] (refused 7 11)
    ∷ down 35 (0 ∷ 1 ∷ 13 ∷ 18446744071562067968 ∷ 1 ∷ 100 ∷ 126 ∷ 0 ∷ []) [] (encoded (0x0E ∷ 0x00 ∷ 0x81 ∷ 0x00 ∷ 0x01 ∷ 0x0D ∷ 0x00 ∷ 0x00 ∷ 0x00 ∷ 0x80 ∷ 0x01 ∷ 0x64 ∷ 0x7E ∷ 0x00 ∷ []))
    ∷ down 36 (16 ∷ 0x10 ∷ 14 ∷ 300 ∷ 18446744073709551316 ∷ 50 ∷ 80 ∷ 0 ∷ 1 ∷ []) [] (encoded (0x12 ∷ 0x00 ∷ 0x81 ∷ 0x10 ∷ 0x10 ∷ 0x0E ∷ 0x2C ∷ 0x01 ∷ 0x00 ∷ 0x00 ∷ 0xD4 ∷ 0xFE ∷ 0xFF ∷ 0xFF ∷ 0x32 ∷ 0x50 ∷ 0x00 ∷ 0x01 ∷ []))
    ∷ down 37 (16 ∷ 0x10 ∷ 20 ∷ 0 ∷ 18446744073709551615 ∷ []) [] (encoded (0x0E ∷ 0x00 ∷ 0x81 ∷ 0x10 ∷ 0x10 ∷ 0x14 ∷ 0x00 ∷ 0x00 ∷ 0x00 ∷ 0x00 ∷ 0xFF ∷ 0xFF ∷ 0xFF ∷ 0xFF ∷ []))
    ∷ []

-- feedback comes in pairs, and has five bits
abbrev feedbacks : List Example
feedbacks =
    up 38 [] (16 ∷ 10 ∷ []) (encoded (0x05 ∷ 0x00 ∷ 0x82 ∷ 0x10 ∷ 0x0A ∷ []))
    ∷ up 38 [] (16 ∷ 32 ∷ []) (refused 7 4)
    ∷ up 38 [] (16 ∷ []) (refused 6 5)
    ∷ up 38 [] [] (refused 6 5)
    ∷ down 38 [] (16 ∷ 10 ∷ []) (refused 5 2)
    ∷ []

-- a 42 without a list: 1 leads to a list, 5 and a wider number to no form
abbrev setups : List Example
setups =
    down 39 (0 ∷ 2 ∷ []) [] (encoded (0x05 ∷ 0x00 ∷ 0x42 ∷ 0x00 ∷ 0x02 ∷ []))
    ∷ down 39 (1 ∷ 6 ∷ []) [] (encoded (0x05 ∷ 0x00 ∷ 0x42 ∷ 0x01 ∷ 0x06 ∷ []))
    ∷ down 39 (0 ∷ 1 ∷ []) [] (refused 7 4)
    ∷ down 39 (0 ∷ 5 ∷ []) [] (refused 7 4)
    ∷ down 39 (0 ∷ 258 ∷ []) [] (refused 7 4)
    ∷ down 39 (300 ∷ 2 ∷ []) [] (refused 255 0)
    ∷ down 39 (300 ∷ 2 ∷ []) (0x10 ∷ []) (refused 6 5)
    ∷ up 39 (0 ∷ 5 ∷ []) [] (refused 5 2)
    ∷ []

-- a 42 with one: 2 leads to a setup; an entry that was there before, also with a number that is too wide; none, and one too many
abbrev mode_datasets : List Example
mode_datasets =
    down 40 (0 ∷ 1 ∷ 2 ∷ []) (0x10 ∷ 0x21 ∷ []) (encoded (0x08 ∷ 0x00 ∷ 0x42 ∷ 0x00 ∷ 0x01 ∷ 0x02 ∷ 0x10 ∷ 0x21 ∷ []))
    ∷ down 40 (255 ∷ 1 ∷ 255 ∷ []) (0x00 ∷ 0x01 ∷ 0x02 ∷ 0x03 ∷ 0x04 ∷ 0x05 ∷ 0x06 ∷ 0x07 ∷ 0x08 ∷ 0x09 ∷ 0x0A ∷ 0x0B ∷ 0x0C ∷ 0x0D ∷ 0x0E ∷ 0x0F ∷ []) (encoded (0x16 ∷ 0x00 ∷ 0x42 ∷ 0xFF ∷ 0x01 ∷ 0xFF ∷ 0x00 ∷ 0x01 ∷ 0x02 ∷ 0x03 ∷ 0x04 ∷ 0x05 ∷ 0x06 ∷ 0x07 ∷ 0x08 ∷ 0x09 ∷ 0x0A ∷ 0x0B ∷ 0x0C ∷ 0x0D ∷ 0x0E ∷ 0x0F ∷ []))
    ∷ down 40 (0 ∷ 2 ∷ 2 ∷ []) (0x10 ∷ []) (refused 7 4)
    ∷ down 40 (0 ∷ 1 ∷ 2 ∷ []) (0x10 ∷ 0x21 ∷ 0x10 ∷ []) (refused 7 8)
    ∷ down 40 (0 ∷ 1 ∷ 256 ∷ []) (0x10 ∷ 0x10 ∷ 0x21 ∷ []) (refused 7 7)
    ∷ down 40 (0 ∷ 1 ∷ 256 ∷ []) (0x10 ∷ []) (refused 255 0)
    ∷ down 40 (0 ∷ 1 ∷ 2 ∷ []) [] (refused 6 7)
    ∷ down 40 (0 ∷ 1 ∷ 2 ∷ []) (0x00 ∷ 0x01 ∷ 0x02 ∷ 0x03 ∷ 0x04 ∷ 0x05 ∷ 0x06 ∷ 0x07 ∷ 0x08 ∷ 0x09 ∷ 0x0A ∷ 0x0B ∷ 0x0C ∷ 0x0D ∷ 0x0E ∷ 0x0F ∷ 0x10 ∷ []) (refused 6 7)
    ∷ up 40 (0 ∷ 1 ∷ 2 ∷ []) (0x10 ∷ []) (refused 5 2)
    ∷ []

-- 46: any word, and one byte or more
abbrev combined_values : List Example
combined_values =
    up 41 (0 ∷ 3 ∷ []) (0x80 ∷ 0xFE ∷ 0xFF ∷ []) (encoded (0x09 ∷ 0x00 ∷ 0x46 ∷ 0x00 ∷ 0x03 ∷ 0x00 ∷ 0x80 ∷ 0xFE ∷ 0xFF ∷ []))
    ∷ up 41 (255 ∷ 65535 ∷ []) (0x00 ∷ []) (encoded (0x07 ∷ 0x00 ∷ 0x46 ∷ 0xFF ∷ 0xFF ∷ 0xFF ∷ 0x00 ∷ []))
    ∷ up 41 (0 ∷ 65536 ∷ []) (0x80 ∷ []) (refused 255 0)
    ∷ up 41 (0 ∷ 65536 ∷ []) [] (refused 6 7)
    ∷ down 41 (0 ∷ 3 ∷ []) (0x80 ∷ []) (refused 5 2)
    ∷ []

-- 48: any byte and any word, and nothing behind them
abbrev combined_formats : List Example
combined_formats =
    up 42 (1 ∷ 255 ∷ 0x8003 ∷ []) [] (encoded (0x07 ∷ 0x00 ∷ 0x48 ∷ 0x01 ∷ 0xFF ∷ 0x03 ∷ 0x80 ∷ []))
    ∷ up 42 (1 ∷ 0 ∷ 65536 ∷ []) [] (refused 255 0)
    ∷ up 42 (1 ∷ 256 ∷ 0 ∷ []) [] (refused 255 0)
    ∷ up 42 (1 ∷ 0 ∷ 3 ∷ []) (0x01 ∷ []) (refused 6 7)
    ∷ down 42 (1 ∷ 0 ∷ 3 ∷ []) [] (refused 5 2)
    ∷ []

-- the open bytes are said by the call, and not by the row
abbrev row : Example → List ℕ
row e = e.form ∷ 0 ∷ 0 ∷ length e.numbers ∷ padded 12 e.numbers

abbrev written : Example → Encoded
written e = row_encoded e.way (row e) e.opens

abbrev Held : List Example → Type 0
Held es = map written es ≡ map (λ e. e.answer) es

-- one statement, `examples_hold` in proofs/Examples.antt
abbrev pub ExamplesHold : Type 0
ExamplesHold =
    Held first_tests
    × Held memory_lock
    × Held detachments
    × Held signals
    × Held lists
    × Held deltas
    × Held counts
    × Held open_bytes
    × Held wide_numbers
    × Held motor_commands
    × Held speeds
    × Held positions
    × Held feedbacks
    × Held setups
    × Held mode_datasets
    × Held combined_values
    × Held combined_formats
