-- The forms of document 01's table, as data: the fields after the header, left to right, selectors among them, and what follows them.
use Rattle.std.specs.Prelude.{ℕ, zero, suc, ◌+◌, ◌*◌, ◌-◌, ◌/◌, ◌%◌, Bool, true, cond, not, ◌&&◌, List, [], ◌∷◌, leb, ltb, eqb, length, get_or, take, drop}
use Rattle.std.proofs.Math.Option.{Option, none, some}
use Rattle.protocol.specs.Number.{little_endian}
use Rattle.protocol.specs.Rule.{Rule, any, up_to, between, one_of, either, SignedRule, any_signed, from_minus}
use Rattle.protocol.specs.Field.{Field, number, high_first, signed, float, fixed, Value, natural, Fields, outside, values}
use Rattle.protocol.specs.Properties.{longest, greatest}

-- The forms. Where a selector decides a bound, it is an argument.
pub data Form : Type 0 where
  property_command : Form
  property_text : ℕ → Form
  property_byte : ℕ → Form
  property_rssi : Form
  property_version : Form
  property_protocol : Form
  property_address : Form
  hub_action : Form
  alert_command : Form
  alert_update : Form
  detached : Form
  attached : Form
  attached_virtual : Form
  generic_error : Form
  go_into_boot_mode : Form
  lock_memory : Form
  lock_status_request : Form
  lock_status : Form
  port_information_request : Form
  mode_information_request : Form
  input_format_setup : Form
  port_modes : Form
  port_combinations : Form
  mode_text : ℕ → Form
  mode_range : Form
  mode_mapping : Form
  mode_bias : Form
  mode_capabilities : Form
  value_format : Form
  port_value : Form
  input_format : Form
  virtual_disconnect : Form
  virtual_connect : Form
  start_speed_for_degrees : Form
  goto_absolute_position : Form
  goto_absolute_positions : Form
  preset_encoders : Form
  output_feedback : Form
  combined_setup : Form
  mode_datasets : Form
  port_value_combined : Form
  input_format_combined : Form

-- the type byte of a form
abbrev pub code : Form → ℕ
code property_command = 0x01
code (property_text p) = 0x01
code (property_byte p) = 0x01
code property_rssi = 0x01
code property_version = 0x01
code property_protocol = 0x01
code property_address = 0x01
code hub_action = 0x02
code alert_command = 0x03
code alert_update = 0x03
code detached = 0x04
code attached = 0x04
code attached_virtual = 0x04
code generic_error = 0x05
code go_into_boot_mode = 0x10
code lock_memory = 0x11
code lock_status_request = 0x12
code lock_status = 0x13
code port_information_request = 0x21
code mode_information_request = 0x22
code input_format_setup = 0x41
code port_modes = 0x43
code port_combinations = 0x43
code (mode_text i) = 0x44
code mode_range = 0x44
code mode_mapping = 0x44
code mode_bias = 0x44
code mode_capabilities = 0x44
code value_format = 0x44
code port_value = 0x45
code input_format = 0x47
code virtual_disconnect = 0x61
code virtual_connect = 0x61
code start_speed_for_degrees = 0x81
code goto_absolute_position = 0x81
code goto_absolute_positions = 0x81
code preset_encoders = 0x81
code output_feedback = 0x82
code combined_setup = 0x42
code mode_datasets = 0x42
code port_value_combined = 0x46
code input_format_combined = 0x48

-- the forms numbered from 1, and the selector that one has as its argument
abbrev pub form_number : Form → ℕ
form_number property_command = 1
form_number (property_text p) = 2
form_number (property_byte p) = 3
form_number property_rssi = 4
form_number property_version = 5
form_number property_protocol = 6
form_number property_address = 7
form_number hub_action = 8
form_number alert_command = 9
form_number alert_update = 10
form_number detached = 11
form_number attached = 12
form_number attached_virtual = 13
form_number generic_error = 14
form_number go_into_boot_mode = 15
form_number lock_memory = 16
form_number lock_status_request = 17
form_number lock_status = 18
form_number port_information_request = 19
form_number mode_information_request = 20
form_number input_format_setup = 21
form_number port_modes = 22
form_number port_combinations = 23
form_number (mode_text i) = 24
form_number mode_range = 25
form_number mode_mapping = 26
form_number mode_bias = 27
form_number mode_capabilities = 28
form_number value_format = 29
form_number port_value = 30
form_number input_format = 31
form_number virtual_disconnect = 32
form_number virtual_connect = 33
form_number start_speed_for_degrees = 34
form_number goto_absolute_position = 35
form_number goto_absolute_positions = 36
form_number preset_encoders = 37
form_number output_feedback = 38
form_number combined_setup = 39
form_number mode_datasets = 40
form_number port_value_combined = 41
form_number input_format_combined = 42

abbrev pub argument : Form → ℕ
argument property_command = 0
argument (property_text p) = p
argument (property_byte p) = p
argument property_rssi = 0
argument property_version = 0
argument property_protocol = 0
argument property_address = 0
argument hub_action = 0
argument alert_command = 0
argument alert_update = 0
argument detached = 0
argument attached = 0
argument attached_virtual = 0
argument generic_error = 0
argument go_into_boot_mode = 0
argument lock_memory = 0
argument lock_status_request = 0
argument lock_status = 0
argument port_information_request = 0
argument mode_information_request = 0
argument input_format_setup = 0
argument port_modes = 0
argument port_combinations = 0
argument (mode_text i) = i
argument mode_range = 0
argument mode_mapping = 0
argument mode_bias = 0
argument mode_capabilities = 0
argument value_format = 0
argument port_value = 0
argument input_format = 0
argument virtual_disconnect = 0
argument virtual_connect = 0
argument start_speed_for_degrees = 0
argument goto_absolute_position = 0
argument goto_absolute_positions = 0
argument preset_encoders = 0
argument output_feedback = 0
argument combined_setup = 0
argument mode_datasets = 0
argument port_value_combined = 0
argument input_format_combined = 0

-- the forms by their numbers and argument; no form has number 0
abbrev pub forms_by : ℕ → List Form
forms_by a =
    go_into_boot_mode
    ∷ property_command
    ∷ (property_text a)
    ∷ (property_byte a)
    ∷ property_rssi
    ∷ property_version
    ∷ property_protocol
    ∷ property_address
    ∷ hub_action
    ∷ alert_command
    ∷ alert_update
    ∷ detached
    ∷ attached
    ∷ attached_virtual
    ∷ generic_error
    ∷ go_into_boot_mode
    ∷ lock_memory
    ∷ lock_status_request
    ∷ lock_status
    ∷ port_information_request
    ∷ mode_information_request
    ∷ input_format_setup
    ∷ port_modes
    ∷ port_combinations
    ∷ (mode_text a)
    ∷ mode_range
    ∷ mode_mapping
    ∷ mode_bias
    ∷ mode_capabilities
    ∷ value_format
    ∷ port_value
    ∷ input_format
    ∷ virtual_disconnect
    ∷ virtual_connect
    ∷ start_speed_for_degrees
    ∷ goto_absolute_position
    ∷ goto_absolute_positions
    ∷ preset_encoders
    ∷ output_feedback
    ∷ combined_setup
    ∷ mode_datasets
    ∷ port_value_combined
    ∷ input_format_combined
    ∷ []

abbrev pub same_form : Form → Form → Bool
same_form f g = eqb (form_number f) (form_number g) && eqb (argument f) (argument g)

-- what an open run is made of
pub data Run : Type 0 where
  any_bytes : Run
  -- items of so many bytes each, and what a byte must be, by the run and its index there
  items : ℕ → (List ℕ → ℕ → Bool) → Run

-- what follows the fields
pub data Rest : Type 0 where
  nothing : Rest
  -- open bytes, from the least to the most
  open_run : ℕ → ℕ → Run → Rest
  -- one u16 or more, up to the most
  words : ℕ → Rest

pub record Layout : Type 0 where
  pub fields : List Field
  pub rest : Rest

abbrev byte : Rule → Field
byte rule = number 1 rule

-- a selector, which choosing the form has tested
abbrev selector : Field
selector = byte any

abbrev port : Field
port = byte any

-- the greatest mode, notify and kind, and the most datasets of a value format: a port table keeps such numbers too
abbrev pub last_mode : ℕ
last_mode = 15

abbrev pub last_notify : ℕ
last_notify = 1

abbrev pub most_datasets : ℕ
most_datasets = 16

abbrev pub last_kind : ℕ
last_kind = 3

-- Mode is 0-15 everywhere
abbrev mode : Field
mode = byte (up_to last_mode)

-- 22: 0-5, 7, 8, 80
unfoldable pub information_type : Rule
information_type n = either (up_to 5) (one_of (7 ∷ 8 ∷ 0x80 ∷ [])) n

-- 03: 00 or FF
unfoldable pub alert_status : Rule
alert_status n = one_of (0x00 ∷ 0xFF ∷ []) n

-- a name has up to 11 bytes, a symbol up to 5
unfoldable pub longest_mode_text : ℕ → ℕ
longest_mode_text information = cond (eqb information 0) 11 5

-- 81: the two halves of the start byte, Startup and Completion Information, are each 0 or 1
unfoldable pub start_byte : Rule
start_byte n = up_to 1 (n / 16) && up_to 1 (n % 16)

-- 0C: the sign of a speed is its direction
unfoldable pub signed_speed : SignedRule
signed_speed z = from_minus 100 100 z

-- 0C: signed in the bytes, and never negative
unfoldable pub degrees : SignedRule
degrees z = from_minus 0 10000000 z

-- 0D, 0E
abbrev speed : Field
speed = byte (between 1 100)

-- 0C, 0D, 0E: float, hold or brake
unfoldable pub end_state : Rule
end_state n = one_of (0 ∷ 126 ∷ 127 ∷ []) n

-- power, end state, profile
abbrev pub ending : List Field
ending = byte (up_to 100) ∷ byte end_state ∷ byte (up_to 3) ∷ []

abbrev position : Field
position = signed 4 any_signed

-- 82: a port and its feedback, the five bits of document 002
unfoldable pub feedback : List ℕ → ℕ → Bool
feedback run i = cond (eqb (i % 2) 0) true (up_to 0x1F (get_or run i 0))

abbrev pub feedback_pairs : Run
feedback_pairs = items 2 feedback

-- 42: mode in the high half and dataset in the low, no byte twice: none is among those before it
unfoldable pub first_time : List ℕ → ℕ → Bool
first_time run i = not (one_of (take i run) (get_or run i 0))

abbrev pub mode_dataset_list : Run
mode_dataset_list = items 1 first_time

-- the most entries of such a list: a port table keeps one too
abbrev pub most_entries : ℕ
most_entries = 16

-- LPF2-Boot
abbrev pub boot_string : List ℕ
boot_string = 0x4C ∷ 0x50 ∷ 0x46 ∷ 0x32 ∷ 0x2D ∷ 0x42 ∷ 0x6F ∷ 0x6F ∷ 0x74 ∷ []

-- Lock Mem
abbrev pub lock_string : List ℕ
lock_string = 0x4C ∷ 0x6F ∷ 0x63 ∷ 0x6B ∷ 0x20 ∷ 0x4D ∷ 0x65 ∷ 0x6D ∷ []

abbrev only : List Field → Layout
only fs = record { fields = fs; rest = nothing }

abbrev ending_in : List Field → Rest → Layout
ending_in fs r = record { fields = fs; rest = r }

-- 41 and 47: port, mode, delta u32, notify 0 or 1
abbrev input_setup : List Field
input_setup = port ∷ mode ∷ number 4 any ∷ byte (up_to last_notify) ∷ []

unfoldable pub layout : Form → Layout
layout property_command = only (selector ∷ selector ∷ [])
layout (property_text property) = ending_in (selector ∷ selector ∷ []) (open_run 1 (longest property) any_bytes)
layout (property_byte property) = only (selector ∷ selector ∷ byte (up_to (greatest property)) ∷ [])
layout property_rssi = only (selector ∷ selector ∷ signed 1 any_signed ∷ [])
layout property_version = only (selector ∷ selector ∷ signed 4 any_signed ∷ [])
layout property_protocol = only (selector ∷ selector ∷ number 2 any ∷ [])
layout property_address = only (selector ∷ selector ∷ high_first 6 ∷ [])
layout hub_action = only (selector ∷ [])
layout alert_command = only (selector ∷ selector ∷ [])
layout alert_update = only (selector ∷ selector ∷ byte alert_status ∷ [])
layout detached = only (port ∷ selector ∷ [])
layout attached = only (port ∷ selector ∷ number 2 any ∷ signed 4 any_signed ∷ signed 4 any_signed ∷ [])
layout attached_virtual = only (port ∷ selector ∷ number 2 any ∷ port ∷ port ∷ [])
layout generic_error = only (byte any ∷ byte (between 1 8) ∷ [])
layout go_into_boot_mode = only (fixed boot_string ∷ [])
layout lock_memory = only (fixed lock_string ∷ [])
layout lock_status_request = only []
layout lock_status = only (byte any ∷ [])
layout port_information_request = only (port ∷ byte (up_to 2) ∷ [])
layout mode_information_request = only (port ∷ mode ∷ byte information_type ∷ [])
layout input_format_setup = only input_setup
layout port_modes = only (port ∷ selector ∷ byte (up_to 15) ∷ byte any ∷ number 2 any ∷ number 2 any ∷ [])
layout port_combinations = ending_in (port ∷ selector ∷ []) (words 8)
layout (mode_text information) = ending_in (port ∷ mode ∷ selector ∷ []) (open_run 1 (longest_mode_text information) any_bytes)
layout mode_range = only (port ∷ mode ∷ selector ∷ float ∷ float ∷ [])
layout mode_mapping = only (port ∷ mode ∷ selector ∷ number 2 any ∷ [])
layout mode_bias = only (port ∷ mode ∷ selector ∷ byte (up_to 100) ∷ [])
layout mode_capabilities = only (port ∷ mode ∷ selector ∷ high_first 6 ∷ [])
layout value_format = only (port ∷ mode ∷ selector ∷ byte (between 1 most_datasets) ∷ byte (up_to last_kind) ∷ byte any ∷ byte any ∷ [])
layout port_value = ending_in (port ∷ []) (open_run 1 123 any_bytes)
layout input_format = only input_setup
layout virtual_disconnect = only (selector ∷ port ∷ [])
layout virtual_connect = only (selector ∷ port ∷ port ∷ [])
layout start_speed_for_degrees = only (port ∷ byte start_byte ∷ selector ∷ signed 4 degrees ∷ signed 1 signed_speed ∷ signed 1 signed_speed ∷ ending)
layout goto_absolute_position = only (port ∷ byte start_byte ∷ selector ∷ position ∷ speed ∷ ending)
layout goto_absolute_positions = only (port ∷ byte start_byte ∷ selector ∷ position ∷ position ∷ speed ∷ ending)
layout preset_encoders = only (port ∷ byte start_byte ∷ selector ∷ position ∷ position ∷ [])
layout output_feedback = ending_in [] (open_run 2 124 feedback_pairs)
layout combined_setup = only (port ∷ selector ∷ [])
layout mode_datasets = ending_in (port ∷ selector ∷ byte any ∷ []) (open_run 1 most_entries mode_dataset_list)
layout port_value_combined = ending_in (port ∷ number 2 any ∷ []) (open_run 1 121 any_bytes)
layout input_format_combined = only (port ∷ byte any ∷ number 2 any ∷ [])

-- the least bytes that follow the fields: of words one
abbrev pub least_rest : Rest → ℕ
least_rest nothing = 0
least_rest (open_run least most run) = least
least_rest (words most) = 2

-- whether so many bytes are whole items of a run
abbrev pub whole : Run → ℕ → Bool
whole any_bytes count = true
whole (items step test) count = eqb (count % step) 0

-- whether a whole size fits, where the fields end at a place
abbrev pub fits : Rest → ℕ → ℕ → Bool
fits nothing end size = eqb size end
fits (open_run least most run) end size = whole run (size - end) && leb (end + least) size && leb size (end + most)
fits (words most) end size = leb (end + least_rest (words most)) size && leb size (end + 2 * most) && eqb ((size - end) % 2) 0

-- the u16 at index i of those that start at a place, 0 from the count on
unfoldable pub word : List ℕ → ℕ → ℕ → ℕ → ℕ
word s at count i = cond (ltb i count) (little_endian s (at + 2 * i) 2) 0

abbrev pub words_from : List ℕ → ℕ → ℕ → List ℕ → List Value
words_from s at count [] = []
words_from s at count (i ∷ is) = natural (word s at count i) ∷ words_from s at count is

abbrev pub up_from : ℕ → ℕ → List ℕ
up_from i zero = []
up_from i (suc n) = i ∷ up_from (suc i) n

-- the index of the first byte of a run that is not as it must be, none where all are: among so many from an index on
abbrev pub wrong_from : (List ℕ → ℕ → Bool) → List ℕ → ℕ → ℕ → Option ℕ
wrong_from test run i zero = none
wrong_from test run i (suc n) = cond (test run i) (wrong_from test run (suc i) n) (some i)

-- and among all
abbrev pub wrong_byte : Run → List ℕ → Option ℕ
wrong_byte any_bytes run = none
wrong_byte (items step test) run = wrong_from test run 0 (length run)

-- a run has no values, but the place of a wrong byte, where it starts at a place
abbrev pub read_run : ℕ → Option ℕ → Fields
read_run at none = values []
read_run at (some i) = outside (at + i)

-- the values of what follows the fields, which end at a place: of words their count and each up to the most
abbrev pub read_rest : List ℕ → ℕ → Rest → Fields
read_rest s at nothing = values []
read_rest s at (open_run least most run) = read_run at (wrong_byte run (drop at s))
read_rest s at (words most) =
    let count = (length s - at) / 2 in
    values (natural count ∷ words_from s at count (up_from 0 most))

-- the open bytes, where the fields end at a place
abbrev pub open_bytes : List ℕ → ℕ → Rest → List ℕ
open_bytes s at nothing = []
open_bytes s at (open_run least most run) = drop at s
open_bytes s at (words most) = []
