-- The message types of document 01's table: which way each goes, and how its selectors choose the form.
-- Selectors stand by their offset after the header, so that place 3 is offset 0.
use Rattle.std.specs.Prelude.{ℕ, ◌+◌, cond, List, [], ◌∷◌, eqb}
use Rattle.std.proofs.Math.Option.{Option, none, some}
use Rattle.protocol.specs.Rule.{Rule, between, one_of, either}
use Rattle.protocol.specs.Properties.{allowed, carries}
use Rattle.protocol.specs.Form.{Form}
use Rattle.protocol.specs.declared.Way.{Way}
use Rattle.protocol.specs.declared.Way.TheVariants.{Down, Up}

pub data Selection : Type 0 where
  always : Form → Selection
  -- the byte at an offset, its list, and what each value leads to
  select : ℕ → Rule → (ℕ → Selection) → Selection

-- a type: how its selectors choose the form
abbrev pub MessageType : Type 0
MessageType = Selection

-- The offset past the last selector. Where the next one stands does not depend on a value (`SelectorsHeld` in specs/Sizes.antt),
-- so any will do here.
abbrev past_selectors : ℕ → Selection → ℕ
past_selectors past (always f) = past
past_selectors past (select offset rule next) = past_selectors (offset + 1) (next 0)

abbrev pub selectors : MessageType → ℕ
selectors t = past_selectors 0 t

-- the form of a property's payload
unfoldable pub payload : ℕ → Form
payload property =
    cond (one_of (1 ∷ 8 ∷ 9 ∷ []) property) (Form.property_text property)
    (cond (one_of (3 ∷ 4 ∷ []) property) Form.property_version
    (cond (eqb property 5) Form.property_rssi
    (cond (eqb property 10) Form.property_protocol (cond (one_of (13 ∷ 14 ∷ []) property) Form.property_address (Form.property_byte property)))))

abbrev pub plain : Form → MessageType
plain f = always f

-- 01: [property 3] [operation 4]
unfoldable pub hub_properties : Way → MessageType
hub_properties way =
    select 0 (between 1 15) λ property.
    select 1 (allowed way property) λ operation.
    always (cond (carries operation) (payload property) Form.property_command)

unfoldable pub down_action : Rule
down_action n = either (between 0x01 0x06) (one_of (0x2F ∷ [])) n

abbrev pub up_action : Rule
up_action n = between 0x30 0x32 n

-- 02: [action 3]
unfoldable pub hub_actions : Way → MessageType
hub_actions Down = select 0 down_action λ action. always Form.hub_action
hub_actions Up = select 0 up_action λ action. always Form.hub_action

-- 03: [alert 3] [operation 4]
unfoldable pub hub_alerts : Way → MessageType
hub_alerts Down = select 0 (between 1 4) λ alert. select 1 (between 1 3) λ operation. always Form.alert_command
hub_alerts Up = select 0 (between 1 4) λ alert. select 1 (one_of (4 ∷ [])) λ operation. always Form.alert_update

-- 04: port, [event 4]
unfoldable pub hub_attached_io : MessageType
hub_attached_io =
    select 1 (one_of (0 ∷ 1 ∷ 2 ∷ [])) λ event.
    always (cond (eqb event 0) Form.detached (cond (eqb event 1) Form.attached Form.attached_virtual))

-- 42: port, [sub 4]
unfoldable pub combined_format_setup : MessageType
combined_format_setup = select 1 (either (between 1 4) (one_of (6 ∷ []))) λ sub. always (cond (eqb sub 1) Form.mode_datasets Form.combined_setup)

-- 43: port, [type 4]
unfoldable pub port_information : MessageType
port_information = select 1 (one_of (1 ∷ 2 ∷ [])) λ information. always (cond (eqb information 1) Form.port_modes Form.port_combinations)

-- 44: port, mode, [type 5]
unfoldable pub port_mode_information : MessageType
port_mode_information =
    select 2 (one_of (0 ∷ 1 ∷ 2 ∷ 3 ∷ 4 ∷ 5 ∷ 7 ∷ 8 ∷ 0x80 ∷ [])) λ information.
    always
    (cond (one_of (0 ∷ 4 ∷ []) information) (Form.mode_text information)
    (cond (one_of (1 ∷ 2 ∷ 3 ∷ []) information) Form.mode_range
    (cond (eqb information 5) Form.mode_mapping
    (cond (eqb information 7) Form.mode_bias (cond (eqb information 8) Form.mode_capabilities Form.value_format)))))

-- 61: [sub 3]
unfoldable pub virtual_port_setup : MessageType
virtual_port_setup = select 0 (one_of (0 ∷ 1 ∷ [])) λ sub. always (cond (eqb sub 0) Form.virtual_disconnect Form.virtual_connect)

-- 81: port, start byte, [sub 5]
unfoldable pub port_output_command : MessageType
port_output_command =
    select 2 (one_of (0x0C ∷ 0x0D ∷ 0x0E ∷ 0x14 ∷ [])) λ sub.
    always
    (cond (eqb sub 0x0C) Form.start_speed_for_degrees
    (cond (eqb sub 0x0D) Form.goto_absolute_position (cond (eqb sub 0x0E) Form.goto_absolute_positions Form.preset_encoders)))

-- a type byte and its type
pub record Row : Type 0 where
  pub code : ℕ
  pub type : MessageType

abbrev row : ℕ → MessageType → Row
row c t = record { code = c; type = t }

-- the types that go each way
unfoldable pub types : Way → List Row
types Down =
    row 0x01 (hub_properties Down)
    ∷ row 0x02 (hub_actions Down)
    ∷ row 0x03 (hub_alerts Down)
    ∷ row 0x10 (plain Form.go_into_boot_mode)
    ∷ row 0x11 (plain Form.lock_memory)
    ∷ row 0x12 (plain Form.lock_status_request)
    ∷ row 0x21 (plain Form.port_information_request)
    ∷ row 0x22 (plain Form.mode_information_request)
    ∷ row 0x41 (plain Form.input_format_setup)
    ∷ row 0x42 combined_format_setup
    ∷ row 0x61 virtual_port_setup
    ∷ row 0x81 port_output_command
    ∷ []
types Up =
    row 0x01 (hub_properties Up)
    ∷ row 0x02 (hub_actions Up)
    ∷ row 0x03 (hub_alerts Up)
    ∷ row 0x04 hub_attached_io
    ∷ row 0x05 (plain Form.generic_error)
    ∷ row 0x13 (plain Form.lock_status)
    ∷ row 0x43 port_information
    ∷ row 0x44 port_mode_information
    ∷ row 0x45 (plain Form.port_value)
    ∷ row 0x46 (plain Form.port_value_combined)
    ∷ row 0x47 (plain Form.input_format)
    ∷ row 0x48 (plain Form.input_format_combined)
    ∷ row 0x82 (plain Form.output_feedback)
    ∷ []

-- the types of memory lock, which are read and no longer written: 11, 12 and 13
abbrev pub read_only : Rule
read_only = one_of (0x11 ∷ 0x12 ∷ 0x13 ∷ [])

-- the type of a type byte; none where it is unknown or does not go this way
abbrev pub type_of : ℕ → List Row → Option MessageType
type_of code [] = none
type_of code (r ∷ rs) = cond (eqb code r.code) (some r.type) (type_of code rs)
