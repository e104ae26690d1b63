-- What comes of a form's way and selectors: 5, 23, 7, or the form itself.
use Rattle.std.specs.Prelude.{ℕ, Bool, true, false, cond, [], ◌∷◌, eqb, get_or, Result, Ok, Err}
use Rattle.protocol.specs.Rule.{Rule, between, one_of, either}
use Rattle.protocol.specs.Properties.{carries, outside_selector}
use Rattle.protocol.specs.Form.{Form, form_number, forms_by}
use Rattle.protocol.specs.Types.{payload, down_action, up_action}
use Rattle.protocol.specs.Encode.{Encoded, refused}
use Rattle.protocol.specs.declared.Way.{Way}
use Rattle.protocol.specs.declared.Way.TheVariants.{Down, Up}
use Rattle.protocol.specs.declared.refusal.Refusal.{Refusal}
use Rattle.protocol.specs.declared.refusal.Refusal.TheVariants as Refusal'
use Rattle.protocol.specs.Refusal.{number_of, place_of}

-- nothing where it is the form itself
abbrev pub Choice : Type 0
Choice = Result (Unit {0}) Refusal

abbrev pub after_selectors : Choice → Encoded → Encoded
after_selectors (Ok t) x = x
after_selectors (Err r) x = refused (number_of r) (place_of r)

-- a type that goes one way, where the selector at a place leads to the form or not
abbrev pub down_only : Way → Bool → ℕ → Choice
down_only Down leads place = cond leads (Ok tt) (Err (Refusal'.OutsideList place))
down_only Up leads place = Err Refusal'.UnknownType

abbrev pub up_only : Way → Bool → ℕ → Choice
up_only Down leads place = Err Refusal'.UnknownType
up_only Up leads place = cond leads (Ok tt) (Err (Refusal'.OutsideList place))

-- a type that goes one way and is read only
abbrev pub down_read_only : Way → Choice
down_read_only Down = Err Refusal'.ReadOnly
down_read_only Up = Err Refusal'.UnknownType

abbrev pub up_read_only : Way → Choice
up_read_only Down = Err Refusal'.UnknownType
up_read_only Up = Err Refusal'.ReadOnly

-- by the way that it goes
abbrev pub one_way : Way → Way → Bool → ℕ → Choice
one_way Down = down_only
one_way Up = up_only

abbrev pub read_only_one_way : Way → Way → Choice
read_only_one_way Down = down_read_only
read_only_one_way Up = up_read_only

-- the form that a property and an operation lead to
unfoldable pub property_form : ℕ → ℕ → Form
property_form property operation = cond (carries operation) (payload property) Form.property_command

abbrev pub property_choice : Way → ℕ → ℕ → ℕ → Choice
property_choice way property operation form =
    cond (eqb (outside_selector way property operation) 0)
    (cond (eqb (form_number (property_form property operation)) form) (Ok tt) (Err (Refusal'.OutsideList 4)))
    (Err (Refusal'.OutsideList (outside_selector way property operation)))

abbrev pub is_action : Way → ℕ → Bool
is_action Down action = down_action action
is_action Up action = up_action action

abbrev pub action_choice : Way → ℕ → Choice
action_choice way action = cond (is_action way action) (Ok tt) (Err (Refusal'.OutsideList 3))

abbrev pub command_leads : Way → ℕ → Bool
command_leads Down operation = between 1 3 operation
command_leads Up operation = false

abbrev pub update_leads : Way → ℕ → Bool
update_leads Down operation = false
update_leads Up operation = one_of (4 ∷ []) operation

-- by the way that the form goes
abbrev pub alert_leads : Way → Way → ℕ → Bool
alert_leads Down = command_leads
alert_leads Up = update_leads

abbrev pub alert_choice : ℕ → Bool → Choice
alert_choice alert leads = cond (between 1 4 alert) (cond leads (Ok tt) (Err (Refusal'.OutsideList 4))) (Err (Refusal'.OutsideList 3))

-- the sub commands of a 42 without a list
abbrev pub setup : Rule
setup = either (between 2 4) (one_of (6 ∷ []))

-- what comes of a form's way and of its selectors, which are among its first three values
abbrev pub choice_of : Form → Way → ℕ → ℕ → ℕ → Choice
choice_of Form.property_command way a b c = property_choice way a b 1
choice_of (Form.property_text p) way a b c = property_choice way a b 2
choice_of (Form.property_byte p) way a b c = property_choice way a b 3
choice_of Form.property_rssi way a b c = property_choice way a b 4
choice_of Form.property_version way a b c = property_choice way a b 5
choice_of Form.property_protocol way a b c = property_choice way a b 6
choice_of Form.property_address way a b c = property_choice way a b 7
choice_of Form.hub_action way a b c = action_choice way a
choice_of Form.alert_command way a b c = alert_choice a (command_leads way b)
choice_of Form.alert_update way a b c = alert_choice a (update_leads way b)
choice_of Form.detached way a b c = up_only way (eqb b 0) 4
choice_of Form.attached way a b c = up_only way (eqb b 1) 4
choice_of Form.attached_virtual way a b c = up_only way (eqb b 2) 4
choice_of Form.generic_error way a b c = up_only way true 0
choice_of Form.go_into_boot_mode way a b c = down_only way true 0
choice_of Form.lock_memory way a b c = down_read_only way
choice_of Form.lock_status_request way a b c = down_read_only way
choice_of Form.lock_status way a b c = up_read_only way
choice_of Form.port_information_request way a b c = down_only way true 0
choice_of Form.mode_information_request way a b c = down_only way true 0
choice_of Form.input_format_setup way a b c = down_only way true 0
choice_of Form.port_modes way a b c = up_only way (eqb b 1) 4
choice_of Form.port_combinations way a b c = up_only way (eqb b 2) 4
choice_of (Form.mode_text i) way a b c = up_only way (one_of (0 ∷ 4 ∷ []) c) 5
choice_of Form.mode_range way a b c = up_only way (one_of (1 ∷ 2 ∷ 3 ∷ []) c) 5
choice_of Form.mode_mapping way a b c = up_only way (eqb c 5) 5
choice_of Form.mode_bias way a b c = up_only way (eqb c 7) 5
choice_of Form.mode_capabilities way a b c = up_only way (eqb c 8) 5
choice_of Form.value_format way a b c = up_only way (eqb c 0x80) 5
choice_of Form.port_value way a b c = up_only way true 0
choice_of Form.input_format way a b c = up_only way true 0
choice_of Form.virtual_disconnect way a b c = down_only way (eqb a 0) 3
choice_of Form.virtual_connect way a b c = down_only way (eqb a 1) 3
choice_of Form.start_speed_for_degrees way a b c = down_only way (eqb c 0x0C) 5
choice_of Form.goto_absolute_position way a b c = down_only way (eqb c 0x0D) 5
choice_of Form.goto_absolute_positions way a b c = down_only way (eqb c 0x0E) 5
choice_of Form.preset_encoders way a b c = down_only way (eqb c 0x14) 5
choice_of Form.output_feedback way a b c = up_only way true 0
choice_of Form.combined_setup way a b c = down_only way (setup b) 4
choice_of Form.mode_datasets way a b c = down_only way (eqb b 1) 4
choice_of Form.port_value_combined way a b c = up_only way true 0
choice_of Form.input_format_combined way a b c = up_only way true 0

-- the form of a number, with any argument, since no choice looks at it; a number that is no form's counts as 15
unfoldable pub form_at : ℕ → Form
form_at n = get_or (forms_by 0) n Form.go_into_boot_mode
