-- The paper's answer for each case of a reading, and back.
use Rattle.std.specs.Prelude.{ℕ, List, [], ◌∷◌, ℤ, pos, Float, get_or, Result, Ok, Err}
use Rattle.std.specs.Float.{nan}
use Rattle.protocol.specs.Field.{Value, natural, integer, real}
use Rattle.protocol.specs.Form.{Form}
use Rattle.protocol.specs.Decode.{Answer, refused, accepted}
use Rattle.protocol.specs.declared.Combinations.{Combinations}
use Rattle.protocol.specs.declared.Message.{Message}
use Rattle.protocol.specs.declared.Message.TheVariants as Message'
use Rattle.protocol.specs.declared.refusal.Refusal.{Refusal}
use Rattle.protocol.specs.Refusal.{number_of, place_of}

abbrev pub form_of : Message → Form
form_of (Message'.PropertyCommand p o) = Form.property_command
form_of (Message'.PropertyText p o) = Form.property_text p
form_of (Message'.PropertyByte p o v) = Form.property_byte p
form_of (Message'.PropertyRssi o v) = Form.property_rssi
form_of (Message'.PropertyVersion p o v) = Form.property_version
form_of (Message'.PropertyProtocol o v) = Form.property_protocol
form_of (Message'.PropertyAddress p o v) = Form.property_address
form_of (Message'.HubAction a) = Form.hub_action
form_of (Message'.AlertCommand a o) = Form.alert_command
form_of (Message'.AlertUpdate a v) = Form.alert_update
form_of (Message'.Detached p) = Form.detached
form_of (Message'.Attached p d h s) = Form.attached
form_of (Message'.AttachedVirtual p d a b) = Form.attached_virtual
form_of (Message'.GenericError c e) = Form.generic_error
form_of Message'.GoIntoBootMode = Form.go_into_boot_mode
form_of Message'.LockMemory = Form.lock_memory
form_of Message'.LockStatusRequest = Form.lock_status_request
form_of (Message'.LockStatus v) = Form.lock_status
form_of (Message'.PortInformationRequest p i) = Form.port_information_request
form_of (Message'.ModeInformationRequest p m i) = Form.mode_information_request
form_of (Message'.InputFormatSetup p m d n) = Form.input_format_setup
form_of (Message'.PortModes p c n i o) = Form.port_modes
form_of (Message'.PortCombinations p c) = Form.port_combinations
form_of (Message'.ModeText p m i) = Form.mode_text i
form_of (Message'.ModeRange p m i l h) = Form.mode_range
form_of (Message'.ModeMapping p m v) = Form.mode_mapping
form_of (Message'.ModeBias p m v) = Form.mode_bias
form_of (Message'.ModeCapabilities p m v) = Form.mode_capabilities
form_of (Message'.ValueFormat p m n k f d) = Form.value_format
form_of (Message'.PortValue p) = Form.port_value
form_of (Message'.InputFormat p m d n) = Form.input_format
form_of (Message'.VirtualDisconnect p) = Form.virtual_disconnect
form_of (Message'.VirtualConnect a b) = Form.virtual_connect
form_of (Message'.StartSpeedForDegrees p s d l r w e u) = Form.start_speed_for_degrees
form_of (Message'.GotoAbsolutePosition p s a v w e u) = Form.goto_absolute_position
form_of (Message'.GotoAbsolutePositions p s a b v w e u) = Form.goto_absolute_positions
form_of (Message'.PresetEncoders p s l r) = Form.preset_encoders
form_of Message'.OutputFeedback = Form.output_feedback
form_of (Message'.CombinedSetup p s) = Form.combined_setup
form_of (Message'.ModeDatasets p x) = Form.mode_datasets
form_of (Message'.PortValueCombined p w) = Form.port_value_combined
form_of (Message'.InputFormatCombined p c w) = Form.input_format_combined

abbrev combined : Combinations → List Value
combined c =
    natural c.count
    ∷ natural c.entry0
    ∷ natural c.entry1
    ∷ natural c.entry2
    ∷ natural c.entry3
    ∷ natural c.entry4
    ∷ natural c.entry5
    ∷ natural c.entry6
    ∷ natural c.entry7
    ∷ []

-- every field after the header from left to right, selectors among them; a fixed string has no value
abbrev pub values_of : Message → List Value
values_of (Message'.PropertyCommand p o) = natural p ∷ natural o ∷ []
values_of (Message'.PropertyText p o) = natural p ∷ natural o ∷ []
values_of (Message'.PropertyByte p o v) = natural p ∷ natural o ∷ natural v ∷ []
values_of (Message'.PropertyRssi o v) = natural 5 ∷ natural o ∷ integer v ∷ []
values_of (Message'.PropertyVersion p o v) = natural p ∷ natural o ∷ integer v ∷ []
values_of (Message'.PropertyProtocol o v) = natural 10 ∷ natural o ∷ natural v ∷ []
values_of (Message'.PropertyAddress p o v) = natural p ∷ natural o ∷ natural v ∷ []
values_of (Message'.HubAction a) = natural a ∷ []
values_of (Message'.AlertCommand a o) = natural a ∷ natural o ∷ []
values_of (Message'.AlertUpdate a v) = natural a ∷ natural 4 ∷ natural v ∷ []
values_of (Message'.Detached p) = natural p ∷ natural 0 ∷ []
values_of (Message'.Attached p d h s) = natural p ∷ natural 1 ∷ natural d ∷ integer h ∷ integer s ∷ []
values_of (Message'.AttachedVirtual p d a b) = natural p ∷ natural 2 ∷ natural d ∷ natural a ∷ natural b ∷ []
values_of (Message'.GenericError c e) = natural c ∷ natural e ∷ []
values_of Message'.GoIntoBootMode = []
values_of Message'.LockMemory = []
values_of Message'.LockStatusRequest = []
values_of (Message'.LockStatus v) = natural v ∷ []
values_of (Message'.PortInformationRequest p i) = natural p ∷ natural i ∷ []
values_of (Message'.ModeInformationRequest p m i) = natural p ∷ natural m ∷ natural i ∷ []
values_of (Message'.InputFormatSetup p m d n) = natural p ∷ natural m ∷ natural d ∷ natural n ∷ []
values_of (Message'.PortModes p c n i o) = natural p ∷ natural 1 ∷ natural c ∷ natural n ∷ natural i ∷ natural o ∷ []
values_of (Message'.PortCombinations p c) = natural p ∷ natural 2 ∷ combined c
values_of (Message'.ModeText p m i) = natural p ∷ natural m ∷ natural i ∷ []
values_of (Message'.ModeRange p m i l h) = natural p ∷ natural m ∷ natural i ∷ real l ∷ real h ∷ []
values_of (Message'.ModeMapping p m v) = natural p ∷ natural m ∷ natural 5 ∷ natural v ∷ []
values_of (Message'.ModeBias p m v) = natural p ∷ natural m ∷ natural 7 ∷ natural v ∷ []
values_of (Message'.ModeCapabilities p m v) = natural p ∷ natural m ∷ natural 8 ∷ natural v ∷ []
values_of (Message'.ValueFormat p m n k f d) = natural p ∷ natural m ∷ natural 0x80 ∷ natural n ∷ natural k ∷ natural f ∷ natural d ∷ []
values_of (Message'.PortValue p) = natural p ∷ []
values_of (Message'.InputFormat p m d n) = natural p ∷ natural m ∷ natural d ∷ natural n ∷ []
values_of (Message'.VirtualDisconnect p) = natural 0 ∷ natural p ∷ []
values_of (Message'.VirtualConnect a b) = natural 1 ∷ natural a ∷ natural b ∷ []
values_of (Message'.StartSpeedForDegrees p s d l r w e u) = natural p ∷ natural s ∷ natural 0x0C ∷ integer d ∷ integer l ∷ integer r ∷ natural w ∷ natural e ∷ natural u ∷ []
values_of (Message'.GotoAbsolutePosition p s a v w e u) = natural p ∷ natural s ∷ natural 0x0D ∷ integer a ∷ natural v ∷ natural w ∷ natural e ∷ natural u ∷ []
values_of (Message'.GotoAbsolutePositions p s a b v w e u) = natural p ∷ natural s ∷ natural 0x0E ∷ integer a ∷ integer b ∷ natural v ∷ natural w ∷ natural e ∷ natural u ∷ []
values_of (Message'.PresetEncoders p s l r) = natural p ∷ natural s ∷ natural 0x14 ∷ integer l ∷ integer r ∷ []
values_of Message'.OutputFeedback = []
values_of (Message'.CombinedSetup p s) = natural p ∷ natural s ∷ []
values_of (Message'.ModeDatasets p x) = natural p ∷ natural 1 ∷ natural x ∷ []
values_of (Message'.PortValueCombined p w) = natural p ∷ natural w ∷ []
values_of (Message'.InputFormatCombined p c w) = natural p ∷ natural c ∷ natural w ∷ []

abbrev pub answer_of : Result Message Refusal → Answer
answer_of (Ok m) = accepted (form_of m) (values_of m)
answer_of (Err r) = refused (number_of r) (place_of r)

-- The message of a form and its values. It undoes `form_of` and `values_of`: `message_back` in proofs/Answers.antt.
abbrev as_natural : Value → ℕ
as_natural (natural n) = n
as_natural (integer z) = 0
as_natural (real x) = 0

abbrev as_integer : Value → ℤ
as_integer (natural n) = pos n
as_integer (integer z) = z
as_integer (real x) = pos 0

abbrev as_real : Value → Float
as_real (natural n) = nan
as_real (integer z) = nan
as_real (real x) = x

abbrev pub natural_at : List Value → ℕ → ℕ
natural_at vs i = as_natural (get_or vs i (natural 0))

abbrev pub integer_at : List Value → ℕ → ℤ
integer_at vs i = as_integer (get_or vs i (natural 0))

abbrev pub real_at : List Value → ℕ → Float
real_at vs i = as_real (get_or vs i (natural 0))

abbrev combinations_of : List Value → Combinations
combinations_of vs = record {
  count = natural_at vs 2;
  entry0 = natural_at vs 3;
  entry1 = natural_at vs 4;
  entry2 = natural_at vs 5;
  entry3 = natural_at vs 6;
  entry4 = natural_at vs 7;
  entry5 = natural_at vs 8;
  entry6 = natural_at vs 9;
  entry7 = natural_at vs 10;
}

abbrev pub message_of : Form → List Value → Message
message_of Form.property_command vs = Message'.PropertyCommand (natural_at vs 0) (natural_at vs 1)
message_of (Form.property_text p) vs = Message'.PropertyText (natural_at vs 0) (natural_at vs 1)
message_of (Form.property_byte p) vs = Message'.PropertyByte (natural_at vs 0) (natural_at vs 1) (natural_at vs 2)
message_of Form.property_rssi vs = Message'.PropertyRssi (natural_at vs 1) (integer_at vs 2)
message_of Form.property_version vs = Message'.PropertyVersion (natural_at vs 0) (natural_at vs 1) (integer_at vs 2)
message_of Form.property_protocol vs = Message'.PropertyProtocol (natural_at vs 1) (natural_at vs 2)
message_of Form.property_address vs = Message'.PropertyAddress (natural_at vs 0) (natural_at vs 1) (natural_at vs 2)
message_of Form.hub_action vs = Message'.HubAction (natural_at vs 0)
message_of Form.alert_command vs = Message'.AlertCommand (natural_at vs 0) (natural_at vs 1)
message_of Form.alert_update vs = Message'.AlertUpdate (natural_at vs 0) (natural_at vs 2)
message_of Form.detached vs = Message'.Detached (natural_at vs 0)
message_of Form.attached vs = Message'.Attached (natural_at vs 0) (natural_at vs 2) (integer_at vs 3) (integer_at vs 4)
message_of Form.attached_virtual vs = Message'.AttachedVirtual (natural_at vs 0) (natural_at vs 2) (natural_at vs 3) (natural_at vs 4)
message_of Form.generic_error vs = Message'.GenericError (natural_at vs 0) (natural_at vs 1)
message_of Form.go_into_boot_mode vs = Message'.GoIntoBootMode
message_of Form.lock_memory vs = Message'.LockMemory
message_of Form.lock_status_request vs = Message'.LockStatusRequest
message_of Form.lock_status vs = Message'.LockStatus (natural_at vs 0)
message_of Form.port_information_request vs = Message'.PortInformationRequest (natural_at vs 0) (natural_at vs 1)
message_of Form.mode_information_request vs = Message'.ModeInformationRequest (natural_at vs 0) (natural_at vs 1) (natural_at vs 2)
message_of Form.input_format_setup vs = Message'.InputFormatSetup (natural_at vs 0) (natural_at vs 1) (natural_at vs 2) (natural_at vs 3)
message_of Form.port_modes vs = Message'.PortModes (natural_at vs 0) (natural_at vs 2) (natural_at vs 3) (natural_at vs 4) (natural_at vs 5)
message_of Form.port_combinations vs = Message'.PortCombinations (natural_at vs 0) (combinations_of vs)
message_of (Form.mode_text i) vs = Message'.ModeText (natural_at vs 0) (natural_at vs 1) (natural_at vs 2)
message_of Form.mode_range vs = Message'.ModeRange (natural_at vs 0) (natural_at vs 1) (natural_at vs 2) (real_at vs 3) (real_at vs 4)
message_of Form.mode_mapping vs = Message'.ModeMapping (natural_at vs 0) (natural_at vs 1) (natural_at vs 3)
message_of Form.mode_bias vs = Message'.ModeBias (natural_at vs 0) (natural_at vs 1) (natural_at vs 3)
message_of Form.mode_capabilities vs = Message'.ModeCapabilities (natural_at vs 0) (natural_at vs 1) (natural_at vs 3)
message_of Form.value_format vs = Message'.ValueFormat (natural_at vs 0) (natural_at vs 1) (natural_at vs 3) (natural_at vs 4) (natural_at vs 5) (natural_at vs 6)
message_of Form.port_value vs = Message'.PortValue (natural_at vs 0)
message_of Form.input_format vs = Message'.InputFormat (natural_at vs 0) (natural_at vs 1) (natural_at vs 2) (natural_at vs 3)
message_of Form.virtual_disconnect vs = Message'.VirtualDisconnect (natural_at vs 1)
message_of Form.virtual_connect vs = Message'.VirtualConnect (natural_at vs 1) (natural_at vs 2)
message_of Form.start_speed_for_degrees vs = Message'.StartSpeedForDegrees (natural_at vs 0) (natural_at vs 1) (integer_at vs 3) (integer_at vs 4) (integer_at vs 5) (natural_at vs 6) (natural_at vs 7) (natural_at vs 8)
message_of Form.goto_absolute_position vs = Message'.GotoAbsolutePosition (natural_at vs 0) (natural_at vs 1) (integer_at vs 3) (natural_at vs 4) (natural_at vs 5) (natural_at vs 6) (natural_at vs 7)
message_of Form.goto_absolute_positions vs = Message'.GotoAbsolutePositions (natural_at vs 0) (natural_at vs 1) (integer_at vs 3) (integer_at vs 4) (natural_at vs 5) (natural_at vs 6) (natural_at vs 7) (natural_at vs 8)
message_of Form.preset_encoders vs = Message'.PresetEncoders (natural_at vs 0) (natural_at vs 1) (integer_at vs 3) (integer_at vs 4)
message_of Form.output_feedback vs = Message'.OutputFeedback
message_of Form.combined_setup vs = Message'.CombinedSetup (natural_at vs 0) (natural_at vs 1)
message_of Form.mode_datasets vs = Message'.ModeDatasets (natural_at vs 0) (natural_at vs 2)
message_of Form.port_value_combined vs = Message'.PortValueCombined (natural_at vs 0) (natural_at vs 1)
message_of Form.input_format_combined vs = Message'.InputFormatCombined (natural_at vs 0) (natural_at vs 1) (natural_at vs 2)

abbrev pub message_of_answer : Answer → Message
message_of_answer (accepted f vs) = message_of f vs
message_of_answer (refused number place) = Message'.LockStatusRequest
