-- What the slots of a message stand for: fields of a layout with their values.
use Rattle.std.specs.Prelude.{ℕ, ◌≡◌, Bool, true, cond, List, [], ◌∷◌, ◌++◌, leb, ltb, length, take, drop, replicate}
use Rattle.protocol.specs.Rule.{any, up_to, between, any_signed}
use Rattle.protocol.specs.Field.{Field, number, high_first, signed, float, fixed, Value, natural, integer, real}
use Rattle.protocol.specs.Form.{information_type, alert_status, start_byte, end_state, signed_speed, degrees, boot_string, lock_string, Rest, nothing, open_run, words, layout, code}
use Rattle.protocol.specs.Answer.{form_of, values_of, natural_at}
use Rattle.protocol.specs.Encode.{holds, field_bytes, after_fields, front_values}
use Rattle.protocol.specs.declared.Message.{Message}
use Rattle.slots.specs.declared.Slot.{Slot}
use Rattle.slots.specs.declared.Slot.TheVariants as Slot'

abbrev pub field_of : Slot → Field
field_of Slot'.Nothing = fixed []
field_of (Slot'.Byte v) = number 1 any
field_of (Slot'.UpTo most v) = number 1 (up_to most)
field_of (Slot'.Between least most v) = number 1 (between least most)
field_of (Slot'.InformationType v) = number 1 information_type
field_of (Slot'.AlertStatus v) = number 1 alert_status
field_of (Slot'.Word v) = number 2 any
field_of (Slot'.Long v) = number 4 any
field_of (Slot'.SignedByte v) = signed 1 any_signed
field_of (Slot'.SignedLong v) = signed 4 any_signed
field_of (Slot'.HighFirst v) = high_first 6
field_of (Slot'.Float x) = float
field_of Slot'.BootString = fixed boot_string
field_of Slot'.LockString = fixed lock_string
field_of (Slot'.StartByte v) = number 1 start_byte
field_of (Slot'.EndState v) = number 1 end_state
field_of (Slot'.SignedSpeed v) = signed 1 signed_speed
field_of (Slot'.Degrees v) = signed 4 degrees

-- the value, if it has one
abbrev pub value_of : Slot → List Value
value_of Slot'.Nothing = []
value_of (Slot'.Byte v) = natural v ∷ []
value_of (Slot'.UpTo most v) = natural v ∷ []
value_of (Slot'.Between least most v) = natural v ∷ []
value_of (Slot'.InformationType v) = natural v ∷ []
value_of (Slot'.AlertStatus v) = natural v ∷ []
value_of (Slot'.Word v) = natural v ∷ []
value_of (Slot'.Long v) = natural v ∷ []
value_of (Slot'.SignedByte v) = integer v ∷ []
value_of (Slot'.SignedLong v) = integer v ∷ []
value_of (Slot'.HighFirst v) = natural v ∷ []
value_of (Slot'.Float x) = real x ∷ []
value_of Slot'.BootString = []
value_of Slot'.LockString = []
value_of (Slot'.StartByte v) = natural v ∷ []
value_of (Slot'.EndState v) = natural v ∷ []
value_of (Slot'.SignedSpeed v) = integer v ∷ []
value_of (Slot'.Degrees v) = integer v ∷ []

abbrev held_by : Field → List Value → Bool
held_by f [] = true
held_by f (v ∷ vs) = holds f v

abbrev bytes_by : Field → List Value → List ℕ
bytes_by f [] = field_bytes f (natural 0)
bytes_by f (v ∷ vs) = field_bytes f v

-- whether the field may hold its value
unfoldable pub slot_fits : Slot → Bool
slot_fits s = held_by (field_of s) (value_of s)

-- its bytes
unfoldable pub slot_bytes : Slot → List ℕ
slot_bytes s = bytes_by (field_of s) (value_of s)

-- the fields of slots; nothing is no field
abbrev field_then : Slot → List Field → List Field
field_then Slot'.Nothing fs = fs
field_then (Slot'.Byte v) fs = field_of (Slot'.Byte v) ∷ fs
field_then (Slot'.UpTo most v) fs = field_of (Slot'.UpTo most v) ∷ fs
field_then (Slot'.Between least most v) fs = field_of (Slot'.Between least most v) ∷ fs
field_then (Slot'.InformationType v) fs = field_of (Slot'.InformationType v) ∷ fs
field_then (Slot'.AlertStatus v) fs = field_of (Slot'.AlertStatus v) ∷ fs
field_then (Slot'.Word v) fs = field_of (Slot'.Word v) ∷ fs
field_then (Slot'.Long v) fs = field_of (Slot'.Long v) ∷ fs
field_then (Slot'.SignedByte v) fs = field_of (Slot'.SignedByte v) ∷ fs
field_then (Slot'.SignedLong v) fs = field_of (Slot'.SignedLong v) ∷ fs
field_then (Slot'.HighFirst v) fs = field_of (Slot'.HighFirst v) ∷ fs
field_then (Slot'.Float x) fs = field_of (Slot'.Float x) ∷ fs
field_then Slot'.BootString fs = field_of Slot'.BootString ∷ fs
field_then Slot'.LockString fs = field_of Slot'.LockString ∷ fs
field_then (Slot'.StartByte v) fs = field_of (Slot'.StartByte v) ∷ fs
field_then (Slot'.EndState v) fs = field_of (Slot'.EndState v) ∷ fs
field_then (Slot'.SignedSpeed v) fs = field_of (Slot'.SignedSpeed v) ∷ fs
field_then (Slot'.Degrees v) fs = field_of (Slot'.Degrees v) ∷ fs

abbrev pub slot_fields : List Slot → List Field
slot_fields [] = []
slot_fields (s ∷ ss) = field_then s (slot_fields ss)

-- and their values
abbrev pub slot_values : List Slot → List Value
slot_values [] = []
slot_values (s ∷ ss) = value_of s ++ slot_values ss

-- the entry at an index of a 43's list, nothing from its count on
abbrev pub word_slot : ℕ → ℕ → ℕ → Slot
word_slot index count entry = cond (ltb index count) (Slot'.Word entry) Slot'.Nothing

abbrev pub at_most : ℕ → ℕ → ℕ
at_most most n = cond (leb n most) n most

-- the words that follow the fields, as fields and values: as many as the first value says, up to the most
abbrev pub word_fields : Rest → List Value → List Field
word_fields nothing vs = []
word_fields (open_run least most run) vs = []
word_fields (words most) vs = replicate (at_most most (natural_at vs 0)) (number 2 any)

abbrev pub word_values : Rest → List Value → List Value
word_values nothing vs = vs
word_values (open_run least most run) vs = vs
word_values (words most) vs = take (at_most most (natural_at vs 0)) (drop 1 vs)

-- slots that are a message from its type byte on: eleven of them, with the fields of its form and their values
pub record Slotted (m : Message) (slots : List Slot) : Type 0 where
  pub eleven : length slots ≡ 11
  pub fields : slot_fields slots ≡ number 1 any ∷ ((layout (form_of m)).fields ++ word_fields (layout (form_of m)).rest (after_fields (layout (form_of m)).fields (values_of m)))
  pub values : slot_values slots ≡ natural (code (form_of m)) ∷ (front_values (layout (form_of m)).fields (values_of m) ++ word_values (layout (form_of m)).rest (after_fields (layout (form_of m)).fields (values_of m)))
