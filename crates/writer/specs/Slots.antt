-- Slots one after another: their bytes, the first that does not hold its value, the message that they are.
use Rattle.std.specs.Prelude.{ℕ, ◌+◌, ◌-◌, cond, List, [], ◌∷◌, ◌++◌, length}
use Rattle.protocol.specs.Decode.{header}
use Rattle.slots.specs.Slot.{slot_fits, slot_bytes}
use Rattle.slots.specs.declared.Slot.{Slot}

-- the bytes of slots
abbrev pub slots_bytes : List Slot → List ℕ
slots_bytes [] = []
slots_bytes (s ∷ ss) = slot_bytes s ++ slots_bytes ss

-- the place of the first of them, from a place on, that does not hold its value; 0 where all do
abbrev pub first_outside : ℕ → List Slot → ℕ
first_outside at [] = 0
first_outside at (s ∷ ss) = cond (slot_fits s) (first_outside (at + length (slot_bytes s)) ss) at

-- the place of the type byte, the last of the header
abbrev pub type_place : ℕ
type_place = header - 1

-- the message whose bytes from the type byte on are these
abbrev pub from_type_byte : List ℕ → List ℕ
from_type_byte bytes = (type_place + length bytes) ∷ 0 ∷ bytes

-- a message of slots, which are it from its type byte on, and of open bytes
abbrev pub message_bytes : List Slot → List ℕ → List ℕ
message_bytes slots opens = from_type_byte (slots_bytes slots ++ opens)
