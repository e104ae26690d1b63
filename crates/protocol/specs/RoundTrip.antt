-- Demand 2, as statements about the definitions. They are proved in proofs/RoundTrip.antt, the first in proofs/AcceptedMessage.antt, once over the layouts.
use Rattle.std.specs.Prelude.{ℕ, ◌≡◌, false, List, [], ◌∷◌}
use Rattle.protocol.specs.Number.{Bytes}
use Rattle.protocol.specs.Field.{Value}
use Rattle.protocol.specs.Rule.{one_of}
use Rattle.protocol.specs.Form.{Form, layout, code}
use Rattle.protocol.specs.Decode.{accepted, decode, open_part}
use Rattle.protocol.specs.Answer.{answer_of, form_of, values_of, message_of}
use Rattle.protocol.specs.Encode.{encode, encoded, refused, settled_values}
use Rattle.protocol.specs.declared.Way.{Way}
use Rattle.protocol.specs.declared.Way.TheVariants.{Down, Up}
use Rattle.protocol.specs.declared.Message.{Message}
use Rattle.protocol.specs.declared.Message.TheVariants.{LockMemory, LockStatusRequest, LockStatus}
use Rattle.std.specs.Prelude.{Ok}

-- every accepted answer is a message's, so that what is said below of messages is said of all that reading accepts
abbrev pub AcceptedIsMessage : Type 0
AcceptedIsMessage = (way : Way) (s : List ℕ) (f : Form) (vs : List Value) → decode way s ≡ accepted f vs → answer_of (Ok (message_of f vs)) ≡ accepted f vs

-- the message as reading gives it back: itself, but that the entries of a 43 past its count are 0
abbrev pub settled : Message → Message
settled m = message_of (form_of m) (settled_values (layout (form_of m)) (values_of m))

-- a message of a type that is written: any but those of memory lock
abbrev pub NoMemoryLock : Message → Type 0
NoMemoryLock m = one_of (0x11 ∷ 0x12 ∷ 0x13 ∷ []) (code (form_of m)) ≡ false

-- what reading accepts, writing gives back byte for byte
abbrev pub ReadThenWritten : Type 0
ReadThenWritten =
    (way : Way) (s : List ℕ) → Bytes s → (m : Message) → NoMemoryLock m → decode way s ≡ answer_of (Ok m) → encode way m (open_part way s) ≡ encoded s

-- refused with 23 one way, with 5 the other, whatever the open bytes are
abbrev ReadOnly : Way → Way → Message → Type 0
ReadOnly own other m = (opens : List ℕ) → (encode own m opens ≡ refused 23 0) × (encode other m opens ≡ refused 5 2)

-- the messages of memory lock are read only: 11 and 12 go down, 13 up
abbrev pub MemoryLockRefused : Type 0
MemoryLockRefused = ReadOnly Down Up LockMemory × ReadOnly Down Up LockStatusRequest × ((status : ℕ) → ReadOnly Up Down (LockStatus status))

-- what writing accepts, reading gives back field for field and tail for tail
abbrev pub WrittenThenRead : Type 0
WrittenThenRead =
    (way : Way) (m : Message) (opens s : List ℕ) → encode way m opens ≡ encoded s → (decode way s ≡ answer_of (Ok (settled m))) × (open_part way s ≡ opens)

-- of all other types writing refuses only what no accepted reading gives
abbrev pub RefusedOnly : Type 0
RefusedOnly =
    (way : Way) (m : Message) (opens : List ℕ) → NoMemoryLock m → (number place : ℕ) → encode way m opens ≡ refused number place
    → (s : List ℕ) → Bytes s → decode way s ≡ answer_of (Ok m) → open_part way s ≡ opens → ⊥
