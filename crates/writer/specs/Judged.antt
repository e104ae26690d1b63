-- What judging a message gives, before the room is looked at: a refusal, or that its slots hold their values and are its bytes.
use Rattle.std.specs.Prelude.{ℕ, ◌≤◌, ◌≡◌, List, length, Ok, Err}
use Rattle.protocol.specs.Decode.{longest_message}
use Rattle.protocol.specs.Encode.{encode, encoded, refused}
use Rattle.protocol.specs.declared.Message.{Message}
use Rattle.protocol.specs.declared.Way.{Way}
use Rattle.protocol.specs.Refusal.{number_of, place_of}
use Rattle.selectors.specs.Choice.{Choice}
use Rattle.slots.specs.declared.Slot.{Slot}
use Rattle.writer.specs.Slots.{first_outside, message_bytes, type_place}

pub record Good (way : Way) (m : Message) (opens : List ℕ) (slots : List Slot) : Type 0 where
  pub inside : first_outside type_place slots ≡ 0
  pub short : length (message_bytes slots opens) ≤ longest_message
  pub bytes : encode way m opens ≡ encoded (message_bytes slots opens)

abbrev pub Judged : Way → Message → List ℕ → List Slot → Choice → Type 0
Judged way m opens slots (Err r) = encode way m opens ≡ refused (number_of r) (place_of r)
Judged way m opens slots (Ok t) = Good way m opens slots
