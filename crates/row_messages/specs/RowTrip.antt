-- The row that reading fills is the message, as statements about the definitions. They are proved in proofs/RowTrip.antt.
use Rattle.std.specs.Prelude.{ℕ, ◌≡◌, List, ◌++◌, get_or}
use Rattle.protocol.specs.Number.{Bytes}
use Rattle.protocol.specs.Decode.{decode, open_part}
use Rattle.protocol.specs.Answer.{answer_of, form_of, values_of}
use Rattle.protocol.specs.Encode.{encoded, encode}
use Rattle.protocol.specs.RoundTrip.{NoMemoryLock}
use Rattle.protocol.specs.declared.Way.{Way}
use Rattle.protocol.specs.declared.Message.{Message}
use Rattle.std.specs.Prelude.{Ok}
use Rattle.message_rows.specs.Row.{accepted_row}
use Rattle.row_messages.specs.RowWriting.{message_in, row_encoded}

-- something holds of every message that reading accepts, with its bytes, and of the row that it fills, wherever the open bytes are
-- said to be and whatever cells follow
abbrev EachReadRow : (Way → List ℕ → Message → List ℕ → Type 0) → Type 0
EachReadRow P =
    (way : Way) (s : List ℕ) → Bytes s → (m : Message) → decode way s ≡ answer_of (Ok m)
    → (start count : ℕ) (more : List ℕ) → P way s m (accepted_row (form_of m) start count (values_of m) ++ more)

-- the message of that row is the message that was read
abbrev pub RowIsMessage : Type 0
RowIsMessage = EachReadRow (λ way s m row. message_in (get_or row 0 0) row ≡ m)

-- and writing it is writing that message, whatever the open bytes are; so it is 23 for memory lock
abbrev pub RowAsMessage : Type 0
RowAsMessage = EachReadRow (λ way s m row. (opens : List ℕ) → row_encoded way row opens ≡ encode way m opens)

-- for all other types it gives back the bytes that were read
abbrev pub ReadRowThenWritten : Type 0
ReadRowThenWritten = EachReadRow (λ way s m row. NoMemoryLock m → row_encoded way row (open_part way s) ≡ encoded s)
