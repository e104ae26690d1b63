-- The answer of writing into a lent slice: refusal 8, document 01's answer, and the lent bytes afterwards.
use Rattle.std.specs.Prelude.{ℕ, cond, List, ◌++◌, ltb, length, drop, Result, Ok, Err}
use Rattle.protocol.specs.Encode.{Encoded, encoded}
use Rattle.protocol.specs.Encode as Encode
use Rattle.protocol.specs.declared.refusal.Refusal.{Refusal}
use Rattle.protocol.specs.Refusal.{number_of, place_of}

-- writing into so many bytes of room: 8 comes after all other refusals
unfoldable pub limited : ℕ → Encoded → Encoded
limited room (Encode.refused number place) = Encode.refused number place
limited room (encoded bytes) = cond (ltb room (length bytes)) (Encode.refused 8 0) (encoded bytes)

-- a refusal's number and place, or the length of the message that was written
pub data WriteAnswer : Type 0 where
  refused : ℕ → ℕ → WriteAnswer
  written : ℕ → WriteAnswer

-- document 01's answer for each case of a writing
abbrev pub answer_of : Result ℕ Refusal → WriteAnswer
answer_of (Ok n) = written n
answer_of (Err r) = refused (number_of r) (place_of r)

-- and for what the definition gives
abbrev pub answered : Encoded → WriteAnswer
answered (Encode.refused number place) = refused number place
answered (encoded bytes) = written (length bytes)

-- the lent bytes afterwards: the message followed by the old bytes; unchanged by a refusal
abbrev pub lent_after : Encoded → List ℕ → List ℕ
lent_after (Encode.refused number place) out = out
lent_after (encoded bytes) out = bytes ++ drop (length bytes) out
