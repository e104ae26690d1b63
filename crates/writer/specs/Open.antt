-- Whether the open bytes of a message are as its form wants them: how many, and each of them.
use Rattle.std.specs.Prelude.{ℕ, ◌+◌, Bool, List}
use Rattle.std.specs.Prelude as std
use Rattle.std.proofs.Math.Option.{Option, none, some}
use Rattle.protocol.specs.Form.{Rest, nothing, open_run, words, layout, wrong_byte}
use Rattle.protocol.specs.Decode.{fields_end}
use Rattle.protocol.specs.Answer.{form_of, values_of}
use Rattle.protocol.specs.Encode.{rest_fits, after_fields}
use Rattle.protocol.specs.declared.Message.{Message}

unfoldable pub open_fits : Message → ℕ → Bool
open_fits m count = rest_fits (layout (form_of m)).rest (after_fields (layout (form_of m)).fields (values_of m)) count

-- a place and so many bytes on; 0 for none
abbrev pub place_from : ℕ → Option ℕ → ℕ
place_from at none = 0
place_from at (some i) = at + i

-- the same of what a function finds
abbrev pub place_of : ℕ → std.Option ℕ → ℕ
place_of at std.None = 0
place_of at (std.Some i) = at + i

-- the place of the first wrong open byte, where they start at a place; 0 where all are right
abbrev pub rest_outside : ℕ → Rest → List ℕ → ℕ
rest_outside at nothing opens = 0
rest_outside at (open_run least most run) opens = place_from at (wrong_byte run opens)
rest_outside at (words most) opens = 0

unfoldable pub open_outside : Message → List ℕ → ℕ
open_outside m opens = rest_outside (fields_end (form_of m)) (layout (form_of m)).rest opens
