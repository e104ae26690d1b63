-- Reading one message: refusals 1 to 7 in the order of document 01, or the form, its values and its open bytes.
use Rattle.std.specs.Prelude.{ℕ, ◌+◌, Bool, cond, List, [], eqb, ltb, length, get_or}
use Rattle.std.proofs.Math.Option.{Option, none, some}
use Rattle.protocol.specs.Field.{Value, Fields, outside, values, widths, read_fields, and_then}
use Rattle.protocol.specs.Form.{Form, layout, least_rest, fits, read_rest, open_bytes}
use Rattle.protocol.specs.Types.{Selection, always, select, MessageType, selectors, types, type_of}
use Rattle.protocol.specs.declared.Way.{Way}

-- the paper's answer to a reading: a refusal's number and place, or a form and its values from left to right
pub data Answer : Type 0 where
  refused : ℕ → ℕ → Answer
  accepted : Form → List Value → Answer

-- length, hub id, type
abbrev pub header : ℕ
header = 3

-- the most bytes of a message
abbrev pub longest_message : ℕ
longest_message = 127

-- where the fields of a form end
abbrev pub fields_end : Form → ℕ
fields_end f = header + widths (layout f).fields

-- whether a whole size is one of a form's
abbrev pub size_fits : Form → ℕ → Bool
size_fits f size = fits (layout f).rest (fields_end f) size

-- the smallest of them: its fields and the least that follows them
abbrev pub smallest_size : Form → ℕ
smallest_size f = fields_end f + least_rest (layout f).rest

-- the smallest size that holds a type's selectors
abbrev pub selectors_size : MessageType → ℕ
selectors_size t = header + selectors t

-- refusal 6, not a size for the type and its selectors: its place is the size that is wanted
abbrev pub wrong_size : ℕ → Answer
wrong_size wanted = refused 6 wanted

abbrev pub values_or_refusal : Form → Fields → Answer
values_or_refusal f (outside at) = refused 7 at
values_or_refusal f (values vs) = accepted f vs

-- a message of a known form: its size, then its fields left to right
unfoldable pub decode_form : Form → List ℕ → Answer
decode_form f s =
    let l = layout f in
    cond (size_fits f (length s))
    (values_or_refusal f (and_then (read_fields s header l.fields) (read_rest s (fields_end f) l.rest)))
    (wrong_size (smallest_size f))

-- the selectors from left to right choose the form
abbrev pub decode_selection : Selection → List ℕ → Answer
decode_selection (always f) s = decode_form f s
decode_selection (select offset rule next) s =
    let v = get_or s (header + offset) 0 in
    cond (rule v) (decode_selection (next v) s) (refused 7 (header + offset))

-- a message of a known type
unfoldable pub decode_type : MessageType → List ℕ → Answer
decode_type t s = cond (ltb (length s) (selectors_size t)) (wrong_size (selectors_size t)) (decode_selection t s)

abbrev pub decode_typed : Option MessageType → List ℕ → Answer
decode_typed none s = refused 5 2
decode_typed (some t) s = decode_type t s

-- a message with a good length and hub id
unfoldable pub decode_way : Way → List ℕ → Answer
decode_way way s = decode_typed (type_of (get_or s 2 0) (types way)) s

unfoldable pub decode : Way → List ℕ → Answer
decode way s =
    cond (eqb (length s) 0) (refused 1 0)
    (cond (ltb longest_message (get_or s 0 0)) (refused 2 0)
    (cond (eqb (get_or s 0 0) (length s))
    (cond (ltb (length s) header) (refused 3 0) (cond (eqb (get_or s 1 0) 0) (decode_way way s) (refused 4 1)))
    (refused 3 0)))

-- the open bytes of an accepted message, which are that part of it after the fields; none of any other
abbrev pub open_of : List ℕ → Answer → List ℕ
open_of s (refused number place) = []
open_of s (accepted f vs) = open_bytes s (fields_end f) (layout f).rest

unfoldable pub open_part : Way → List ℕ → List ℕ
open_part way s = open_of s (decode way s)
