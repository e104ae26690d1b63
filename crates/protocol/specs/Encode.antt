-- Writing one message, over the layouts that reading uses: refusals 5, 23, 6 and 7 in the order of documents 01 and 02, or the bytes.
-- Refusal 8 is the function's own, by the length of its output.
use Rattle.std.specs.Prelude.{ℕ, zero, suc, ◌+◌, ◌*◌, ◌-◌, ◌/◌, ◌%◌, ◌^◌, Bool, false, cond, ◌&&◌, List, [], ◌∷◌, ◌++◌, reverse, eqb, ltb, ℤ, pos, negsuc, length, take, drop, replicate}
use Rattle.std.proofs.Math.Option.{Option, none, some}
use Rattle.std.specs.Float.{binary32}
use Rattle.std.specs.Float.Ieee.{to_bits}
use Rattle.std.specs.Float.Ieee as Ieee
use Rattle.protocol.specs.Number.{is_finite}
use Rattle.protocol.specs.Rule.{any, between}
use Rattle.protocol.specs.Field.{Field, number, high_first, signed, float, fixed, Value, natural, integer, real, width}
use Rattle.protocol.specs.Form.{Form, code, same_form, Rest, nothing, open_run, words, Layout, layout, whole, wrong_byte}
use Rattle.protocol.specs.Types.{Selection, always, select, MessageType, types, type_of, read_only}
use Rattle.protocol.specs.Decode.{header, fields_end, smallest_size, selectors_size}
use Rattle.protocol.specs.Answer.{form_of, values_of, natural_at}
use Rattle.protocol.specs.declared.Way.{Way}
use Rattle.protocol.specs.declared.Message.{Message}

-- a refusal's number and place, or the message's bytes
pub data Encoded : Type 0 where
  refused : ℕ → ℕ → Encoded
  encoded : List ℕ → Encoded

-- so many bytes of a number, least significant first
unfoldable pub low_first : ℕ → ℕ → List ℕ
low_first zero n = []
low_first (suc w) n = n % 256 ∷ low_first w (n / 256)

-- the same, most significant first
abbrev pub high_bytes : ℕ → ℕ → List ℕ
high_bytes w n = reverse (low_first w n)

-- two's complement at `width` bytes
abbrev pub of_integer : ℕ → ℤ → ℕ
of_integer width (pos n) = n
of_integer width (negsuc n) = 2 ^ (8 * width) - suc n

-- whether a number is one of `width` bytes in two's complement
abbrev pub in_range : ℕ → ℤ → Bool
in_range width (pos n) = ltb n (2 ^ (8 * width - 1))
in_range width (negsuc n) = ltb n (2 ^ (8 * width - 1))

-- whether a field may hold a value: it is of the field's kind, fits its width and is in its list
abbrev pub holds : Field → Value → Bool
holds (number w rule) (natural n) = ltb n (256 ^ w) && rule n
holds (number w rule) (integer z) = false
holds (number w rule) (real x) = false
holds (high_first w) (natural n) = ltb n (256 ^ w)
holds (high_first w) (integer z) = false
holds (high_first w) (real x) = false
holds (signed w rule) (natural n) = false
holds (signed w rule) (integer z) = in_range w z && rule z
holds (signed w rule) (real x) = false
holds float (natural n) = false
holds float (integer z) = false
holds float (real x) = is_finite x && Ieee.fits binary32 x
holds (fixed bytes) v = false

-- the bytes of a field that holds a value
abbrev pub field_bytes : Field → Value → List ℕ
field_bytes (number w rule) (natural n) = low_first w n
field_bytes (number w rule) (integer z) = []
field_bytes (number w rule) (real x) = []
field_bytes (high_first w) (natural n) = high_bytes w n
field_bytes (high_first w) (integer z) = []
field_bytes (high_first w) (real x) = []
field_bytes (signed w rule) (natural n) = []
field_bytes (signed w rule) (integer z) = low_first w (of_integer w z)
field_bytes (signed w rule) (real x) = []
field_bytes float (natural n) = []
field_bytes float (integer z) = []
field_bytes float (real x) = low_first 4 (to_bits binary32 x)
field_bytes (fixed bytes) v = bytes

-- the next field of a message: its bytes and the values left, or no value that it may hold
pub data FieldStep : Type 0 where
  bad : FieldStep
  good : List ℕ → List Value → FieldStep

abbrev pub taken : Field → List Value → FieldStep
taken f [] = bad
taken f (v ∷ vs) = cond (holds f v) (good (field_bytes f v) vs) bad

abbrev pub step_field : Field → List Value → FieldStep
step_field (number w rule) vs = taken (number w rule) vs
step_field (high_first w) vs = taken (high_first w) vs
step_field (signed w rule) vs = taken (signed w rule) vs
step_field float vs = taken float vs
step_field (fixed bytes) vs = good bytes vs

-- fields written: their bytes and the values left, or the place of the first that is outside its list
pub data Written : Type 0 where
  outside : ℕ → Written
  wrote : List ℕ → List Value → Written

abbrev pub before : List ℕ → Written → Written
before bs (outside at) = outside at
before bs (wrote cs vs) = wrote (bs ++ cs) vs

abbrev pub write_fields : ℕ → List Field → List Value → Written
write_fields at [] vs = wrote [] vs
write_fields at (f ∷ fs) vs = elim (step_field f vs) [ bad ↦ outside at | good bs ws ↦ before bs (write_fields (at + width f) fs ws) ]

-- whether what follows the fields is right, by the number of open bytes: whole items within their range, none where there are
-- none; of words a count from one to the most
abbrev pub rest_fits : Rest → List Value → ℕ → Bool
rest_fits nothing vs count = eqb count 0
rest_fits (open_run least most run) vs count = whole run count && between least most count
rest_fits (words most) vs count = between 1 most (natural_at vs 0) && eqb count 0

-- the bytes of a run as they are, or the place of a wrong byte, where it starts at a place
abbrev pub write_run : ℕ → List ℕ → List Value → Option ℕ → Written
write_run at opens vs none = wrote opens vs
write_run at opens vs (some i) = outside (at + i)

-- what follows the fields, from a place on: of words as many as the first value says; those past the count are not among the fields
abbrev pub write_rest : ℕ → Rest → List Value → List ℕ → Written
write_rest at nothing vs opens = wrote [] vs
write_rest at (open_run least most run) vs opens = write_run at opens vs (wrong_byte run opens)
write_rest at (words most) vs opens = write_fields at (replicate (natural_at vs 0) (number 2 any)) (drop 1 vs)

abbrev pub then_rest : ℕ → Rest → List ℕ → Written → Written
then_rest at rest opens (outside place) = outside place
then_rest at rest opens (wrote bs vs) = before bs (write_rest at rest vs opens)

-- the bytes of a message: its length, the hub id 0, its type, its fields and what follows them
abbrev pub framed : ℕ → List ℕ → List ℕ
framed code body = (header + length body) ∷ 0 ∷ code ∷ body

abbrev pub closed : Form → Written → Encoded
closed f (outside at) = refused 7 at
closed f (wrote bs vs) = encoded (framed (code f) bs)

-- the values after those of the fields
abbrev pub after_field : Field → List Value → List Value
after_field (number w rule) vs = drop 1 vs
after_field (high_first w) vs = drop 1 vs
after_field (signed w rule) vs = drop 1 vs
after_field float vs = drop 1 vs
after_field (fixed bytes) vs = vs

abbrev pub after_fields : List Field → List Value → List Value
after_fields [] vs = vs
after_fields (f ∷ fs) vs = after_fields fs (after_field f vs)

-- and those of the fields
abbrev pub front_value : Field → List Value → List Value
front_value (number w rule) vs = take 1 vs
front_value (high_first w) vs = take 1 vs
front_value (signed w rule) vs = take 1 vs
front_value float vs = take 1 vs
front_value (fixed bytes) vs = []

abbrev pub front_values : List Field → List Value → List Value
front_values [] vs = []
front_values (f ∷ fs) vs = front_value f vs ++ front_values fs (after_field f vs)

-- a message of a form that its selectors have chosen: 6, then its fields left to right
unfoldable pub encode_form : Form → List Value → List ℕ → Encoded
encode_form f vs opens =
    let l = layout f in
    cond (rest_fits l.rest (after_fields l.fields vs) (length opens))
    (closed f (then_rest (fields_end f) l.rest opens (write_fields header l.fields vs)))
    (refused 6 (smallest_size f))

-- the selectors from left to right, which stand among the values by their offsets; where they lead to another form than
-- the message's, the last of them, at a place, is outside its list
abbrev pub encode_selection : Selection → Form → ℕ → List Value → List ℕ → Encoded
encode_selection (always g) f last vs opens = cond (same_form g f) (encode_form f vs opens) (refused 7 last)
encode_selection (select offset rule next) f last vs opens =
    let v = natural_at vs offset in
    cond (rule v) (encode_selection (next v) f last vs opens) (refused 7 (header + offset))

-- 23, a type that is read only, comes after 5 and before all else
abbrev pub encode_typed : Option MessageType → Form → List Value → List ℕ → Encoded
encode_typed none f vs opens = refused 5 2
encode_typed (some t) f vs opens = cond (read_only (code f)) (refused 23 0) (encode_selection t f (selectors_size t - 1) vs opens)

-- a form with its values and its open bytes
unfoldable pub encode_values : Way → Form → List Value → List ℕ → Encoded
encode_values way f vs opens = encode_typed (type_of (code f) (types way)) f vs opens

unfoldable pub encode : Way → Message → List ℕ → Encoded
encode way m opens = encode_values way (form_of m) (values_of m) opens

-- the message as reading gives it back: the entries of a 43 past its count are 0
abbrev pub keep : ℕ → ℕ → List Value → List Value
keep count i [] = []
keep count i (v ∷ vs) = cond (ltb i count) v (natural 0) ∷ keep count (suc i) vs

abbrev pub settle_rest : Rest → List Value → List Value
settle_rest nothing vs = vs
settle_rest (open_run least most run) vs = vs
settle_rest (words most) [] = []
settle_rest (words most) (v ∷ vs) = v ∷ keep (natural_at (v ∷ vs) 0) 0 vs

abbrev pub settled_values : Layout → List Value → List Value
settled_values l vs = front_values l.fields vs ++ settle_rest l.rest (after_fields l.fields vs)
