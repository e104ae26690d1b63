-- Writing the message that a row of numbers gives: a form's number, and a number for each value from left to right.
use Rattle.std.specs.Prelude.{ℕ, zero, suc, ◌+◌, ◌*◌, ◌-◌, ◌/◌, ◌%◌, ◌^◌, Bool, true, false, cond, ◌&&◌, List, [], ◌∷◌, ◌++◌, eqb, ltb, ℤ, negsuc, length, get_or, drop, replicate}
use Rattle.std.specs.Float.{binary32}
use Rattle.std.specs.Float.Ieee.{of_bits}
use Rattle.protocol.specs.Number.{twos_complement}
use Rattle.protocol.specs.Rule.{any}
use Rattle.protocol.specs.Field.{Field, number, high_first, signed, float, fixed, Value, natural, integer, real}
use Rattle.protocol.specs.Form.{Form, Rest, nothing, open_run, words, layout}
use Rattle.protocol.specs.Answer.{form_of, natural_at, message_of}
use Rattle.protocol.specs.Encode.{Encoded, refused, encoded, in_range, after_fields, encode_values}
use Rattle.protocol.specs.declared.Combinations.{Combinations}
use Rattle.protocol.specs.declared.Message.{Message}
use Rattle.protocol.specs.declared.Way.{Way}
use Rattle.selectors.specs.Choice.{form_at}
use Rattle.message_rows.specs.Row.{row_size, before_values, value_numbers}

-- what stands for a number that is wider than its field, FE in one byte: no list of document 01 has it (specs/WideNumbers.antt)
abbrev pub in_place_of_wider : ℕ → ℕ
in_place_of_wider width = 256 ^ width - 2

-- a number in so many bytes
unfoldable pub fitted : ℕ → ℕ → ℕ
fitted width n = cond (ltb n (256 ^ width)) n (in_place_of_wider width)

-- what stands for a number that is no signed one of its field's width: the least of them, which no list has either
abbrev pub least_signed : ℕ → ℤ
least_signed width = negsuc (2 ^ (8 * width - 1) - 1)

-- a number in two's complement of 64 bits as a signed one of so many bytes
unfoldable pub fitted_signed : ℕ → ℕ → ℤ
fitted_signed width n = let z = twos_complement 8 n in cond (in_range width z) z (least_signed width)

-- the bits of an f32: one infinity stands for every infinity and NaN, all of which writing refuses alike, and 0 for a wider number
unfoldable pub settled_bits : ℕ → ℕ
settled_bits n = cond (ltb n (256 ^ 4)) (cond (eqb (n % 2147483648 / 8388608) 255) 0x7f800000 n) 0

-- the value of a number in a field; a six-byte field takes all of it
abbrev pub narrow : Field → ℕ → List Value
narrow (number w rule) n = natural (fitted w n) ∷ []
narrow (high_first w) n = natural n ∷ []
narrow (signed w rule) n = integer (fitted_signed w n) ∷ []
narrow float n = real (of_bits binary32 (settled_bits n)) ∷ []
narrow (fixed bytes) n = []

-- the index after it
abbrev pub past : Field → ℕ → ℕ
past (number w rule) i = i + 1
past (high_first w) i = i + 1
past (signed w rule) i = i + 1
past float i = i + 1
past (fixed bytes) i = i

abbrev pub narrow_all : List Field → List ℕ → ℕ → List Value
narrow_all [] row i = []
narrow_all (f ∷ fs) row i = narrow f (get_or row i 0) ++ narrow_all fs row (past f i)

-- the words of a 43's list: their count and each of them
abbrev pub word_fields : Rest → List Field
word_fields nothing = []
word_fields (open_run least most run) = []
word_fields (words most) = number 1 any ∷ replicate most (number 2 any)

-- the values of a row, selectors among them, by the layout of its form
unfoldable pub row_values : Form → List ℕ → List Value
row_values f row = narrow_all ((layout f).fields ++ word_fields (layout f).rest) row before_values

-- the message of a row, by its form's number
unfoldable pub message_in : ℕ → List ℕ → Message
message_in n row = message_of (form_at n) (row_values (form_at n) row)

unfoldable pub combinations_in : List ℕ → Combinations
combinations_in row = record {
  count = fitted 1 (get_or row 6 0);
  entry0 = fitted 2 (get_or row 7 0);
  entry1 = fitted 2 (get_or row 8 0);
  entry2 = fitted 2 (get_or row 9 0);
  entry3 = fitted 2 (get_or row 10 0);
  entry4 = fitted 2 (get_or row 11 0);
  entry5 = fitted 2 (get_or row 12 0);
  entry6 = fitted 2 (get_or row 13 0);
  entry7 = fitted 2 (get_or row 14 0);
}

-- how many entries of a 43's list are past its count, which are not among its fields
abbrev pub past_count : Rest → List Value → ℕ
past_count nothing vs = 0
past_count (open_run least most run) vs = 0
past_count (words most) vs = most - natural_at vs 0

abbrev pub among : Form → List Value → ℕ
among f vs = length vs - past_count (layout f).rest (after_fields (layout f).fields vs)

-- whether the first so many of two lists are equal
abbrev pub same_to : ℕ → List ℕ → List ℕ → Bool
same_to zero xs ys = true
same_to (suc n) xs ys = eqb (get_or xs 0 0) (get_or ys 0 0) && same_to n (drop 1 xs) (drop 1 ys)

-- whether the numbers of the values among the fields are the row's own
unfoldable pub own_numbers : Form → List Value → List ℕ → Bool
own_numbers f vs row = same_to (among f vs) (value_numbers vs) (drop before_values row)

-- no message: a number that is not in document 01
abbrev pub no_message : Encoded
no_message = refused 255 0

-- document 01's refusals come first; what is left are numbers that have no place in a message
abbrev pub unless_own : Bool → Encoded → Encoded
unless_own true x = x
unless_own false (refused n place) = refused n place
unless_own false (encoded bytes) = no_message

unfoldable pub form_encoded : Way → ℕ → List ℕ → List ℕ → Encoded
form_encoded way n row opens =
    let f = form_of (message_in n row) in
    let vs = row_values (form_at n) row in
    unless_own (own_numbers f vs row) (encode_values way f vs opens)

-- the forms are numbered from 1 to this
abbrev pub last_form : ℕ
last_form = 42

-- writing what a row gives: it is a whole row, and its form is one of them
unfoldable pub row_encoded : Way → List ℕ → List ℕ → Encoded
row_encoded way row opens =
    let form = get_or row 0 0 in
    cond (ltb (length row) row_size) no_message (cond (ltb form 1) no_message (cond (ltb last_form form) no_message (form_encoded way form row opens)))

-- how many values of a message's own row are compared: of form 23 as many entries as it says
unfoldable pub compared_in : List ℕ → ℕ
compared_in back = cond (eqb (get_or back 0 0) 23) (cond (ltb (get_or back 6 0) 8) (3 + get_or back 6 0) 11) (get_or back 3 0)
