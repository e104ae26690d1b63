-- The row that reading fills is the message, and writing it gives back the bytes.
use Prim.Native.Nat.{ℕ, zero, suc, ◌-◌, ◌/◌, ◌≤◌, ◌<◌}
use native.Mathlib.Omega.{arith}
use mathlib.Core.Path.{◌≡◌, refl, ◌∙◌, ap}
use mathlib.Core.Bool.{Bool, true}
use mathlib.Core.List.{List, [], ◌∷◌, ◌++◌, map}
use mathlib.Core.Option.{Option, none, some}
use borrow.Author.Tests.{eq-eqb}
use lib.ListN.{length, get_or, drop, length-append}
use Rattle.protocol.specs.Number.{Bytes}
use Rattle.protocol.specs.Field.{Value, natural, values, widths}
use Rattle.protocol.specs.Form.{Form, form_number, Rest, nothing, open_run, words, layout, wrong_byte, read_run, read_rest, words_from, up_from}
use Rattle.protocol.specs.Decode.{accepted, header, fields_end, decode_form, decode, open_part}
use Rattle.protocol.specs.Answer.{form_of, values_of, message_of}
use Rattle.protocol.specs.Encode.{encoded, encode_values, encode, write_fields, wrote}
use Rattle.protocol.specs.RoundTrip.{NoMemoryLock}
use Rattle.protocol.specs.declared.Message.{Message}
use Rattle.protocol.specs.declared.Way.{Way}
use Rattle.protocol.proofs.Answers.{message_back}
use Rattle.protocol.proofs.Bytes.{part}
use Rattle.protocol.proofs.FieldsTrip.{fields_written}
use Rattle.protocol.proofs.FormTrip.{proper, was_read}
use Rattle.protocol.proofs.RoundTrip.{headed, form_accepted, read_then_written}
use Rattle.protocol.proofs.Sizes.{room}
use Rattle.selectors.specs.Choice.{form_at}
use Rattle.message_rows.specs.Row.{row_size, before_values, number_of, padded, value_numbers, accepted_row}
use Rattle.row_messages.proofs.Answering.{of_form}
use Rattle.row_messages.proofs.Narrowing.{AllSlim, Numbers, fields_back, list_back}
use Rattle.row_messages.proofs.OwnRow.{padded_length, accepted_size, few_values_lem}
use Rattle.row_messages.specs.RowTrip.{RowIsMessage, RowAsMessage, ReadRowThenWritten}
use Rattle.row_messages.specs.RowWriting.{word_fields, last_form, row_values, message_in, same_to, among, own_numbers, unless_own, form_encoded, row_encoded, narrow_all}

-- ---- facts of the forms

slim : (f : Form) → AllSlim (layout f).fields
unfolding layout
slim Form.property_command = omega arith
slim (Form.property_text p) = omega arith
slim (Form.property_byte p) = omega arith
slim Form.property_rssi = omega arith
slim Form.property_version = omega arith
slim Form.property_protocol = omega arith
slim Form.property_address = omega arith
slim Form.hub_action = omega arith
slim Form.alert_command = omega arith
slim Form.alert_update = omega arith
slim Form.detached = omega arith
slim Form.attached = omega arith
slim Form.attached_virtual = omega arith
slim Form.generic_error = omega arith
slim Form.go_into_boot_mode = omega arith
slim Form.lock_memory = omega arith
slim Form.lock_status_request = omega arith
slim Form.lock_status = omega arith
slim Form.port_information_request = omega arith
slim Form.mode_information_request = omega arith
slim Form.input_format_setup = omega arith
slim Form.port_modes = omega arith
slim Form.port_combinations = omega arith
slim (Form.mode_text i) = omega arith
slim Form.mode_range = omega arith
slim Form.mode_mapping = omega arith
slim Form.mode_bias = omega arith
slim Form.mode_capabilities = omega arith
slim Form.value_format = omega arith
slim Form.port_value = omega arith
slim Form.input_format = omega arith
slim Form.virtual_disconnect = omega arith
slim Form.virtual_connect = omega arith
slim Form.start_speed_for_degrees = omega arith
slim Form.goto_absolute_position = omega arith
slim Form.goto_absolute_positions = omega arith
slim Form.preset_encoders = omega arith
slim Form.output_feedback = omega arith
slim Form.combined_setup = omega arith
slim Form.mode_datasets = omega arith
slim Form.port_value_combined = omega arith
slim Form.input_format_combined = omega arith

-- a form and its number
pub record Numbered (f : Form) : Type 0 where
  pub least : 1 ≤ form_number f
  pub most : form_number f ≤ last_form
  -- the argument plays no part in the values of a row and in its message
  pub same_values : (row : List ℕ) → row_values (form_at (form_number f)) row ≡ row_values f row
  pub same_message : (vs : List Value) → message_of (form_at (form_number f)) vs ≡ message_of f vs

numbered : (f : Form) → Numbered f
unfolding row_values layout form_at
numbered Form.property_command = record { least = omega arith; most = omega arith; same_values = λ row. refl; same_message = λ vs. refl }
numbered (Form.property_text p) = record { least = omega arith; most = omega arith; same_values = λ row. refl; same_message = λ vs. refl }
numbered (Form.property_byte p) = record { least = omega arith; most = omega arith; same_values = λ row. refl; same_message = λ vs. refl }
numbered Form.property_rssi = record { least = omega arith; most = omega arith; same_values = λ row. refl; same_message = λ vs. refl }
numbered Form.property_version = record { least = omega arith; most = omega arith; same_values = λ row. refl; same_message = λ vs. refl }
numbered Form.property_protocol = record { least = omega arith; most = omega arith; same_values = λ row. refl; same_message = λ vs. refl }
numbered Form.property_address = record { least = omega arith; most = omega arith; same_values = λ row. refl; same_message = λ vs. refl }
numbered Form.hub_action = record { least = omega arith; most = omega arith; same_values = λ row. refl; same_message = λ vs. refl }
numbered Form.alert_command = record { least = omega arith; most = omega arith; same_values = λ row. refl; same_message = λ vs. refl }
numbered Form.alert_update = record { least = omega arith; most = omega arith; same_values = λ row. refl; same_message = λ vs. refl }
numbered Form.detached = record { least = omega arith; most = omega arith; same_values = λ row. refl; same_message = λ vs. refl }
numbered Form.attached = record { least = omega arith; most = omega arith; same_values = λ row. refl; same_message = λ vs. refl }
numbered Form.attached_virtual = record { least = omega arith; most = omega arith; same_values = λ row. refl; same_message = λ vs. refl }
numbered Form.generic_error = record { least = omega arith; most = omega arith; same_values = λ row. refl; same_message = λ vs. refl }
numbered Form.go_into_boot_mode = record { least = omega arith; most = omega arith; same_values = λ row. refl; same_message = λ vs. refl }
numbered Form.lock_memory = record { least = omega arith; most = omega arith; same_values = λ row. refl; same_message = λ vs. refl }
numbered Form.lock_status_request = record { least = omega arith; most = omega arith; same_values = λ row. refl; same_message = λ vs. refl }
numbered Form.lock_status = record { least = omega arith; most = omega arith; same_values = λ row. refl; same_message = λ vs. refl }
numbered Form.port_information_request = record { least = omega arith; most = omega arith; same_values = λ row. refl; same_message = λ vs. refl }
numbered Form.mode_information_request = record { least = omega arith; most = omega arith; same_values = λ row. refl; same_message = λ vs. refl }
numbered Form.input_format_setup = record { least = omega arith; most = omega arith; same_values = λ row. refl; same_message = λ vs. refl }
numbered Form.port_modes = record { least = omega arith; most = omega arith; same_values = λ row. refl; same_message = λ vs. refl }
numbered Form.port_combinations = record { least = omega arith; most = omega arith; same_values = λ row. refl; same_message = λ vs. refl }
numbered (Form.mode_text i) = record { least = omega arith; most = omega arith; same_values = λ row. refl; same_message = λ vs. refl }
numbered Form.mode_range = record { least = omega arith; most = omega arith; same_values = λ row. refl; same_message = λ vs. refl }
numbered Form.mode_mapping = record { least = omega arith; most = omega arith; same_values = λ row. refl; same_message = λ vs. refl }
numbered Form.mode_bias = record { least = omega arith; most = omega arith; same_values = λ row. refl; same_message = λ vs. refl }
numbered Form.mode_capabilities = record { least = omega arith; most = omega arith; same_values = λ row. refl; same_message = λ vs. refl }
numbered Form.value_format = record { least = omega arith; most = omega arith; same_values = λ row. refl; same_message = λ vs. refl }
numbered Form.port_value = record { least = omega arith; most = omega arith; same_values = λ row. refl; same_message = λ vs. refl }
numbered Form.input_format = record { least = omega arith; most = omega arith; same_values = λ row. refl; same_message = λ vs. refl }
numbered Form.virtual_disconnect = record { least = omega arith; most = omega arith; same_values = λ row. refl; same_message = λ vs. refl }
numbered Form.virtual_connect = record { least = omega arith; most = omega arith; same_values = λ row. refl; same_message = λ vs. refl }
numbered Form.start_speed_for_degrees = record { least = omega arith; most = omega arith; same_values = λ row. refl; same_message = λ vs. refl }
numbered Form.goto_absolute_position = record { least = omega arith; most = omega arith; same_values = λ row. refl; same_message = λ vs. refl }
numbered Form.goto_absolute_positions = record { least = omega arith; most = omega arith; same_values = λ row. refl; same_message = λ vs. refl }
numbered Form.preset_encoders = record { least = omega arith; most = omega arith; same_values = λ row. refl; same_message = λ vs. refl }
numbered Form.output_feedback = record { least = omega arith; most = omega arith; same_values = λ row. refl; same_message = λ vs. refl }
numbered Form.combined_setup = record { least = omega arith; most = omega arith; same_values = λ row. refl; same_message = λ vs. refl }
numbered Form.mode_datasets = record { least = omega arith; most = omega arith; same_values = λ row. refl; same_message = λ vs. refl }
numbered Form.port_value_combined = record { least = omega arith; most = omega arith; same_values = λ row. refl; same_message = λ vs. refl }
numbered Form.input_format_combined = record { least = omega arith; most = omega arith; same_values = λ row. refl; same_message = λ vs. refl }

-- ---- what reading gives

-- the first byte is one
first_byte : (s : List ℕ) → Bytes s → get_or s 0 0 < 256
first_byte [] b = omega arith
first_byte (x ∷ xs) b = b.0

module _ (row s : List ℕ) (b : Bytes s) (short : length s < 256) where
  -- what follows the fields
  rest_back : (r : Rest) (end : ℕ) → end ≤ length s → (ws : List Value) → read_rest s end r ≡ values ws → (j : ℕ) → Numbers (drop j row) ws → narrow_all (word_fields r) row j ≡ ws
  rest_back nothing end large ws k j ns = cc
  rest_back (open_run least most run) end large ws k j ns = go (wrong_byte run (drop end s)) k
    where
      go : (wrong : Option ℕ) → read_run end wrong ≡ values ws → [] ≡ ws
      go none e = cc
      go (some i) e = let z : ◌≡◌ {A = ℕ} 0 1 = cc in absurd (omega arith)
  rest_back (words most) end large ws k j ns =
      let count : ℕ = (length s - end) / 2 in
      let is : ws ≡ natural count ∷ words_from s end count (up_from 0 most) = cc in
      rw is (list_back row s b end count (omega arith) most j (omega arith) (rw is at ns))

  -- the values of a form come back from their numbers
  values_read : (f : Form) (vs : List Value) → decode_form f s ≡ accepted f vs → Numbers (drop before_values row) vs → row_values f row ≡ vs
  unfolding row_values
  values_read f vs e ns =
      let read = was_read f s vs e in
      let both = read.both in
      let large : fields_end f ≤ length s = room f (length s) read.size in
      let wrote_fields : write_fields header (layout f).fields vs ≡ wrote (part s header (widths (layout f).fields)) both.second =
      ap (write_fields header (layout f).fields) both.joined ∙ fields_written (layout f).fields (proper f) s header b large both.first both.second both.first_is header
      in
      fields_back row (layout f).fields (word_fields (layout f).rest) (slim f) header before_values vs _ both.second wrote_fields ns (rest_back (layout f).rest (fields_end f) large both.second both.second_is)

-- ---- the row

numbers_in : (k : ℕ) (vs : List Value) (more : List ℕ) → length vs ≤ k → Numbers (padded k (map number_of vs) ++ more) vs
numbers_in k [] more h = tt
numbers_in zero (v ∷ vs) more h = absurd (omega arith)
numbers_in (suc k) (v ∷ vs) more h = (refl, numbers_in k vs more (omega arith))

same_front : (k : ℕ) (xs more : List ℕ) → k ≤ length xs → same_to k xs (xs ++ more) ≡ true
same_front zero xs more h = refl
same_front (suc k) [] more h = absurd (omega arith)
same_front (suc k) (x ∷ xs) more h = rw (eq-eqb x x refl) (same_front k xs more (omega arith))

module _ (way : Way) (s : List ℕ) (b : Bytes s) (m : Message) (e : decode way s ≡ accepted (form_of m) (values_of m)) (start count : ℕ) (more : List ℕ) where
  abbrev f : Form
  f = form_of m

  abbrev vs : List Value
  vs = values_of m

  abbrev row : List ℕ
  row = accepted_row f start count vs ++ more

  row_values_lem : row_values (form_at (form_number f)) row ≡ vs
  row_values_lem =
      let short : length s < 256 = omega (arith, (headed way s f vs e).size, first_byte s b) in
      (numbered f).same_values row
      ∙ values_read row s b short f vs (form_accepted way s f vs e) (numbers_in (row_size - before_values) vs more (omega (arith, few_values_lem m)))

  pub row_message : message_in (form_number f) row ≡ m
  unfolding message_in
  row_message =
      ap (message_of (form_at (form_number f))) row_values_lem ∙ (numbered f).same_message vs ∙ message_back m

  own : own_numbers f vs row ≡ true
  unfolding own_numbers
  own = same_front (among f vs) (value_numbers vs) more (omega (arith, padded_length (row_size - before_values) (map number_of vs), few_values_lem m))

  row_encoded_lem : (opens : List ℕ) → form_encoded way (form_number f) row opens ≡ encode way m opens
  unfolding form_encoded encode
  row_encoded_lem opens =
      ap (λ (n : Message). unless_own (own_numbers (form_of n) (row_values (form_at (form_number f)) row) row) (encode_values way (form_of n) (row_values (form_at (form_number f)) row) opens)) row_message
      ∙ ap (λ (us : List Value). unless_own (own_numbers f us row) (encode_values way f us opens)) row_values_lem
      ∙ ap (λ (o : Bool). unless_own o (encode way m opens)) own

  pub row_written : (opens : List ℕ) → row_encoded way row opens ≡ encode way m opens
  row_written opens =
      of_form way row opens (omega (arith, accepted_size f start count vs, length-append (accepted_row f start count vs) more)) (numbered f).least (numbered f).most ∙ row_encoded_lem opens

  pub row_back : NoMemoryLock m → row_encoded way row (open_part way s) ≡ encoded s
  row_back kept = row_written (open_part way s) ∙ read_then_written way s b m kept e

pub row_is_message : RowIsMessage
row_is_message = row_message

pub row_as_message : RowAsMessage
row_as_message = row_written

pub read_row_then_written : ReadRowThenWritten
read_row_then_written = row_back
