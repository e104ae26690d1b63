-- A form, without its header: what was read is written back, and what was written is read back.
use Prim.Native.Nat.{ℕ, suc, ◌+◌, ◌*◌, ◌-◌, ◌/◌, ◌%◌, ◌≤◌}
use native.Mathlib.Nat.{add-zero}
use native.Mathlib.Omega.{arith}
use mathlib.Core.Path.{◌≡◌, refl, sym, ◌∙◌, ap}
use mathlib.Core.Bool.{true, false, ◌&&◌}
use mathlib.Core.List.{List, [], ◌∷◌, ◌++◌}
use mathlib.Core.Logic.{⊎_elim}
use borrow.Author.Tests.{leb-true, le-leb, eqb-true, eq-eqb}
use lib.Dec.{leb, eqb}
use lib.ListN.{length, take, drop, length-append, length-drop, drop_of_length-le, take-append-drop}
use lib.Seq.{take_all, take_at, drop_at, drop-drop}
use Rattle.protocol.specs.Number.{Bytes}
use Rattle.protocol.specs.Rule.{between}
use Rattle.protocol.specs.Field.{Field, Value, natural, widths, Fields, values, and_then, read_fields}
use Rattle.protocol.specs.Field as Field'
use Rattle.protocol.specs.Form.{Form, Rest, nothing, open_run, words, layout, whole, fits, words_from, up_from, wrong_byte, read_rest, open_bytes, code}
use Rattle.protocol.specs.Decode.{accepted, wrong_size, header, fields_end, size_fits, values_or_refusal, decode_form}
use Rattle.protocol.specs.Encode.{encoded, Written, wrote, before, write_fields, rest_fits, write_run, write_rest, then_rest, framed, closed, after_fields, encode_form, settle_rest, settled_values}
use Rattle.protocol.specs.Encode as Encode'
use Rattle.protocol.proofs.Tests.{which, and_left, and_right}
use Rattle.protocol.proofs.Bytes.{part}
use Rattle.protocol.proofs.FieldsTrip.{AllProper, Both, both_read, fields_written, wrote_length, wrote_after, fields_read}
use Rattle.protocol.proofs.RestTrip.{run_read, run_written, entries, entries_widths, words_written, words_read, Naturals}

-- every form's fields are proper
pub proper : (f : Form) → AllProper (layout f).fields
unfolding layout
proper Form.property_command = omega arith
proper (Form.property_text p) = omega arith
proper (Form.property_byte p) = omega arith
proper Form.property_rssi = omega arith
proper Form.property_version = omega arith
proper Form.property_protocol = omega arith
proper Form.property_address = omega arith
proper Form.hub_action = omega arith
proper Form.alert_command = omega arith
proper Form.alert_update = omega arith
proper Form.detached = omega arith
proper Form.attached = omega arith
proper Form.attached_virtual = omega arith
proper Form.generic_error = omega arith
proper Form.go_into_boot_mode = omega arith
proper Form.lock_memory = omega arith
proper Form.lock_status_request = omega arith
proper Form.lock_status = omega arith
proper Form.port_information_request = omega arith
proper Form.mode_information_request = omega arith
proper Form.input_format_setup = omega arith
proper Form.port_modes = omega arith
proper Form.port_combinations = omega arith
proper (Form.mode_text i) = omega arith
proper Form.mode_range = omega arith
proper Form.mode_mapping = omega arith
proper Form.mode_bias = omega arith
proper Form.mode_capabilities = omega arith
proper Form.value_format = omega arith
proper Form.port_value = omega arith
proper Form.input_format = omega arith
proper Form.virtual_disconnect = omega arith
proper Form.virtual_connect = omega arith
proper Form.start_speed_for_degrees = omega arith
proper Form.goto_absolute_position = omega arith
proper Form.goto_absolute_positions = omega arith
proper Form.preset_encoders = omega arith
proper Form.output_feedback = omega arith
proper Form.combined_setup = omega arith
proper Form.mode_datasets = omega arith
proper Form.port_value_combined = omega arith
proper Form.input_format_combined = omega arith

-- ---- what was read is written back

-- the size was right, so what follows the fields is
record RestWritten (r : Rest) (s : List ℕ) (end : ℕ) (rs : List Value) : Type 0 where
  room : end ≤ length s
  right : rest_fits r rs (length (open_bytes s end r)) ≡ true
  left : List Value
  written : write_rest end r rs (open_bytes s end r) ≡ wrote (drop end s) left

rest_written : (r : Rest) (s : List ℕ) → Bytes s → (end : ℕ) → fits r end (length s) ≡ true → (rs : List Value) → read_rest s end r ≡ values rs → RestWritten r s end rs
rest_written nothing s b end f rs e =
    let size : length s ≡ end = eqb-true (length s) end f in
    record { room = omega arith; right = refl; left = rs; written = ap (λ (l : List ℕ). wrote l rs) (sym (drop_of_length-le s {i = end} (omega arith))) }
rest_written (open_run least most run) s b end f rs e =
    let size : ℕ = length s in
    let inside = and_left (whole run (size - end) && leb (end + least) size) (leb size (end + most)) f in
    let low : end + least ≤ size = leb-true (end + least) size (and_right (whole run (size - end)) (leb (end + least) size) inside) in
    let high : size ≤ end + most = leb-true size (end + most) (and_right (whole run (size - end) && leb (end + least) size) (leb size (end + most)) f) in
    record {
      room = omega arith;
      right = rw (length-drop end s, and_left (whole run (size - end)) (leb (end + least) size) inside, le-leb least (size - end) (omega arith), le-leb (size - end) most (omega arith));
      left = rs;
      written = ap (write_run end (drop end s) rs) (run_read end (wrong_byte run (drop end s)) rs e).0;
    }
rest_written (words most) s b end f rs e =
    let size : ℕ = length s in
    let inside = and_left (leb (end + 2) size && leb size (end + 2 * most)) (eqb ((size - end) % 2) 0) f in
    let low : end + 2 ≤ size = leb-true (end + 2) size (and_left (leb (end + 2) size) (leb size (end + 2 * most)) inside) in
    let high : size ≤ end + 2 * most = leb-true size (end + 2 * most) (and_right (leb (end + 2) size) (leb size (end + 2 * most)) inside) in
    let even : (size - end) % 2 ≡ 0 = eqb-true ((size - end) % 2) 0 (and_right (leb (end + 2) size && leb size (end + 2 * most)) (eqb ((size - end) % 2) 0) f) in
    let count : ℕ = (size - end) / 2 in
    let is : rs ≡ natural count ∷ words_from s end count (up_from 0 most) = cc in
    let w = words_written s b end count (omega arith) count 0 most (omega arith) (omega arith) end in
    let all : part s (end + 2 * 0) (2 * count) ≡ drop end s = rw add-zero (take_all (2 * count) (drop end s) (rw length-drop (omega arith))) in
    record {
      room = omega arith;
      right = rw (is, le-leb 1 count (omega arith), le-leb count most (omega arith));
      left = w.0;
      written = rw is (w.1 ∙ ap (λ (l : List ℕ). wrote l w.0) all);
    }

-- a form that was accepted: its size is right, and its fields and rest were read
pub record Read (f : Form) (s : List ℕ) (vs : List Value) : Type 0 where
  pub size : size_fits f (length s) ≡ true
  pub both : Both (read_fields s header (layout f).fields) (read_rest s (fields_end f) (layout f).rest) vs

values_accepted : (f : Form) (x : Fields) (vs : List Value) → values_or_refusal f x ≡ accepted f vs → x ≡ values vs
values_accepted f (Field'.outside at) vs e = let z : ◌≡◌ {A = ℕ} 0 1 = cc in absurd (omega arith)
values_accepted f (values us) vs e = cc

pub was_read : (f : Form) (s : List ℕ) (vs : List Value) → decode_form f s ≡ accepted f vs → Read f s vs
unfolding decode_form
was_read f s vs e =
    let end : ℕ = fields_end f in
    let x : Fields = and_then (read_fields s header (layout f).fields) (read_rest s end (layout f).rest) in
    ⊎_elim
    (λ (yes : fits (layout f).rest end (length s) ≡ true).
    let a : values_or_refusal f x ≡ accepted f vs = rw yes at e in
    record { size = yes; both = both_read _ _ vs (values_accepted f x vs a) })
    (λ (no : fits (layout f).rest end (length s) ≡ false).
    let a : wrong_size _ ≡ accepted f vs = rw no at e in
    let z : ◌≡◌ {A = ℕ} 0 1 = cc in absurd (omega arith))
    (which (fits (layout f).rest end (length s)))

-- the part of the fields and what stands behind it
front_back : (s : List ℕ) (w : ℕ) → part s header w ++ drop (header + w) s ≡ drop header s
front_back s w = rw (← drop-drop w header s) (take-append-drop w (drop header s))

-- bytes that were written become a message
closed_written : (f : Form) (bs : List ℕ) (vs : List Value) → closed f (wrote bs vs) ≡ encoded (framed (code f) bs)
closed_written f bs vs = refl

pub form_written : (f : Form) (s : List ℕ) → Bytes s → (vs : List Value) → decode_form f s ≡ accepted f vs
    → encode_form f vs (open_bytes s (fields_end f) (layout f).rest) ≡ encoded (framed (code f) (drop header s))
unfolding encode_form
form_written f s b vs e =
    let fs : List Field = (layout f).fields in
    let r : Rest = (layout f).rest in
    let end : ℕ = header + widths fs in
    let opens : List ℕ = open_bytes s end r in
    let read = was_read f s vs e in
    let both = read.both in
    let w = rest_written r s b end read.size both.second both.second_is in
    let fields : write_fields header fs vs ≡ wrote (part s header (widths fs)) both.second =
    ap (write_fields header fs) both.joined ∙ fields_written fs (proper f) s header b w.room both.first both.second both.first_is header
    in
    let after : after_fields fs vs ≡ both.second = wrote_after fs header vs (part s header (widths fs)) both.second fields in
    let right : rest_fits r (after_fields fs vs) (length opens) ≡ true = ap (λ (l : List Value). rest_fits r l (length opens)) after ∙ w.right in
    rw (right, fields, w.written) (closed_written f (part s header (widths fs) ++ drop end s) w.left ∙ ap (λ (l : List ℕ). encoded (framed (code f) l)) (front_back s (widths fs)))

-- ---- what was written is read back

-- the values after those of the fields are as many as the rest wants
abbrev pub Shaped : Rest → List Value → Type 0
Shaped nothing vs = vs ≡ []
Shaped (open_run least most run) vs = vs ≡ []
Shaped (words most) vs = (count : ℕ) × (es : List Value) × (vs ≡ natural count ∷ es) × (length es ≡ most) × Naturals es

record RestRead (r : Rest) (ws : List Value) (opens : List ℕ) (t : List ℕ) (end : ℕ) : Type 0 where
  size : fits r end (length t) ≡ true
  read : read_rest t end r ≡ values (settle_rest r ws)
  open_is : open_bytes t end r ≡ opens

no_elements : (opens : List ℕ) → eqb (length opens) 0 ≡ true → [] ≡ opens
no_elements [] e = refl
no_elements (x ∷ xs) e = absurd (omega (arith, eqb-true (suc (length xs)) 0 e))

words_rest : (most count : ℕ) (es : List Value) (opens cs : List ℕ) (xs : List Value) (t : List ℕ) (end : ℕ) → length es ≡ most → Naturals es
    → rest_fits (words most) (natural count ∷ es) (length opens) ≡ true → write_fields end (entries count) es ≡ wrote cs xs
    → drop end t ≡ cs → length t ≡ end + length cs → RestRead (words most) (natural count ∷ es) opens t end
words_rest most count es opens cs xs t end len nat right w d n =
    let inside = and_left (leb 1 count && leb count most) (eqb (length opens) 0) right in
    let low : 1 ≤ count = leb-true 1 count (and_left (leb 1 count) (leb count most) inside) in
    let high : count ≤ most = leb-true count most (and_right (leb 1 count) (leb count most) inside) in
    let long : length cs ≡ 2 * count = wrote_length (entries count) end es cs xs w ∙ entries_widths count in
    let size : length t ≡ end + 2 * count = n ∙ ap (λ (k : ℕ). end + k) long in
    let half : (length t - end) / 2 ≡ count = omega arith in
    let even : (length t - end) % 2 ≡ 0 = omega arith in
    let there : part t (end + 2 * 0) (2 * count) ≡ cs = rw add-zero (take_all (2 * count) (drop end t) (rw length-drop (omega arith)) ∙ d) in
    record {
      size = rw (le-leb (end + 2) (length t) (omega arith), le-leb (length t) (end + 2 * most) (omega arith), even);
      read = rw half (ap (λ (l : List Value). values (natural count ∷ l)) (words_read t end count (omega arith) count 0 most es nat (omega arith) len end cs xs w there));
      open_is = no_elements opens (and_right (leb 1 count && leb count most) (eqb (length opens) 0) right);
    }

rest_read : (r : Rest) (ws : List Value) (opens cs : List ℕ) (xs : List Value) (t : List ℕ) (end : ℕ) → Shaped r ws → rest_fits r ws (length opens) ≡ true → write_rest end r ws opens ≡ wrote cs xs
    → drop end t ≡ cs → length t ≡ end + length cs → RestRead r ws opens t end
rest_read nothing ws opens cs xs t end shape right w d n =
    let none : [] ≡ cs = cc in
    let size : length t ≡ end = n ∙ rw (← none) (add-zero end) in
    record { size = eq-eqb (length t) end size; read = ap values (sym shape); open_is = no_elements opens right }
rest_read (open_run least most run) ws opens cs xs t end shape right w d n =
    let k = run_written end opens ws (wrong_byte run opens) cs xs w in
    let count : length opens ≡ length cs = ap length k.1 in
    let inside = and_right (whole run (length opens)) (between least most (length opens)) right in
    let low : least ≤ length opens = leb-true least (length opens) (and_left (leb least (length opens)) (leb (length opens) most) inside) in
    let high : length opens ≤ most = leb-true (length opens) most (and_right (leb least (length opens)) (leb (length opens) most) inside) in
    let long : length t - end ≡ length opens = omega arith in
    let there : drop end t ≡ opens = d ∙ sym k.1 in
    record {
      size = rw (long, and_left (whole run (length opens)) (between least most (length opens)) right, le-leb (end + least) (length t) (omega arith), le-leb (length t) (end + most) (omega arith));
      read = rw (there, k.0) (ap values (sym shape));
      open_is = there;
    }
rest_read (words most) ws opens cs xs t end shape right w d n =
    let is : ws ≡ natural shape.0 ∷ shape.1 = shape.2 in
    let right' : rest_fits (words most) (natural shape.0 ∷ shape.1) (length opens) ≡ true = rw is at right in
    let w' : write_rest end (words most) (natural shape.0 ∷ shape.1) opens ≡ wrote cs xs = rw is at w in
    rw is (words_rest most shape.0 shape.1 opens cs xs t end shape.3 shape.4 right' w' d n)

-- a form that was written: its rest was right, and its fields and rest were written
record Wrote (f : Form) (vs : List Value) (opens t : List ℕ) : Type 0 where
  right : rest_fits (layout f).rest (after_fields (layout f).fields vs) (length opens) ≡ true
  front : List ℕ
  left : List Value
  front_is : write_fields header (layout f).fields vs ≡ wrote front left
  back : List ℕ
  unused : List Value
  back_is : write_rest (fields_end f) (layout f).rest left opens ≡ wrote back unused
  bytes : t ≡ framed (code f) (front ++ back)

record Joined (at : ℕ) (r : Rest) (opens : List ℕ) (w : Written) (c : ℕ) (t : List ℕ) : Type 0 where
  front : List ℕ
  left : List Value
  front_is : w ≡ wrote front left
  back : List ℕ
  unused : List Value
  back_is : write_rest at r left opens ≡ wrote back unused
  bytes : t ≡ framed c (front ++ back)

joined : (f : Form) (at : ℕ) (r : Rest) (opens : List ℕ) (w : Written) (t : List ℕ) → closed f (then_rest at r opens w) ≡ encoded t → Joined at r opens w (code f) t
joined f at r opens (Encode'.outside place) t e = let z : ◌≡◌ {A = ℕ} 0 1 = cc in absurd (omega arith)
joined f at r opens (wrote bs vs) t e = second (write_rest at r vs opens) refl e
  where
    second : (w : Written) → write_rest at r vs opens ≡ w → closed f (before bs w) ≡ encoded t → Joined at r opens (wrote bs vs) (code f) t
    second (Encode'.outside place) k g = let z : ◌≡◌ {A = ℕ} 0 1 = cc in absurd (omega arith)
    second (wrote cs xs) k g = record { front = bs; left = vs; front_is = refl; back = cs; unused = xs; back_is = k; bytes = cc }

was_written : (f : Form) (vs : List Value) (opens t : List ℕ) → encode_form f vs opens ≡ encoded t → Wrote f vs opens t
unfolding encode_form
was_written f vs opens t e =
    let fs : List Field = (layout f).fields in
    let r : Rest = (layout f).rest in
    let end : ℕ = header + widths fs in
    ⊎_elim
    (λ (yes : rest_fits r (after_fields fs vs) (length opens) ≡ true).
    let j = joined f end r opens (write_fields header fs vs) t (rw yes at e) in
    record { right = yes; front = j.front; left = j.left; front_is = j.front_is; back = j.back; unused = j.unused; back_is = j.back_is; bytes = j.bytes })
    (λ (no : rest_fits r (after_fields fs vs) (length opens) ≡ false).
    let a : Encode'.refused 6 _ ≡ encoded t = rw no at e in
    let z : ◌≡◌ {A = ℕ} 0 1 = cc in absurd (omega arith))
    (which (rest_fits r (after_fields fs vs) (length opens)))

pub record FormRead (f : Form) (vs : List Value) (opens t : List ℕ) : Type 0 where
  pub body : List ℕ
  pub bytes : t ≡ framed (code f) body
  pub room : widths (layout f).fields ≤ length body
  pub front_is : (left : List Value) × (write_fields header (layout f).fields vs ≡ wrote (take (widths (layout f).fields) body) left)
  pub size : size_fits f (length t) ≡ true
  pub read : decode_form f t ≡ accepted f (settled_values (layout f) vs)
  pub open_is : open_bytes t (fields_end f) (layout f).rest ≡ opens

pub form_read : (f : Form) (vs : List Value) (opens t : List ℕ) → Shaped (layout f).rest (after_fields (layout f).fields vs) → encode_form f vs opens ≡ encoded t → FormRead f vs opens t
unfolding decode_form
form_read f vs opens t shape e =
    let fs : List Field = (layout f).fields in
    let r : Rest = (layout f).rest in
    let end : ℕ = header + widths fs in
    let w = was_written f vs opens t e in
    let body : List ℕ = w.front ++ w.back in
    let u : List ℕ = framed (code f) body in
    let long : length w.front ≡ widths fs = wrote_length fs header vs w.front w.left w.front_is in
    let after : after_fields fs vs ≡ w.left = wrote_after fs header vs w.front w.left w.front_is in
    let total : length body ≡ length w.front + length w.back = length-append w.front w.back in
    let first : take (widths fs) body ≡ w.front = take_at w.front w.back (widths fs) long in
    let rest : drop end u ≡ w.back = sym (drop-drop (widths fs) header u) ∙ drop_at w.front w.back (widths fs) long in
    let shape' : Shaped r w.left = rw after at shape in
    let right' : rest_fits r w.left (length opens) ≡ true = rw after at w.right in
    let fields = fields_read fs (proper f) header vs w.front w.left w.front_is u header (omega arith) first in
    let back = rest_read r w.left opens w.back w.unused u end shape' right' w.back_is rest (omega arith) in
    let read : decode_form f u ≡ accepted f (settled_values (layout f) vs) = rw (back.size, fields.read, back.read, fields.is, after) in
    record {
      body = body;
      bytes = w.bytes;
      room = omega arith;
      front_is = (w.left, w.front_is ∙ ap (λ (l : List ℕ). wrote l w.left) (sym first));
      size = ap (λ (l : List ℕ). fits r end (length l)) w.bytes ∙ back.size;
      read = ap (decode_form f) w.bytes ∙ read;
      open_is = ap (λ (l : List ℕ). open_bytes l end r) w.bytes ∙ back.open_is;
    }
