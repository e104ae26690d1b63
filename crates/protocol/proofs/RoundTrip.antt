-- Demand 2: what reading accepts, writing gives back byte for byte; what writing accepts, reading gives back field for field.
use Prim.Native.Nat.{ℕ, ◌+◌, ◌-◌, ◌≤◌, ◌<◌}
use native.Mathlib.Omega.{arith}
use mathlib.Core.Path.{◌≡◌, refl, sym, ◌∙◌, ap}
use mathlib.Core.Bool.{Bool, true, false, cond}
use mathlib.Core.List.{List, [], ◌∷◌}
use mathlib.Core.Option.{Option, none, some}
use borrow.Author.Tests.{eqb-true, eq-eqb, ne_eqb, ltb-false, le-ltb}
use lib.Dec.{eqb, ltb}
use lib.ListN.{length, get_or, take, drop}
use lib.Seq.{get_or-take, get_or-drop}
use Rattle.protocol.specs.Number.{Bytes}
use Rattle.protocol.specs.Field.{Field, Value, natural, Fields, values, widths, and_then, read_fields}
use Rattle.protocol.specs.Field as Field'
use Rattle.protocol.specs.Form.{Form, layout, read_rest, open_bytes, code, form_number, forms_by, argument, same_form}
use Rattle.protocol.specs.Types.{Selection, always, select, MessageType, selectors, types, type_of, read_only}
use Rattle.protocol.specs.Decode.{Answer, accepted, header, fields_end, size_fits, smallest_size, selectors_size, longest_message, values_or_refusal, decode_form, decode_selection, decode_type, decode_typed, decode_way, decode, open_of, open_part}
use Rattle.protocol.specs.Decode as Decode'
use Rattle.protocol.specs.Answer.{natural_at, form_of, values_of}
use Rattle.protocol.specs.Encode.{Encoded, encoded, framed, after_fields, encode_form, encode_selection, encode_typed, encode_values, encode, settled_values}
use Rattle.protocol.specs.RoundTrip.{settled, ReadThenWritten, MemoryLockRefused, WrittenThenRead, RefusedOnly}
use Rattle.protocol.specs.Encode as Encode'
use Rattle.protocol.specs.declared.Combinations.{Combinations}
use Rattle.protocol.specs.declared.Message.{Message}
use Rattle.protocol.specs.declared.Message.TheVariants as Message'
use Rattle.protocol.specs.declared.Way.{Way}
use Rattle.protocol.proofs.Tests.{and_left, and_right}
use Rattle.protocol.proofs.FormTrip.{was_read, form_written, Shaped, form_read}
use Rattle.protocol.proofs.Selection.{headed as head, typed, long_enough}
use Rattle.protocol.proofs.Sizes.{short}
use Rattle.protocol.proofs.SelectionTrip.{Narrow, narrow_read, narrow_written, narrow_widths, Fitting, Leads, leads}

-- ---- memory lock is read only

pub memory_lock_refused : MemoryLockRefused
unfolding encode encode_values types
memory_lock_refused = (λ opens. (refl, refl), λ opens. (refl, refl), λ status opens. (refl, refl))

-- ---- what was read is written back

-- a refusal that did not come
not_refused : (b : Bool) (n p : ℕ) (x : Answer) (f : Form) (vs : List Value) → cond b (Decode'.refused n p) x ≡ accepted f vs → (b ≡ false) × (x ≡ accepted f vs)
not_refused true n p x f vs e = let z : ◌≡◌ {A = ℕ} 0 1 = cc in absurd (omega arith)
not_refused false n p x f vs e = (refl, e)

pub not_else : (b : Bool) (n p : ℕ) (x : Answer) (f : Form) (vs : List Value) → cond b x (Decode'.refused n p) ≡ accepted f vs → (b ≡ true) × (x ≡ accepted f vs)
not_else true n p x f vs e = (refl, e)
not_else false n p x f vs e = let z : ◌≡◌ {A = ℕ} 0 1 = cc in absurd (omega arith)

-- the facts of a header that reading passed
pub record Headed (way : Way) (s : List ℕ) (f : Form) (vs : List Value) : Type 0 where
  pub size : get_or s 0 0 ≡ length s
  pub least : header ≤ length s
  pub hub : get_or s 1 0 ≡ 0
  pub rest : decode_way way s ≡ accepted f vs

pub headed : (way : Way) (s : List ℕ) (f : Form) (vs : List Value) → decode way s ≡ accepted f vs → Headed way s f vs
unfolding decode
headed way s f vs e =
    let n1 = not_refused (eqb (length s) 0) _ _ _ f vs e in
    let n2 = not_refused (ltb longest_message (get_or s 0 0)) _ _ _ f vs n1.1 in
    let n3 = not_else (eqb (get_or s 0 0) (length s)) _ _ _ f vs n2.1 in
    let n4 = not_refused (ltb (length s) header) _ _ _ f vs n3.1 in
    let n5 = not_else (eqb (get_or s 1 0) 0) _ _ _ f vs n4.1 in
    record {
      size = eqb-true (get_or s 0 0) (length s) n3.0;
      least = ltb-false (length s) header n4.0;
      hub = eqb-true (get_or s 1 0) 0 n5.0;
      rest = n5.1;
    }

-- the type that was found
pub record TypeFound (way : Way) (s : List ℕ) (f : Form) (vs : List Value) : Type 0 where
  pub type : MessageType
  pub found : type_of (get_or s 2 0) (types way) ≡ some type
  pub room : selectors_size type ≤ length s
  pub rest : decode_selection type s ≡ accepted f vs

pub type_found : (way : Way) (s : List ℕ) (f : Form) (vs : List Value) → decode_way way s ≡ accepted f vs → TypeFound way s f vs
unfolding decode_way decode_type
type_found way s f vs e = go (type_of (get_or s 2 0) (types way)) refl e
  where
    go : (o : Option MessageType) → type_of (get_or s 2 0) (types way) ≡ o → decode_typed o s ≡ accepted f vs → TypeFound way s f vs
    go none k g = let z : ◌≡◌ {A = ℕ} 0 1 = cc in absurd (omega arith)
    go (some t) k g =
        let n = not_refused (ltb (length s) (selectors_size t)) 6 _ _ f vs g in
        record { type = t; found = k; room = ltb-false (length s) (selectors_size t) n.0; rest = n.1 }

-- an accepted form is the one that was tried
pub form_is : (g : Form) (s : List ℕ) (f : Form) (vs : List Value) → decode_form g s ≡ accepted f vs → g ≡ f
unfolding decode_form
form_is g s f vs e =
    let x : Fields = and_then (read_fields s header (layout g).fields) (read_rest s (fields_end g) (layout g).rest) in
    let n = not_else (size_fits g (length s)) 6 (smallest_size g) (values_or_refusal g x) f vs e in
    go x n.1
  where
    go : (x : Fields) → values_or_refusal g x ≡ accepted f vs → g ≡ f
    go (Field'.outside at) k = let z : ◌≡◌ {A = ℕ} 0 1 = cc in absurd (omega arith)
    go (values us) k = cc

form_back : (f : Form) → get_or (forms_by (argument f)) (form_number f) Form.lock_status_request ≡ f
form_back Form.property_command = refl
form_back (Form.property_text a) = refl
form_back (Form.property_byte a) = refl
form_back Form.property_rssi = refl
form_back Form.property_version = refl
form_back Form.property_protocol = refl
form_back Form.property_address = refl
form_back Form.hub_action = refl
form_back Form.alert_command = refl
form_back Form.alert_update = refl
form_back Form.detached = refl
form_back Form.attached = refl
form_back Form.attached_virtual = refl
form_back Form.generic_error = refl
form_back Form.go_into_boot_mode = refl
form_back Form.lock_memory = refl
form_back Form.lock_status_request = refl
form_back Form.lock_status = refl
form_back Form.port_information_request = refl
form_back Form.mode_information_request = refl
form_back Form.input_format_setup = refl
form_back Form.port_modes = refl
form_back Form.port_combinations = refl
form_back (Form.mode_text a) = refl
form_back Form.mode_range = refl
form_back Form.mode_mapping = refl
form_back Form.mode_bias = refl
form_back Form.mode_capabilities = refl
form_back Form.value_format = refl
form_back Form.port_value = refl
form_back Form.input_format = refl
form_back Form.virtual_disconnect = refl
form_back Form.virtual_connect = refl
form_back Form.start_speed_for_degrees = refl
form_back Form.goto_absolute_position = refl
form_back Form.goto_absolute_positions = refl
form_back Form.preset_encoders = refl
form_back Form.output_feedback = refl
form_back Form.combined_setup = refl
form_back Form.mode_datasets = refl
form_back Form.port_value_combined = refl
form_back Form.input_format_combined = refl

same_form_lem : (f : Form) → same_form f f ≡ true
same_form_lem f = rw (eq-eqb (form_number f) (form_number f) refl, eq-eqb (argument f) (argument f) refl)

form_same : (f g : Form) → same_form f g ≡ true → f ≡ g
form_same f g e =
    let n : form_number f ≡ form_number g = eqb-true (form_number f) (form_number g) (and_left (eqb (form_number f) (form_number g)) (eqb (argument f) (argument g)) e) in
    let a : argument f ≡ argument g = eqb-true (argument f) (argument g) (and_right (eqb (form_number f) (form_number g)) (eqb (argument f) (argument g)) e) in
    sym (form_back f) ∙ ap (λ (k : ℕ). get_or (forms_by (argument f)) k Form.lock_status_request) n ∙ ap (λ (k : ℕ). get_or (forms_by k) (form_number g) Form.lock_status_request) a ∙ form_back g

-- the values of selectors are their bytes
pub selectors_read : (k : ℕ) (f : Form) → Narrow k (layout f).fields → (s : List ℕ) (vs : List Value) → decode_form f s ≡ accepted f vs → (i : ℕ) → i < k → natural_at vs i ≡ get_or s (header + i) 0
selectors_read k f narrow s vs e i h =
    let both = (was_read f s vs e).both in
    ap (λ (l : List Value). natural_at l i) both.joined ∙ narrow_read k (layout f).fields narrow s header both.first both.second both.first_is i h

-- the selectors that reading followed lead writing to the same form
pub record Chosen (c k : ℕ) (sel : Selection) (s : List ℕ) (f : Form) (vs : List Value) : Type 0 where
  pub form : decode_form f s ≡ accepted f vs
  pub fit : Fitting c k f
  pub writes : (last : ℕ) (opens : List ℕ) → encode_selection sel f last vs opens ≡ encode_form f vs opens

pub chosen : (c k : ℕ) (sel : Selection) → Leads c k sel → (s : List ℕ) (f : Form) (vs : List Value) → decode_selection sel s ≡ accepted f vs → Chosen c k sel s f vs
chosen c k (always g) lead s f vs e =
    let same : g ≡ f = form_is g s f vs e in
    record {
      form = ap (λ (x : Form). decode_form x s) (sym same) ∙ e;
      fit = rw same at lead;
      writes = λ last opens. ap (λ (x : Form). encode_selection (always x) f last vs opens) same ∙ rw (same_form_lem f);
    }
chosen c k (select offset rule next) lead s f vs e =
    let v : ℕ = get_or s (header + offset) 0 in
    let n = not_else (rule v) 7 (header + offset) (decode_selection (next v) s) f vs e in
    let deeper = chosen c k (next v) (lead.1 v) s f vs n.1 in
    let is : natural_at vs offset ≡ v = selectors_read k f deeper.fit.1 s vs deeper.form offset lead.0 in
    record { form = deeper.form; fit = deeper.fit; writes = λ last opens. rw (is, n.0) (deeper.writes last opens) }

framed_back : (s : List ℕ) (c : ℕ) → header ≤ length s → get_or s 0 0 ≡ length s → get_or s 1 0 ≡ 0 → get_or s 2 0 ≡ c → framed c (drop header s) ≡ s
framed_back [] c h a b d = absurd (omega arith)
framed_back (x ∷ []) c h a b d = absurd (omega arith)
framed_back (x ∷ y ∷ []) c h a b d = absurd (omega arith)
framed_back (x ∷ y ∷ z ∷ s) c h a b d =
    let size : 3 + length s ≡ x = omega arith in
    let front : framed c s ≡ x ∷ 0 ∷ c ∷ s = ap (λ (n : ℕ). n ∷ 0 ∷ c ∷ s) size in
    front ∙ ap (λ (n : ℕ). x ∷ n ∷ c ∷ s) (sym b) ∙ ap (λ (n : ℕ). x ∷ y ∷ n ∷ s) (sym d)

pub values_written : (way : Way) (s : List ℕ) → Bytes s → (f : Form) (vs : List Value) → read_only (code f) ≡ false → decode way s ≡ accepted f vs → encode_values way f vs (open_part way s) ≡ encoded s
unfolding encode_values open_part
values_written way s b f vs kept e =
    let h = headed way s f vs e in
    let t = type_found way s f vs h.rest in
    let type : MessageType = t.type in
    let ch = chosen (get_or s 2 0) (selectors type) type (leads way (get_or s 2 0) type t.found) s f vs t.rest in
    let opens : List ℕ = open_bytes s (fields_end f) (layout f).rest in
    let found : type_of (code f) (types way) ≡ some type = ap (λ (k : ℕ). type_of k (types way)) ch.fit.0 ∙ t.found in
    let written : encode_form f vs opens ≡ encoded (framed (code f) (drop header s)) = form_written f s b vs ch.form in
    let bytes : framed (code f) (drop header s) ≡ s = framed_back s (code f) h.least h.size h.hub (sym ch.fit.0) in
    rw (found, kept, e) (ch.writes (selectors_size type - 1) opens ∙ written ∙ ap encoded bytes)

-- ---- what was written is read back

not_refused_encoded : (b : Bool) (n p : ℕ) (x : Encoded) (t : List ℕ) → cond b (Encode'.refused n p) x ≡ encoded t → x ≡ encoded t
not_refused_encoded true n p x t e = let z : ◌≡◌ {A = ℕ} 0 1 = cc in absurd (omega arith)
not_refused_encoded false n p x t e = e

not_else_encoded : (b : Bool) (n p : ℕ) (x : Encoded) (t : List ℕ) → cond b x (Encode'.refused n p) ≡ encoded t → (b ≡ true) × (x ≡ encoded t)
not_else_encoded true n p x t e = (refl, e)
not_else_encoded false n p x t e = let z : ◌≡◌ {A = ℕ} 0 1 = cc in absurd (omega arith)

-- the selectors that writing followed lead reading to the same form, wherever they stand as the values say
record Followed (c k : ℕ) (sel : Selection) (f : Form) (vs : List Value) (opens t : List ℕ) : Type 0 where
  form : encode_form f vs opens ≡ encoded t
  fit : Fitting c k f
  reads : (u : List ℕ) → ((i : ℕ) → i < k → get_or u (header + i) 0 ≡ natural_at vs i) → decode_selection sel u ≡ decode_form f u

followed : (c k : ℕ) (sel : Selection) → Leads c k sel → (f : Form) (last : ℕ) (vs : List Value) (opens t : List ℕ) → encode_selection sel f last vs opens ≡ encoded t → Followed c k sel f vs opens t
followed c k (always g) lead f last vs opens t e =
    let n = not_else_encoded (same_form g f) 7 last (encode_form f vs opens) t e in
    let same : g ≡ f = form_same g f n.0 in
    record { form = n.1; fit = rw same at lead; reads = λ u at. ap (λ (x : Form). decode_form x u) same }
followed c k (select offset rule next) lead f last vs opens t e =
    let v : ℕ = natural_at vs offset in
    let n = not_else_encoded (rule v) 7 (header + offset) (encode_selection (next v) f last vs opens) t e in
    let deeper = followed c k (next v) (lead.1 v) f last vs opens t n.1 in
    record { form = deeper.form; fit = deeper.fit; reads = λ u at. rw (at offset lead.0, n.0) (deeper.reads u at) }

pub record Back (way : Way) (f : Form) (vs : List Value) (opens t : List ℕ) : Type 0 where
  pub fields : decode way t ≡ accepted f (settled_values (layout f) vs)
  pub open_is : open_part way t ≡ opens

pub values_read : (way : Way) (f : Form) (vs : List Value) (opens t : List ℕ) → Shaped (layout f).rest (after_fields (layout f).fields vs) → encode_values way f vs opens ≡ encoded t → Back way f vs opens t
unfolding encode_values open_part
values_read way f vs opens t shape e = go (type_of (code f) (types way)) refl e
  where
    go : (o : Option MessageType) → type_of (code f) (types way) ≡ o → encode_typed o f vs opens ≡ encoded t → Back way f vs opens t
    go none k g = let z : ◌≡◌ {A = ℕ} 0 1 = cc in absurd (omega arith)
    go (some type) k g =
        let fs : List Field = (layout f).fields in
        let chosen_is = not_refused_encoded (read_only (code f)) 23 0 (encode_selection type f (selectors_size type - 1) vs opens) t g in
        let fo = followed (code f) (selectors type) type (leads way (code f) type k) f (selectors_size type - 1) vs opens t chosen_is in
        let fr = form_read f vs opens t shape fo.form in
        let body : List ℕ = fr.body in
        let u : List ℕ = framed (code f) body in
        let few : length t ≤ longest_message = short f (length t) fr.size in
        let size : length t ≡ length u = ap length fr.bytes in
        let room : selectors type ≤ widths fs = narrow_widths (selectors type) fs fo.fit.1 in
        let at : (i : ℕ) → i < selectors type → get_or u (header + i) 0 ≡ natural_at vs i =
        λ i h.
        sym (get_or-drop header u i 0) ∙ sym (get_or-take (widths fs) body i 0 (omega arith))
        ∙ narrow_written (selectors type) fs fo.fit.1 header vs (take (widths fs) body) fr.front_is.0 fr.front_is.1 i h
        in
        let header_good : decode way u ≡ decode_way way u =
        head way u (ne_eqb (length u) 0 (λ z. omega arith)) (le-ltb longest_message (get_or u 0 0) (omega (arith, fr.room))) (eq-eqb (get_or u 0 0) (length u) (omega arith)) (le-ltb (length u) header (omega arith)) refl
        in
        let typed_as : decode_way way u ≡ decode_type type u = typed way u (code f) refl ∙ ap (λ (o : Option MessageType). decode_typed o u) k in
        let whole : decode way u ≡ decode_form f u =
        header_good ∙ typed_as ∙ long_enough type u (omega (arith, fr.room)) ∙ fo.reads u at
        in
        let read : decode way t ≡ accepted f (settled_values (layout f) vs) =
        ap (decode way) fr.bytes ∙ whole ∙ ap (decode_form f) (sym fr.bytes) ∙ fr.read
        in
        record { fields = read; open_is = ap (open_of t) read ∙ fr.open_is }

-- ---- for messages

abbrev entries_of : Combinations → List Value
entries_of c =
    natural c.entry0 ∷ natural c.entry1 ∷ natural c.entry2 ∷ natural c.entry3 ∷ natural c.entry4 ∷ natural c.entry5 ∷ natural c.entry6 ∷ natural c.entry7 ∷ []

kept : (b : Bool) (e : ℕ) → natural (natural_at (cond b (natural e) (natural 0) ∷ []) 0) ≡ cond b (natural e) (natural 0)
kept true e = refl
kept false e = refl

-- a message has as many values as its form wants, and settling changes only those past a count
settling : (m : Message)
    → Shaped (layout (form_of m)).rest (after_fields (layout (form_of m)).fields (values_of m))
    × (form_of (settled m) ≡ form_of m)
    × (values_of (settled m) ≡ settled_values (layout (form_of m)) (values_of m))
unfolding layout
settling (Message'.PropertyCommand p o) = (refl, refl, refl)
settling (Message'.PropertyText p o) = (refl, refl, refl)
settling (Message'.PropertyByte p o v) = (refl, refl, refl)
settling (Message'.PropertyRssi o v) = (refl, refl, refl)
settling (Message'.PropertyVersion p o v) = (refl, refl, refl)
settling (Message'.PropertyProtocol o v) = (refl, refl, refl)
settling (Message'.PropertyAddress p o v) = (refl, refl, refl)
settling (Message'.HubAction a) = (refl, refl, refl)
settling (Message'.AlertCommand a o) = (refl, refl, refl)
settling (Message'.AlertUpdate a v) = (refl, refl, refl)
settling (Message'.Detached p) = (refl, refl, refl)
settling (Message'.Attached p d h s) = (refl, refl, refl)
settling (Message'.AttachedVirtual p d a b) = (refl, refl, refl)
settling (Message'.GenericError c e) = (refl, refl, refl)
settling Message'.GoIntoBootMode = (refl, refl, refl)
settling Message'.LockMemory = (refl, refl, refl)
settling Message'.LockStatusRequest = (refl, refl, refl)
settling (Message'.LockStatus v) = (refl, refl, refl)
settling (Message'.PortInformationRequest p i) = (refl, refl, refl)
settling (Message'.ModeInformationRequest p m i) = (refl, refl, refl)
settling (Message'.InputFormatSetup p m d n) = (refl, refl, refl)
settling (Message'.PortModes p c n i o) = (refl, refl, refl)
settling (Message'.PortCombinations p c) = (
  (c.count, entries_of c, refl, refl, tt),
  refl,
  rw (
    kept (ltb 0 c.count) c.entry0,
    kept (ltb 1 c.count) c.entry1,
    kept (ltb 2 c.count) c.entry2,
    kept (ltb 3 c.count) c.entry3,
    kept (ltb 4 c.count) c.entry4,
    kept (ltb 5 c.count) c.entry5,
    kept (ltb 6 c.count) c.entry6,
    kept (ltb 7 c.count) c.entry7,
  ),
)
settling (Message'.ModeText p m i) = (refl, refl, refl)
settling (Message'.ModeRange p m i l h) = (refl, refl, refl)
settling (Message'.ModeMapping p m v) = (refl, refl, refl)
settling (Message'.ModeBias p m v) = (refl, refl, refl)
settling (Message'.ModeCapabilities p m v) = (refl, refl, refl)
settling (Message'.ValueFormat p m n k f d) = (refl, refl, refl)
settling (Message'.PortValue p) = (refl, refl, refl)
settling (Message'.InputFormat p m d n) = (refl, refl, refl)
settling (Message'.VirtualDisconnect p) = (refl, refl, refl)
settling (Message'.VirtualConnect a b) = (refl, refl, refl)
settling (Message'.StartSpeedForDegrees p s d l r w e u) = (refl, refl, refl)
settling (Message'.GotoAbsolutePosition p s a v w e u) = (refl, refl, refl)
settling (Message'.GotoAbsolutePositions p s a b v w e u) = (refl, refl, refl)
settling (Message'.PresetEncoders p s l r) = (refl, refl, refl)
settling Message'.OutputFeedback = (refl, refl, refl)
settling (Message'.CombinedSetup p s) = (refl, refl, refl)
settling (Message'.ModeDatasets p x) = (refl, refl, refl)
settling (Message'.PortValueCombined p w) = (refl, refl, refl)
settling (Message'.InputFormatCombined p c w) = (refl, refl, refl)

pub read_then_written : ReadThenWritten
unfolding encode
read_then_written way s b m kept e = values_written way s b (form_of m) (values_of m) kept e

pub written_then_read : WrittenThenRead
unfolding encode
written_then_read way m opens s e =
    let k = settling m in
    let b = values_read way (form_of m) (values_of m) opens s k.0 e in
    (b.fields ∙ sym (rw (k.1, k.2)), b.open_is)

pub refused_only : RefusedOnly
refused_only way m opens kept number place e s b d o =
    let written : encode way m opens ≡ encoded s = ap (encode way m) (sym o) ∙ read_then_written way s b m kept d in
    let z : ◌≡◌ {A = ℕ} 0 1 = cc in absurd (omega arith)

-- what writing gives is no longer than the longest message
pub written_short : (m : Message) (opens t : List ℕ) → encode_form (form_of m) (values_of m) opens ≡ encoded t → length t ≤ longest_message
written_short m opens t e = short (form_of m) (length t) (form_read (form_of m) (values_of m) opens t (settling m).0 e).size

-- what reading accepts is read by the very form, and that form has the message's type byte
read_by : (way : Way) (s : List ℕ) (f : Form) (vs : List Value) → decode way s ≡ accepted f vs → (decode_form f s ≡ accepted f vs) × (code f ≡ get_or s 2 0)
read_by way s f vs e =
    let t = type_found way s f vs (headed way s f vs e).rest in
    let c = chosen (get_or s 2 0) (selectors t.type) t.type (leads way (get_or s 2 0) t.type t.found) s f vs t.rest in
    (c.form, c.fit.0)

pub form_accepted : (way : Way) (s : List ℕ) (f : Form) (vs : List Value) → decode way s ≡ accepted f vs → decode_form f s ≡ accepted f vs
form_accepted way s f vs e = (read_by way s f vs e).0

pub type_accepted : (way : Way) (s : List ℕ) (f : Form) (vs : List Value) → decode way s ≡ accepted f vs → code f ≡ get_or s 2 0
type_accepted way s f vs e = (read_by way s f vs e).1
