-- The fields that a table keeps of an accepted message are within their lists, and its open bytes are right.
use Prim.Native.Nat.{ℕ, suc, ◌+◌, ◌-◌, ◌^◌, ◌≤◌}
use native.Mathlib.Omega.{arith}
use mathlib.Core.Path.{◌≡◌, refl}
use mathlib.Core.Bool.{Bool, true, false, cond, ◌&&◌}
use mathlib.Core.List.{List, [], ◌∷◌, ◌++◌}
use mathlib.Core.Option.{Option, none, some}
use borrow.Author.Tests.{lt-ltb, le-leb, leb-true}
use lib.Dec.{leb, ltb}
use lib.IntN.{ℤ}
use lib.Ieee.{Float, binary32, of_bits}
use lib.ListN.{length, drop, length-drop}
use Rattle.protocol.specs.Number.{Bytes, little_endian, big_endian, twos_complement, is_finite}
use Rattle.protocol.specs.Rule.{Rule}
use Rattle.protocol.specs.Field.{Field, number, high_first, signed, float, fixed, Value, natural, integer, real, widths, values, read_field, read_fields}
use Rattle.protocol.specs.Form.{Form, Rest, nothing, open_run, words, layout, most_entries, whole, fits, wrong_byte, read_run, read_rest, open_bytes}
use Rattle.protocol.specs.Decode.{accepted, header, decode, fields_end, open_of}
use Rattle.protocol.specs.Answer.{natural_at, message_of}
use Rattle.protocol.specs.declared.Way.{Way}
use Rattle.protocol.proofs.Bytes.{little_lt, Bytes-drop}
use Rattle.protocol.proofs.FieldTrip.{within_yes}
use Rattle.protocol.proofs.FieldsTrip.{both_read}
use Rattle.protocol.proofs.FormTrip.{was_read}
use Rattle.protocol.proofs.RoundTrip.{form_accepted}
use Rattle.protocol.proofs.Sizes.{room}
use Rattle.protocol.proofs.Tests.{and_left, and_right}
use Rattle.protocol.proofs.ValueKinds.{no_values}
use Rattle.rules.specs.Layout.{experiment_count}
use Rattle.rules.specs.Effect.{Empty, Nothing, empties_table, effect_of}
use Rattle.rules.specs.OpenBytes.{heard}
use Rattle.rules.specs.Ranges.{effect_fits}
use Rattle.rules.specs.WellFormed.{all_bytes, list_fits}

-- a number that fits its width and is in its list
abbrev Listed : ℕ → Rule → ℕ → Type 0
Listed w rule n = (ltb n (256 ^ w) ≡ true) × (rule n ≡ true)

-- every number among the fields is listed, by its index among the values
abbrev AllListed : List Field → (ℕ → ℕ) → Type 0
AllListed [] at = Unit {0}
AllListed (number w rule ∷ fs) at = Listed w rule (at 0) × AllListed fs (λ i. at (suc i))
AllListed (high_first w ∷ fs) at = AllListed fs (λ i. at (suc i))
AllListed (signed w rule ∷ fs) at = AllListed fs (λ i. at (suc i))
AllListed (float ∷ fs) at = AllListed fs (λ i. at (suc i))
AllListed (fixed bytes ∷ fs) at = AllListed fs at

-- numbers that were read are listed
all_listed : (fs : List Field) (s : List ℕ) (at : ℕ) → Bytes s → at + widths fs ≤ length s → (vs rest : List Value) → read_fields s at fs ≡ values vs → AllListed fs (natural_at (vs ++ rest))
all_listed [] s at b h vs rest e = tt
all_listed (number w rule ∷ fs) s at b h vs rest e =
    let r = both_read (read_field s at (number w rule)) (read_fields s (at + w) fs) vs e in
    let n : ℕ = little_endian s at w in
    let k = within_yes (rule n) at (natural n) r.first r.first_is in
    rw (r.joined, k.1) ((lt-ltb n (256 ^ w) (little_lt s at w b (omega arith)), k.0), all_listed fs s (at + w) b (omega arith) r.second rest r.second_is)
all_listed (high_first w ∷ fs) s at b h vs rest e =
    let r = both_read (read_field s at (high_first w)) (read_fields s (at + w) fs) vs e in
    let is : r.first ≡ natural (big_endian s at w) ∷ [] = cc in
    rw (r.joined, is) (all_listed fs s (at + w) b (omega arith) r.second rest r.second_is)
all_listed (signed w rule ∷ fs) s at b h vs rest e =
    let r = both_read (read_field s at (signed w rule)) (read_fields s (at + w) fs) vs e in
    let z : ℤ = twos_complement w (little_endian s at w) in
    rw (r.joined, (within_yes (rule z) at (integer z) r.first r.first_is).1) (all_listed fs s (at + w) b (omega arith) r.second rest r.second_is)
all_listed (float ∷ fs) s at b h vs rest e =
    let r = both_read (read_field s at float) (read_fields s (at + 4) fs) vs e in
    let x : Float = of_bits binary32 (little_endian s at 4) in
    rw (r.joined, (within_yes (is_finite x) at (real x) r.first r.first_is).1) (all_listed fs s (at + 4) b (omega arith) r.second rest r.second_is)
all_listed (fixed bytes ∷ fs) s at b h vs rest e =
    let r = both_read (read_field s at (fixed bytes)) (read_fields s (at + length bytes) fs) vs e in
    rw (r.joined, no_values bytes s at r.first r.first_is) (all_listed fs s (at + length bytes) b (omega arith) r.second rest r.second_is)

-- ---- open bytes

-- as many as there may be, and none of them wrong
abbrev Right : Rest → List ℕ → Type 0
Right nothing o = Unit {0}
Right (open_run least most run) o = (least ≤ length o) × (length o ≤ most) × Bytes o × (wrong_byte run o ≡ none)
Right (words most) o = Unit {0}

no_wrong : (at : ℕ) (wrong : Option ℕ) (vs : List Value) → read_run at wrong ≡ values vs → wrong ≡ none
no_wrong at none vs e = refl
no_wrong at (some i) vs e = let z : ◌≡◌ {A = ℕ} 0 1 = cc in absurd (omega arith)

rest_right : (r : Rest) (s : List ℕ) (at : ℕ) → Bytes s → fits r at (length s) ≡ true → (vs : List Value) → read_rest s at r ≡ values vs → Right r (open_bytes s at r)
rest_right nothing s at b h vs e = tt
rest_right (open_run least most run) s at b h vs e =
    let sized = and_left (whole run (length s - at) && leb (at + least) (length s)) (leb (length s) (at + most)) h in
    let low : at + least ≤ length s = leb-true (at + least) (length s) (and_right (whole run (length s - at)) (leb (at + least) (length s)) sized) in
    let high : length s ≤ at + most = leb-true (length s) (at + most) (and_right (whole run (length s - at) && leb (at + least) (length s)) (leb (length s) (at + most)) h) in
    let size : length (drop at s) ≡ length s - at = length-drop at s in
    (omega arith, omega arith, Bytes-drop at s b, no_wrong at (wrong_byte run (drop at s)) vs e)
rest_right (words most) s at b h vs e = tt

all_bytes_lem : (o : List ℕ) → Bytes o → all_bytes o ≡ true
all_bytes_lem [] b = refl
all_bytes_lem (x ∷ o) (h, b) = rw (lt-ltb x 256 h) (all_bytes_lem o b)

-- ---- what a table keeps

-- 02 empties the table or does nothing
either_fits : (b : Bool) (opens : List ℕ) → effect_fits (cond b Empty Nothing) opens ≡ true
either_fits true opens = refl
either_fits false opens = refl

-- a form whose numbers are listed gives what a table may keep
listed_fits : (experiment : ℕ) → ltb experiment experiment_count ≡ true → (f : Form) (vs : List Value) (o : List ℕ) → AllListed (layout f).fields (natural_at vs) → Right (layout f).rest o → effect_fits (effect_of experiment (message_of f vs)) (heard (effect_of experiment (message_of f vs)) o) ≡ true
unfolding layout effect_of list_fits
listed_fits experiment small Form.property_command vs o k r = refl
listed_fits experiment small (Form.property_text p) vs o k r = refl
listed_fits experiment small (Form.property_byte p) vs o k r = refl
listed_fits experiment small Form.property_rssi vs o k r = refl
listed_fits experiment small Form.property_version vs o k r = refl
listed_fits experiment small Form.property_protocol vs o k r = refl
listed_fits experiment small Form.property_address vs o k r = refl
listed_fits experiment small Form.hub_action vs o k r = either_fits (empties_table (natural_at vs 0)) _
listed_fits experiment small Form.alert_command vs o k r = refl
listed_fits experiment small Form.alert_update vs o k r = refl
listed_fits experiment small Form.detached vs o k r = refl
listed_fits experiment small Form.attached vs o (port, (event, (device, k))) r = rw (port.0, device.0)
listed_fits experiment small Form.attached_virtual vs o (port, (event, (device, (a, (b, k))))) r = rw (port.0, device.0, a.0, b.0)
listed_fits experiment small Form.generic_error vs o k r = refl
listed_fits experiment small Form.go_into_boot_mode vs o k r = refl
listed_fits experiment small Form.lock_memory vs o k r = refl
listed_fits experiment small Form.lock_status_request vs o k r = refl
listed_fits experiment small Form.lock_status vs o k r = refl
listed_fits experiment small Form.port_information_request vs o k r = refl
listed_fits experiment small Form.mode_information_request vs o k r = refl
listed_fits experiment small Form.input_format_setup vs o (port, (mode, (delta, (notify, k)))) r = rw (mode.1, delta.0, notify.1, small)
listed_fits experiment small Form.port_modes vs o k r = refl
listed_fits experiment small Form.port_combinations vs o k r = refl
listed_fits experiment small (Form.mode_text i) vs o k r = refl
listed_fits experiment small Form.mode_range vs o k r = refl
listed_fits experiment small Form.mode_mapping vs o k r = refl
listed_fits experiment small Form.mode_bias vs o k r = refl
listed_fits experiment small Form.mode_capabilities vs o k r = refl
listed_fits experiment small Form.value_format vs o (port, (mode, (information, (datasets, (kind, (figures, (decimals, k))))))) r = rw (mode.1, datasets.1, kind.1, figures.0, decimals.0)
listed_fits experiment small Form.port_value vs o k r = refl
listed_fits experiment small Form.input_format vs o (port, (mode, (delta, (notify, k)))) r = rw (mode.1, delta.0, notify.1)
listed_fits experiment small Form.virtual_disconnect vs o k r = refl
listed_fits experiment small Form.virtual_connect vs o k r = refl
listed_fits experiment small Form.start_speed_for_degrees vs o k r = refl
listed_fits experiment small Form.goto_absolute_position vs o k r = refl
listed_fits experiment small Form.goto_absolute_positions vs o k r = refl
listed_fits experiment small Form.preset_encoders vs o k r = refl
listed_fits experiment small Form.output_feedback vs o k r = refl
listed_fits experiment small Form.combined_setup vs o k r = refl
listed_fits experiment small Form.mode_datasets vs o k r = rw (le-leb 1 (length o) r.0, le-leb (length o) most_entries r.1, all_bytes_lem o r.2, r.3, small)
listed_fits experiment small Form.port_value_combined vs o k r = refl
listed_fits experiment small Form.input_format_combined vs o k r = refl

pub effect_fits_lem : (experiment : ℕ) → ltb experiment experiment_count ≡ true → (way : Way) (s : List ℕ) → Bytes s → (f : Form) (vs : List Value) → decode way s ≡ accepted f vs
    → effect_fits (effect_of experiment (message_of f vs)) (heard (effect_of experiment (message_of f vs)) (open_of s (accepted f vs))) ≡ true
effect_fits_lem experiment small way s b f vs e =
    let read = was_read f s vs (form_accepted way s f vs e) in
    let both = read.both in
    let listed : AllListed (layout f).fields (natural_at vs) =
    rw both.joined (all_listed (layout f).fields s header b (room f (length s) read.size) both.first both.second both.first_is)
    in
    listed_fits experiment small f vs (open_of s (accepted f vs)) listed (rest_right (layout f).rest s (fields_end f) b read.size both.second both.second_is)
