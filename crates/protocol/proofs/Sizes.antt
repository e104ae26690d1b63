-- The sizes of a form, from the smallest to the greatest, and the size that holds a type's selectors.
use Prim.Native.Nat.{ℕ, ◌+◌, ◌*◌, ◌-◌, ◌%◌, ◌≤◌}
use native.Mathlib.Nat.{add-zero}
use native.Mathlib.Omega.{arith}
use mathlib.Core.Path.{◌≡◌, refl}
use mathlib.Core.Bool.{Bool, true, false, ◌&&◌}
use mathlib.Core.Logic.{⊎_elim}
use borrow.Author.Tests.{eqb-true, eq-eqb, leb-true, le-leb}
use lib.Dec.{eqb, leb}
use Rattle.protocol.specs.Form.{Form, Rest, nothing, open_run, words, layout, longest_mode_text, least_rest, whole, fits}
use Rattle.protocol.specs.Properties.{longest}
use Rattle.protocol.specs.Types.{MessageType, selectors, types, hub_properties, hub_actions, hub_alerts, hub_attached_io, combined_format_setup, port_information, port_mode_information, virtual_port_setup, port_output_command}
use Rattle.protocol.specs.Decode.{longest_message, fields_end, size_fits, smallest_size}
use Rattle.protocol.specs.Sizes.{SmallestSize, LastBefore, SelectorsHeld}
use Rattle.protocol.specs.declared.Way.{Way}
use Rattle.protocol.specs.declared.Way.TheVariants.{Down, Up}
use Rattle.protocol.proofs.Tests.{which, and_left, and_right}
use Rattle.protocol.proofs.SelectionTrip.{Every, found}

-- the greatest size, where the fields end at a place
abbrev greatest : Rest → ℕ → ℕ
greatest nothing end = end
greatest (open_run least most run) end = end + most
greatest (words most) end = end + 2 * most

-- the least of a run is whole items
abbrev whole_least : Rest → Bool
whole_least nothing = true
whole_least (open_run least most run) = whole run least
whole_least (words most) = true

-- ---- what fits is between the two

fits_least : (r : Rest) (end n : ℕ) → fits r end n ≡ true → end + least_rest r ≤ n
fits_least nothing end n e = omega (arith, eqb-true n end e)
fits_least (open_run least most run) end n e =
    leb-true (end + least) n (and_right (whole run (n - end)) (leb (end + least) n) (and_left (whole run (n - end) && leb (end + least) n) (leb n (end + most)) e))
fits_least (words most) end n e =
    leb-true (end + 2) n (and_left (leb (end + 2) n) (leb n (end + 2 * most)) (and_left (leb (end + 2) n && leb n (end + 2 * most)) (eqb ((n - end) % 2) 0) e))

fits_greatest : (r : Rest) (end n : ℕ) → fits r end n ≡ true → n ≤ greatest r end
fits_greatest nothing end n e = omega (arith, eqb-true n end e)
fits_greatest (open_run least most run) end n e = leb-true n (end + most) (and_right (whole run (n - end) && leb (end + least) n) (leb n (end + most)) e)
fits_greatest (words most) end n e =
    leb-true n (end + 2 * most)
    (and_right (leb (end + 2) n) (leb n (end + 2 * most)) (and_left (leb (end + 2) n && leb n (end + 2 * most)) (eqb ((n - end) % 2) 0) e))

-- and the smallest does
least_fits : (r : Rest) (end : ℕ) → end + least_rest r ≤ greatest r end → whole_least r ≡ true → fits r end (end + least_rest r) ≡ true
least_fits nothing end h w = eq-eqb (end + 0) end (add-zero end)
least_fits (open_run least most run) end h w =
    let count : end + least - end ≡ least = omega arith in
    rw (count, w, le-leb (end + least) (end + least) (omega arith), le-leb (end + least) (end + most) h)
least_fits (words most) end h w =
    let even : (end + 2 - end) % 2 ≡ 0 = omega arith in
    rw (le-leb (end + 2) (end + 2) (omega arith), le-leb (end + 2) (end + 2 * most) h, even)

-- ---- of every form

-- the smallest size is no more than the greatest, this no more than the longest message, and the least that follows the fields whole
abbrev Bounded : Form → Type 0
Bounded f = (smallest_size f ≤ greatest (layout f).rest (fields_end f)) × (greatest (layout f).rest (fields_end f) ≤ longest_message) × (whole_least (layout f).rest ≡ true)

text_bounded : (property : ℕ) → Bounded (Form.property_text property)
unfolding longest layout
text_bounded property =
    ⊎_elim (λ (yes : eqb property 1 ≡ true). rw yes (omega arith, omega arith, refl)) (λ (no : eqb property 1 ≡ false). rw no (omega arith, omega arith, refl)) (which (eqb property 1))

mode_text_bounded : (information : ℕ) → Bounded (Form.mode_text information)
unfolding longest_mode_text layout
mode_text_bounded information =
    ⊎_elim (λ (yes : eqb information 0 ≡ true). rw yes (omega arith, omega arith, refl)) (λ (no : eqb information 0 ≡ false). rw no (omega arith, omega arith, refl)) (which (eqb information 0))

bounded : (f : Form) → Bounded f
unfolding layout
bounded Form.property_command = (omega arith, omega arith, refl)
bounded (Form.property_text p) = text_bounded p
bounded (Form.property_byte p) = (omega arith, omega arith, refl)
bounded Form.property_rssi = (omega arith, omega arith, refl)
bounded Form.property_version = (omega arith, omega arith, refl)
bounded Form.property_protocol = (omega arith, omega arith, refl)
bounded Form.property_address = (omega arith, omega arith, refl)
bounded Form.hub_action = (omega arith, omega arith, refl)
bounded Form.alert_command = (omega arith, omega arith, refl)
bounded Form.alert_update = (omega arith, omega arith, refl)
bounded Form.detached = (omega arith, omega arith, refl)
bounded Form.attached = (omega arith, omega arith, refl)
bounded Form.attached_virtual = (omega arith, omega arith, refl)
bounded Form.generic_error = (omega arith, omega arith, refl)
bounded Form.go_into_boot_mode = (omega arith, omega arith, refl)
bounded Form.lock_memory = (omega arith, omega arith, refl)
bounded Form.lock_status_request = (omega arith, omega arith, refl)
bounded Form.lock_status = (omega arith, omega arith, refl)
bounded Form.port_information_request = (omega arith, omega arith, refl)
bounded Form.mode_information_request = (omega arith, omega arith, refl)
bounded Form.input_format_setup = (omega arith, omega arith, refl)
bounded Form.port_modes = (omega arith, omega arith, refl)
bounded Form.port_combinations = (omega arith, omega arith, refl)
bounded (Form.mode_text i) = mode_text_bounded i
bounded Form.mode_range = (omega arith, omega arith, refl)
bounded Form.mode_mapping = (omega arith, omega arith, refl)
bounded Form.mode_bias = (omega arith, omega arith, refl)
bounded Form.mode_capabilities = (omega arith, omega arith, refl)
bounded Form.value_format = (omega arith, omega arith, refl)
bounded Form.port_value = (omega arith, omega arith, refl)
bounded Form.input_format = (omega arith, omega arith, refl)
bounded Form.virtual_disconnect = (omega arith, omega arith, refl)
bounded Form.virtual_connect = (omega arith, omega arith, refl)
bounded Form.start_speed_for_degrees = (omega arith, omega arith, refl)
bounded Form.goto_absolute_position = (omega arith, omega arith, refl)
bounded Form.goto_absolute_positions = (omega arith, omega arith, refl)
bounded Form.preset_encoders = (omega arith, omega arith, refl)
bounded Form.output_feedback = (omega arith, omega arith, refl)
bounded Form.combined_setup = (omega arith, omega arith, refl)
bounded Form.mode_datasets = (omega arith, omega arith, refl)
bounded Form.port_value_combined = (omega arith, omega arith, refl)
bounded Form.input_format_combined = (omega arith, omega arith, refl)

pub smallest_size_lem : SmallestSize
smallest_size_lem f = (least_fits (layout f).rest (fields_end f) (bounded f).0 (bounded f).2, fits_least (layout f).rest (fields_end f))

-- every size has room for the fields
pub room : (f : Form) (n : ℕ) → size_fits f n ≡ true → fields_end f ≤ n
room f n e = omega (arith, (smallest_size_lem f).1 n e)

-- no size is more than the longest message
pub short : (f : Form) (n : ℕ) → size_fits f n ≡ true → n ≤ longest_message
short f n e = omega (arith, fits_greatest (layout f).rest (fields_end f) n e, (bounded f).1)

-- ---- the selectors

abbrev Held : ℕ → MessageType → Type 0
Held c t = LastBefore (selectors t) 0 t

all_held : (way : Way) → Every Held (types way)
unfolding types hub_properties hub_actions hub_alerts hub_attached_io combined_format_setup port_information port_mode_information virtual_port_setup port_output_command
all_held Down =
    (λ p o. refl, (λ a. refl, (λ a o. refl, (refl, (refl, (refl, (refl, (refl, (refl, (λ s. refl, (λ s. refl, (λ s. refl, tt))))))))))))
all_held Up =
    (λ p o. refl, (λ a. refl, (λ a o. refl, (λ e. refl, (refl, (refl, (λ i. refl, (λ i. refl, (refl, (refl, (refl, (refl, (refl, tt)))))))))))))

pub selectors_held : SelectorsHeld
selectors_held way c t e = found Held (types way) (all_held way) c t e
