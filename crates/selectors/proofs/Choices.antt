-- What comes of a form's way and selectors, by the definition of writing.
use Prim.Native.Nat.{ℕ, zero, suc}
use native.Mathlib.Omega.{arith}
use mathlib.Core.Path.{◌≡◌, refl, sym, ◌∙◌, ap}
use mathlib.Core.Bool.{Bool, true, false, cond, ◌||◌}
use mathlib.Core.List.{List, [], ◌∷◌}
use mathlib.Core.Logic.{⊎_elim}
use borrow.Author.Tests.{eqb-true, eq-eqb, ne_eqb, le-leb}
use lib.Dec.{eqb, leb}
use Rattle.std.proofs.lemmas.Bool.Decides.{nat_tests}
use Rattle.std.proofs.Math.ListN.{get_or-eq_default}
use Rattle.protocol.proofs.Answers.{message_back}
use Rattle.protocol.proofs.Tests.{which}
use Rattle.protocol.specs.Rule.{between, one_of, either}
use Rattle.protocol.specs.Properties.{carries, allowed, outside_selector}
use Rattle.protocol.specs.Field.{Value}
use Rattle.protocol.specs.Form.{Form, form_number, argument, same_form, code, forms_by}
use Rattle.protocol.specs.Types.{payload, down_action, up_action, hub_properties, hub_actions, hub_alerts, hub_attached_io, port_information, port_mode_information, combined_format_setup, virtual_port_setup, port_output_command, types, read_only}
use Rattle.protocol.specs.Answer.{form_of, values_of, natural_at, message_of}
use Rattle.protocol.specs.Encode.{Encoded, refused, encode_form, encode_values, encode}
use Rattle.protocol.specs.declared.Message.{Message}
use Rattle.protocol.specs.declared.Way.{Way}
use Rattle.protocol.specs.declared.Way.TheVariants.{Down, Up}
use Rattle.selectors.specs.Choice.{Choice, after_selectors, down_only, up_only, down_read_only, up_read_only, property_form, property_choice, action_choice, command_leads, update_leads, alert_choice, setup, choice_of, form_at}
use Rattle.std.specs.Prelude.{Ok, Err}
use Rattle.protocol.specs.declared.refusal.Refusal.TheVariants as Refusal'

abbrev own : Message → List ℕ → Encoded
own m opens = encode_form (form_of m) (values_of m) opens

-- what a choice has to be: of a form with its values, and of a message
abbrev pub RightFor : Way → Form → List Value → Choice → Type 0
RightFor way f vs c = (opens : List ℕ) → encode_values way f vs opens ≡ after_selectors c (encode_form f vs opens)

abbrev pub Right : Way → Message → Choice → Type 0
Right way m c = (opens : List ℕ) → encode way m opens ≡ after_selectors c (own m opens)

pub right_by : (way : Way) (m n : Message) (r c : Choice) → m ≡ n → r ≡ c → Right way n c → Right way m r
right_by way m n r c e k x = rw (e, k) x

-- ---- types that go one way

one_test : (b : Bool) (x : Encoded) (p : ℕ) → cond b x (refused 7 p) ≡ after_selectors (cond b (Ok tt) (Err (Refusal'.OutsideList p))) x
one_test true x p = refl
one_test false x p = refl

module _ (f : Form) (vs : List Value) (leads : Bool) (place : ℕ) where
  abbrev formed : List ℕ → Encoded
  formed opens = encode_form f vs opens

  going_down : ((opens : List ℕ) → encode_values Down f vs opens ≡ cond leads (encode_form f vs opens) (refused 7 place)) → ((opens : List ℕ) → encode_values Up f vs opens ≡ refused 5 2) → (way : Way) → RightFor way f vs (down_only way leads place)
  going_down here there Down = λ opens. here opens ∙ one_test leads (formed opens) place
  going_down here there Up = there

  going_up : ((opens : List ℕ) → encode_values Down f vs opens ≡ refused 5 2) → ((opens : List ℕ) → encode_values Up f vs opens ≡ cond leads (encode_form f vs opens) (refused 7 place)) → (way : Way) → RightFor way f vs (up_only way leads place)
  going_up there here Down = there
  going_up there here Up = λ opens. here opens ∙ one_test leads (formed opens) place

-- types that are read only

module _ (f : Form) (vs : List Value) where
  refusing_down : ((opens : List ℕ) → encode_values Down f vs opens ≡ refused 23 0) → ((opens : List ℕ) → encode_values Up f vs opens ≡ refused 5 2) → (way : Way) → RightFor way f vs (down_read_only way)
  refusing_down here there Down = here
  refusing_down here there Up = there

  refusing_up : ((opens : List ℕ) → encode_values Down f vs opens ≡ refused 5 2) → ((opens : List ℕ) → encode_values Up f vs opens ≡ refused 23 0) → (way : Way) → RightFor way f vs (up_read_only way)
  refusing_up there here Down = there
  refusing_up there here Up = here

-- a selector that has one value in a form: with it the form is chosen, with any other it is refused
by_value : (F : ℕ → Encoded) (b v : ℕ) (x r : Encoded) → F v ≡ x → (eqb b v ≡ false → F b ≡ r) → F b ≡ cond (eqb b v) x r
by_value F b v x r at-it else-not =
    ⊎_elim (λ (same : eqb b v ≡ true). rw same (ap F (eqb-true b v same) ∙ at-it)) (λ (other : eqb b v ≡ false). rw other (else-not other)) (which (eqb b v))

-- whichever test, the same refusal
either_way : (b : Bool) (r : Encoded) → cond b r r ≡ r
either_way true r = refl
either_way false r = refl

-- ---- hub properties

-- the argument of a form of a property, by the form's number
abbrev argument_of : ℕ → ℕ → ℕ
argument_of p n = cond (eqb n 2 || eqb n 3) p 0

abbrev Of : ℕ → Form → Type 0
Of p f = argument f ≡ argument_of p (form_number f)

same_number : (p : ℕ) (g f : Form) → Of p g → Of p f → same_form g f ≡ eqb (form_number g) (form_number f)
same_number p g f a b =
    ⊎_elim
    (λ (yes : eqb (form_number g) (form_number f) ≡ true).
    let same : argument g ≡ argument f = a ∙ ap (argument_of p) (eqb-true (form_number g) (form_number f) yes) ∙ sym b in
    rw (yes, eq-eqb (argument g) (argument f) same))
    (λ (no : eqb (form_number g) (form_number f) ≡ false). rw no)
    (which (eqb (form_number g) (form_number f)))

of_payload : (p : ℕ) (a b c d e : Bool)
    → Of p (cond a (Form.property_text p) (cond b Form.property_version (cond c Form.property_rssi (cond d Form.property_protocol (cond e Form.property_address (Form.property_byte p))))))
of_payload p true b c d e = refl
of_payload p false true c d e = refl
of_payload p false false true d e = refl
of_payload p false false false true e = refl
of_payload p false false false false true = refl
of_payload p false false false false false = refl

of_property : (p o : ℕ) → Of p (property_form p o)
unfolding property_form payload
of_property p o = go (carries o)
  where
    go : (b : Bool) → Of p (cond b (payload p) Form.property_command)
    go true = of_payload p (one_of (1 ∷ 8 ∷ 9 ∷ []) p) (one_of (3 ∷ 4 ∷ []) p) (eqb p 5) (eqb p 10) (one_of (13 ∷ 14 ∷ []) p)
    go false = refl

tests : (a b s : Bool) (x : Encoded)
    → cond a (cond b (cond s x (refused 7 4)) (refused 7 4)) (refused 7 3)
    ≡ after_selectors (cond (eqb (cond a (cond b 0 4) 3) 0) (cond s (Ok tt) (Err (Refusal'.OutsideList 4))) (Err (Refusal'.OutsideList (cond a (cond b 0 4) 3)))) x
tests true true true x = refl
tests true true false x = refl
tests true false s x = refl
tests false b s x = refl

selectors : (way : Way) (f : Form) (p o : ℕ) (x : Encoded) → Of p f
    → cond (between 1 15 p) (cond (allowed way p o) (cond (same_form (property_form p o) f) x (refused 7 4)) (refused 7 4)) (refused 7 3)
    ≡ after_selectors (property_choice way p o (form_number f)) x
unfolding outside_selector
selectors way f p o x a =
    rw (same_number p (property_form p o) f (of_property p o) a) (tests (between 1 15 p) (allowed way p o) (eqb (form_number (property_form p o)) (form_number f)) x)

property_right : (f : Form) (vs : List Value) → code f ≡ 1 → Of (natural_at vs 0) f → (way : Way) → RightFor way f vs (property_choice way (natural_at vs 0) (natural_at vs 1) (form_number f))
unfolding encode_values types hub_properties property_form
property_right f vs one a Down = λ opens. rw (one, ap read_only one) (selectors Down f (natural_at vs 0) (natural_at vs 1) (encode_form f vs opens) a)
property_right f vs one a Up = λ opens. rw (one, ap read_only one) (selectors Up f (natural_at vs 0) (natural_at vs 1) (encode_form f vs opens) a)

-- ---- hub actions and alerts

action_right : (vs : List Value) (way : Way) → RightFor way Form.hub_action vs (action_choice way (natural_at vs 0))
unfolding encode_values types hub_actions
action_right vs Down = λ opens. one_test (down_action (natural_at vs 0)) (encode_form Form.hub_action vs opens) 3
action_right vs Up = λ opens. one_test (up_action (natural_at vs 0)) (encode_form Form.hub_action vs opens) 3

two_tests : (a b : Bool) (x : Encoded) → cond a (cond b x (refused 7 4)) (refused 7 3) ≡ after_selectors (cond a (cond b (Ok tt) (Err (Refusal'.OutsideList 4))) (Err (Refusal'.OutsideList 3))) x
two_tests true true x = refl
two_tests true false x = refl
two_tests false b x = refl

no_form : (a b : Bool) (x : Encoded) → cond a (cond b (refused 7 4) (refused 7 4)) (refused 7 3) ≡ after_selectors (cond a (Err (Refusal'.OutsideList 4)) (Err (Refusal'.OutsideList 3))) x
no_form true true x = refl
no_form true false x = refl
no_form false b x = refl

command_right : (vs : List Value) (way : Way) → RightFor way Form.alert_command vs (alert_choice (natural_at vs 0) (command_leads way (natural_at vs 1)))
unfolding encode_values types hub_alerts
command_right vs Down = λ opens. two_tests (between 1 4 (natural_at vs 0)) (between 1 3 (natural_at vs 1)) (encode_form Form.alert_command vs opens)
command_right vs Up = λ opens. no_form (between 1 4 (natural_at vs 0)) (one_of (4 ∷ []) (natural_at vs 1)) (encode_form Form.alert_command vs opens)

update_right : (vs : List Value) (way : Way) → RightFor way Form.alert_update vs (alert_choice (natural_at vs 0) (update_leads way (natural_at vs 1)))
unfolding encode_values types hub_alerts
update_right vs Down = λ opens. no_form (between 1 4 (natural_at vs 0)) (between 1 3 (natural_at vs 1)) (encode_form Form.alert_update vs opens)
update_right vs Up = λ opens. two_tests (between 1 4 (natural_at vs 0)) (one_of (4 ∷ []) (natural_at vs 1)) (encode_form Form.alert_update vs opens)

-- ---- attachments, what a port is, virtual ports

-- what a type with one selector gives, by its value: its list, and the form that it leads to
abbrev led : List ℕ → (ℕ → Form) → Form → Encoded → Encoded → ℕ → Encoded
led list next f x r v = cond (one_of list v) (cond (same_form (next v) f) x r) r

abbrev attachment : Bool → Bool → Form
attachment e0 e1 = cond e0 Form.detached (cond e1 Form.attached Form.attached_virtual)

not_detached : (e1 e2 : Bool) (x r : Encoded) → cond (false || (e1 || (e2 || false))) (cond (same_form (attachment false e1) Form.detached) x r) r ≡ r
not_detached true e2 x r = refl
not_detached false true x r = refl
not_detached false false x r = refl

not_attached : (e0 e2 : Bool) (x r : Encoded) → cond (e0 || (false || (e2 || false))) (cond (same_form (attachment e0 false) Form.attached) x r) r ≡ r
not_attached true e2 x r = refl
not_attached false true x r = refl
not_attached false false x r = refl

not_virtual_lem : (e0 e1 : Bool) (x r : Encoded) → cond (e0 || (e1 || (false || false))) (cond (same_form (attachment e0 e1) Form.attached_virtual) x r) r ≡ r
not_virtual_lem true e1 x r = refl
not_virtual_lem false true x r = refl
not_virtual_lem false false x r = refl

abbrev port_form : Bool → Form
port_form e1 = cond e1 Form.port_modes Form.port_combinations

not_modes : (e2 : Bool) (x r : Encoded) → cond (false || (e2 || false)) (cond (same_form (port_form false) Form.port_modes) x r) r ≡ r
not_modes true x r = refl
not_modes false x r = refl

not_combinations : (e1 : Bool) (x r : Encoded) → cond (e1 || (false || false)) (cond (same_form (port_form e1) Form.port_combinations) x r) r ≡ r
not_combinations true x r = refl
not_combinations false x r = refl

abbrev virtual_form : Bool → Form
virtual_form e0 = cond e0 Form.virtual_disconnect Form.virtual_connect

not_disconnect : (e1 : Bool) (x r : Encoded) → cond (false || (e1 || false)) (cond (same_form (virtual_form false) Form.virtual_disconnect) x r) r ≡ r
not_disconnect true x r = refl
not_disconnect false x r = refl

not_connect : (e0 : Bool) (x r : Encoded) → cond (e0 || (false || false)) (cond (same_form (virtual_form e0) Form.virtual_connect) x r) r ≡ r
not_connect true x r = refl
not_connect false x r = refl

module _ (b : ℕ) (x r : Encoded) where
  abbrev events : Form → ℕ → Encoded
  events f = led (0 ∷ 1 ∷ 2 ∷ []) (λ e. attachment (eqb e 0) (eqb e 1)) f x r

  detached_value : events Form.detached b ≡ cond (eqb b 0) x r
  detached_value = by_value (events Form.detached) b 0 x r refl (λ no. rw no (not_detached (eqb b 1) (eqb b 2) x r))

  attached_value : events Form.attached b ≡ cond (eqb b 1) x r
  attached_value = by_value (events Form.attached) b 1 x r refl (λ no. rw no (not_attached (eqb b 0) (eqb b 2) x r))

  virtual_value : events Form.attached_virtual b ≡ cond (eqb b 2) x r
  virtual_value = by_value (events Form.attached_virtual) b 2 x r refl (λ no. rw no (not_virtual_lem (eqb b 0) (eqb b 1) x r))

  abbrev informations : Form → ℕ → Encoded
  informations f = led (1 ∷ 2 ∷ []) (λ e. port_form (eqb e 1)) f x r

  modes_value : informations Form.port_modes b ≡ cond (eqb b 1) x r
  modes_value = by_value (informations Form.port_modes) b 1 x r refl (λ no. rw no (not_modes (eqb b 2) x r))

  combinations_value : informations Form.port_combinations b ≡ cond (eqb b 2) x r
  combinations_value = by_value (informations Form.port_combinations) b 2 x r refl (λ no. rw no (not_combinations (eqb b 1) x r))

  abbrev subs : Form → ℕ → Encoded
  subs f = led (0 ∷ 1 ∷ []) (λ e. virtual_form (eqb e 0)) f x r

  disconnect_value : subs Form.virtual_disconnect b ≡ cond (eqb b 0) x r
  disconnect_value = by_value (subs Form.virtual_disconnect) b 0 x r refl (λ no. rw no (not_disconnect (eqb b 1) x r))

  connect_value : subs Form.virtual_connect b ≡ cond (eqb b 1) x r
  connect_value = by_value (subs Form.virtual_connect) b 1 x r refl (λ no. rw no (not_connect (eqb b 0) x r))

-- ---- motor commands

abbrev command_form : Bool → Bool → Bool → Form
command_form e0_c e0_d e0_e = cond e0_c Form.start_speed_for_degrees (cond e0_d Form.goto_absolute_position (cond e0_e Form.goto_absolute_positions Form.preset_encoders))

not_degrees : (e0_d e0_e e14 : Bool) (x r : Encoded) → cond (false || (e0_d || (e0_e || (e14 || false)))) (cond (same_form (command_form false e0_d e0_e) Form.start_speed_for_degrees) x r) r ≡ r
not_degrees true e0_e e14 x r = refl
not_degrees false true e14 x r = refl
not_degrees false false true x r = refl
not_degrees false false false x r = refl

not_position : (e0_c e0_e e14 : Bool) (x r : Encoded) → cond (e0_c || (false || (e0_e || (e14 || false)))) (cond (same_form (command_form e0_c false e0_e) Form.goto_absolute_position) x r) r ≡ r
not_position true e0_e e14 x r = refl
not_position false true e14 x r = refl
not_position false false true x r = refl
not_position false false false x r = refl

not_positions : (e0_c e0_d e14 : Bool) (x r : Encoded) → cond (e0_c || (e0_d || (false || (e14 || false)))) (cond (same_form (command_form e0_c e0_d false) Form.goto_absolute_positions) x r) r ≡ r
not_positions true e0_d e14 x r = refl
not_positions false true e14 x r = refl
not_positions false false true x r = refl
not_positions false false false x r = refl

not_encoders : (e0_c e0_d e0_e : Bool) (x r : Encoded) → cond (e0_c || (e0_d || (e0_e || (false || false)))) (cond (same_form (command_form e0_c e0_d e0_e) Form.preset_encoders) x r) r ≡ r
not_encoders true e0_d e0_e x r = refl
not_encoders false true e0_e x r = refl
not_encoders false false true x r = refl
not_encoders false false false x r = refl

module _ (b : ℕ) (x r : Encoded) where
  abbrev commands : Form → ℕ → Encoded
  commands f = led (0x0C ∷ 0x0D ∷ 0x0E ∷ 0x14 ∷ []) (λ e. command_form (eqb e 0x0C) (eqb e 0x0D) (eqb e 0x0E)) f x r

  degrees_value : commands Form.start_speed_for_degrees b ≡ cond (eqb b 0x0C) x r
  degrees_value = by_value (commands Form.start_speed_for_degrees) b 0x0C x r refl (λ no. rw no (not_degrees (eqb b 0x0D) (eqb b 0x0E) (eqb b 0x14) x r))

  position_value : commands Form.goto_absolute_position b ≡ cond (eqb b 0x0D) x r
  position_value = by_value (commands Form.goto_absolute_position) b 0x0D x r refl (λ no. rw no (not_position (eqb b 0x0C) (eqb b 0x0E) (eqb b 0x14) x r))

  positions_value : commands Form.goto_absolute_positions b ≡ cond (eqb b 0x0E) x r
  positions_value = by_value (commands Form.goto_absolute_positions) b 0x0E x r refl (λ no. rw no (not_positions (eqb b 0x0C) (eqb b 0x0D) (eqb b 0x14) x r))

  encoders_value : commands Form.preset_encoders b ≡ cond (eqb b 0x14) x r
  encoders_value = by_value (commands Form.preset_encoders) b 0x14 x r refl (λ no. rw no (not_encoders (eqb b 0x0C) (eqb b 0x0D) (eqb b 0x0E) x r))

-- ---- combined mode

module _ (x r : Encoded) where
  abbrev combined : Form → ℕ → Encoded
  combined f v = cond (either (between 1 4) (one_of (6 ∷ [])) v) (cond (same_form (cond (eqb v 1) Form.mode_datasets Form.combined_setup) f) x r) r

  setup_value : (v : ℕ) → combined Form.combined_setup v ≡ cond (setup v) x r
  setup_value zero = refl
  setup_value (suc zero) = refl
  setup_value (suc (suc n)) = rw (le-leb 1 (suc (suc n)) (omega arith), le-leb 2 (suc (suc n)) (omega arith), ne_eqb (suc (suc n)) 1 (λ e. omega arith))

  datasets_value : (v : ℕ) → combined Form.mode_datasets v ≡ cond (eqb v 1) x r
  datasets_value v = by_value (combined Form.mode_datasets) v 1 x r refl (λ no. rw no (either_way (either (between 1 4) (one_of (6 ∷ [])) v) r))

-- ---- what a mode is

abbrev information : List ℕ
information = 0 ∷ 1 ∷ 2 ∷ 3 ∷ 4 ∷ 5 ∷ 7 ∷ 8 ∷ 0x80 ∷ []

text_listed : (i : ℕ) → one_of (0 ∷ 4 ∷ []) i ≡ true → one_of information i ≡ true
text_listed i e =
    ⊎_elim (λ (yes : eqb i 0 ≡ true). ap (one_of information) (eqb-true i 0 yes))
    (λ (no : eqb i 0 ≡ false).
    ⊎_elim (λ (yes : eqb i 4 ≡ true). ap (one_of information) (eqb-true i 4 yes))
    (λ (nor : eqb i 4 ≡ false). let z : false ≡ true = rw (no, nor) at e in let k : ◌≡◌ {A = ℕ} 0 1 = cc in absurd (omega arith))
    (which (eqb i 4)))
    (which (eqb i 0))

-- the forms of the other information types
abbrev others : ℕ → Form
others i = cond (eqb i 5) Form.mode_mapping (cond (eqb i 7) Form.mode_bias (cond (eqb i 8) Form.mode_capabilities Form.value_format))

other_number : (a b c : Bool) → (eqb (form_number (cond a Form.mode_mapping (cond b Form.mode_bias (cond c Form.mode_capabilities Form.value_format)))) 24 ≡ false)
    × (eqb (form_number (cond a Form.mode_mapping (cond b Form.mode_bias (cond c Form.mode_capabilities Form.value_format)))) 25 ≡ false)
other_number true b c = (refl, refl)
other_number false true c = (refl, refl)
other_number false false true = (refl, refl)
other_number false false false = (refl, refl)

range_number : (r : Bool) (g : Form) → eqb (form_number g) 24 ≡ false → eqb (form_number (cond r Form.mode_range g)) 24 ≡ false
range_number true g e = refl
range_number false g e = e

refused_both : (b : Bool) → cond b (refused 7 5) (refused 7 5) ≡ refused 7 5
refused_both true = refl
refused_both false = refl

text_chosen : (t o : Bool) (g : Form) (i : ℕ) (x : Encoded) → (t ≡ true → o ≡ true) → eqb (form_number g) 24 ≡ false
    → cond o (cond (same_form (cond t (Form.mode_text i) g) (Form.mode_text i)) x (refused 7 5)) (refused 7 5) ≡ cond t x (refused 7 5)
text_chosen true o g i x h n = rw (h refl, eq-eqb i i refl)
text_chosen false o g i x h n = rw n (refused_both o)

range_listed : (i : ℕ) → one_of (1 ∷ 2 ∷ 3 ∷ []) i ≡ true → (one_of information i ≡ true) × (one_of (0 ∷ 4 ∷ []) i ≡ false)
range_listed i e =
    ⊎_elim (λ (yes : eqb i 1 ≡ true). (ap (one_of information) (eqb-true i 1 yes), ap (one_of (0 ∷ 4 ∷ [])) (eqb-true i 1 yes)))
    (λ (no : eqb i 1 ≡ false).
    ⊎_elim (λ (yes : eqb i 2 ≡ true). (ap (one_of information) (eqb-true i 2 yes), ap (one_of (0 ∷ 4 ∷ [])) (eqb-true i 2 yes)))
    (λ (nor : eqb i 2 ≡ false).
    ⊎_elim (λ (yes : eqb i 3 ≡ true). (ap (one_of information) (eqb-true i 3 yes), ap (one_of (0 ∷ 4 ∷ [])) (eqb-true i 3 yes)))
    (λ (none : eqb i 3 ≡ false). let z : false ≡ true = rw (no, nor, none) at e in let k : ◌≡◌ {A = ℕ} 0 1 = cc in absurd (omega arith))
    (which (eqb i 3)))
    (which (eqb i 2)))
    (which (eqb i 1))

range_chosen : (r t o : Bool) (g : Form) (i : ℕ) (x : Encoded) → (r ≡ true → (o ≡ true) × (t ≡ false)) → eqb (form_number g) 25 ≡ false
    → cond o (cond (same_form (cond t (Form.mode_text i) (cond r Form.mode_range g)) Form.mode_range) x (refused 7 5)) (refused 7 5) ≡ cond r x (refused 7 5)
range_chosen true t o g i x h n = rw ((h refl).0, (h refl).1)
range_chosen false true o g i x h n = refused_both o
range_chosen false false o g i x h n = rw n (refused_both o)

-- the form that an information type leads to
abbrev mode_form : ℕ → Form
mode_form i = cond (one_of (0 ∷ 4 ∷ []) i) (Form.mode_text i) (cond (one_of (1 ∷ 2 ∷ 3 ∷ []) i) Form.mode_range (others i))

abbrev modes : Form → Encoded → ℕ → Encoded
modes f x = led information mode_form f x (refused 7 5)

text_value : (i j : ℕ) (x : Encoded) → j ≡ i → modes (Form.mode_text j) x i ≡ cond (one_of (0 ∷ 4 ∷ []) i) x (refused 7 5)
text_value i j x e =
    rw e
    (text_chosen (one_of (0 ∷ 4 ∷ []) i) (one_of information i) (cond (one_of (1 ∷ 2 ∷ 3 ∷ []) i) Form.mode_range (others i)) i x (text_listed i)
    (range_number (one_of (1 ∷ 2 ∷ 3 ∷ []) i) (others i) (other_number (eqb i 5) (eqb i 7) (eqb i 8)).0))

range_value : (i : ℕ) (x : Encoded) → modes Form.mode_range x i ≡ cond (one_of (1 ∷ 2 ∷ 3 ∷ []) i) x (refused 7 5)
range_value i x =
    range_chosen (one_of (1 ∷ 2 ∷ 3 ∷ []) i) (one_of (0 ∷ 4 ∷ []) i) (one_of information i) (others i) i x (range_listed i) (other_number (eqb i 5) (eqb i 7) (eqb i 8)).1

-- the forms of a mode, by the tests of their information type
abbrev tested : ℕ → Bool → Bool → Bool → Bool → Bool → Form
tested i t r e5 e7 e8 = cond t (Form.mode_text i) (cond r Form.mode_range (cond e5 Form.mode_mapping (cond e7 Form.mode_bias (cond e8 Form.mode_capabilities Form.value_format))))

module _ (i : ℕ) (x : Encoded) where
  not_mapping : (o t r e7 e8 : Bool) → cond o (cond (same_form (tested i t r false e7 e8) Form.mode_mapping) x (refused 7 5)) (refused 7 5) ≡ refused 7 5
  not_mapping o true r e7 e8 = either_way o (refused 7 5)
  not_mapping o false true e7 e8 = either_way o (refused 7 5)
  not_mapping o false false true e8 = either_way o (refused 7 5)
  not_mapping o false false false true = either_way o (refused 7 5)
  not_mapping o false false false false = either_way o (refused 7 5)

  not_bias : (o t r e5 e8 : Bool) → cond o (cond (same_form (tested i t r e5 false e8) Form.mode_bias) x (refused 7 5)) (refused 7 5) ≡ refused 7 5
  not_bias o true r e5 e8 = either_way o (refused 7 5)
  not_bias o false true e5 e8 = either_way o (refused 7 5)
  not_bias o false false true e8 = either_way o (refused 7 5)
  not_bias o false false false true = either_way o (refused 7 5)
  not_bias o false false false false = either_way o (refused 7 5)

  not_capabilities : (o t r e5 e7 : Bool) → cond o (cond (same_form (tested i t r e5 e7 false) Form.mode_capabilities) x (refused 7 5)) (refused 7 5) ≡ refused 7 5
  not_capabilities o true r e5 e7 = either_way o (refused 7 5)
  not_capabilities o false true e5 e7 = either_way o (refused 7 5)
  not_capabilities o false false true e7 = either_way o (refused 7 5)
  not_capabilities o false false false true = either_way o (refused 7 5)
  not_capabilities o false false false false = either_way o (refused 7 5)

  -- where no other test passes either, the information type is not in the list
  not_format : (e0 e1 e2 e3 e4 e5 e7 e8 : Bool)
      → cond (e0 || (e1 || (e2 || (e3 || (e4 || (e5 || (e7 || (e8 || (false || false)))))))))
      (cond (same_form (tested i (e0 || (e4 || false)) (e1 || (e2 || (e3 || false))) e5 e7 e8) Form.value_format) x (refused 7 5))
      (refused 7 5)
      ≡ refused 7 5
  not_format true e1 e2 e3 e4 e5 e7 e8 = refl
  not_format false true e2 e3 true e5 e7 e8 = refl
  not_format false true e2 e3 false e5 e7 e8 = refl
  not_format false false true e3 true e5 e7 e8 = refl
  not_format false false true e3 false e5 e7 e8 = refl
  not_format false false false true true e5 e7 e8 = refl
  not_format false false false true false e5 e7 e8 = refl
  not_format false false false false true e5 e7 e8 = refl
  not_format false false false false false true e7 e8 = refl
  not_format false false false false false false true e8 = refl
  not_format false false false false false false false true = refl
  not_format false false false false false false false false = refl

  mapping_value : modes Form.mode_mapping x i ≡ cond (eqb i 5) x (refused 7 5)
  mapping_value =
      by_value (modes Form.mode_mapping x) i 5 x (refused 7 5) refl
      (λ no.
      ap (λ (e : Bool). cond (one_of information i) (cond (same_form (tested i (one_of (0 ∷ 4 ∷ []) i) (one_of (1 ∷ 2 ∷ 3 ∷ []) i) e (eqb i 7) (eqb i 8)) Form.mode_mapping) x (refused 7 5)) (refused 7 5)) no
      ∙ not_mapping (one_of information i) (one_of (0 ∷ 4 ∷ []) i) (one_of (1 ∷ 2 ∷ 3 ∷ []) i) (eqb i 7) (eqb i 8))

  bias_value : modes Form.mode_bias x i ≡ cond (eqb i 7) x (refused 7 5)
  bias_value =
      by_value (modes Form.mode_bias x) i 7 x (refused 7 5) refl
      (λ no.
      ap (λ (e : Bool). cond (one_of information i) (cond (same_form (tested i (one_of (0 ∷ 4 ∷ []) i) (one_of (1 ∷ 2 ∷ 3 ∷ []) i) (eqb i 5) e (eqb i 8)) Form.mode_bias) x (refused 7 5)) (refused 7 5)) no
      ∙ not_bias (one_of information i) (one_of (0 ∷ 4 ∷ []) i) (one_of (1 ∷ 2 ∷ 3 ∷ []) i) (eqb i 5) (eqb i 8))

  capabilities_value : modes Form.mode_capabilities x i ≡ cond (eqb i 8) x (refused 7 5)
  capabilities_value =
      by_value (modes Form.mode_capabilities x) i 8 x (refused 7 5) refl
      (λ no.
      ap (λ (e : Bool). cond (one_of information i) (cond (same_form (tested i (one_of (0 ∷ 4 ∷ []) i) (one_of (1 ∷ 2 ∷ 3 ∷ []) i) (eqb i 5) (eqb i 7) e) Form.mode_capabilities) x (refused 7 5)) (refused 7 5)) no
      ∙ not_capabilities (one_of information i) (one_of (0 ∷ 4 ∷ []) i) (one_of (1 ∷ 2 ∷ 3 ∷ []) i) (eqb i 5) (eqb i 7))

  format_value : modes Form.value_format x i ≡ cond (eqb i 0x80) x (refused 7 5)
  format_value =
      by_value (modes Form.value_format x) i 0x80 x (refused 7 5) refl
      (λ no. rw no (not_format (eqb i 0) (eqb i 1) (eqb i 2) (eqb i 3) (eqb i 4) (eqb i 5) (eqb i 7) (eqb i 8)))

-- ---- of every form

-- a form's argument is that selector which its values have
abbrev pub Argued : Form → List Value → Type 0
Argued f vs = argument f ≡ argument (form_of (message_of f vs))

pub selects : (f : Form) (vs : List Value) → Argued f vs → (way : Way) → RightFor way f vs (choice_of f way (natural_at vs 0) (natural_at vs 1) (natural_at vs 2))
unfolding encode_values types hub_attached_io port_information port_mode_information combined_format_setup virtual_port_setup port_output_command
selects Form.property_command vs a = property_right Form.property_command vs refl refl
selects (Form.property_text p) vs a = property_right (Form.property_text p) vs refl a
selects (Form.property_byte p) vs a = property_right (Form.property_byte p) vs refl a
selects Form.property_rssi vs a = property_right Form.property_rssi vs refl refl
selects Form.property_version vs a = property_right Form.property_version vs refl refl
selects Form.property_protocol vs a = property_right Form.property_protocol vs refl refl
selects Form.property_address vs a = property_right Form.property_address vs refl refl
selects Form.hub_action vs a = action_right vs
selects Form.alert_command vs a = command_right vs
selects Form.alert_update vs a = update_right vs
selects Form.detached vs a = going_up Form.detached vs (eqb (natural_at vs 1) 0) 4 (λ opens. refl) (λ opens. detached_value (natural_at vs 1) (encode_form Form.detached vs opens) (refused 7 4))
selects Form.attached vs a = going_up Form.attached vs (eqb (natural_at vs 1) 1) 4 (λ opens. refl) (λ opens. attached_value (natural_at vs 1) (encode_form Form.attached vs opens) (refused 7 4))
selects Form.attached_virtual vs a = going_up Form.attached_virtual vs (eqb (natural_at vs 1) 2) 4 (λ opens. refl) (λ opens. virtual_value (natural_at vs 1) (encode_form Form.attached_virtual vs opens) (refused 7 4))
selects Form.generic_error vs a = going_up Form.generic_error vs true 0 (λ opens. refl) (λ opens. refl)
selects Form.go_into_boot_mode vs a = going_down Form.go_into_boot_mode vs true 0 (λ opens. refl) (λ opens. refl)
selects Form.lock_memory vs a = refusing_down Form.lock_memory vs (λ opens. refl) (λ opens. refl)
selects Form.lock_status_request vs a = refusing_down Form.lock_status_request vs (λ opens. refl) (λ opens. refl)
selects Form.lock_status vs a = refusing_up Form.lock_status vs (λ opens. refl) (λ opens. refl)
selects Form.port_information_request vs a = going_down Form.port_information_request vs true 0 (λ opens. refl) (λ opens. refl)
selects Form.mode_information_request vs a = going_down Form.mode_information_request vs true 0 (λ opens. refl) (λ opens. refl)
selects Form.input_format_setup vs a = going_down Form.input_format_setup vs true 0 (λ opens. refl) (λ opens. refl)
selects Form.port_modes vs a = going_up Form.port_modes vs (eqb (natural_at vs 1) 1) 4 (λ opens. refl) (λ opens. modes_value (natural_at vs 1) (encode_form Form.port_modes vs opens) (refused 7 4))
selects Form.port_combinations vs a = going_up Form.port_combinations vs (eqb (natural_at vs 1) 2) 4 (λ opens. refl) (λ opens. combinations_value (natural_at vs 1) (encode_form Form.port_combinations vs opens) (refused 7 4))
selects (Form.mode_text i) vs a = going_up (Form.mode_text i) vs (one_of (0 ∷ 4 ∷ []) (natural_at vs 2)) 5 (λ opens. refl) (λ opens. text_value (natural_at vs 2) i (encode_form (Form.mode_text i) vs opens) a)
selects Form.mode_range vs a = going_up Form.mode_range vs (one_of (1 ∷ 2 ∷ 3 ∷ []) (natural_at vs 2)) 5 (λ opens. refl) (λ opens. range_value (natural_at vs 2) (encode_form Form.mode_range vs opens))
selects Form.mode_mapping vs a = going_up Form.mode_mapping vs (eqb (natural_at vs 2) 5) 5 (λ opens. refl) (λ opens. mapping_value (natural_at vs 2) (encode_form Form.mode_mapping vs opens))
selects Form.mode_bias vs a = going_up Form.mode_bias vs (eqb (natural_at vs 2) 7) 5 (λ opens. refl) (λ opens. bias_value (natural_at vs 2) (encode_form Form.mode_bias vs opens))
selects Form.mode_capabilities vs a = going_up Form.mode_capabilities vs (eqb (natural_at vs 2) 8) 5 (λ opens. refl) (λ opens. capabilities_value (natural_at vs 2) (encode_form Form.mode_capabilities vs opens))
selects Form.value_format vs a = going_up Form.value_format vs (eqb (natural_at vs 2) 0x80) 5 (λ opens. refl) (λ opens. format_value (natural_at vs 2) (encode_form Form.value_format vs opens))
selects Form.port_value vs a = going_up Form.port_value vs true 0 (λ opens. refl) (λ opens. refl)
selects Form.input_format vs a = going_up Form.input_format vs true 0 (λ opens. refl) (λ opens. refl)
selects Form.virtual_disconnect vs a = going_down Form.virtual_disconnect vs (eqb (natural_at vs 0) 0) 3 (λ opens. disconnect_value (natural_at vs 0) (encode_form Form.virtual_disconnect vs opens) (refused 7 3)) (λ opens. refl)
selects Form.virtual_connect vs a = going_down Form.virtual_connect vs (eqb (natural_at vs 0) 1) 3 (λ opens. connect_value (natural_at vs 0) (encode_form Form.virtual_connect vs opens) (refused 7 3)) (λ opens. refl)
selects Form.start_speed_for_degrees vs a = going_down Form.start_speed_for_degrees vs (eqb (natural_at vs 2) 0x0C) 5 (λ opens. degrees_value (natural_at vs 2) (encode_form Form.start_speed_for_degrees vs opens) (refused 7 5)) (λ opens. refl)
selects Form.goto_absolute_position vs a = going_down Form.goto_absolute_position vs (eqb (natural_at vs 2) 0x0D) 5 (λ opens. position_value (natural_at vs 2) (encode_form Form.goto_absolute_position vs opens) (refused 7 5)) (λ opens. refl)
selects Form.goto_absolute_positions vs a = going_down Form.goto_absolute_positions vs (eqb (natural_at vs 2) 0x0E) 5 (λ opens. positions_value (natural_at vs 2) (encode_form Form.goto_absolute_positions vs opens) (refused 7 5)) (λ opens. refl)
selects Form.preset_encoders vs a = going_down Form.preset_encoders vs (eqb (natural_at vs 2) 0x14) 5 (λ opens. encoders_value (natural_at vs 2) (encode_form Form.preset_encoders vs opens) (refused 7 5)) (λ opens. refl)
selects Form.output_feedback vs a = going_up Form.output_feedback vs true 0 (λ opens. refl) (λ opens. refl)
selects Form.combined_setup vs a = going_down Form.combined_setup vs (setup (natural_at vs 1)) 4 (λ opens. setup_value (encode_form Form.combined_setup vs opens) (refused 7 4) (natural_at vs 1)) (λ opens. refl)
selects Form.mode_datasets vs a = going_down Form.mode_datasets vs (eqb (natural_at vs 1) 1) 4 (λ opens. datasets_value (encode_form Form.mode_datasets vs opens) (refused 7 4) (natural_at vs 1)) (λ opens. refl)
selects Form.port_value_combined vs a = going_up Form.port_value_combined vs true 0 (λ opens. refl) (λ opens. refl)
selects Form.input_format_combined vs a = going_up Form.input_format_combined vs true 0 (λ opens. refl) (λ opens. refl)

-- and of every message
pub message_right : (m : Message) (way : Way) → Right way m (choice_of (form_of m) way (natural_at (values_of m) 0) (natural_at (values_of m) 1) (natural_at (values_of m) 2))
unfolding encode
message_right m way = selects (form_of m) (values_of m) (ap (λ (n : Message). argument (form_of n)) (sym (message_back m))) way

-- ---- a choice that is known

pub by_choice : (way : Way) (m : Message) (opens : List ℕ) (r c : Choice) → Right way m r → r ≡ c → encode way m opens ≡ after_selectors c (own m opens)
by_choice way m opens r c x e = x opens ∙ ap (λ (k : Choice). after_selectors k (own m opens)) e

pub chosen : (way : Way) (m : Message) (opens : List ℕ) (r : Choice) → Right way m r → r ≡ Ok tt → encode way m opens ≡ own m opens
chosen way m opens r x e = by_choice way m opens r (Ok tt) x e

-- ---- by the number of a form

-- of a form that goes up and has no selector
pub up_alone : (n : ℕ) (way : Way) (a b c : ℕ) → one_of (14 ∷ 30 ∷ 31 ∷ 38 ∷ 41 ∷ 42 ∷ []) n ≡ true → up_only way true 0 ≡ choice_of (form_at n) way a b c
unfolding form_at
up_alone n way a b c h = grind (arith, nat_tests)

-- of one that goes down and has none, or of a number that is no form's
pub down_alone : (n : ℕ) (way : Way) (a b c : ℕ) → (one_of (0 ∷ 15 ∷ 19 ∷ 20 ∷ 21 ∷ []) n || leb 43 n) ≡ true → down_only way true 0 ≡ choice_of (form_at n) way a b c
unfolding form_at
down_alone n way a b c h =
    ⊎_elim
    (λ (past : leb 43 n ≡ true). ap (λ (f : Form). choice_of f way a b c) (sym (get_or-eq_default (forms_by 0) Form.go_into_boot_mode {n = n} (grind (arith, nat_tests)))))
    (λ (here : leb 43 n ≡ false). grind (arith, nat_tests))
    (which (leb 43 n))
