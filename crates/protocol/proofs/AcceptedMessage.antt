-- Every accepted answer is a message's: of each form, values of its kinds to which its selectors lead are those of a message.
use Prim.Native.Nat.{ℕ, ◌+◌, ◌<◌}
use mathlib.Core.Path.{◌≡◌, refl, sym, ◌∙◌, ap}
use mathlib.Core.Bool.{Bool, true, false, cond, ◌||◌, or-false}
use mathlib.Core.List.{List, [], ◌∷◌}
use borrow.Author.Tests.{eqb-true}
use lib.Dec.{eqb}
use lib.ListN.{get_or}
use Rattle.protocol.specs.Rule.{one_of}
use Rattle.protocol.specs.Properties.{carries}
use Rattle.protocol.specs.Field.{Value}
use Rattle.protocol.specs.Form.{Form, layout}
use Rattle.protocol.specs.Types.{Selection, always, select, MessageType, selectors, payload, types, hub_properties, hub_actions, hub_alerts, hub_attached_io, combined_format_setup, port_information, port_mode_information, virtual_port_setup, port_output_command}
use Rattle.protocol.specs.Decode.{accepted, header, decode_form, decode_selection}
use Rattle.protocol.specs.Answer.{natural_at, answer_of, message_of}
use Rattle.protocol.specs.RoundTrip.{AcceptedIsMessage}
use Rattle.std.specs.Prelude.{Ok}
use Rattle.protocol.specs.declared.Way.{Way}
use Rattle.protocol.specs.declared.Way.TheVariants.{Down, Up}
use Rattle.protocol.proofs.FieldTrip.{never}
use Rattle.protocol.proofs.ValueKinds.{EachOf, each_accepted}
use Rattle.protocol.proofs.SelectionTrip.{Leads, Every, found, leads}
use Rattle.protocol.proofs.RoundTrip.{not_else, headed, type_found, form_is, selectors_read, chosen}

-- something holds of all values with which the selectors lead to a form, each in its list
abbrev Leading : Selection → (Form → List Value → Type 0) → Type 0
Leading (always f) P = EachOf (layout f) (P f)
Leading (select offset rule next) P = (v : ℕ) → rule v ≡ true → Leading (next v) (λ f vs. natural_at vs offset ≡ v → P f vs)

-- and so of those that were accepted
leading_accepted : (k : ℕ) (sel : Selection) (P : Form → List Value → Type 0) → Leading sel P → (c : ℕ) → Leads c k sel
    → (s : List ℕ) (f : Form) (vs : List Value) → ((i : ℕ) → i < k → natural_at vs i ≡ get_or s (header + i) 0) → decode_selection sel s ≡ accepted f vs → P f vs
leading_accepted k (always g) P all c lead s f vs at e =
    let same : g ≡ f = form_is g s f vs e in
    let form : decode_form f s ≡ accepted f vs = ap (λ (x : Form). decode_form x s) (sym same) ∙ e in
    each_accepted f (P f) (rw same at all) s vs form
leading_accepted k (select offset rule next) P all c lead s f vs at e =
    let v : ℕ = get_or s (header + offset) 0 in
    let n = not_else (rule v) 7 (header + offset) (decode_selection (next v) s) f vs e in
    leading_accepted k (next v) (λ g us. natural_at us offset ≡ v → P g us) (all v n.0) c (lead.1 v) s f vs at n.1 (at offset lead.0)

-- a choice of forms by a test
by_test : (b : Bool) (f g : Form) (P : Form → List Value → Type 0) → (b ≡ true → EachOf (layout f) (P f)) → (b ≡ false → EachOf (layout g) (P g)) → EachOf (layout (cond b f g)) (P (cond b f g))
by_test true f g P passed failed = passed refl
by_test false f g P passed failed = failed refl

-- ---- of every type

abbrev IsMessage : Form → List Value → Type 0
IsMessage f vs = answer_of (Ok (message_of f vs)) ≡ accepted f vs

-- all values with which a type's selectors lead to a form are a message's
abbrev AreMessages : ℕ → MessageType → Type 0
AreMessages c t = Leading t IsMessage

-- where the two selectors are these
abbrev WithSelectors : ℕ → ℕ → Form → List Value → Type 0
WithSelectors property operation f vs = natural_at vs 1 ≡ operation → natural_at vs 0 ≡ property → IsMessage f vs

payload_messages : (property operation : ℕ) → EachOf (layout (payload property)) (WithSelectors property operation (payload property))
unfolding payload layout
payload_messages property operation =
    let P : Form → List Value → Type 0 = WithSelectors property operation in
    let f1 : Form = cond (one_of (13 ∷ 14 ∷ []) property) Form.property_address (Form.property_byte property) in
    let f2 : Form = cond (eqb property 10) Form.property_protocol f1 in
    let f3 : Form = cond (eqb property 5) Form.property_rssi f2 in
    let f4 : Form = cond (one_of (3 ∷ 4 ∷ []) property) Form.property_version f3 in
    by_test (one_of (1 ∷ 8 ∷ 9 ∷ []) property) (Form.property_text property) f4 P (λ yes p o so is. rw is) λ no1.
    by_test (one_of (3 ∷ 4 ∷ []) property) Form.property_version f3 P (λ yes p o v so is. refl) λ no2.
    by_test (eqb property 5) Form.property_rssi f2 P (λ yes p o v so is. rw (is ∙ eqb-true property 5 yes) refl) λ no3.
    by_test (eqb property 10) Form.property_protocol f1 P (λ yes p o v so is. rw (is ∙ eqb-true property 10 yes) refl) λ no4.
    by_test (one_of (13 ∷ 14 ∷ []) property) Form.property_address (Form.property_byte property) P (λ yes p o v so is. refl) (λ no p o v so is. rw is)

properties_messages : (way : Way) → AreMessages 1 (hub_properties way)
unfolding hub_properties layout
properties_messages way property listed operation allowed =
    by_test (carries operation) (payload property) Form.property_command (WithSelectors property operation) (λ yes. payload_messages property operation) (λ no p o so is. refl)

actions_messages : (way : Way) → AreMessages 2 (hub_actions way)
unfolding hub_actions layout
actions_messages Down = λ action listed a is. refl
actions_messages Up = λ action listed a is. refl

-- neither test passed
neither : (a b : Bool) → (a || b) ≡ false → (a ≡ false) × (b ≡ false)
neither true b e = never (sym e)
neither false b e = (refl, e)

-- a list of one
only_one : (v n : ℕ) → one_of (v ∷ []) n ≡ true → n ≡ v
only_one v n e = eqb-true n v (rw or-false at e)

alerts_messages : (way : Way) → AreMessages 3 (hub_alerts way)
unfolding hub_alerts layout
alerts_messages Down = λ alert listed operation permitted a o so is. refl
alerts_messages Up = λ alert listed operation permitted a o v so is. rw (so ∙ only_one 4 operation permitted) refl

attached_messages : AreMessages 4 hub_attached_io
unfolding hub_attached_io layout
attached_messages event listed =
    let P : Form → List Value → Type 0 = λ f vs. natural_at vs 1 ≡ event → IsMessage f vs in
    by_test (eqb event 0) Form.detached (cond (eqb event 1) Form.attached Form.attached_virtual) P (λ yes p e is. rw (is ∙ eqb-true event 0 yes) refl) λ no1.
    by_test (eqb event 1) Form.attached Form.attached_virtual P (λ yes p e d h s is. rw (is ∙ eqb-true event 1 yes) refl) λ no2 p e d a b is.
    rw (is ∙ only_one 2 event (rw (no1, no2) at listed)) refl

combined_messages : AreMessages 0x42 combined_format_setup
unfolding combined_format_setup layout
combined_messages sub listed =
    let P : Form → List Value → Type 0 = λ f vs. natural_at vs 1 ≡ sub → IsMessage f vs in
    by_test (eqb sub 1) Form.mode_datasets Form.combined_setup P (λ yes p s x is. rw (is ∙ eqb-true sub 1 yes) refl) (λ no p s is. refl)

information_messages : AreMessages 0x43 port_information
unfolding port_information layout
information_messages information listed =
    let P : Form → List Value → Type 0 = λ f vs. natural_at vs 1 ≡ information → IsMessage f vs in
    by_test (eqb information 1) Form.port_modes Form.port_combinations P (λ yes p t c n i o is. rw (is ∙ eqb-true information 1 yes) refl)
    λ no p t count e0 e1 e2 e3 e4 e5 e6 e7 is. rw (is ∙ only_one 2 information (rw no at listed)) refl

-- the last of six tests passed, as none of those before it did
none_before : (a b c d e last : Bool) → (a || (e || false)) ≡ false → (b || (c || (d || false))) ≡ false → (a || (b || (c || (d || (e || last))))) ≡ true → last ≡ true
none_before true b c d e last p q k = never (sym p)
none_before false b c d e last p q k =
    let n1 = neither b (c || (d || false)) q in
    let n2 = neither c (d || false) n1.1 in
    let n3 = neither d false n2.1 in
    let n4 = neither e false p in
    rw (n1.0, n2.0, n3.0, n4.0) at k

mode_messages : AreMessages 0x44 port_mode_information
unfolding port_mode_information layout
mode_messages information listed =
    let P : Form → List Value → Type 0 = λ f vs. natural_at vs 2 ≡ information → IsMessage f vs in
    let f1 : Form = cond (eqb information 8) Form.mode_capabilities Form.value_format in
    let f2 : Form = cond (eqb information 7) Form.mode_bias f1 in
    let f3 : Form = cond (eqb information 5) Form.mode_mapping f2 in
    let f4 : Form = cond (one_of (1 ∷ 2 ∷ 3 ∷ []) information) Form.mode_range f3 in
    by_test (one_of (0 ∷ 4 ∷ []) information) (Form.mode_text information) f4 P (λ yes p m i is. rw is) λ no1.
    by_test (one_of (1 ∷ 2 ∷ 3 ∷ []) information) Form.mode_range f3 P (λ yes p m i l h is. refl) λ no2.
    by_test (eqb information 5) Form.mode_mapping f2 P (λ yes p m i v is. rw (is ∙ eqb-true information 5 yes) refl) λ no3.
    by_test (eqb information 7) Form.mode_bias f1 P (λ yes p m i v is. rw (is ∙ eqb-true information 7 yes) refl) λ no4.
    by_test (eqb information 8) Form.mode_capabilities Form.value_format P (λ yes p m i v is. rw (is ∙ eqb-true information 8 yes) refl) λ no5 p m i n k f d is.
    rw (is ∙ only_one 0x80 information (none_before (eqb information 0) (eqb information 1) (eqb information 2) (eqb information 3) (eqb information 4) (one_of (0x80 ∷ []) information) no1 no2 (rw (no3, no4, no5) at listed))) refl

virtual_messages : AreMessages 0x61 virtual_port_setup
unfolding virtual_port_setup layout
virtual_messages sub listed =
    let P : Form → List Value → Type 0 = λ f vs. natural_at vs 0 ≡ sub → IsMessage f vs in
    by_test (eqb sub 0) Form.virtual_disconnect Form.virtual_connect P (λ yes s p is. rw (is ∙ eqb-true sub 0 yes) refl) λ no s a b is.
    rw (is ∙ only_one 1 sub (rw no at listed)) refl

output_messages : AreMessages 0x81 port_output_command
unfolding port_output_command layout
output_messages sub listed =
    let P : Form → List Value → Type 0 = λ f vs. natural_at vs 2 ≡ sub → IsMessage f vs in
    let f1 : Form = cond (eqb sub 0x0E) Form.goto_absolute_positions Form.preset_encoders in
    let f2 : Form = cond (eqb sub 0x0D) Form.goto_absolute_position f1 in
    by_test (eqb sub 0x0C) Form.start_speed_for_degrees f2 P (λ yes p s c d l r w e u is. rw (is ∙ eqb-true sub 0x0C yes) refl) λ no1.
    by_test (eqb sub 0x0D) Form.goto_absolute_position f1 P (λ yes p s c a v w e u is. rw (is ∙ eqb-true sub 0x0D yes) refl) λ no2.
    by_test (eqb sub 0x0E) Form.goto_absolute_positions Form.preset_encoders P (λ yes p s c a b v w e u is. rw (is ∙ eqb-true sub 0x0E yes) refl) λ no3 p s c l r is.
    rw (is ∙ only_one 0x14 sub (rw (no1, no2, no3) at listed)) refl

all_messages : (way : Way) → Every AreMessages (types way)
unfolding types layout
all_messages Down =
    (properties_messages Down, (actions_messages Down, (alerts_messages Down, (refl, (refl, (refl, ((λ p i. refl), ((λ p m i. refl), ((λ p m d n. refl), (combined_messages, (virtual_messages, (output_messages, tt))))))))))))
all_messages Up =
    (properties_messages Up, (actions_messages Up, (alerts_messages Up, (attached_messages, ((λ c e. refl), ((λ v. refl), (information_messages, (mode_messages, ((λ p. refl), ((λ p w. refl), ((λ p m d n. refl), ((λ p c w. refl), (refl, tt)))))))))))))

pub accepted_is_message : AcceptedIsMessage
accepted_is_message way s f vs e =
    let t = type_found way s f vs (headed way s f vs e).rest in
    let c : ℕ = get_or s 2 0 in
    let k : ℕ = selectors t.type in
    let lead : Leads c k t.type = leads way c t.type t.found in
    let ch = chosen c k t.type lead s f vs t.rest in
    leading_accepted k t.type IsMessage (found AreMessages (types way) (all_messages way) c t.type t.found) c lead s f vs
    (selectors_read k f ch.fit.1 s vs ch.form) t.rest
