-- The selectors: reading and writing choose the same form.
use Prim.Native.Nat.{ℕ, zero, suc, ◌+◌, ◌%◌, ◌^◌, ◌≤◌, ◌<◌}
use native.Mathlib.Nat.{add-zero}
use native.Mathlib.Omega.{arith}
use mathlib.Core.Path.{◌≡◌, refl, sym, ◌∙◌, ap}
use mathlib.Core.Bool.{Bool, true, false, cond}
use mathlib.Core.List.{List, [], ◌∷◌, ◌++◌}
use mathlib.Core.Logic.{⊎_elim}
use mathlib.Core.Option.{some}
use borrow.Author.Tests.{eqb-true, ltb-true}
use lib.Dec.{eqb, ltb}
use lib.ListN.{get_or}
use Rattle.protocol.specs.Number.{little_endian}
use Rattle.protocol.specs.Rule.{Rule, one_of}
use Rattle.protocol.specs.Properties.{carries}
use Rattle.protocol.specs.Field.{Field, number, high_first, signed, float, fixed, Value, natural, integer, real, widths, values, read_field, read_fields}
use Rattle.protocol.specs.Form.{Form, layout, code}
use Rattle.protocol.specs.Types.{Selection, always, select, MessageType, Row, selectors, payload, types, type_of, hub_properties, hub_actions, hub_alerts, hub_attached_io, combined_format_setup, port_information, port_mode_information, virtual_port_setup, port_output_command}
use Rattle.protocol.specs.Answer.{natural_at}
use Rattle.protocol.specs.Encode.{low_first, holds, field_bytes, wrote, write_fields}
use Rattle.protocol.specs.declared.Way.{Way}
use Rattle.protocol.specs.declared.Way.TheVariants.{Down, Up}
use Rattle.protocol.proofs.Tests.{which, and_left}
use Rattle.protocol.proofs.FieldTrip.{taken_good, within_yes, never}
use Rattle.protocol.proofs.FieldsTrip.{both_read, one_step}

-- the first so many fields are one byte each
abbrev pub Narrow : ℕ → List Field → Type 0
Narrow zero fs = Unit {0}
Narrow (suc k) [] = ⊥
Narrow (suc k) (number w rule ∷ fs) = (w ≡ 1) × Narrow k fs
Narrow (suc k) (high_first w ∷ fs) = ⊥
Narrow (suc k) (signed w rule ∷ fs) = ⊥
Narrow (suc k) (float ∷ fs) = ⊥
Narrow (suc k) (fixed bytes ∷ fs) = ⊥

pub narrow_widths : (k : ℕ) (fs : List Field) → Narrow k fs → k ≤ widths fs
narrow_widths zero fs q = omega arith
narrow_widths (suc k) [] q = absurd q
narrow_widths (suc k) (number w rule ∷ fs) q = let w1 : w ≡ 1 = q.0 in omega (arith, narrow_widths k fs q.1)
narrow_widths (suc k) (high_first w ∷ fs) q = absurd q
narrow_widths (suc k) (signed w rule ∷ fs) q = absurd q
narrow_widths (suc k) (float ∷ fs) q = absurd q
narrow_widths (suc k) (fixed bytes ∷ fs) q = absurd q

one_byte : (s : List ℕ) (at w : ℕ) (rule : Rule) (us : List Value) → w ≡ 1 → read_field s at (number w rule) ≡ values us → us ≡ natural (get_or s at 0) ∷ []
unfolding little_endian
one_byte s at w rule us e r =
    (within_yes (rule (little_endian s at w)) at (natural (little_endian s at w)) us r).1
    ∙ ap (λ (k : ℕ). natural (little_endian s at k) ∷ []) e

-- a selector's value is its byte
pub narrow_read : (k : ℕ) (fs : List Field) → Narrow k fs → (s : List ℕ) (at : ℕ) (us rest : List Value) → read_fields s at fs ≡ values us
    → (i : ℕ) → i < k → natural_at (us ++ rest) i ≡ get_or s (at + i) 0
narrow_read zero fs q s at us rest e i h = absurd (omega arith)
narrow_read (suc k) [] q s at us rest e i h = absurd q
narrow_read (suc k) (number w rule ∷ fs) q s at us rest e zero h =
    let b = both_read (read_field s at (number w rule)) (read_fields s (at + w) fs) us e in
    let is = one_byte s at w rule b.first q.0 b.first_is in
    rw (b.joined, is, add-zero)
narrow_read (suc k) (number w rule ∷ fs) q s at us rest e (suc i) h =
    let b = both_read (read_field s at (number w rule)) (read_fields s (at + w) fs) us e in
    let is = one_byte s at w rule b.first q.0 b.first_is in
    let far : at + suc i ≡ at + w + i = omega (arith, q.0) in
    rw (b.joined, is, far) (narrow_read k fs q.1 s (at + w) b.second rest b.second_is i (omega arith))
narrow_read (suc k) (high_first w ∷ fs) q s at us rest e i h = absurd q
narrow_read (suc k) (signed w rule ∷ fs) q s at us rest e i h = absurd q
narrow_read (suc k) (float ∷ fs) q s at us rest e i h = absurd q
narrow_read (suc k) (fixed bytes ∷ fs) q s at us rest e i h = absurd q

-- and is written as it
byte_held : (w : ℕ) (rule : Rule) (v : Value) → w ≡ 1 → holds (number w rule) v ≡ true → (n : ℕ) × (v ≡ natural n) × (field_bytes (number w rule) v ≡ n ∷ [])
unfolding low_first
byte_held w rule (natural n) e h =
    let low : n < 256 ^ w = ltb-true n (256 ^ w) (and_left (ltb n (256 ^ w)) (rule n) h) in
    let small : n < 256 = rw e at low in
    let digit : n % 256 ≡ n = omega arith in
    (n, refl, ap (λ (k : ℕ). low_first k n) e ∙ ap (λ (d : ℕ). d ∷ []) digit)
byte_held w rule (integer z) e h = never h
byte_held w rule (real x) e h = never h

pub narrow_written : (k : ℕ) (fs : List Field) → Narrow k fs → (place : ℕ) (vs : List Value) (bs : List ℕ) (ws : List Value) → write_fields place fs vs ≡ wrote bs ws
    → (i : ℕ) → i < k → get_or bs i 0 ≡ natural_at vs i
narrow_written zero fs q place vs bs ws e i h = absurd (omega arith)
narrow_written (suc k) [] q place vs bs ws e i h = absurd q
narrow_written (suc k) (number w rule ∷ fs) q place vs bs ws e zero h =
    let r = one_step (number w rule) fs place vs bs ws e in
    let t = taken_good (number w rule) vs r.first r.left r.first_is in
    let b = byte_held w rule t.value q.0 t.held in
    let front : r.first ≡ b.0 ∷ [] = t.bytes ∙ b.2 in
    ap (λ (l : List ℕ). get_or l 0 0) (r.joined ∙ ap (λ (l : List ℕ). l ++ r.second) front)
    ∙ sym (ap (λ (l : List Value). natural_at l 0) (t.front ∙ ap (λ (v : Value). v ∷ r.left) b.1))
narrow_written (suc k) (number w rule ∷ fs) q place vs bs ws e (suc i) h =
    let r = one_step (number w rule) fs place vs bs ws e in
    let t = taken_good (number w rule) vs r.first r.left r.first_is in
    let b = byte_held w rule t.value q.0 t.held in
    let front : r.first ≡ b.0 ∷ [] = t.bytes ∙ b.2 in
    ap (λ (l : List ℕ). get_or l (suc i) 0) (r.joined ∙ ap (λ (l : List ℕ). l ++ r.second) front)
    ∙ narrow_written k fs q.1 (place + w) r.left r.second ws r.second_is i (omega arith)
    ∙ sym (ap (λ (l : List Value). natural_at l (suc i)) t.front)
narrow_written (suc k) (high_first w ∷ fs) q place vs bs ws e i h = absurd q
narrow_written (suc k) (signed w rule ∷ fs) q place vs bs ws e i h = absurd q
narrow_written (suc k) (float ∷ fs) q place vs bs ws e i h = absurd q
narrow_written (suc k) (fixed bytes ∷ fs) q place vs bs ws e i h = absurd q

-- ---- what the selectors of a type lead to

-- a form of a type byte whose first so many fields are one byte each
abbrev pub Fitting : ℕ → ℕ → Form → Type 0
Fitting c k f = (code f ≡ c) × Narrow k (layout f).fields

abbrev pub Leads : ℕ → ℕ → Selection → Type 0
Leads c k (always f) = Fitting c k f
Leads c k (select offset rule next) = (offset < k) × ((v : ℕ) → Leads c k (next v))

either_fits : (c k : ℕ) (b : Bool) (f g : Form) → Fitting c k f → Fitting c k g → Fitting c k (cond b f g)
either_fits c k true f g p q = p
either_fits c k false f g p q = q

payload_fits : (property : ℕ) → Fitting 1 2 (payload property)
unfolding payload layout
payload_fits property =
    let f1 : Form = cond (one_of (13 ∷ 14 ∷ []) property) Form.property_address (Form.property_byte property) in
    let f2 : Form = cond (eqb property 10) Form.property_protocol f1 in
    let f3 : Form = cond (eqb property 5) Form.property_rssi f2 in
    let f4 : Form = cond (one_of (3 ∷ 4 ∷ []) property) Form.property_version f3 in
    either_fits 1 2 (one_of (1 ∷ 8 ∷ 9 ∷ []) property) (Form.property_text property) f4 (refl, (refl, (refl, tt)))
    (either_fits 1 2 (one_of (3 ∷ 4 ∷ []) property) Form.property_version f3 (refl, (refl, (refl, tt)))
    (either_fits 1 2 (eqb property 5) Form.property_rssi f2 (refl, (refl, (refl, tt)))
    (either_fits 1 2 (eqb property 10) Form.property_protocol f1 (refl, (refl, (refl, tt)))
    (either_fits 1 2 (one_of (13 ∷ 14 ∷ []) property) Form.property_address (Form.property_byte property) (refl, (refl, (refl, tt))) (refl, (refl, (refl, tt)))))))

property_leads : (way : Way) → Leads 1 2 (hub_properties way)
unfolding hub_properties layout
property_leads way = (
  omega arith,
  λ property. (
    omega arith,
    λ operation.
        either_fits 1 2 (carries operation) (payload property) Form.property_command (payload_fits property) (refl, (refl, (refl, tt))),
  ),
)

action_leads : (way : Way) → Leads 2 (selectors (hub_actions way)) (hub_actions way)
unfolding hub_actions layout
action_leads Down = (omega arith, λ action. (refl, (refl, tt)))
action_leads Up = (omega arith, λ action. (refl, (refl, tt)))

alert_leads : (way : Way) → Leads 3 (selectors (hub_alerts way)) (hub_alerts way)
unfolding hub_alerts layout
alert_leads Down = (omega arith, λ alert. (omega arith, λ operation. (refl, (refl, (refl, tt)))))
alert_leads Up = (omega arith, λ alert. (omega arith, λ operation. (refl, (refl, (refl, tt)))))

attached_leads : Leads 4 2 hub_attached_io
unfolding hub_attached_io layout
attached_leads = (
  omega arith,
  λ event.
      either_fits 4 2 (eqb event 0) Form.detached (cond (eqb event 1) Form.attached Form.attached_virtual) (refl, (refl, (refl, tt)))
      (either_fits 4 2 (eqb event 1) Form.attached Form.attached_virtual (refl, (refl, (refl, tt))) (refl, (refl, (refl, tt)))),
)

combined_leads : Leads 0x42 2 combined_format_setup
unfolding combined_format_setup layout
combined_leads = (omega arith, λ sub. either_fits 0x42 2 (eqb sub 1) Form.mode_datasets Form.combined_setup (refl, (refl, (refl, tt))) (refl, (refl, (refl, tt))))

information_leads : Leads 0x43 2 port_information
unfolding port_information layout
information_leads =
    (omega arith, λ information. either_fits 0x43 2 (eqb information 1) Form.port_modes Form.port_combinations (refl, (refl, (refl, tt))) (refl, (refl, (refl, tt))))

mode_leads : Leads 0x44 3 port_mode_information
unfolding port_mode_information layout
mode_leads = (
  omega arith,
  λ information.
      let f1 : Form = cond (eqb information 8) Form.mode_capabilities Form.value_format in
      let f2 : Form = cond (eqb information 7) Form.mode_bias f1 in
      let f3 : Form = cond (eqb information 5) Form.mode_mapping f2 in
      let f4 : Form = cond (one_of (1 ∷ 2 ∷ 3 ∷ []) information) Form.mode_range f3 in
      either_fits 0x44 3 (one_of (0 ∷ 4 ∷ []) information) (Form.mode_text information) f4 (refl, (refl, (refl, (refl, tt))))
      (either_fits 0x44 3 (one_of (1 ∷ 2 ∷ 3 ∷ []) information) Form.mode_range f3 (refl, (refl, (refl, (refl, tt))))
      (either_fits 0x44 3 (eqb information 5) Form.mode_mapping f2 (refl, (refl, (refl, (refl, tt))))
      (either_fits 0x44 3 (eqb information 7) Form.mode_bias f1 (refl, (refl, (refl, (refl, tt))))
      (either_fits 0x44 3 (eqb information 8) Form.mode_capabilities Form.value_format (refl, (refl, (refl, (refl, tt)))) (refl, (refl, (refl, (refl, tt)))))))),
)

virtual_leads : Leads 0x61 1 virtual_port_setup
unfolding virtual_port_setup layout
virtual_leads = (omega arith, λ sub. either_fits 0x61 1 (eqb sub 0) Form.virtual_disconnect Form.virtual_connect (refl, (refl, tt)) (refl, (refl, tt)))

output_leads : Leads 0x81 3 port_output_command
unfolding port_output_command layout
output_leads = (
  omega arith,
  λ sub.
      let f1 : Form = cond (eqb sub 0x0E) Form.goto_absolute_positions Form.preset_encoders in
      let f2 : Form = cond (eqb sub 0x0D) Form.goto_absolute_position f1 in
      either_fits 0x81 3 (eqb sub 0x0C) Form.start_speed_for_degrees f2 (refl, (refl, (refl, (refl, tt))))
      (either_fits 0x81 3 (eqb sub 0x0D) Form.goto_absolute_position f1 (refl, (refl, (refl, (refl, tt))))
      (either_fits 0x81 3 (eqb sub 0x0E) Form.goto_absolute_positions Form.preset_encoders (refl, (refl, (refl, (refl, tt)))) (refl, (refl, (refl, (refl, tt)))))),
)

-- of every row of a table, by its type byte and its type
abbrev pub Every : (ℕ → MessageType → Type 0) → List Row → Type 0
Every P [] = Unit {0}
Every P (r ∷ rs) = P r.code r.type × Every P rs

-- and so of the row that is found
pub found : (P : ℕ → MessageType → Type 0) (rows : List Row) → Every P rows → (c : ℕ) (t : MessageType) → type_of c rows ≡ some t → P c t
found P [] all c t e = let z : ◌≡◌ {A = ℕ} 0 1 = cc in absurd (omega arith)
found P (r ∷ rs) all c t e =
    ⊎_elim
    (λ (yes : eqb c r.code ≡ true).
    let is : some r.type ≡ some t = rw yes at e in
    let same : r.type ≡ t = cc in
    rw (eqb-true c r.code yes, ← same) all.0)
    (λ (no : eqb c r.code ≡ false). found P rs all.1 c t (rw no at e))
    (which (eqb c r.code))

abbrev TypeLeads : ℕ → MessageType → Type 0
TypeLeads c t = Leads c (selectors t) t

all_lead : (way : Way) → Every TypeLeads (types way)
unfolding types hub_properties hub_attached_io combined_format_setup port_information port_mode_information virtual_port_setup port_output_command
all_lead Down =
    (property_leads Down, (action_leads Down, (alert_leads Down, ((refl, tt), ((refl, tt), ((refl, tt), ((refl, tt), ((refl, tt), ((refl, tt), (combined_leads, (virtual_leads, (output_leads, tt))))))))))))
all_lead Up =
    (property_leads Up, (action_leads Up, (alert_leads Up, (attached_leads, ((refl, tt), ((refl, tt), (information_leads, (mode_leads, ((refl, tt), ((refl, tt), ((refl, tt), ((refl, tt), ((refl, tt), tt)))))))))))))

-- every type leads to forms of its own type byte
pub leads : (way : Way) (c : ℕ) (t : MessageType) → type_of c (types way) ≡ some t → Leads c (selectors t) t
leads way c t e = found TypeLeads (types way) (all_lead way) c t e
