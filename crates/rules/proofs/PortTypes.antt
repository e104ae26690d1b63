-- A message of one of the five types that tell one port something: it tells it to the port at byte 3.
use Prim.Native.Nat.{ℕ}
use native.Mathlib.Omega.{arith}
use mathlib.Core.Path.{◌≡◌, refl, sym, ◌∙◌, ap}
use mathlib.Core.Bool.{Bool, true, false, not, ◌||◌}
use mathlib.Core.List.{List}
use Rattle.protocol.specs.Rule.{one_of}
use Rattle.protocol.specs.Field.{Value}
use Rattle.protocol.specs.Form.{Form, layout, code}
use Rattle.protocol.specs.Decode.{accepted, decode}
use Rattle.protocol.specs.Answer.{natural_at, message_of}
use Rattle.protocol.proofs.FieldTrip.{never}
use Rattle.protocol.proofs.SelectionTrip.{Narrow}
use Rattle.protocol.proofs.RoundTrip.{selectors_read, form_accepted, type_accepted}
use Rattle.rules.specs.Effect.{Change, ToPort, effect_of}
use Rattle.rules.specs.Facts.{Settings}
use Rattle.rules.specs.Learn.{learn}
use Rattle.rules.specs.Laws.{asks}
use Rattle.rules.specs.Offer.{Entry}
use Rattle.rules.specs.Commute.{port_types, type_byte, port_byte, is_accepted, readable, of_port_type}

-- a change that, if it is an asking, leaves its experiment number
abbrev pub OwnNumber : ℕ → Change → Type 0
OwnNumber experiment c = (opens : List ℕ) (s : Settings) → asks c ≡ true → (learn c opens s).experiment ≡ experiment

-- a form of these types has its port first, in one byte, and tells it something
record TellsFirst (experiment : ℕ) (f : Form) (vs : List Value) : Type 0 where
  narrow : Narrow 1 (layout f).fields
  change : Change
  is : effect_of experiment (message_of f vs) ≡ ToPort (natural_at vs 0) change
  own : OwnNumber experiment change

tells_first : (experiment : ℕ) (f : Form) (vs : List Value) → one_of port_types (code f) ≡ true → TellsFirst experiment f vs
unfolding layout effect_of learn
tells_first experiment Form.property_command vs e = never e
tells_first experiment (Form.property_text a) vs e = never e
tells_first experiment (Form.property_byte a) vs e = never e
tells_first experiment Form.property_rssi vs e = never e
tells_first experiment Form.property_version vs e = never e
tells_first experiment Form.property_protocol vs e = never e
tells_first experiment Form.property_address vs e = never e
tells_first experiment Form.hub_action vs e = never e
tells_first experiment Form.alert_command vs e = never e
tells_first experiment Form.alert_update vs e = never e
tells_first experiment Form.detached vs e = never e
tells_first experiment Form.attached vs e = never e
tells_first experiment Form.attached_virtual vs e = never e
tells_first experiment Form.generic_error vs e = never e
tells_first experiment Form.go_into_boot_mode vs e = never e
tells_first experiment Form.lock_memory vs e = never e
tells_first experiment Form.lock_status_request vs e = never e
tells_first experiment Form.lock_status vs e = never e
tells_first experiment Form.port_information_request vs e = never e
tells_first experiment Form.mode_information_request vs e = never e
tells_first experiment Form.input_format_setup vs e = record { narrow = (refl, tt); change = _; is = refl; own = λ o s k. refl }
tells_first experiment Form.port_modes vs e = never e
tells_first experiment Form.port_combinations vs e = never e
tells_first experiment (Form.mode_text a) vs e = record { narrow = (refl, tt); change = _; is = refl; own = λ o s k. never k }
tells_first experiment Form.mode_range vs e = record { narrow = (refl, tt); change = _; is = refl; own = λ o s k. never k }
tells_first experiment Form.mode_mapping vs e = record { narrow = (refl, tt); change = _; is = refl; own = λ o s k. never k }
tells_first experiment Form.mode_bias vs e = record { narrow = (refl, tt); change = _; is = refl; own = λ o s k. never k }
tells_first experiment Form.mode_capabilities vs e = record { narrow = (refl, tt); change = _; is = refl; own = λ o s k. never k }
tells_first experiment Form.value_format vs e = record { narrow = (refl, tt); change = _; is = refl; own = λ o s k. never k }
tells_first experiment Form.port_value vs e = never e
tells_first experiment Form.input_format vs e = record { narrow = (refl, tt); change = _; is = refl; own = λ o s k. never k }
tells_first experiment Form.virtual_disconnect vs e = never e
tells_first experiment Form.virtual_connect vs e = never e
tells_first experiment Form.start_speed_for_degrees vs e = never e
tells_first experiment Form.goto_absolute_position vs e = never e
tells_first experiment Form.goto_absolute_positions vs e = never e
tells_first experiment Form.preset_encoders vs e = never e
tells_first experiment Form.output_feedback vs e = never e
tells_first experiment Form.combined_setup vs e = record { narrow = (refl, tt); change = _; is = refl; own = λ o s k. never k }
tells_first experiment Form.mode_datasets vs e = record { narrow = (refl, tt); change = _; is = refl; own = λ o s k. refl }
tells_first experiment Form.port_value_combined vs e = never e
tells_first experiment Form.input_format_combined vs e = record { narrow = (refl, tt); change = _; is = refl; own = λ o s k. never k }

-- what an entry tells a port, if reading accepts it
pub record Told (e : Entry) (port : ℕ) (f : Form) (vs : List Value) : Type 0 where
  pub change : Change
  pub is : effect_of e.experiment (message_of f vs) ≡ ToPort port change
  pub own : OwnNumber e.experiment change

abbrev pub Tells : Entry → ℕ → Type 0
Tells e port = (f : Form) (vs : List Value) → decode e.way e.bytes ≡ accepted f vs → Told e port f vs

read_type : (b : Bool) → (b || not true) ≡ true → b ≡ true
read_type true k = refl
read_type false k = k

pub tells_port : (e : Entry) → of_port_type e ≡ true → Tells e (port_byte e)
tells_port e k f vs r =
    let typed : one_of port_types (type_byte e) ≡ true = read_type (one_of port_types (type_byte e)) (rw r at k) in
    let t = tells_first e.experiment f vs (ap (one_of port_types) (type_accepted e.way e.bytes f vs r) ∙ typed) in
    let port : natural_at vs 0 ≡ port_byte e = selectors_read 1 f t.narrow e.bytes vs (form_accepted e.way e.bytes f vs r) 0 (omega arith) in
    record { change = t.change; is = t.is ∙ ap (λ (p : ℕ). ToPort p t.change) port; own = t.own }

-- an entry that reading refuses tells no port anything
pub unread_tells : (e : Entry) → readable e ≡ false → (port : ℕ) → Tells e port
unread_tells e k port f vs r = never (sym k ∙ ap is_accepted r)
