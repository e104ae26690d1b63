-- The number that stands for wider ones is in no list.
use Prim.Native.Nat.{ℕ, ◌<◌}
use native.Mathlib.Omega.{arith}
use mathlib.Core.Path.{◌≡◌, refl}
use mathlib.Core.Bool.{Bool, true, false, cond}
use mathlib.Core.List.{[], ◌∷◌}
use borrow.Author.Tests.{le-leb}
use lib.Dec.{eqb, leb}
use Rattle.protocol.proofs.FieldTrip.{never}
use Rattle.protocol.specs.Rule.{up_to, one_of}
use Rattle.protocol.specs.Properties.{greatest, allowed}
use Rattle.protocol.specs.Form.{Form, layout, alert_status, information_type, start_byte, end_state, signed_speed, degrees}
use Rattle.protocol.specs.Types.{types, down_action, hub_properties, hub_actions, hub_alerts, hub_attached_io, port_information, port_mode_information, combined_format_setup, virtual_port_setup, port_output_command}
use Rattle.protocol.specs.declared.Way.{Way}
use Rattle.protocol.specs.declared.Way.TheVariants.{Down, Up}
use Rattle.row_messages.specs.WideNumbers.{AllApart, NoSelectors, WiderIsOutside}

-- a property's byte: its list ends below FE, or it has none
byte_apart : (a b c : Bool) → leb 254 (cond a 1 (cond b 100 (cond c 8 255))) ≡ true → (n : ℕ) → n < 256 → leb n (cond a 1 (cond b 100 (cond c 8 255))) ≡ true
byte_apart true b c e = never e
byte_apart false true c e = never e
byte_apart false false true e = never e
byte_apart false false false e = λ n h. le-leb n 255 (omega arith)

payload_apart : (p : ℕ) → up_to (greatest p) 254 ≡ true → (n : ℕ) → n < 256 → up_to (greatest p) n ≡ true
unfolding greatest
payload_apart p = byte_apart (one_of (2 ∷ 7 ∷ []) p) (eqb p 6) (eqb p 15)

fields_apart : (f : Form) → AllApart (layout f).fields
unfolding layout alert_status information_type start_byte end_state signed_speed degrees
fields_apart Form.property_command = ((λ e n h. refl), ((λ e n h. refl), tt))
fields_apart (Form.property_text p) = ((λ e n h. refl), ((λ e n h. refl), tt))
fields_apart (Form.property_byte p) = ((λ e n h. refl), ((λ e n h. refl), (payload_apart p, tt)))
fields_apart Form.property_rssi = ((λ e n h. refl), ((λ e n h. refl), ((λ e z h. refl), tt)))
fields_apart Form.property_version = ((λ e n h. refl), ((λ e n h. refl), ((λ e z h. refl), tt)))
fields_apart Form.property_protocol = ((λ e n h. refl), ((λ e n h. refl), ((λ e n h. refl), tt)))
fields_apart Form.property_address = ((λ e n h. refl), ((λ e n h. refl), (tt, tt)))
fields_apart Form.hub_action = ((λ e n h. refl), tt)
fields_apart Form.alert_command = ((λ e n h. refl), ((λ e n h. refl), tt))
fields_apart Form.alert_update = ((λ e n h. refl), ((λ e n h. refl), (never, tt)))
fields_apart Form.detached = ((λ e n h. refl), ((λ e n h. refl), tt))
fields_apart Form.attached = ((λ e n h. refl), ((λ e n h. refl), ((λ e n h. refl), ((λ e z h. refl), ((λ e z h. refl), tt)))))
fields_apart Form.attached_virtual = ((λ e n h. refl), ((λ e n h. refl), ((λ e n h. refl), ((λ e n h. refl), ((λ e n h. refl), tt)))))
fields_apart Form.generic_error = ((λ e n h. refl), (never, tt))
fields_apart Form.go_into_boot_mode = (tt, tt)
fields_apart Form.lock_memory = (tt, tt)
fields_apart Form.lock_status_request = tt
fields_apart Form.lock_status = ((λ e n h. refl), tt)
fields_apart Form.port_information_request = ((λ e n h. refl), (never, tt))
fields_apart Form.mode_information_request = ((λ e n h. refl), (never, (never, tt)))
fields_apart Form.input_format_setup = ((λ e n h. refl), (never, ((λ e n h. refl), (never, tt))))
fields_apart Form.port_modes = ((λ e n h. refl), ((λ e n h. refl), (never, ((λ e n h. refl), ((λ e n h. refl), ((λ e n h. refl), tt))))))
fields_apart Form.port_combinations = ((λ e n h. refl), ((λ e n h. refl), tt))
fields_apart (Form.mode_text i) = ((λ e n h. refl), (never, ((λ e n h. refl), tt)))
fields_apart Form.mode_range = ((λ e n h. refl), (never, ((λ e n h. refl), (tt, (tt, tt)))))
fields_apart Form.mode_mapping = ((λ e n h. refl), (never, ((λ e n h. refl), ((λ e n h. refl), tt))))
fields_apart Form.mode_bias = ((λ e n h. refl), (never, ((λ e n h. refl), (never, tt))))
fields_apart Form.mode_capabilities = ((λ e n h. refl), (never, ((λ e n h. refl), (tt, tt))))
fields_apart Form.value_format = ((λ e n h. refl), (never, ((λ e n h. refl), (never, (never, ((λ e n h. refl), ((λ e n h. refl), tt)))))))
fields_apart Form.port_value = ((λ e n h. refl), tt)
fields_apart Form.input_format = ((λ e n h. refl), (never, ((λ e n h. refl), (never, tt))))
fields_apart Form.virtual_disconnect = ((λ e n h. refl), ((λ e n h. refl), tt))
fields_apart Form.virtual_connect = ((λ e n h. refl), ((λ e n h. refl), ((λ e n h. refl), tt)))
fields_apart Form.start_speed_for_degrees = ((λ e n h. refl), (never, ((λ e n h. refl), (never, (never, (never, (never, (never, (never, tt)))))))))
fields_apart Form.goto_absolute_position = ((λ e n h. refl), (never, ((λ e n h. refl), ((λ e z h. refl), (never, (never, (never, (never, tt))))))))
fields_apart Form.goto_absolute_positions = ((λ e n h. refl), (never, ((λ e n h. refl), ((λ e z h. refl), ((λ e z h. refl), (never, (never, (never, (never, tt)))))))))
fields_apart Form.preset_encoders = ((λ e n h. refl), (never, ((λ e n h. refl), ((λ e z h. refl), ((λ e z h. refl), tt)))))
fields_apart Form.output_feedback = tt
fields_apart Form.combined_setup = ((λ e n h. refl), ((λ e n h. refl), tt))
fields_apart Form.mode_datasets = ((λ e n h. refl), ((λ e n h. refl), ((λ e n h. refl), tt)))
fields_apart Form.port_value_combined = ((λ e n h. refl), ((λ e n h. refl), tt))
fields_apart Form.input_format_combined = ((λ e n h. refl), ((λ e n h. refl), ((λ e n h. refl), tt)))

no_selectors : (way : Way) → NoSelectors (types way)
unfolding types hub_properties hub_actions hub_alerts hub_attached_io port_information port_mode_information combined_format_setup virtual_port_setup port_output_command allowed down_action
no_selectors Down =
    ((refl, λ property. (refl, λ operation. tt)), ((refl, λ action. tt), ((refl, λ alert. (refl, λ operation. tt)), (tt, (tt, (tt, (tt, (tt, (tt, ((refl, λ sub. tt), ((refl, λ sub. tt), ((refl, λ sub. tt), tt))))))))))))
no_selectors Up =
    ((refl, λ property. (refl, λ operation. tt)), ((refl, λ action. tt), ((refl, λ alert. (refl, λ operation. tt)), ((refl, λ event. tt), (tt, (tt, ((refl, λ information. tt), ((refl, λ information. tt), (tt, (tt, (tt, (tt, (tt, tt)))))))))))))

pub wider_is_outside : WiderIsOutside
wider_is_outside = (fields_apart, no_selectors)
