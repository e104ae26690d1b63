-- What the fields of an accepted message, and its open bytes, may be, where a table keeps them.
use Rattle.std.specs.Prelude.{ℕ, Bool, true, ◌&&◌, List, leb, ltb}
use Rattle.std.proofs.Math.Option.{some}
use Rattle.protocol.specs.Form.{last_mode}
use Rattle.rules.specs.Layout.{port_count, experiment_count}
use Rattle.rules.specs.Effect.{Change, Unchanged, Formatted, Answered, Asked, Listed, Combined, Effect, Nothing, ToPort, Attach, AttachVirtual, Detach, Value, Disconnect, Connect, Empty, ToVirtual, Feedback, CombinedValue}
use Rattle.rules.specs.WellFormed.{setup_fits, format_fits, list_fits}

abbrev pub change_fits : Change → List ℕ → Bool
change_fits Unchanged opens = true
change_fits (Formatted mode f) opens = leb mode last_mode && format_fits (some f)
change_fits (Answered s) opens = setup_fits s
change_fits (Asked s n) opens = setup_fits s && ltb n experiment_count
change_fits (Listed n) opens = list_fits opens && ltb n experiment_count
change_fits (Combined p) opens = true

abbrev pub effect_fits : Effect → List ℕ → Bool
effect_fits Nothing opens = true
effect_fits (ToPort port c) opens = change_fits c opens
effect_fits (Attach port device) opens = ltb port port_count && ltb device 65536
effect_fits (AttachVirtual port device a b) opens = ltb port port_count && ltb device 65536 && ltb a port_count && ltb b port_count
effect_fits (Detach port) opens = true
effect_fits (Value port) opens = true
effect_fits (Disconnect port) opens = true
effect_fits (Connect a b) opens = true
effect_fits Empty opens = true
effect_fits (ToVirtual port) opens = true
effect_fits Feedback opens = true
effect_fits (CombinedValue port p) opens = true
