-- What a message is to the port table: document 01's table rules.
use Rattle.std.specs.Prelude.{ℕ, Bool, cond, List}
use Rattle.protocol.specs.Rule.{between}
use Rattle.protocol.specs.declared.Message.{Message}
use Rattle.protocol.specs.declared.Message.TheVariants as Message'
use Rattle.rules.specs.Facts.{Setup}
pub use Rattle.rules.specs.declared.Change.{Change}
pub use Rattle.rules.specs.declared.Change.TheVariants.{Unchanged, Formatted, Answered, Asked, Listed, Combined}
pub use Rattle.rules.specs.declared.Effect.{Effect}
pub use Rattle.rules.specs.declared.Effect.TheVariants.{Nothing, ToPort, Attach, AttachVirtual, Detach, Value, Disconnect, Connect, Empty, ToVirtual, Feedback, CombinedValue}

-- an accepted message: what it is to the table, and its open bytes
pub data Event : Type 0 where
  event : Effect → List ℕ → Event

-- and so what a port is told
pub data Told : Type 0 where
  told : Change → List ℕ → Told

abbrev pub setup : ℕ → ℕ → ℕ → Setup
setup m d n = record { mode = m; delta = d; notify = n }

-- document 01's table-emptying notices: 30, 31 and 32
abbrev pub empties_table : ℕ → Bool
empties_table a = between 0x30 0x32 a

abbrev pub action_effect : ℕ → Effect
action_effect a = cond (empties_table a) Empty Nothing

-- a message with its experiment number, which only a 41 and a list hand on
unfoldable pub effect_of : ℕ → Message → Effect
effect_of experiment (Message'.PropertyCommand p o) = Nothing
effect_of experiment (Message'.PropertyText p o) = Nothing
effect_of experiment (Message'.PropertyByte p o v) = Nothing
effect_of experiment (Message'.PropertyRssi o v) = Nothing
effect_of experiment (Message'.PropertyVersion p o v) = Nothing
effect_of experiment (Message'.PropertyProtocol o v) = Nothing
effect_of experiment (Message'.PropertyAddress p o v) = Nothing
effect_of experiment (Message'.HubAction a) = action_effect a
effect_of experiment (Message'.AlertCommand a o) = Nothing
effect_of experiment (Message'.AlertUpdate a v) = Nothing
effect_of experiment (Message'.Detached port) = Detach port
effect_of experiment (Message'.Attached port device h s) = Attach port device
effect_of experiment (Message'.AttachedVirtual port device a b) = AttachVirtual port device a b
effect_of experiment (Message'.GenericError c e) = Nothing
effect_of experiment Message'.GoIntoBootMode = Nothing
effect_of experiment Message'.LockMemory = Nothing
effect_of experiment Message'.LockStatusRequest = Nothing
effect_of experiment (Message'.LockStatus v) = Nothing
effect_of experiment (Message'.PortInformationRequest port i) = ToPort port Unchanged
effect_of experiment (Message'.ModeInformationRequest port m i) = ToPort port Unchanged
effect_of experiment (Message'.InputFormatSetup port m d n) = ToPort port (Asked (setup m d n) experiment)
effect_of experiment (Message'.PortModes port c n i o) = ToPort port Unchanged
effect_of experiment (Message'.PortCombinations port c) = ToPort port Unchanged
effect_of experiment (Message'.ModeText port m i) = ToPort port Unchanged
effect_of experiment (Message'.ModeRange port m i l h) = ToPort port Unchanged
effect_of experiment (Message'.ModeMapping port m v) = ToPort port Unchanged
effect_of experiment (Message'.ModeBias port m v) = ToPort port Unchanged
effect_of experiment (Message'.ModeCapabilities port m v) = ToPort port Unchanged
effect_of experiment (Message'.ValueFormat port m n k f d) = ToPort port (Formatted m (record { datasets = n; kind = k; figures = f; decimals = d }))
effect_of experiment (Message'.PortValue port) = Value port
effect_of experiment (Message'.InputFormat port m d n) = ToPort port (Answered (setup m d n))
effect_of experiment (Message'.VirtualDisconnect port) = Disconnect port
effect_of experiment (Message'.VirtualConnect a b) = Connect a b
effect_of experiment (Message'.StartSpeedForDegrees port s d l r w e u) = ToVirtual port
effect_of experiment (Message'.GotoAbsolutePosition port s a v w e u) = ToPort port Unchanged
effect_of experiment (Message'.GotoAbsolutePositions port s a b v w e u) = ToVirtual port
effect_of experiment (Message'.PresetEncoders port s l r) = ToVirtual port
effect_of experiment Message'.OutputFeedback = Feedback
effect_of experiment (Message'.CombinedSetup port s) = ToPort port Unchanged
effect_of experiment (Message'.ModeDatasets port x) = ToPort port (Listed experiment)
effect_of experiment (Message'.PortValueCombined port p) = CombinedValue port p
effect_of experiment (Message'.InputFormatCombined port c p) = ToPort port (Combined p)
