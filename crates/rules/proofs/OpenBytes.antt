-- The open bytes that a table hears of stand where its functions find them.
use Prim.Native.Nat.{ℕ}
use mathlib.Core.Path.{◌≡◌, refl}
use mathlib.Core.Bool.{Bool, true, false, cond}
use mathlib.Core.List.{List, []}
use Rattle.protocol.specs.Form.{layout}
use Rattle.protocol.specs.Decode.{accepted, open_of}
use Rattle.protocol.specs.Answer.{form_of, values_of}
use Rattle.protocol.specs.declared.Message.{Message}
use Rattle.protocol.specs.declared.Message.TheVariants as Message'
use Rattle.rules.specs.Effect.{Empty, Nothing, empties_table, effect_of}
use Rattle.rules.specs.OpenBytes.{heard, opens_in}

action_opens : (x : Bool) (s : List ℕ) → heard (cond x Empty Nothing) [] ≡ opens_in (cond x Empty Nothing) s
action_opens true s = refl
action_opens false s = refl

pub opens_are : (experiment : ℕ) (m : Message) (s : List ℕ) → heard (effect_of experiment m) (open_of s (accepted (form_of m) (values_of m))) ≡ opens_in (effect_of experiment m) s
unfolding effect_of layout
opens_are experiment (Message'.PropertyCommand p o) s = refl
opens_are experiment (Message'.PropertyText p o) s = refl
opens_are experiment (Message'.PropertyByte p o v) s = refl
opens_are experiment (Message'.PropertyRssi o v) s = refl
opens_are experiment (Message'.PropertyVersion p o v) s = refl
opens_are experiment (Message'.PropertyProtocol o v) s = refl
opens_are experiment (Message'.PropertyAddress p o v) s = refl
opens_are experiment (Message'.HubAction a) s = action_opens (empties_table a) s
opens_are experiment (Message'.AlertCommand a o) s = refl
opens_are experiment (Message'.AlertUpdate a v) s = refl
opens_are experiment (Message'.Detached p) s = refl
opens_are experiment (Message'.Attached p d h v) s = refl
opens_are experiment (Message'.AttachedVirtual p d a b) s = refl
opens_are experiment (Message'.GenericError c e) s = refl
opens_are experiment Message'.GoIntoBootMode s = refl
opens_are experiment Message'.LockMemory s = refl
opens_are experiment Message'.LockStatusRequest s = refl
opens_are experiment (Message'.LockStatus v) s = refl
opens_are experiment (Message'.PortInformationRequest p i) s = refl
opens_are experiment (Message'.ModeInformationRequest p m i) s = refl
opens_are experiment (Message'.InputFormatSetup p m d n) s = refl
opens_are experiment (Message'.PortModes p c n i o) s = refl
opens_are experiment (Message'.PortCombinations p c) s = refl
opens_are experiment (Message'.ModeText p m i) s = refl
opens_are experiment (Message'.ModeRange p m i l h) s = refl
opens_are experiment (Message'.ModeMapping p m v) s = refl
opens_are experiment (Message'.ModeBias p m v) s = refl
opens_are experiment (Message'.ModeCapabilities p m v) s = refl
opens_are experiment (Message'.ValueFormat p m n k f d) s = refl
opens_are experiment (Message'.PortValue p) s = refl
opens_are experiment (Message'.InputFormat p m d n) s = refl
opens_are experiment (Message'.VirtualDisconnect p) s = refl
opens_are experiment (Message'.VirtualConnect a b) s = refl
opens_are experiment (Message'.StartSpeedForDegrees p b d l r w e u) s = refl
opens_are experiment (Message'.GotoAbsolutePosition p b a v w e u) s = refl
opens_are experiment (Message'.GotoAbsolutePositions p b a a' v w e u) s = refl
opens_are experiment (Message'.PresetEncoders p b l r) s = refl
opens_are experiment Message'.OutputFeedback s = refl
opens_are experiment (Message'.CombinedSetup p c) s = refl
opens_are experiment (Message'.ModeDatasets p x) s = refl
opens_are experiment (Message'.PortValueCombined p w) s = refl
opens_are experiment (Message'.InputFormatCombined p c w) s = refl
