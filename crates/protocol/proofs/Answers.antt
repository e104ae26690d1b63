-- No two accepted messages share an answer: the answer gives the message back.
use mathlib.Core.Path.{◌≡◌, refl, sym, ◌∙◌, ap}
use Rattle.protocol.specs.Answer.{answer_of, message_of_answer}
use Rattle.protocol.specs.declared.Message.{Message}
use Rattle.protocol.specs.declared.Message.TheVariants as Message'
use Rattle.std.specs.Prelude.{Ok}

pub message_back : (m : Message) → message_of_answer (answer_of (Ok m)) ≡ m
message_back (Message'.PropertyCommand p o) = refl
message_back (Message'.PropertyText p o) = refl
message_back (Message'.PropertyByte p o v) = refl
message_back (Message'.PropertyRssi o v) = refl
message_back (Message'.PropertyVersion p o v) = refl
message_back (Message'.PropertyProtocol o v) = refl
message_back (Message'.PropertyAddress p o v) = refl
message_back (Message'.HubAction a) = refl
message_back (Message'.AlertCommand a o) = refl
message_back (Message'.AlertUpdate a v) = refl
message_back (Message'.Detached p) = refl
message_back (Message'.Attached p d h s) = refl
message_back (Message'.AttachedVirtual p d a b) = refl
message_back (Message'.GenericError c e) = refl
message_back Message'.GoIntoBootMode = refl
message_back Message'.LockMemory = refl
message_back Message'.LockStatusRequest = refl
message_back (Message'.LockStatus v) = refl
message_back (Message'.PortInformationRequest p i) = refl
message_back (Message'.ModeInformationRequest p m i) = refl
message_back (Message'.InputFormatSetup p m d n) = refl
message_back (Message'.PortModes p c n i o) = refl
message_back (Message'.PortCombinations p c) = refl
message_back (Message'.ModeText p m i) = refl
message_back (Message'.ModeRange p m i l h) = refl
message_back (Message'.ModeMapping p m v) = refl
message_back (Message'.ModeBias p m v) = refl
message_back (Message'.ModeCapabilities p m v) = refl
message_back (Message'.ValueFormat p m n k f d) = refl
message_back (Message'.PortValue p) = refl
message_back (Message'.InputFormat p m d n) = refl
message_back (Message'.VirtualDisconnect p) = refl
message_back (Message'.VirtualConnect a b) = refl
message_back (Message'.StartSpeedForDegrees p s d l r w e u) = refl
message_back (Message'.GotoAbsolutePosition p s a v w e u) = refl
message_back (Message'.GotoAbsolutePositions p s a b v w e u) = refl
message_back (Message'.PresetEncoders p s l r) = refl
message_back Message'.OutputFeedback = refl
message_back (Message'.CombinedSetup p s) = refl
message_back (Message'.ModeDatasets p x) = refl
message_back (Message'.PortValueCombined p w) = refl
message_back (Message'.InputFormatCombined p c w) = refl

pub answers_differ : (a b : Message) → answer_of (Ok a) ≡ answer_of (Ok b) → a ≡ b
answers_differ a b e = sym (message_back a) ∙ ap message_of_answer e ∙ message_back b
