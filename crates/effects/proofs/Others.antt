-- The messages that are nothing to the table, by their places among the messages.
use Prim.Native.Nat.{ℕ}
use mathlib.Core.Path.{◌≡◌, refl}
use mathlib.Core.List.{List, [], ◌∷◌}
use types.Run.{OneOf, miss}
use denote.Enum.Declared.{tag_of}
use Rattle.protocol.specs.declared.Message.{Message}
use Rattle.protocol.specs.declared.Message.TheVariants as Message'
use Rattle.protocol.specs.contracts.Message.{the_type}
use Rattle.rules.specs.Effect.{effect_of}
use Rattle.rules.specs.declared.Effect.TheVariants.{Nothing}

abbrev pub others : List ℕ
others = 0 ∷ 1 ∷ 2 ∷ 3 ∷ 4 ∷ 5 ∷ 6 ∷ 8 ∷ 9 ∷ 13 ∷ 14 ∷ 15 ∷ 16 ∷ 17 ∷ []

pub nothing_told : (experiment : ℕ) (m : Message) → OneOf others (tag_of the_type m) → effect_of experiment m ≡ Nothing
unfolding effect_of
nothing_told experiment (Message'.PropertyCommand p o) t = refl
nothing_told experiment (Message'.PropertyText p o) t = refl
nothing_told experiment (Message'.PropertyByte p o v) t = refl
nothing_told experiment (Message'.PropertyRssi o v) t = refl
nothing_told experiment (Message'.PropertyVersion p o v) t = refl
nothing_told experiment (Message'.PropertyProtocol o v) t = refl
nothing_told experiment (Message'.PropertyAddress p o v) t = refl
nothing_told experiment (Message'.HubAction a) t = absurd (miss others 7 tt t)
nothing_told experiment (Message'.AlertCommand a o) t = refl
nothing_told experiment (Message'.AlertUpdate a v) t = refl
nothing_told experiment (Message'.Detached p) t = absurd (miss others 10 tt t)
nothing_told experiment (Message'.Attached p d h s) t = absurd (miss others 11 tt t)
nothing_told experiment (Message'.AttachedVirtual p d a b) t = absurd (miss others 12 tt t)
nothing_told experiment (Message'.GenericError c e) t = refl
nothing_told experiment Message'.GoIntoBootMode t = refl
nothing_told experiment Message'.LockMemory t = refl
nothing_told experiment Message'.LockStatusRequest t = refl
nothing_told experiment (Message'.LockStatus v) t = refl
nothing_told experiment (Message'.PortInformationRequest p i) t = absurd (miss others 18 tt t)
nothing_told experiment (Message'.ModeInformationRequest p m i) t = absurd (miss others 19 tt t)
nothing_told experiment (Message'.InputFormatSetup p m d n) t = absurd (miss others 20 tt t)
nothing_told experiment (Message'.PortModes p c n i o) t = absurd (miss others 21 tt t)
nothing_told experiment (Message'.PortCombinations p c) t = absurd (miss others 22 tt t)
nothing_told experiment (Message'.ModeText p m i) t = absurd (miss others 23 tt t)
nothing_told experiment (Message'.ModeRange p m i l h) t = absurd (miss others 24 tt t)
nothing_told experiment (Message'.ModeMapping p m v) t = absurd (miss others 25 tt t)
nothing_told experiment (Message'.ModeBias p m v) t = absurd (miss others 26 tt t)
nothing_told experiment (Message'.ModeCapabilities p m v) t = absurd (miss others 27 tt t)
nothing_told experiment (Message'.ValueFormat p m n k f d) t = absurd (miss others 28 tt t)
nothing_told experiment (Message'.PortValue p) t = absurd (miss others 29 tt t)
nothing_told experiment (Message'.InputFormat p m d n) t = absurd (miss others 30 tt t)
nothing_told experiment (Message'.VirtualDisconnect p) t = absurd (miss others 31 tt t)
nothing_told experiment (Message'.VirtualConnect a b) t = absurd (miss others 32 tt t)
nothing_told experiment (Message'.StartSpeedForDegrees p s d l r w e u) t = absurd (miss others 33 tt t)
nothing_told experiment (Message'.GotoAbsolutePosition p s a v w e u) t = absurd (miss others 34 tt t)
nothing_told experiment (Message'.GotoAbsolutePositions p s a b v w e u) t = absurd (miss others 35 tt t)
nothing_told experiment (Message'.PresetEncoders p s l r) t = absurd (miss others 36 tt t)
nothing_told experiment Message'.OutputFeedback t = absurd (miss others 37 tt t)
nothing_told experiment (Message'.CombinedSetup p c) t = absurd (miss others 38 tt t)
nothing_told experiment (Message'.ModeDatasets p x) t = absurd (miss others 39 tt t)
nothing_told experiment (Message'.PortValueCombined p w) t = absurd (miss others 40 tt t)
nothing_told experiment (Message'.InputFormatCombined p c w) t = absurd (miss others 41 tt t)
