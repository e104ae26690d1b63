-- The number and the place of each refusal: document 01's, and 255, which it does not have.
use Rattle.std.specs.Prelude.{ℕ}
use Rattle.protocol.specs.declared.refusal.Refusal.{Refusal}
use Rattle.protocol.specs.declared.refusal.Refusal.TheVariants as Refusal'

abbrev pub number_of : Refusal → ℕ
number_of Refusal'.Empty = 1
number_of Refusal'.LongLength = 2
number_of Refusal'.WrongLength = 3
number_of Refusal'.OtherHub = 4
number_of Refusal'.UnknownType = 5
number_of (Refusal'.WrongSize wanted) = 6
number_of (Refusal'.OutsideList place) = 7
number_of Refusal'.ShortOutput = 8
number_of Refusal'.UnsoundTable = 9
number_of Refusal'.AbsentPort = 10
number_of Refusal'.PresentPort = 11
number_of Refusal'.BadPair = 12
number_of Refusal'.FullTable = 13
number_of Refusal'.NoMode = 14
number_of Refusal'.NoFormat = 15
number_of Refusal'.ValueSize = 16
number_of Refusal'.NoDataset = 17
number_of Refusal'.NotFinite = 18
number_of Refusal'.DamagedRecord = 19
number_of Refusal'.NotCombined = 20
number_of Refusal'.BadPointers = 21
number_of Refusal'.NotVirtual = 22
number_of Refusal'.ReadOnly = 23
number_of Refusal'.Unfit = 255

-- that of a 6 is the size that is wanted, that of a 7 the field's; 4 is found in byte 1 and 5 in byte 2
abbrev pub place_of : Refusal → ℕ
place_of Refusal'.Empty = 0
place_of Refusal'.LongLength = 0
place_of Refusal'.WrongLength = 0
place_of Refusal'.OtherHub = 1
place_of Refusal'.UnknownType = 2
place_of (Refusal'.WrongSize wanted) = wanted
place_of (Refusal'.OutsideList place) = place
place_of Refusal'.ShortOutput = 0
place_of Refusal'.UnsoundTable = 0
place_of Refusal'.AbsentPort = 0
place_of Refusal'.PresentPort = 0
place_of Refusal'.BadPair = 0
place_of Refusal'.FullTable = 0
place_of Refusal'.NoMode = 0
place_of Refusal'.NoFormat = 0
place_of Refusal'.ValueSize = 0
place_of Refusal'.NoDataset = 0
place_of Refusal'.NotFinite = 0
place_of Refusal'.DamagedRecord = 0
place_of Refusal'.NotCombined = 0
place_of Refusal'.BadPointers = 0
place_of Refusal'.NotVirtual = 0
place_of Refusal'.ReadOnly = 0
place_of Refusal'.Unfit = 0
