-- The bench examples of document 01 that concern reading, and those of sizes that are wanted, as one table; and sizes and memory lock in writing.
use Rattle.std.specs.Prelude.{ℕ, ◌≡◌, List, [], ◌∷◌, map, pos, false, replicate}
use Rattle.std.specs.Float.{fin}
use Rattle.protocol.specs.Field.{natural, real}
use Rattle.protocol.specs.Form
use Rattle.protocol.specs.Decode.{Answer, refused, accepted, decode}
use Rattle.protocol.specs.Encode as Encode
use Rattle.protocol.specs.Encode.{Encoded, encoded, encode}
use Rattle.protocol.specs.declared.Combinations.{Combinations}
use Rattle.protocol.specs.declared.Message.{Message}
use Rattle.protocol.specs.declared.Message.TheVariants as Message'
use Rattle.protocol.specs.declared.Way.{Way}
use Rattle.protocol.specs.declared.Way.TheVariants.{Down, Up}

pub record Example : Type 0 where
  pub way : Way
  pub bytes : List ℕ
  pub answer : Answer

abbrev pub down : List ℕ → Answer → Example
down s a = record { way = Down; bytes = s; answer = a }

abbrev pub up : List ℕ → Answer → Example
up s a = record { way = Up; bytes = s; answer = a }

-- the starred examples, those of the others that concern reading, and sizes
abbrev pub examples : List Example
examples =
    down [] (refused 1 0)
    ∷ down (0x80 ∷ []) (refused 2 0)
    ∷ down (0x04 ∷ 0x00 ∷ 0x02 ∷ []) (refused 3 0)
    ∷ down (0x03 ∷ 0x01 ∷ 0x12 ∷ []) (refused 4 1)
    ∷ down (0x03 ∷ 0x00 ∷ 0x12 ∷ []) (accepted Form.lock_status_request [])
    ∷ up (0x03 ∷ 0x00 ∷ 0x12 ∷ []) (refused 5 2)
    ∷ down (0x03 ∷ 0x00 ∷ 0x02 ∷ []) (refused 6 4)
    ∷ down (0x04 ∷ 0x00 ∷ 0x02 ∷ 0x07 ∷ []) (refused 7 3)
    ∷ down (0x05 ∷ 0x00 ∷ 0x02 ∷ 0x01 ∷ 0x00 ∷ []) (refused 6 4)
    ∷ down (0x05 ∷ 0x00 ∷ 0x01 ∷ 0x02 ∷ 0x05 ∷ []) (accepted Form.property_command (natural 2 ∷ natural 5 ∷ []))
    ∷ down (0x05 ∷ 0x00 ∷ 0x01 ∷ 0x03 ∷ 0x02 ∷ []) (refused 7 4)
    ∷ down (0x0C ∷ 0x00 ∷ 0x10 ∷ 0x4C ∷ 0x50 ∷ 0x46 ∷ 0x32 ∷ 0x2D ∷ 0x42 ∷ 0x6F ∷ 0x6F ∷ 0x74 ∷ []) (accepted Form.go_into_boot_mode [])
    ∷ down (0x0C ∷ 0x00 ∷ 0x10 ∷ 0x4C ∷ 0x50 ∷ 0x46 ∷ 0x32 ∷ 0x2D ∷ 0x42 ∷ 0x6F ∷ 0x6F ∷ 0x75 ∷ []) (refused 7 11)
    -- the raw range 0 to 200, which is 25 * 2 ^ 3
    ∷ up (0x0E ∷ 0x00 ∷ 0x44 ∷ 0x00 ∷ 0x00 ∷ 0x01 ∷ 0x00 ∷ 0x00 ∷ 0x00 ∷ 0x00 ∷ 0x00 ∷ 0x00 ∷ 0x48 ∷ 0x43 ∷ [])
    (accepted Form.mode_range (natural 0 ∷ natural 0 ∷ natural 1 ∷ real (fin false 0 (pos 0)) ∷ real (fin false 25 (pos 3)) ∷ []))
    ∷ up (0x0E ∷ 0x00 ∷ 0x44 ∷ 0x00 ∷ 0x00 ∷ 0x01 ∷ 0x00 ∷ 0x00 ∷ 0x00 ∷ 0x00 ∷ 0x00 ∷ 0x00 ∷ 0x80 ∷ 0x7F ∷ []) (refused 7 10)
    -- too short for the selectors: hub properties, alerts, attachments, 43, 44 and virtual ports
    ∷ down (0x03 ∷ 0x00 ∷ 0x01 ∷ []) (refused 6 5)
    ∷ down (0x04 ∷ 0x00 ∷ 0x01 ∷ 0x63 ∷ []) (refused 6 5)
    ∷ up (0x04 ∷ 0x00 ∷ 0x03 ∷ 0x63 ∷ []) (refused 6 5)
    ∷ up (0x04 ∷ 0x00 ∷ 0x04 ∷ 0x00 ∷ []) (refused 6 5)
    ∷ up (0x04 ∷ 0x00 ∷ 0x43 ∷ 0x00 ∷ []) (refused 6 5)
    ∷ up (0x05 ∷ 0x00 ∷ 0x44 ∷ 0x00 ∷ 0x63 ∷ []) (refused 6 6)
    ∷ down (0x03 ∷ 0x00 ∷ 0x61 ∷ []) (refused 6 4)
    -- a name without a byte and one of twelve, a list of six bytes and one of eight, a value without a byte, a connect of five bytes
    ∷ up (0x06 ∷ 0x00 ∷ 0x44 ∷ 0x00 ∷ 0x00 ∷ 0x00 ∷ []) (refused 6 7)
    ∷ up (0x12 ∷ 0x00 ∷ 0x44 ∷ 0x01 ∷ 0x02 ∷ 0x00 ∷ 0x41 ∷ 0x42 ∷ 0x43 ∷ 0x44 ∷ 0x45 ∷ 0x46 ∷ 0x47 ∷ 0x48 ∷ 0x49 ∷ 0x4A ∷ 0x4B ∷ 0x4C ∷ []) (refused 6 7)
    ∷ up (0x06 ∷ 0x00 ∷ 0x43 ∷ 0x00 ∷ 0x02 ∷ 0x16 ∷ []) (refused 6 7)
    ∷ up (0x08 ∷ 0x00 ∷ 0x43 ∷ 0x00 ∷ 0x02 ∷ 0x16 ∷ 0x00 ∷ 0x16 ∷ []) (refused 6 7)
    ∷ up (0x04 ∷ 0x00 ∷ 0x45 ∷ 0x00 ∷ []) (refused 6 5)
    ∷ down (0x05 ∷ 0x00 ∷ 0x61 ∷ 0x01 ∷ 0x00 ∷ []) (refused 6 6)
    -- a detachment is shorter than an attachment: the event says which size is wanted
    ∷ up (0x06 ∷ 0x00 ∷ 0x04 ∷ 0x00 ∷ 0x00 ∷ 0x00 ∷ []) (refused 6 5)
    ∷ up (0x06 ∷ 0x00 ∷ 0x04 ∷ 0x00 ∷ 0x01 ∷ 0x00 ∷ []) (refused 6 15)
    -- memory lock is read
    ∷ down (0x0B ∷ 0x00 ∷ 0x11 ∷ 0x4C ∷ 0x6F ∷ 0x63 ∷ 0x6B ∷ 0x20 ∷ 0x4D ∷ 0x65 ∷ 0x6D ∷ []) (accepted Form.lock_memory [])
    ∷ up (0x04 ∷ 0x00 ∷ 0x13 ∷ 0xFF ∷ []) (accepted Form.lock_status (natural 0xFF ∷ []))
    ∷ []

-- what the definitions say of every example, and what document 01 says: one statement, `examples_hold` in proofs/Examples.antt
abbrev read : Example → Answer
read e = decode e.way e.bytes

abbrev pub Read : List Example → Type 0
Read rows = map read rows ≡ map (λ e. e.answer) rows

abbrev pub ExamplesHold : Type 0
ExamplesHold = Read examples

-- ---- writing: sizes, and memory lock, which is read only

pub record Writing : Type 0 where
  pub way : Way
  pub message : Message
  pub opens : List ℕ
  pub answer : Encoded

abbrev pub writing : Way → Message → List ℕ → Encoded → Writing
writing way m opens a = record { way = way; message = m; opens = opens; answer = a }

abbrev counted : ℕ → Combinations
counted n = record { count = n; entry0 = 0x16; entry1 = 0; entry2 = 0; entry3 = 0; entry4 = 0; entry5 = 0; entry6 = 0; entry7 = 0 }

abbrev pub writings : List Writing
writings =
    -- a second slice where there is none: the form's own size
    writing Down Message'.GoIntoBootMode (0x00 ∷ []) (Encode.refused 6 12)
    ∷ writing Up (Message'.Attached 0 0x26 (pos 0) (pos 0)) (0x00 ∷ []) (Encode.refused 6 15)
    -- too few and too many open bytes: the smallest, before a mode that is outside its list
    ∷ writing Down (Message'.PropertyText 1 1) [] (Encode.refused 6 6)
    ∷ writing Down (Message'.PropertyText 1 1) (replicate 15 0x41) (Encode.refused 6 6)
    ∷ writing Up (Message'.ModeText 0 16 0) [] (Encode.refused 6 7)
    ∷ writing Up (Message'.PortValue 0) [] (Encode.refused 6 5)
    ∷ writing Up (Message'.PortValue 0) (replicate 124 0) (Encode.refused 6 5)
    -- a list without an entry, with nine, and with a second slice: that of one entry
    ∷ writing Up (Message'.PortCombinations 0 (counted 0)) [] (Encode.refused 6 7)
    ∷ writing Up (Message'.PortCombinations 0 (counted 9)) [] (Encode.refused 6 7)
    ∷ writing Up (Message'.PortCombinations 0 (counted 2)) (0x00 ∷ []) (Encode.refused 6 7)
    ∷ writing Up (Message'.PortCombinations 0 (counted 1)) [] (encoded (0x07 ∷ 0x00 ∷ 0x43 ∷ 0x00 ∷ 0x02 ∷ 0x16 ∷ 0x00 ∷ []))
    -- 11, 12 and 13: 23 the way they go, before a second slice and a field that are wrong; 5 the other way; their neighbour 10 is written
    ∷ writing Down Message'.LockMemory [] (Encode.refused 23 0)
    ∷ writing Up Message'.LockMemory [] (Encode.refused 5 2)
    ∷ writing Down Message'.LockStatusRequest [] (Encode.refused 23 0)
    ∷ writing Down Message'.LockStatusRequest (0x00 ∷ []) (Encode.refused 23 0)
    ∷ writing Up Message'.LockStatusRequest (0x00 ∷ []) (Encode.refused 5 2)
    ∷ writing Up (Message'.LockStatus 0xFF) [] (Encode.refused 23 0)
    ∷ writing Up (Message'.LockStatus 300) (0x00 ∷ []) (Encode.refused 23 0)
    ∷ writing Down (Message'.LockStatus 0xFF) [] (Encode.refused 5 2)
    ∷ writing Down Message'.GoIntoBootMode [] (encoded (0x0C ∷ 0x00 ∷ 0x10 ∷ 0x4C ∷ 0x50 ∷ 0x46 ∷ 0x32 ∷ 0x2D ∷ 0x42 ∷ 0x6F ∷ 0x6F ∷ 0x74 ∷ []))
    ∷ []

abbrev written : Writing → Encoded
written w = encode w.way w.message w.opens

abbrev pub Written : List Writing → Type 0
Written rows = map written rows ≡ map (λ w. w.answer) rows

abbrev pub WritingsHold : Type 0
WritingsHold = Written writings
