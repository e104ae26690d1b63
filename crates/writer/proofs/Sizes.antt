-- The smallest size of a message's form, by its slots.
use Prim.Native.Nat.{ℕ, ◌+◌}
use native.Mathlib.Omega.{arith}
use mathlib.Core.Path.{◌≡◌, refl, ◌∙◌, ap}
use mathlib.Core.List.{List, [], ◌∷◌, ◌++◌, append-nil}
use lib.ListN.{length, length-append}
use Rattle.protocol.specs.Field.{Field, Value, widths}
use Rattle.protocol.specs.Form.{Rest, layout, least_rest}
use Rattle.protocol.specs.Answer.{form_of, values_of}
use Rattle.protocol.specs.Decode.{fields_end, smallest_size}
use Rattle.protocol.specs.Encode.{after_fields}
use Rattle.protocol.specs.declared.Message.{Message}
use Rattle.slots.proofs.Ranges.{slot_width, wide}
use Rattle.slots.specs.Slot.{slot_bytes, slot_fields, Slotted, word_fields}
use Rattle.slots.specs.declared.Slot.{Slot}
use Rattle.slots.specs.declared.Slot.TheVariants as Slot'
use Rattle.writer.specs.Slots.{slots_bytes, type_place}

-- slots are as wide as their fields
one_more : (s : Slot) (ss : List Slot) → length (slots_bytes ss) ≡ widths (slot_fields ss) → length (slots_bytes (s ∷ ss)) ≡ slot_width s + widths (slot_fields ss)
one_more s ss all = omega (arith, length-append (slot_bytes s) (slots_bytes ss), wide s, all)

slots_width : (ss : List Slot) → length (slots_bytes ss) ≡ widths (slot_fields ss)
unfolding slot_bytes
slots_width [] = refl
slots_width (Slot'.Nothing ∷ ss) = slots_width ss
slots_width (Slot'.Byte v ∷ ss) = one_more (Slot'.Byte v) ss (slots_width ss)
slots_width (Slot'.UpTo most v ∷ ss) = one_more (Slot'.UpTo most v) ss (slots_width ss)
slots_width (Slot'.Between least most v ∷ ss) = one_more (Slot'.Between least most v) ss (slots_width ss)
slots_width (Slot'.InformationType v ∷ ss) = one_more (Slot'.InformationType v) ss (slots_width ss)
slots_width (Slot'.AlertStatus v ∷ ss) = one_more (Slot'.AlertStatus v) ss (slots_width ss)
slots_width (Slot'.Word v ∷ ss) = one_more (Slot'.Word v) ss (slots_width ss)
slots_width (Slot'.Long v ∷ ss) = one_more (Slot'.Long v) ss (slots_width ss)
slots_width (Slot'.SignedByte v ∷ ss) = one_more (Slot'.SignedByte v) ss (slots_width ss)
slots_width (Slot'.SignedLong v ∷ ss) = one_more (Slot'.SignedLong v) ss (slots_width ss)
slots_width (Slot'.HighFirst v ∷ ss) = one_more (Slot'.HighFirst v) ss (slots_width ss)
slots_width (Slot'.Float x ∷ ss) = one_more (Slot'.Float x) ss (slots_width ss)
slots_width (Slot'.BootString ∷ ss) = one_more Slot'.BootString ss (slots_width ss)
slots_width (Slot'.LockString ∷ ss) = one_more Slot'.LockString ss (slots_width ss)
slots_width (Slot'.StartByte v ∷ ss) = one_more (Slot'.StartByte v) ss (slots_width ss)
slots_width (Slot'.EndState v ∷ ss) = one_more (Slot'.EndState v) ss (slots_width ss)
slots_width (Slot'.SignedSpeed v ∷ ss) = one_more (Slot'.SignedSpeed v) ss (slots_width ss)
slots_width (Slot'.Degrees v ∷ ss) = one_more (Slot'.Degrees v) ss (slots_width ss)

-- slots without words end where the fields do
slots_end : (m : Message) (slots : List Slot) → Slotted m slots → word_fields (layout (form_of m)).rest (after_fields (layout (form_of m)).fields (values_of m)) ≡ []
    → type_place + length (slots_bytes slots) ≡ fields_end (form_of m)
slots_end m slots x none =
    let fs : List Field = (layout (form_of m)).fields in
    let all : widths (slot_fields slots) ≡ 1 + widths fs = ap widths x.fields ∙ ap (λ (l : List Field). 1 + widths l) (ap (λ (l : List Field). fs ++ l) none ∙ append-nil fs) in
    omega (arith, slots_width slots, all)

-- and the smallest size is there and the least that follows
pub smallest_is : (m : Message) (slots : List Slot) → Slotted m slots → (w : ℕ) → w ≡ length (slots_bytes slots)
    → (r : Rest) → (layout (form_of m)).rest ≡ r → ((vs : List Value) → word_fields r vs ≡ []) → type_place + w + least_rest r ≡ smallest_size (form_of m)
smallest_is m slots x w is r follows none =
    let vs : List Value = after_fields (layout (form_of m)).fields (values_of m) in
    omega (arith, is, slots_end m slots x (ap (λ (rest : Rest). word_fields rest vs) follows ∙ none vs), ap least_rest follows)

-- of a message that is known by its case
pub smallest_of : {m n : Message} {slots : List Slot} {w : ℕ} → m ≡ n → Slotted m slots → w ≡ length (slots_bytes slots) → ((vs : List Value) → word_fields (layout (form_of n)).rest vs ≡ [])
    → type_place + w + least_rest (layout (form_of n)).rest ≡ smallest_size (form_of m)
smallest_of {m} {n} {slots} {w} e x is none = smallest_is m slots x w is (layout (form_of n)).rest (ap (λ (k : Message). (layout (form_of k)).rest) e) none
