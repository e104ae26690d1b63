use native.Mathlib.Omega.{arith}
use mathlib.Core.List.{[], ◌∷◌}
use mathlib.Core.Path.{◌≡◌, refl, sym, ◌∙◌, ap}
use mir.Syntax.{w8, w32}
use mir.Facts.{to_z-of_z}
use mir.Val.{SFits, of_z}
use lib.IntN.{ℤ}
use Rattle.std.specs.Int.{to_le_bytes}
use lib.ListN.{length}
use Rattle.protocol.proofs.Floats.{not_nan}
use Rattle.protocol.proofs.Overwrite.{overwrite_nothing}
use Rattle.protocol.specs.Overwrite.{overwrite}
use Rattle.protocol.specs.Encode.{low_first}
use Rattle.slots.specs.Slot.{slot_bytes}
use Rattle.slots.proofs.Ranges.{wide, slot_width}
use Rattle.writer.proofs.Cases.{room_at, overwrite_at, finite_at_lem, low_byte, low_4, high_6, bits_1, bits_4}
use borrow.Author.Rules.{rules}
use Rattle.writer.proofs.put.put_slot.Goals as goal

pub put_bytes-requires : goal.put_bytes-requires
put_bytes-requires c =
    rw c.to_le_bytes.ensures (room_at _ _ _ _ c.in-SignedByte.is c.requires.0)

pub put_bytes-requires-in-SignedSpeed : goal.put_bytes-requires-in-SignedSpeed
put_bytes-requires-in-SignedSpeed c =
    rw c.to_le_bytes-in-SignedSpeed.ensures (room_at _ _ _ _ c.in-SignedSpeed.is c.requires.0)

pub put_bytes-requires-in-Word : goal.put_bytes-requires-in-Word
put_bytes-requires-in-Word c =
    rw c.to_le_bytes-in-Word.ensures (room_at _ _ _ _ c.in-Word.is c.requires.0)

pub put_bytes-requires-in-Long : goal.put_bytes-requires-in-Long
put_bytes-requires-in-Long c =
    rw c.to_le_bytes-in-Long.ensures (room_at _ _ _ _ c.in-Long.is c.requires.0)

pub put_bytes-requires-in-SignedLong : goal.put_bytes-requires-in-SignedLong
put_bytes-requires-in-SignedLong c =
    rw c.to_le_bytes-in-SignedLong.ensures (room_at _ _ _ _ c.in-SignedLong.is c.requires.0)

pub put_bytes-requires-in-Degrees : goal.put_bytes-requires-in-Degrees
put_bytes-requires-in-Degrees c =
    rw c.to_le_bytes-in-Degrees.ensures (room_at _ _ _ _ c.in-Degrees.is c.requires.0)

pub put_bytes-requires-in-Float : goal.put_bytes-requires-in-Float
put_bytes-requires-in-Float c =
    rw c.to_le_bytes-in-Float.ensures (room_at _ _ _ _ c.in-Float.is c.requires.0)

pub put_bytes-requires-in-HighFirst : goal.put_bytes-requires-in-HighFirst
put_bytes-requires-in-HighFirst c =
    rw c.to_be_bytes.ensures (room_at _ _ _ _ c.in-HighFirst.is c.requires.0)

pub to_le_bytes-requires-in-Float : goal.to_le_bytes-requires-in-Float
to_le_bytes-requires-in-Float c =
    not_nan c.in-Float.x (finite_at_lem _ _ _ c.well_formed.1.1.0 c.requires.1 c.in-Float.is)

pub put_bytes-requires-in-BootString : goal.put_bytes-requires-in-BootString
put_bytes-requires-in-BootString c =
    room_at _ _ _ _ c.in-BootString.is c.requires.0

pub put_bytes-requires-in-LockString : goal.put_bytes-requires-in-LockString
put_bytes-requires-in-LockString c =
    room_at _ _ _ _ c.in-LockString.is c.requires.0

pub put_bytes-requires-in-Byte : goal.put_bytes-requires-in-Byte
put_bytes-requires-in-Byte c =
    let w : length (slot_bytes c.args.slot) ≡ slot_width c.args.slot = wide c.args.slot in
    let room = c.requires.0 in
    grind arith

pub returns-in-Nothing : goal.returns-in-Nothing
unfolding slot_bytes
returns-in-Nothing c =
    let a = c.args in
    overwrite_at _ _ a.out.now a.at _ c.in-Nothing.is (sym (overwrite_nothing a.out.now a.at))

pub returns-in-SignedByte : goal.returns-in-SignedByte
unfolding slot_bytes low_first
returns-in-SignedByte c =
    let a = c.args in
    let f : SFits w8 c.in-SignedByte.value = record { sfits = search rules } in
    overwrite_at _ _ a.out.now a.at _ c.in-SignedByte.is (c.put_bytes.ensures ∙ ap (overwrite a.out.now a.at) (c.to_le_bytes.ensures ∙ ap (λ (z : ℤ). of_z w8 z ∷ []) (to_z-of_z f) ∙ bits_1 c.in-SignedByte.value f))

pub returns-in-SignedSpeed : goal.returns-in-SignedSpeed
unfolding slot_bytes low_first
returns-in-SignedSpeed c =
    let a = c.args in
    let f : SFits w8 c.in-SignedSpeed.value = record { sfits = search rules } in
    overwrite_at _ _ a.out.now a.at _ c.in-SignedSpeed.is (c.put_bytes-in-SignedSpeed.ensures ∙ ap (overwrite a.out.now a.at) (c.to_le_bytes-in-SignedSpeed.ensures ∙ ap (λ (z : ℤ). of_z w8 z ∷ []) (to_z-of_z f) ∙ bits_1 c.in-SignedSpeed.value f))

pub returns-in-Word : goal.returns-in-Word
unfolding slot_bytes low_first
returns-in-Word c =
    let a = c.args in
    overwrite_at _ _ a.out.now a.at _ c.in-Word.is (c.put_bytes-in-Word.ensures ∙ ap (overwrite a.out.now a.at) (c.to_le_bytes-in-Word.ensures ∙ refl))

pub returns-in-Long : goal.returns-in-Long
unfolding slot_bytes low_first
returns-in-Long c =
    let a = c.args in
    overwrite_at _ _ a.out.now a.at _ c.in-Long.is (c.put_bytes-in-Long.ensures ∙ ap (overwrite a.out.now a.at) (c.to_le_bytes-in-Long.ensures ∙ sym (low_4 _)))

pub returns-in-SignedLong : goal.returns-in-SignedLong
unfolding slot_bytes low_first
returns-in-SignedLong c =
    let a = c.args in
    let f : SFits w32 c.in-SignedLong.value = record { sfits = search rules } in
    overwrite_at _ _ a.out.now a.at _ c.in-SignedLong.is (c.put_bytes-in-SignedLong.ensures ∙ ap (overwrite a.out.now a.at) (c.to_le_bytes-in-SignedLong.ensures ∙ ap (λ (z : ℤ). to_le_bytes w32 (of_z w32 z)) (to_z-of_z f) ∙ ap (to_le_bytes w32) (bits_4 c.in-SignedLong.value) ∙ sym (low_4 _)))

pub returns-in-Degrees : goal.returns-in-Degrees
unfolding slot_bytes low_first
returns-in-Degrees c =
    let a = c.args in
    let f : SFits w32 c.in-Degrees.value = record { sfits = search rules } in
    overwrite_at _ _ a.out.now a.at _ c.in-Degrees.is (c.put_bytes-in-Degrees.ensures ∙ ap (overwrite a.out.now a.at) (c.to_le_bytes-in-Degrees.ensures ∙ ap (λ (z : ℤ). to_le_bytes w32 (of_z w32 z)) (to_z-of_z f) ∙ ap (to_le_bytes w32) (bits_4 c.in-Degrees.value) ∙ sym (low_4 _)))

pub returns-in-HighFirst : goal.returns-in-HighFirst
unfolding slot_bytes low_first
returns-in-HighFirst c =
    let a = c.args in
    overwrite_at _ _ a.out.now a.at _ c.in-HighFirst.is (c.put_bytes-in-HighFirst.ensures ∙ ap (overwrite a.out.now a.at) (rw c.to_be_bytes.ensures (sym (high_6 _))))

pub returns-in-Float : goal.returns-in-Float
unfolding slot_bytes low_first
returns-in-Float c =
    let a = c.args in
    overwrite_at _ _ a.out.now a.at _ c.in-Float.is (c.put_bytes-in-Float.ensures ∙ ap (overwrite a.out.now a.at) (c.to_le_bytes-in-Float.ensures ∙ sym (low_4 _)))

pub returns-in-BootString : goal.returns-in-BootString
unfolding slot_bytes low_first
returns-in-BootString c =
    let a = c.args in
    overwrite_at _ _ a.out.now a.at _ c.in-BootString.is (c.put_bytes-in-BootString.ensures ∙ ap (overwrite a.out.now a.at) (refl))

pub returns-in-LockString : goal.returns-in-LockString
unfolding slot_bytes low_first
returns-in-LockString c =
    let a = c.args in
    overwrite_at _ _ a.out.now a.at _ c.in-LockString.is (c.put_bytes-in-LockString.ensures ∙ ap (overwrite a.out.now a.at) (refl))

pub returns-in-Byte : goal.returns-in-Byte
unfolding slot_bytes
returns-in-Byte c =
    let b : low_first 1 c.in-Byte.value ≡ c.in-Byte.value ∷ [] = low_byte c.in-Byte.value (search rules) in
    grind arith
