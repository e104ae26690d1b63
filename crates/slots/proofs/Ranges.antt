-- What a slot's type says of its value, and so which tests are left.
use Prim.Native.Nat.{ℕ, ◌^◌, ◌<◌}
use mathlib.Core.Path.{◌≡◌, refl, ◌∙◌}
use mathlib.Core.Bool.{Bool, true, false, ◌&&◌}
use mathlib.Core.List.{List}
use borrow.Author.Tests.{lt-ltb}
use lib.Dec.{leb, ltb}
use lib.IntN.{ℤ, pos, negsuc}
use lib.Ieee.{binary32, to_bits}
use lib.Ieee as Ieee
use Rattle.std.specs.Float.{float_is_finite}
use lib.ListN.{length, length-reverse}
use lib.Signed.{mag}
use mir.Syntax.{Width}
use mir.Val.{Val, hbits, to_z, of_z}
use mir.Facts.{to_z-of_z}
use denote.Laws.{Is}
use denote.Enum.Laws.{owed}
use denote.Enum.Declared.{row}
use Rattle.protocol.proofs.Bytes.{low_length}
use Rattle.protocol.specs.Number.{is_finite}
use Rattle.protocol.specs.Rule as Rule
use Rattle.protocol.specs.Form.{information_type, alert_status, start_byte, end_state, signed_speed, degrees}
use Rattle.protocol.specs.Encode.{low_first, in_range, of_integer}
use Rattle.slots.specs.contracts.Slot.{the_type}
use Rattle.slots.proofs.Slot.TheLaws.{the_laws}
use Rattle.slots.specs.Slot.{slot_fits, slot_bytes}
use Rattle.slots.specs.declared.Slot.{Slot}
use Rattle.slots.specs.declared.Slot.TheVariants as Slot'

-- a signed number that fits its width is the same in its bits
pub same : (w : Width) (z : ℤ) → mag z < 2 ^ hbits w → to_z w (of_z w z) ≡ z
same w z h = to_z-of_z (record { sfits = h })

-- what the tests come to for values of their types
abbrev pub slot_test : Slot → Bool
slot_test Slot'.Nothing = true
slot_test (Slot'.Byte v) = true
slot_test (Slot'.UpTo most v) = leb v most
slot_test (Slot'.Between least most v) = Rule.between least most v
slot_test (Slot'.InformationType v) = information_type v
slot_test (Slot'.AlertStatus v) = alert_status v
slot_test (Slot'.Word v) = true
slot_test (Slot'.Long v) = true
slot_test (Slot'.SignedByte v) = true
slot_test (Slot'.SignedLong v) = true
slot_test (Slot'.HighFirst v) = ltb v 281474976710656
slot_test (Slot'.Float x) = is_finite x
slot_test Slot'.BootString = true
slot_test Slot'.LockString = true
slot_test (Slot'.StartByte v) = start_byte v
slot_test (Slot'.EndState v) = end_state v
slot_test (Slot'.SignedSpeed v) = signed_speed v
slot_test (Slot'.Degrees v) = degrees v

-- std's test of a float
pub finite_same : (x : Ieee.Float) → float_is_finite x ≡ is_finite x
unfolding float_is_finite
finite_same Ieee.nan = refl
finite_same (Ieee.inf s) = refl
finite_same (Ieee.fin s m e) = refl

numbered : (n most : ℕ) (rest : Bool) → n < most → (ltb n most && rest) ≡ rest
numbered n most rest h = rw (lt-ltb n most h)

signed_byte : (z : ℤ) (rest : Bool) → mag z < 128 → (in_range 1 z && rest) ≡ rest
signed_byte (pos n) rest f = numbered n 128 rest f
signed_byte (negsuc n) rest f = numbered n 128 rest f

signed_long : (z : ℤ) (rest : Bool) → mag z < 2147483648 → (in_range 4 z && rest) ≡ rest
signed_long (pos n) rest f = numbered n 2147483648 rest f
signed_long (negsuc n) rest f = numbered n 2147483648 rest f

and_true : (a b : Bool) → b ≡ true → (a && b) ≡ a
and_true true b e = e
and_true false b e = refl

pub tested : (s : Slot) (vs : List Val) → Is (row the_type) s vs → slot_fits s ≡ slot_test s
unfolding slot_fits
tested Slot'.Nothing vs g = refl
tested (Slot'.Byte v) vs g = numbered v 256 true (owed the_type the_laws (Slot'.Byte v) vs g).0.1
tested (Slot'.UpTo most v) vs g = numbered v 256 (leb v most) (owed the_type the_laws (Slot'.UpTo most v) vs g).1.0.1
tested (Slot'.Between least most v) vs g = numbered v 256 (Rule.between least most v) (owed the_type the_laws (Slot'.Between least most v) vs g).1.1.0.1
tested (Slot'.InformationType v) vs g = numbered v 256 (information_type v) (owed the_type the_laws (Slot'.InformationType v) vs g).0.1
tested (Slot'.AlertStatus v) vs g = numbered v 256 (alert_status v) (owed the_type the_laws (Slot'.AlertStatus v) vs g).0.1
tested (Slot'.Word v) vs g = numbered v 65536 true (owed the_type the_laws (Slot'.Word v) vs g).0.1
tested (Slot'.Long v) vs g = numbered v 4294967296 true (owed the_type the_laws (Slot'.Long v) vs g).0.1
tested (Slot'.SignedByte v) vs g = signed_byte v true (owed the_type the_laws (Slot'.SignedByte v) vs g).0.1
tested (Slot'.SignedLong v) vs g = signed_long v true (owed the_type the_laws (Slot'.SignedLong v) vs g).0.1
tested (Slot'.HighFirst v) vs g = refl
tested (Slot'.Float x) vs g = and_true (is_finite x) (Ieee.fits binary32 x) (owed the_type the_laws (Slot'.Float x) vs g).0.1
tested Slot'.BootString vs g = refl
tested Slot'.LockString vs g = refl
tested (Slot'.StartByte v) vs g = numbered v 256 (start_byte v) (owed the_type the_laws (Slot'.StartByte v) vs g).0.1
tested (Slot'.EndState v) vs g = numbered v 256 (end_state v) (owed the_type the_laws (Slot'.EndState v) vs g).0.1
tested (Slot'.SignedSpeed v) vs g = signed_byte v (signed_speed v) (owed the_type the_laws (Slot'.SignedSpeed v) vs g).0.1
tested (Slot'.Degrees v) vs g = signed_long v (degrees v) (owed the_type the_laws (Slot'.Degrees v) vs g).0.1

-- how many bytes a slot takes
abbrev pub slot_width : Slot → ℕ
slot_width Slot'.Nothing = 0
slot_width (Slot'.Byte v) = 1
slot_width (Slot'.UpTo most v) = 1
slot_width (Slot'.Between least most v) = 1
slot_width (Slot'.InformationType v) = 1
slot_width (Slot'.AlertStatus v) = 1
slot_width (Slot'.Word v) = 2
slot_width (Slot'.Long v) = 4
slot_width (Slot'.SignedByte v) = 1
slot_width (Slot'.SignedLong v) = 4
slot_width (Slot'.HighFirst v) = 6
slot_width (Slot'.Float x) = 4
slot_width Slot'.BootString = 9
slot_width Slot'.LockString = 8
slot_width (Slot'.StartByte v) = 1
slot_width (Slot'.EndState v) = 1
slot_width (Slot'.SignedSpeed v) = 1
slot_width (Slot'.Degrees v) = 4

pub wide : (s : Slot) → length (slot_bytes s) ≡ slot_width s
unfolding slot_bytes
wide Slot'.Nothing = refl
wide (Slot'.Byte v) = low_length 1 v
wide (Slot'.UpTo most v) = low_length 1 v
wide (Slot'.Between least most v) = low_length 1 v
wide (Slot'.InformationType v) = low_length 1 v
wide (Slot'.AlertStatus v) = low_length 1 v
wide (Slot'.Word v) = low_length 2 v
wide (Slot'.Long v) = low_length 4 v
wide (Slot'.SignedByte v) = low_length 1 (of_integer 1 v)
wide (Slot'.SignedLong v) = low_length 4 (of_integer 4 v)
wide (Slot'.HighFirst v) = length-reverse (low_first 6 v) ∙ low_length 6 v
wide (Slot'.Float x) = low_length 4 (to_bits binary32 x)
wide Slot'.BootString = refl
wide Slot'.LockString = refl
wide (Slot'.StartByte v) = low_length 1 v
wide (Slot'.EndState v) = low_length 1 v
wide (Slot'.SignedSpeed v) = low_length 1 (of_integer 1 v)
wide (Slot'.Degrees v) = low_length 4 (of_integer 4 v)
