-- A slot that is known by its case.
use Prim.Native.Nat.{ℕ, suc, ◌+◌, ◌-◌, ◌/◌, ◌%◌, ◌≤◌, ◌<◌}
use native.Mathlib.Omega.{arith}
use mathlib.Core.Path.{◌≡◌, refl, sym, ◌∙◌, ap}
use mathlib.Core.Bool.{true}
use mathlib.Core.List.{List, [], ◌∷◌}
use lib.ListN.{length}
use mir.Val.{Val, SFits, of_z}
use mir.Syntax.{w8, w32}
use lib.IntN.{ℤ, pos, negsuc}
use denote.Laws.{Is}
use denote.Enum.Declared.{row}
use Rattle.protocol.specs.Encode.{low_first, high_bytes, of_integer}
use Rattle.protocol.specs.Overwrite.{overwrite}
use Rattle.slots.specs.Slot.{slot_fits, slot_bytes}
use Rattle.slots.specs.declared.Slot.{Slot}
use Rattle.slots.specs.contracts.Slot.{the_type}
use Rattle.slots.proofs.Ranges.{slot_test, tested, slot_width, wide}

pub room_at : (s t : Slot) (at n : ℕ) → s ≡ t → at + length (slot_bytes s) ≤ n → at + slot_width t ≤ n
room_at s t at n e h = rw (sym (wide s ∙ ap slot_width e)) h

pub overwrite_at : (s t : Slot) (d : List ℕ) (at : ℕ) (l : List ℕ) → s ≡ t → l ≡ overwrite d at (slot_bytes t) → l ≡ overwrite d at (slot_bytes s)
overwrite_at s t d at l e h = h ∙ ap (λ (u : Slot). overwrite d at (slot_bytes u)) (sym e)

pub finite_at_lem : (s t : Slot) (vs : List Val) → Is (row the_type) s vs → slot_fits s ≡ true → s ≡ t → slot_test t ≡ true
finite_at_lem s t vs g h e = sym (ap slot_test e) ∙ sym (tested s vs g) ∙ h

-- the bytes of a number, one by one
pub low_byte : (n : ℕ) → n < 256 → low_first 1 n ≡ n ∷ []
unfolding low_first
low_byte n h = let k : n % 256 ≡ n = omega arith in rw k

pub low_4 : (n : ℕ) → low_first 4 n ≡ n % 256 ∷ n / 256 % 256 ∷ n / 65536 % 256 ∷ n / 16777216 % 256 ∷ []
unfolding low_first
low_4 n =
    let two : n / 256 / 256 ≡ n / 65536 = omega arith in
    let three : n / 65536 / 256 ≡ n / 16777216 = omega arith in
    rw (two, three)

pub high_6 : (n : ℕ) → high_bytes 6 n ≡ n / 1099511627776 % 256 ∷ n / 4294967296 % 256 ∷ n / 16777216 % 256 ∷ n / 65536 % 256 ∷ n / 256 % 256 ∷ n % 256 ∷ []
unfolding low_first
high_6 n =
    let two : n / 256 / 256 ≡ n / 65536 = omega arith in
    let three : n / 65536 / 256 ≡ n / 16777216 = omega arith in
    let four : n / 16777216 / 256 ≡ n / 4294967296 = omega arith in
    let five : n / 4294967296 / 256 ≡ n / 1099511627776 = omega arith in
    rw (two, three, four, five)

-- a signed number's bytes are those of its bits
pub bits_1 : (z : ℤ) → SFits w8 z → of_z w8 z ∷ [] ≡ low_first 1 (of_integer 1 z)
bits_1 (pos n) f = sym (low_byte n (omega (arith, f.sfits)))
bits_1 (negsuc n) f = sym (low_byte (256 - suc n) (omega arith))

pub bits_4 : (z : ℤ) → of_z w32 z ≡ of_integer 4 z
bits_4 (pos n) = refl
bits_4 (negsuc n) = refl
