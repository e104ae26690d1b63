use Prim.Native.Nat.{ℕ, ◌%◌, ◌<◌, ◌≤◌}
use mathlib.Core.Path.{◌≡◌, refl, sym, ◌∙◌, ap}
use mathlib.Core.Bool.{true, not}
use borrow.Author.Tests.{lt-ltb, le-ltb}
use lib.Dec.{T}
use lib.Ieee.{Float, nan, inf, fin, binary32, of_bits, is_nan, nan_bits}
use lib.Ieee.Bits.{nan_bits_is, nan_bits_above}
use native.Mathlib.Omega.{arith}
use Rattle.numbers.proofs.f32_at.Goals as goal

the_nan : (v : Float) → is_nan v ≡ true → v ≡ nan
unfolding is_nan
the_nan nan e = refl
the_nan (inf s) e = let z : ◌≡◌ {A = ℕ} 0 1 = cc in absurd (omega arith)
the_nan (fin s m x) e = let z : ◌≡◌ {A = ℕ} 0 1 = cc in absurd (omega arith)

above_is_nan : (n : ℕ) → 2139095040 < n % 2147483648 → of_bits binary32 n ≡ nan
above_is_nan n h = the_nan (of_bits binary32 n) (sym (nan_bits_is binary32 n) ∙ nan_bits_above binary32 n ∙ lt-ltb _ _ h)

not_above : (n : ℕ) → n % 2147483648 ≤ 2139095040 → T (not (nan_bits binary32 n))
not_above n h = rw (nan_bits_above binary32 n, le-ltb _ _ h) tt

pub returns-then-bits-gt2139095040 : goal.returns-then-bits-gt2139095040
returns-then-bits-gt2139095040 c = above_is_nan 2143289344 (omega arith) ∙ sym (above_is_nan c.u32_at-bits.result c.if-bits-gt2139095040.true) ∙ ap (of_bits binary32) c.u32_at-bits.ensures

pub float_from_bits-result : goal.float_from_bits-result
float_from_bits-result c = not_above c.u32_at-bits.result c.if-bits-gt2139095040.false

pub returns : goal.returns
returns c = ap (of_bits binary32) c.u32_at-bits.ensures
