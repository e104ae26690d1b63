-- A list of signed numbers, from minus one number to another, as two tests.
use Prim.Native.Nat.{ℕ, zero, suc}
use native.Mathlib.Omega.{arith}
use mathlib.Core.Path.{◌≡◌, refl, sym}
use mathlib.Core.Bool.{true, false}
use borrow.Author.Tests.{ltb-true, ltb-false, le-leb, lt-leb}
use lib.IntN.{ℤ, pos, negsuc, neg_ℤ}
use lib.Signed.{lt_z, le_z}
use Rattle.protocol.specs.Rule.{from_minus}
use Rattle.protocol.proofs.FieldTrip.{never}

-- a number below the first is not in the list
pub below : (least most : ℕ) (z : ℤ) → lt_z z (neg_ℤ (pos least)) ≡ true → from_minus least most z ≡ false
below zero most (pos n) e = absurd (omega (arith, ltb-true n 0 e))
below zero most (negsuc n) e = lt-leb (suc n) 0 (omega arith)
below (suc k) most (pos n) e = never e
below (suc k) most (negsuc n) e = lt-leb (suc n) (suc k) (omega (arith, ltb-true k n e))

-- any other is, unless it is above the second
pub not_below : (least most : ℕ) (z : ℤ) → lt_z z (neg_ℤ (pos least)) ≡ false → le_z z (pos most) ≡ from_minus least most z
not_below zero most (pos n) e = refl
not_below zero most (negsuc n) e = never (sym e)
not_below (suc k) most (pos n) e = refl
not_below (suc k) most (negsuc n) e = sym (le-leb (suc n) (suc k) (omega (arith, ltb-false k n e)))
