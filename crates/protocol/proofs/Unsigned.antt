-- A signed number as an unsigned one, over the width: below 0 it is that much less than a whole range, which may be wider
-- than its own.
use Prim.Native.Nat.{ℕ, suc, ◌+◌, ◌-◌, ◌^◌, ◌≤◌, ◌<◌}
use mathlib.Core.Path.{◌≡◌, sym}
use mathlib.Core.Bool.{true, false}
use native.Mathlib.Omega.{arith}
use borrow.Author.Tests.{le-ltb}
use lib.Dec.{T, leb-zero}
use lib.IntN.{ℤ, pos, negsuc, nat_abs, ◌+ℤ◌}
use lib.Signed.{le_z, non_neg}
use mir.Syntax.{Width, w64}
use mir.Val.{hbits, Fits, SFits, to_z, of_z}
use mir.Facts.{to_z-of_z, to_z_pos}

-- what fits a width fits a wider one
pub wider : (v w : Width) → 2 ^ hbits v ≤ 2 ^ hbits w → (z : ℤ) → SFits v z → SFits w z
wider v w h (pos n) f = record { sfits = omega (arith, f.sfits) }
wider v w h (negsuc n) f = record { sfits = omega (arith, f.sfits) }

-- half of the number's own range, the whole range, and what the unsigned number is
module _ (w : Width) (half whole : ℕ) (bits : ℤ → ℕ) (is-half : 2 ^ hbits w ≡ half) (most : half ≤ 2147483648) (room : half ≤ whole) (upper_is : (n : ℕ) → bits (pos n) ≡ n) (lower-is : (n : ℕ) → bits (negsuc n) ≡ whole - suc n) where
  -- not below 0: the number itself
  pub upper : (z : ℤ) → SFits w z → le_z (pos 0) z ≡ true → T (non_neg z) × Fits w64 (nat_abs z)
  upper (pos n) f e = (tt, record { fits = omega (arith, f.sfits) })
  upper (negsuc n) f e = let k : ◌≡◌ {A = ℕ} 0 1 = cc in absurd (omega arith)

  pub upper_bits : (z : ℤ) → le_z (pos 0) z ≡ true → nat_abs z ≡ bits z
  upper_bits (pos n) e = sym (upper_is n)
  upper_bits (negsuc n) e = let k : ◌≡◌ {A = ℕ} 0 1 = cc in absurd (omega arith)

  -- below 0: raised by half of its range it is a number below that
  pub record Raised (z : ℤ) : Type 0 where
    pub by : ℕ
    pub sum : z +ℤ pos half ≡ pos by
    pub small : by < half
    pub bits_are : by + (whole - half) ≡ bits z

  pub raised : (z : ℤ) → SFits w z → le_z (pos 0) z ≡ false → Raised z
  raised (pos n) f e = let k : ◌≡◌ {A = ℕ} 0 1 = cc (leb-zero n) in absurd (omega arith)
  raised (negsuc n) f e =
      let low : suc n ≤ half = omega (arith, f.sfits) in
      record {
        by = half - suc n;
        sum = rw (le-ltb half (suc n) low);
        small = omega arith;
        bits_are = omega (arith, low, lower-is n);
      }

  sum_is : (z : ℤ) → SFits w z → (r : Raised z) → to_z w64 (of_z w64 (to_z w (of_z w z))) +ℤ pos half ≡ pos r.by
  sum_is z f r = rw (to_z-of_z f, to_z-of_z (wider w w64 (omega arith) z f)) r.sum

  pub sum_fits : (z : ℤ) → SFits w z → (r : Raised z) → SFits w64 (to_z w64 (of_z w64 (to_z w (of_z w z))) +ℤ pos half)
  sum_fits z f r = rw (sum_is z f r) (record { sfits = omega (arith, r.small) })

  pub sum_back : (z : ℤ) → SFits w z → (r : Raised z) → to_z w64 (of_z w64 (to_z w64 (of_z w64 (to_z w (of_z w z))) +ℤ pos half)) ≡ pos r.by
  sum_back z f r = rw (sum_is z f r) (to_z_pos w64 (omega (arith, r.small)))
