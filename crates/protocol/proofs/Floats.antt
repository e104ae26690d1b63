-- Which bit patterns of an f32 are finite.
use Prim.Native.Nat.{ℕ, zero, suc, ◌+◌, ◌/◌, ◌%◌}
use mathlib.Core.Path.{◌≡◌, refl}
use mathlib.Core.Bool.{Bool, true, false, not, cond}
use lib.Dec.{T, eqb}
use lib.Ieee.{Float, nan, inf, fin, binary32, of_bits, of_fields, odd, is_nan, nan_bits}
use lib.Ieee.Bits.{nan_bits_is}
use native.Mathlib.Omega.{arith}
use Rattle.protocol.specs.Number.{is_finite}

odd_finite : (d : ℕ) (s : Bool) (q k l : ℕ) → is_finite (odd d s q k l) ≡ true
unfolding odd
odd_finite d s zero k l = refl
odd_finite d s (suc q) k l = refl

infinity_or_nan : (b : Bool) (s : Bool) → is_finite (cond b (inf s) nan) ≡ false
infinity_or_nan true s = refl
infinity_or_nan false s = refl

all_ones : (a b : Bool) (s : Bool) (v : Float) → is_finite v ≡ true → is_finite (cond a (cond b (inf s) nan) v) ≡ not a
all_ones true b s v e = infinity_or_nan b s
all_ones false b s v e = e

fields_finite : (s : Bool) (x t : ℕ) → is_finite (of_fields binary32 s x t) ≡ not (eqb x 255)
unfolding of_fields
fields_finite s zero t = odd_finite 24 s t 0 149
fields_finite s (suc x) t = all_ones (eqb (suc x) 255) (eqb t 0) s (odd 24 s (8388608 + t) x 149) (odd_finite 24 s (8388608 + t) x 149)

-- an f32 is finite exactly if its exponent's field is not all ones
pub finite_bits : (n : ℕ) → is_finite (of_bits binary32 n) ≡ not (eqb (n % 2147483648 / 8388608) 255)
unfolding of_bits
finite_bits n = fields_finite _ (n % 2147483648 / 8388608) (n % 8388608)

pub not_nan : (v : Float) → is_finite v ≡ true → T (not (is_nan v))
unfolding is_nan
not_nan nan e = let z : ◌≡◌ {A = ℕ} 0 1 = cc in absurd (omega arith)
not_nan (inf s) e = tt
not_nan (fin s m x) e = tt

-- so its bits are no NaN's
pub finite_bits_not_nan : (n : ℕ) → is_finite (of_bits binary32 n) ≡ true → T (not (nan_bits binary32 n))
finite_bits_not_nan n e = rw nan_bits_is (not_nan (of_bits binary32 n) e)
