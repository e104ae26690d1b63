-- A float as its bits, at a NaN too.
use Prim.Native.Nat.{ℕ, ◌*◌}
use mathlib.Core.Path.{◌≡◌, refl}
use mathlib.Core.Bool.{Bool, true, false, not, ◌&&◌, ◌||◌}
use native.Mathlib.Omega.{arith}
use borrow.Author.Tests.{eq-eqb}
use lib.Dec.{T, eqb}
use lib.Ieee.{Float, nan, inf, fin, binary32, up, down, eq, is_nan, to_bits}
use mathlib.Core.Bool.{beq}

same_sign : (s : Bool) → beq s s ≡ true
same_sign true = refl
same_sign false = refl

level_self : (s : Bool) (a : ℕ) → (eqb a a && (beq s s || eqb a 0)) ≡ true
level_self s a = rw (eq-eqb a a refl, same_sign s)

-- a float equals itself unless it is a NaN
pub self_equal : (x : Float) → eq x x ≡ not (is_nan x)
unfolding eq is_nan
self_equal nan = refl
self_equal (inf s) = same_sign s
self_equal (fin s m e) = level_self s (m * up e * down e)

pub equal_no_nan : (x : Float) → eq x x ≡ true → T (not (is_nan x))
equal_no_nan x e = rw (← self_equal x, e) tt

pub unequal_nan : (x : Float) → eq x x ≡ false → to_bits binary32 x ≡ 0x7fc00000
unfolding eq to_bits
unequal_nan nan e = refl
unequal_nan (inf s) e = let z : ◌≡◌ {A = ℕ} 0 1 = cc (same_sign s) in absurd (omega arith)
unequal_nan (fin s m k) e = let z : ◌≡◌ {A = ℕ} 0 1 = cc (level_self s (m * up k * down k)) in absurd (omega arith)
