-- A signed number's text, by the code's test of its sign.
use Prim.Native.Nat.{ℕ, ◌<◌}
use native.Mathlib.Omega.{arith}
use mathlib.Core.Path.{◌≡◌, refl, sym, ◌∙◌, ap}
use mathlib.Core.Bool.{true, false}
use mathlib.Core.List.{◌∷◌}
use lib.Dec.{leb-zero}
use lib.IntN.{ℤ, pos, negsuc, nat_abs}
use lib.Signed.{le_z}
use mir.Facts.{to_z-of_z}
use mir.Syntax.{w64}
use mir.Val.{SFits, to_z, of_z}
use Rattle.log_rules.specs.Decimal.{minus, decimal, signed_decimal}

-- what a test of the sign says

record Upper (z : ℤ) : Type 0 where
  n : ℕ
  is : z ≡ pos n
  small : n < 9223372036854775808

record Lower (z : ℤ) : Type 0 where
  k : ℕ
  is : z ≡ negsuc k
  small : k < 9223372036854775808

upper : (z : ℤ) → SFits w64 z → le_z (pos 0) z ≡ true → Upper z
upper (pos n) f e = record { n = n; is = refl; small = omega (arith, f.sfits) }
upper (negsuc n) f e = let k : ◌≡◌ {A = ℕ} 0 1 = cc in absurd (omega arith)

lower : (z : ℤ) → SFits w64 z → le_z (pos 0) z ≡ false → Lower z
lower (pos n) f e = let k : ◌≡◌ {A = ℕ} 0 1 = cc (leb-zero n) in absurd (omega arith)
lower (negsuc n) f e = record { k = n; is = refl; small = omega (arith, f.sfits) }

module _ (z : ℤ) (f : SFits w64 z) where
  -- the number as it is read again
  abbrev again : ℤ
  again = to_z w64 (of_z w64 z)

  module _ (e : le_z (pos 0) again ≡ true) where
    abbrev u : Upper z
    u = upper z f (sym (ap (le_z (pos 0)) (to_z-of_z f)) ∙ e)

    again_upper : again ≡ pos u.n
    again_upper = to_z-of_z f ∙ u.is

    pub upper_text : (m : ℕ) → m ≡ nat_abs again → decimal m ≡ signed_decimal z
    upper_text m is = ap decimal (is ∙ ap nat_abs again_upper) ∙ sym (ap signed_decimal u.is)

  module _ (e : le_z (pos 0) again ≡ false) where
    abbrev l : Lower z
    l = lower z f (sym (ap (le_z (pos 0)) (to_z-of_z f)) ∙ e)

    pub lower_text : (m : ℕ) → m ≡ nat_abs again → minus ∷ decimal m ≡ signed_decimal z
    lower_text m is = ap (λ (n : ℕ). minus ∷ decimal n) (is ∙ ap nat_abs (to_z-of_z f ∙ l.is)) ∙ sym (ap signed_decimal l.is)
