-- Two's complement, over half of the range.
use Prim.Native.Nat.{ℕ, zero, suc, ◌+◌, ◌*◌, ◌-◌, ◌^◌, ◌≤◌, ◌<◌}
use native.Mathlib.Nat.{mul-suc, pow-suc, two-pow-succ}
use native.Mathlib.Omega.{arith}
use mathlib.Core.Path.{◌≡◌, refl, sym, ◌∙◌, ap}
use mathlib.Core.Bool.{true, false}
use mathlib.Core.Logic.{⊎_elim}
use borrow.Author.Tests.{lt-ltb, le-ltb, ltb-true, ltb-false}
use lib.Dec.{ltb}
use lib.IntN.{ℤ, pos, negsuc}
use lib.Pow.{pow-add}
use Rattle.protocol.specs.Number.{twos_complement}
use Rattle.protocol.specs.Encode.{of_integer, in_range}
use Rattle.protocol.proofs.Tests.{which}

-- ---- over the width in bytes

pub range : (w : ℕ) → 2 ^ (8 * w) ≡ 256 ^ w
range zero = refl
range (suc w) = rw (mul-suc, pow-add, range w, pow-suc 256 w) refl

pub halves : (w : ℕ) → 1 ≤ w → 256 ^ w ≡ 2 ^ (8 * w - 1) + 2 ^ (8 * w - 1)
halves w h =
    let e : suc (8 * w - 1) ≡ 8 * w = omega arith in
    sym (range w) ∙ ap (λ (k : ℕ). 2 ^ k) (sym e) ∙ two-pow-succ (8 * w - 1)

module _ (w : ℕ) (h : 1 ≤ w) where
  -- read and written again
  pub integer_back : (n : ℕ) → n < 256 ^ w → of_integer w (twos_complement w n) ≡ n
  integer_back n k =
      ⊎_elim
      (λ (low : ltb n (2 ^ (8 * w - 1)) ≡ true). rw low)
      (λ (high : ltb n (2 ^ (8 * w - 1)) ≡ false).
      rw (high, range w) (omega (arith, ltb-false n (2 ^ (8 * w - 1)) high)))
      (which (ltb n (2 ^ (8 * w - 1))))

  pub integer_ranged : (n : ℕ) → n < 256 ^ w → in_range w (twos_complement w n) ≡ true
  integer_ranged n k =
      ⊎_elim
      (λ (low : ltb n (2 ^ (8 * w - 1)) ≡ true). rw low low)
      (λ (high : ltb n (2 ^ (8 * w - 1)) ≡ false).
      rw (high, range w) (lt-ltb (256 ^ w - suc n) (2 ^ (8 * w - 1)) (omega (arith, ltb-false n (2 ^ (8 * w - 1)) high, halves w h))))
      (which (ltb n (2 ^ (8 * w - 1))))

  -- written and read again
  pub integer_lt : (z : ℤ) → in_range w z ≡ true → of_integer w z < 256 ^ w
  integer_lt (pos n) e = omega (arith, ltb-true n (2 ^ (8 * w - 1)) e, halves w h)
  integer_lt (negsuc n) e = rw (range w) (omega (arith, ltb-true n (2 ^ (8 * w - 1)) e, halves w h))

  pub integer_forth : (z : ℤ) → in_range w z ≡ true → twos_complement w (of_integer w z) ≡ z
  integer_forth (pos n) e = rw e
  integer_forth (negsuc n) e =
      let low : n < 2 ^ (8 * w - 1) = ltb-true n (2 ^ (8 * w - 1)) e in
      let far : ltb (2 ^ (8 * w) - suc n) (2 ^ (8 * w - 1)) ≡ false = le-ltb (2 ^ (8 * w) - suc n) (2 ^ (8 * w - 1)) (omega (arith, range w, halves w h)) in
      rw far (ap negsuc (omega (arith, range w, halves w h)))
