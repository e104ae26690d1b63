-- Numbers as text, digit by digit.
use Prim.Native.Nat.{ℕ, zero, suc, ◌+◌, ◌/◌, ◌%◌, ◌^◌, ◌≤◌, ◌<◌}
use native.Mathlib.Nat.{pow-zero, pow-suc}
use native.Mathlib.Omega.{arith}
use mathlib.Core.Path.{◌≡◌, refl, ◌∙◌, ap}
use mathlib.Core.Bool.{Bool, true, false}
use mathlib.Core.List.{List, [], ◌∷◌, ◌++◌}
use mathlib.Core.Logic.{⊎_elim}
use lib.Dec.{ltb}
use lib.ListN.{length, length-append}
use borrow.Author.Tests.{lt-ltb, le-ltb, ltb-true, ltb-false}
use Rattle.protocol.proofs.Tests.{which}
use Rattle.log_rules.specs.Decimal.{digit, decimal_by, decimal}

-- any bound above the number gives the same digits
fuel : (f g n : ℕ) → n < f → n < g → (small : Bool) → ltb n 10 ≡ small → decimal_by f small n ≡ decimal_by g small n
fuel zero g n h k small e = absurd (omega arith)
fuel (suc f) zero n h k small e = absurd (omega arith)
fuel (suc f) (suc g) n h k true e = refl
fuel (suc f) (suc g) n h k false e =
    ap (λ (l : List ℕ). l ++ (digit (n % 10) ∷ [])) (fuel f g (n / 10) (omega (arith, ltb-false n 10 e)) (omega (arith, ltb-false n 10 e)) (ltb (n / 10) 10) refl)

-- one digit
pub decimal_one : (n : ℕ) → n < 10 → decimal n ≡ digit n ∷ []
unfolding decimal
decimal_one n h = ap (λ (small : Bool). decimal_by (suc n) small n) (lt-ltb n 10 h)

-- the last digit, and those before it
pub decimal_more : (n : ℕ) → 10 ≤ n → decimal n ≡ decimal (n / 10) ++ (digit (n % 10) ∷ [])
unfolding decimal
decimal_more n h =
    ap (λ (small : Bool). decimal_by (suc n) small n) (le-ltb n 10 h)
    ∙ ap (λ (l : List ℕ). l ++ (digit (n % 10) ∷ [])) (fuel n (suc (n / 10)) (n / 10) (omega arith) (omega arith) (ltb (n / 10) 10) refl)

-- how many digits

pub length_one : (n : ℕ) → n < 10 → length (decimal n) ≡ 1
length_one n h = ap length (decimal_one n h)

pub length_more : (n : ℕ) → 10 ≤ n → length (decimal n) ≡ length (decimal (n / 10)) + 1
length_more n h = ap length (decimal_more n h) ∙ length-append (decimal (n / 10)) (digit (n % 10) ∷ [])

pub length_under : (k n : ℕ) → n < 10 ^ suc k → length (decimal n) ≤ suc k
length_under zero n h = omega (arith, length_one n (omega (arith, pow-suc 10 0, pow-zero 10)))
length_under (suc k) n h =
    ⊎_elim
    (λ (e : ltb n 10 ≡ true). let one : length (decimal n) ≡ 1 = length_one n (ltb-true n 10 e) in omega arith)
    (λ (e : ltb n 10 ≡ false).
    let many : 10 ≤ n = ltb-false n 10 e in
    let fewer : length (decimal (n / 10)) ≤ suc k = length_under k (n / 10) (omega (arith, pow-suc 10 (suc k))) in
    omega (arith, length_more n many))
    (which (ltb n 10))

pub length_some : (n : ℕ) → 1 ≤ length (decimal n)
length_some n =
    ⊎_elim
    (λ (e : ltb n 10 ≡ true). omega (arith, length_one n (ltb-true n 10 e)))
    (λ (e : ltb n 10 ≡ false). omega (arith, length_more n (ltb-false n 10 e)))
    (which (ltb n 10))

-- a u64 has at most twenty
pub length_twenty : (n : ℕ) → n < 2 ^ 64 → length (decimal n) ≤ 20
length_twenty n h = length_under 19 n (omega arith)

-- and the magnitude of an i64 at most nineteen
pub length_nineteen : (n : ℕ) → n ≤ 2 ^ 63 → length (decimal n) ≤ 19
length_nineteen n h = length_under 18 n (omega arith)

-- ---- counting the digits: so many are counted, the last of those that are left among them

pub record Counted (n k rest : ℕ) : Type 0 where
  pub some : 1 ≤ k
  pub sum : k + length (decimal rest) ≡ suc (length (decimal n))

pub counted_start : (n : ℕ) → Counted n 1 n
counted_start n = record { some = omega arith; sum = omega arith }

pub counted_few : {n k rest : ℕ} → n < 2 ^ 64 → Counted n k rest → k ≤ 20
counted_few {n} {k} {rest} h p = omega (arith, length_twenty n h, length_some rest, p.sum)

pub counted_more : {n k rest : ℕ} → Counted n k rest → 10 ≤ rest → Counted n (k + 1) (rest / 10)
counted_more {n} {k} {rest} p h = record { some = omega arith; sum = omega (arith, length_more rest h, p.sum) }

pub counted_all : {n k rest : ℕ} → Counted n k rest → rest < 10 → k ≡ length (decimal n)
counted_all {n} {k} {rest} p h = omega (arith, length_one rest h, p.sum)
