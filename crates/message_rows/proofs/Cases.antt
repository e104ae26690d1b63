-- Numbers filled up with 0, and what a signed one is.
use Prim.Native.Nat.{ℕ, zero, suc, ◌-◌, ◌≤◌}
use native.Mathlib.Nat.{sub-zero}
use native.Mathlib.Omega.{arith}
use mathlib.Core.Path.{◌≡◌, refl, sym, ◌∙◌, ap}
use mathlib.Core.List.{List, [], ◌∷◌, ◌++◌}
use lib.IntN.{ℤ, pos, negsuc}
use lib.ListN.{length, replicate}
use mir.Syntax.{w64}
use mir.Val.{of_z}
use Rattle.protocol.specs.Field.{integer}
use Rattle.message_rows.specs.Row.{number_of, padded}

pub padded_is : (k : ℕ) (ns : List ℕ) → length ns ≤ k → ns ++ replicate (k - length ns) 0 ≡ padded k ns
padded_is zero [] h = refl
padded_is zero (n ∷ ns) h = absurd (omega arith)
padded_is (suc k) [] h =
    ap (λ (i : ℕ). replicate i 0) (sub-zero (suc k)) ∙ ap (λ (l : List ℕ). 0 ∷ l) (ap (λ (i : ℕ). replicate i 0) (sym (sub-zero k)) ∙ padded_is k [] (omega arith))
padded_is (suc k) (n ∷ ns) h =
    let less : suc k - length (n ∷ ns) ≡ k - length ns = omega arith in
    ap (λ (i : ℕ). n ∷ (ns ++ replicate i 0)) less ∙ ap (λ (l : List ℕ). n ∷ l) (padded_is k ns (omega arith))

pub number_is : (z : ℤ) → of_z w64 z ≡ number_of (integer z)
number_is (pos n) = refl
number_is (negsuc n) = refl
