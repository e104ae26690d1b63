-- An array made by a function that gives what is wanted at each index and stays as it was.
use Prim.Native.Nat.{ℕ, zero, suc, ◌+◌, ◌≤◌, ◌<◌}
use native.Mathlib.Omega.{arith}
use mathlib.Core.Path.{◌≡◌, ◌∙◌, subst}
use mathlib.Core.Bool.{true, false}
use mathlib.Core.List.{List}
use mathlib.Core.Logic.{⊎_elim}
use borrow.Author.Tests.{ltb-true, ltb-false}
use denote.Param.Members.{Mut, Called}
use lib.Dec.{ltb}
use lib.ListN.{get_or}
use Rattle.std.specs.Array.{IsFromFnResultFrom}
use Rattle.protocol.proofs.Tests.{which}

module _ {F : Type 0} (g : Mut F (ℕ × Unit {0}) ℕ) (f : F) (want : ℕ → ℕ) (calls : (i y : ℕ) (q : F) → Called g f (i, tt) y q → (q ≡ f) × (y ≡ want i)) (ys : List ℕ) where
  pub each : (n i : ℕ) → IsFromFnResultFrom g f ys i n → (k : ℕ) → i ≤ k → k < i + n → get_or ys k 0 ≡ want k
  each zero i made k low high = absurd (omega arith)
  each (suc n) i made k low high =
      let call = calls i made.1 made.0 made.3 in
      ⊎_elim
      (λ (after : ltb i k ≡ true). each n (i + 1) (subst (λ (q : F). IsFromFnResultFrom g q ys (i + 1) n) call.0 made.4) k (omega (arith, ltb-true i k after)) (omega arith))
      (λ (here : ltb i k ≡ false).
      let same : k ≡ i = omega (arith, ltb-false i k here) in
      rw same (made.2.1 0 ∙ call.1))
      (which (ltb i k))
