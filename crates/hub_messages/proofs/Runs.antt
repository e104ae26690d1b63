-- The first byte of an open run that is not as it must be, as a search through its indexes finds it.
use Prim.Native.Nat.{ℕ, zero, suc, ◌+◌, ◌≤◌, ◌<◌}
use native.Mathlib.Omega.{arith}
use mathlib.Core.Path.{◌≡◌, refl}
use mathlib.Core.Bool.{Bool, true, false}
use mathlib.Core.List.{List, [], ◌∷◌}
use mathlib.Core.Option.{none, some}
use mathlib.Core.Logic.{⊎_elim}
use borrow.Author.Tests.{ltb-true, ltb-false}
use lib.Dec.{eqb, ltb}
use lib.ListN.{length}
use Rattle.std.specs.Prelude.{Option, Some, None, MatchOption, IfSome}
use Rattle.std.specs.List.{list_any}
use Rattle.protocol.proofs.Tests.{which}
use Rattle.protocol.specs.Rule.{one_of}
use Rattle.protocol.specs.Form.{wrong_from}

module _ (test : List ℕ → ℕ → Bool) (run : List ℕ) where
  none_wrong : (n i : ℕ) → ((k : ℕ) → i ≤ k → k < i + n → test run k ≡ true) → wrong_from test run i n ≡ none
  none_wrong zero i all = refl
  none_wrong (suc n) i all = rw (all i (omega arith) (omega arith)) (none_wrong n (suc i) (λ k low high. all k (omega arith) (omega arith)))

  first_is : (n i at : ℕ) → i ≤ at → at < i + n → ((k : ℕ) → i ≤ k → k < at → test run k ≡ true) → test run at ≡ false → wrong_from test run i n ≡ some at
  first_is zero i at low high all e = absurd (omega arith)
  first_is (suc n) i at low high all e =
      ⊎_elim
      (λ (before : ltb i at ≡ true).
      let less : i < at = ltb-true i at before in
      rw (all i (omega arith) less) (first_is n (suc i) at less (omega arith) (λ k near far. all k (omega arith) far) e))
      (λ (here : ltb i at ≡ false).
      let same : at ≡ i = omega (arith, ltb-false i at here) in
      let wrong = rw same at e in
      rw (wrong, same))
      (which (ltb i at))

  -- what a search through all indexes finds: none at which the test fails, or the first
  pub record Found (r : Option ℕ) : Type 0 where
    pub first : MatchOption r (wrong_from test run 0 (length run) ≡ none) (λ i. wrong_from test run 0 (length run) ≡ some i)
    pub inside : IfSome r (λ i. i < length run)

  pub found : (r : Option ℕ) → MatchOption r ((k : ℕ) → 0 ≤ k → k < length run → test run k ≡ true) (λ i. (0 ≤ i) × (i < length run) × (test run i ≡ false) × ((k : ℕ) → 0 ≤ k → k < i → test run k ≡ true)) → Found r
  found None all = record { first = none_wrong (length run) 0 (λ k low high. all k low (omega arith)); inside = tt }
  found (Some i) is = record { first = first_is (length run) 0 i is.0 (omega (arith, is.1)) is.3 is.2; inside = is.1 }

-- a byte among others
pub one_of_any : (bytes : List ℕ) (byte : ℕ) → one_of bytes byte ≡ list_any (λ b. eqb b byte) bytes
one_of_any [] byte = refl
one_of_any (b ∷ bs) byte = grind (arith, one_of_any bs byte)
