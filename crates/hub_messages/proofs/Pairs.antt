-- Pairs of a port and a feedback, searched pair by pair: the first wrong byte is the feedback of the first pair that has one over 31.
use Prim.Native.Nat.{ℕ, ◌+◌, ◌*◌, ◌/◌, ◌%◌, ◌≤◌, ◌<◌}
use native.Mathlib.Omega.{arith}
use mathlib.Core.Path.{◌≡◌, subst}
use mathlib.Core.Bool.{true, false}
use mathlib.Core.List.{List}
use mathlib.Core.Option.{none, some}
use mathlib.Core.Logic.{⊎_elim}
use borrow.Author.Tests.{ne_eqb, eqb-false, le-leb, lt-leb}
use lib.Dec.{eqb}
use lib.ListN.{length, get_or}
use Rattle.std.specs.Prelude.{Option, Some, None, MatchOption}
use Rattle.hub_messages.proofs.Runs.{found}
use Rattle.protocol.proofs.Tests.{which}
use Rattle.protocol.specs.Form.{feedback, wrong_from}

module _ (run : List ℕ) where
  abbrev pub FirstOver : Option ℕ → Type 0
  FirstOver r = MatchOption r ((k : ℕ) → 0 ≤ k → k < length run / 2 → get_or run (2 * k + 1) 0 ≤ 31) (λ k. (0 ≤ k) × (k < length run / 2) × (31 < get_or run (2 * k + 1) 0) × ((j : ℕ) → 0 ≤ j → j < k → get_or run (2 * j + 1) 0 ≤ 31))

  -- a port may be any byte, and a feedback up to 31
  right : (i : ℕ) → (i % 2 ≡ 1 → get_or run i 0 ≤ 31) → feedback run i ≡ true
  unfolding feedback
  right i small =
      ⊎_elim
      (λ (port : eqb (i % 2) 0 ≡ true). rw port)
      (λ (other : eqb (i % 2) 0 ≡ false). rw (other, le-leb (get_or run i 0) 31 (small (omega (arith, eqb-false (i % 2) 0 other)))))
      (which (eqb (i % 2) 0))

  -- the feedback of a pair, by its index
  of_pair : (n i : ℕ) → ((k : ℕ) → k < n → get_or run (2 * k + 1) 0 ≤ 31) → i < 2 * n → i % 2 ≡ 1 → get_or run i 0 ≤ 31
  of_pair n i small low odd =
      let is : i ≡ 2 * (i / 2) + 1 = omega (arith, odd) in
      rw is (small (i / 2) (omega (arith, is, low)))

  over : (k : ℕ) → 31 < get_or run (2 * k + 1) 0 → feedback run (2 * k + 1) ≡ false
  unfolding feedback
  over k large = rw (ne_eqb ((2 * k + 1) % 2) 0 (omega arith), lt-leb (get_or run (2 * k + 1) 0) 31 large)

  none_over : FirstOver None → wrong_from feedback run 0 (length run) ≡ none
  none_over all =
      (found feedback run None (λ i low high. right i (λ odd. of_pair (length run / 2) i (λ k below. all k (omega arith) below) (omega (arith, odd)) odd))).first

  first_over : (k : ℕ) → FirstOver (Some k) → wrong_from feedback run 0 (length run) ≡ some (2 * k + 1)
  first_over k is =
      (found feedback run (Some (2 * k + 1)) (omega arith, omega (arith, is.1), over k is.2, λ i low high. right i (λ odd. of_pair k i (λ j below. is.3 j (omega arith) below) (omega (arith, odd)) odd))).first

  -- the same of a search whose result is known by an equation
  pub none_found : (r : Option ℕ) → FirstOver r → r ≡ None → wrong_from feedback run 0 (length run) ≡ none
  none_found r found is = none_over (subst FirstOver is found)

  pub first_found : (r : Option ℕ) → FirstOver r → (k : ℕ) → r ≡ Some k → wrong_from feedback run 0 (length run) ≡ some (2 * k + 1)
  first_found r found k is = first_over k (subst FirstOver is found)
