-- A fixed text in a message, as a search for a byte that differs finds it.
use Prim.Native.Nat.{ℕ, zero, suc, ◌+◌, ◌≤◌, ◌<◌}
use native.Mathlib.Omega.{arith}
use native.Mathlib.Nat.{add-zero}
use mathlib.Core.Path.{◌≡◌, refl, sym, ap}
use mathlib.Core.List.{List, [], ◌∷◌}
use borrow.Author.Tests.{eq-eqb, ne_eqb}
use lib.ListN.{length, get_or}
use Rattle.std.specs.Prelude.{Option, Some, None, MatchOption, Ok, Err}
use Rattle.protocol.specs.Field.{outside, values, same_bytes}
use Rattle.protocol.specs.declared.refusal.Refusal.TheVariants.{OutsideList}
use Rattle.hub_messages.specs.Outcome.{outcome}

later : (at k : ℕ) → at + 1 + k ≡ at + suc k
later at k = omega arith

module _ (s : List ℕ) where
  all_same : (text : List ℕ) (at : ℕ) → ((k : ℕ) → k < length text → get_or s (at + k) 0 ≡ get_or text k 0) → same_bytes s at text ≡ values []
  unfolding same_bytes
  all_same [] at all = refl
  all_same (b ∷ bs) at all =
      let first : get_or s at 0 ≡ b = rw add-zero at (all 0 (omega arith)) in
      rw (eq-eqb (get_or s at 0) b first) (all_same bs (at + 1) (λ k h. rw (later at k) (all (suc k) (omega arith))))

  first_other : (text : List ℕ) (at i : ℕ) → i < length text → ((k : ℕ) → k < i → get_or s (at + k) 0 ≡ get_or text k 0) → (get_or s (at + i) 0 ≡ get_or text i 0 → ⊥) → same_bytes s at text ≡ outside (at + i)
  unfolding same_bytes
  first_other [] at i h all n = absurd (omega arith)
  first_other (b ∷ bs) at zero h all n =
      let differs : get_or s at 0 ≡ b → ⊥ = rw add-zero at n in
      rw (ne_eqb (get_or s at 0) b differs, add-zero)
  first_other (b ∷ bs) at (suc i) h all n =
      let first : get_or s at 0 ≡ b = rw add-zero at (all 0 (omega arith)) in
      rw (eq-eqb (get_or s at 0) b first, ← later at i)
      (first_other bs (at + 1) i (omega arith) (λ k less. rw (later at k) (all (suc k) (omega arith))) (λ e. n (rw (← later at i) e)))

  pub compared : (text : List ℕ) (at : ℕ) (r : Option ℕ) → MatchOption r ((k : ℕ) → 0 ≤ k → k < length text → get_or s (at + k) 0 ≡ get_or text k 0) (λ i. (0 ≤ i) × (i < length text) × (get_or s (at + i) 0 ≡ get_or text i 0 → ⊥) × ((k : ℕ) → 0 ≤ k → k < i → get_or s (at + k) 0 ≡ get_or text k 0))
      → MatchOption r (Ok tt ≡ outcome (same_bytes s at text)) (λ i. Err (OutsideList (at + i)) ≡ outcome (same_bytes s at text))
  compared text at None all = ap outcome (sym (all_same text at (λ k h. all k (omega arith) h)))
  compared text at (Some i) is = ap outcome (sym (first_other text at i is.1 (λ k h. is.3 k (omega arith) h) is.2))
