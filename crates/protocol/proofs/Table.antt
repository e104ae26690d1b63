-- A table's rule, proved at all of its entries by one test that is computed over the whole table.
use Prim.Native.Nat.{ℕ, zero, suc, ◌+◌, ◌<◌}
use native.Mathlib.Nat.{add-zero, zero-add, add-suc, suc-add, le_of_suc-le-suc, not-suc-le-zero}
use mathlib.Core.Path.{◌≡◌, refl, sym}
use mathlib.Core.Bool.{Bool, true, false, ◌&&◌}
use mathlib.Core.List.{List, [], ◌∷◌}
use Rattle.protocol.proofs.Tests.{and_left, and_right}
use lib.ListN.{length, get_or}

-- the test passes at each entry and its place, counted from i
abbrev pub every : {A : Type 0} → (ℕ → A → Bool) → ℕ → List A → Bool
every test i [] = true
every test i (x ∷ xs) = test i x && every test (suc i) xs

from : {A : Type 0} (test : ℕ → A → Bool) (d : A) (xs : List A) (i : ℕ) → every test i xs ≡ true → (k : ℕ) → k < length xs → test (i + k) (get_or xs k d) ≡ true
from test d [] i t k h = absurd (not-suc-le-zero h)
from test d (x ∷ xs) i t zero h = rw add-zero (and_left (test i x) (every test (suc i) xs) t)
from test d (x ∷ xs) i t (suc k) h = rw (add-suc, ← suc-add i k) (from test d xs (suc i) (and_right (test i x) (every test (suc i) xs) t) k (le_of_suc-le-suc h))

pub entry : {A : Type 0} (test : ℕ → A → Bool) (d : A) (xs : List A) → every test 0 xs ≡ true → (k : ℕ) → k < length xs → test k (get_or xs k d) ≡ true
entry test d xs t k h = rw zero-add at (from test d xs 0 t k h)

abbrev pub same : Bool → Bool → Bool
same true b = b
same false true = false
same false false = true

pub same_eq : (a b : Bool) → same a b ≡ true → a ≡ b
same_eq true b e = sym e
same_eq false true e = e
same_eq false false e = refl
