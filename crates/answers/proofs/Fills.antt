-- Cells that are filled with a row which is known by an equation.
use Prim.Native.Nat.{ℕ}
use mathlib.Core.Path.{◌≡◌, ◌∙◌, ap}
use mathlib.Core.List.{List}
use Rattle.rules.specs.Answer.{Answer, refused}
use Rattle.answers.specs.Call.{call_number, row_count, row_number, row_after}

-- how much was written, and the cells afterwards, are those of an answer
abbrev pub Filled : List ℕ → Answer (List ℕ) → Answer ℕ → List ℕ → Type 0
Filled lent a n last = (n ≡ row_count lent a) × (last ≡ row_after lent a)

pub filled_as : (lent : List ℕ) {a b : Answer (List ℕ)} {last : List ℕ} {n : Answer ℕ} → a ≡ b → Filled lent a n last → Filled lent b n last
filled_as lent e filled = (filled.0 ∙ ap (row_count lent) e, filled.1 ∙ ap (row_after lent) e)

-- a refusal leaves the cells as they are
pub refused_as : (lent : List ℕ) (n place : ℕ) {a : Answer (List ℕ)} → refused n place ≡ a → Filled lent a (refused n place) lent
refused_as lent n place e = (ap (row_count lent) e, ap (row_after lent) e)

-- the number of such a call
pub numbered_as : (lent : List ℕ) {a b : Answer (List ℕ)} {last : List ℕ} {n : Answer ℕ} {r : ℕ} → a ≡ b → r ≡ call_number n → Filled lent a n last → (r ≡ row_number lent b) × (last ≡ row_after lent b)
numbered_as lent e is filled = (is ∙ ap call_number (filled.0 ∙ ap (row_count lent) e), filled.1 ∙ ap (row_after lent) e)
