-- Which values a field may have: its list, in document 01's words.
use Rattle.std.specs.Prelude.{ℕ, suc, Bool, true, false, ◌&&◌, ◌||◌, List, [], ◌∷◌, leb, eqb, ℤ, pos, negsuc}

abbrev pub Rule : Type 0
Rule = ℕ → Bool

abbrev pub any : Rule
any n = true

abbrev pub up_to : ℕ → Rule
up_to most n = leb n most

abbrev pub between : ℕ → ℕ → Rule
between least most n = leb least n && leb n most

abbrev pub one_of : List ℕ → Rule
one_of [] n = false
one_of (v ∷ vs) n = eqb n v || one_of vs n

abbrev pub either : Rule → Rule → Rule
either a b n = a n || b n

-- the same of signed numbers
abbrev pub SignedRule : Type 0
SignedRule = ℤ → Bool

abbrev pub any_signed : SignedRule
any_signed z = true

-- from minus one number to another (`negsuc n` is -(n + 1))
abbrev pub from_minus : ℕ → ℕ → SignedRule
from_minus least most (pos n) = leb n most
from_minus least most (negsuc n) = leb (suc n) least
