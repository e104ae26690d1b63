-- Numbers as text, in ASCII.
use Rattle.std.specs.Prelude.{ℕ, zero, suc, ◌+◌, ◌/◌, ◌%◌, Bool, true, false, List, [], ◌∷◌, ◌++◌, ltb, ℤ, pos, negsuc}

abbrev pub digit : ℕ → ℕ
digit n = 48 + n

-- with at most so many digits, by whether the number is below 10
abbrev pub decimal_by : ℕ → Bool → ℕ → List ℕ
decimal_by zero small n = []
decimal_by (suc k) true n = digit n ∷ []
decimal_by (suc k) false n = decimal_by k (ltb (n / 10) 10) (n / 10) ++ (digit (n % 10) ∷ [])

-- the fewest digits; a number has no more digits than it counts, and one
unfoldable pub decimal : ℕ → List ℕ
decimal n = decimal_by (suc n) (ltb n 10) n

abbrev pub minus : ℕ
minus = 45

-- below 0 with a minus sign, else no sign (`negsuc k` is -(k + 1))
abbrev pub signed_decimal : ℤ → List ℕ
signed_decimal (pos n) = decimal n
signed_decimal (negsuc k) = minus ∷ decimal (suc k)

abbrev pub space : ℕ
space = 32

abbrev pub newline : ℕ
newline = 10

-- each with a space before it, and the end of the line
abbrev pub spaced : List ℤ → List ℕ
spaced [] = newline ∷ []
spaced (n ∷ ns) = space ∷ (signed_decimal n ++ spaced ns)

-- a line: its own number and those after it, with single spaces between them
abbrev pub line_text : ℕ → List ℤ → List ℕ
line_text n ns = decimal n ++ spaced ns
