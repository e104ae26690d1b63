-- All that is printed of a log: a line for each record and for a short last piece, numbered from 1, and the totals.
use Rattle.std.specs.Prelude.{ℕ, zero, suc, ◌+◌, ◌*◌, ◌/◌, cond, List, [], ◌∷◌, ◌++◌, eqb, length, take, drop}
use Rattle.rules.specs.Cells.{empty_cells}
use Rattle.log_rules.specs.Decimal.{decimal, newline, line_text}
use Rattle.log_rules.specs.Record.{record_size}
use Rattle.log_rules.specs.Line.{Line, refused, record_line, cells_after_record, refusal_of, numbers_of}

-- the lines of the first so many records, and the cells of the table after them
abbrev pub lines_of : ℕ → ℕ → List ℕ → List ℕ → List Line
lines_of part zero cells s = []
lines_of part (suc n) cells s = record_line part cells (take (record_size part) s) ∷ lines_of part n (cells_after_record part cells (take (record_size part) s)) (drop (record_size part) s)

abbrev pub cells_through : ℕ → ℕ → List ℕ → List ℕ → List ℕ
cells_through part zero cells s = cells
cells_through part (suc n) cells s = cells_through part n (cells_after_record part cells (take (record_size part) s)) (drop (record_size part) s)

-- how many whole records
abbrev pub records : ℕ → List ℕ → ℕ
records part s = length s / record_size part

-- a short last piece is a line too: 19
abbrev pub last_line : List ℕ → List Line
last_line [] = []
last_line (b ∷ bs) = refused 19 ∷ []

unfoldable pub all_lines : ℕ → List ℕ → List Line
all_lines part s = lines_of part (records part s) empty_cells s ++ last_line (drop (records part s * record_size part) s)

-- ---- as text

-- numbered on from a number of lines before them
abbrev pub numbered : ℕ → List Line → List ℕ
numbered before [] = []
numbered before (l ∷ ls) = line_text (suc before) (numbers_of l) ++ numbered (suc before) ls

abbrev pub refused_among : List Line → ℕ
refused_among [] = 0
refused_among (l ∷ ls) = cond (eqb (refusal_of l) 0) 0 1 + refused_among ls

-- "total N refused M"
unfoldable pub total_text : ℕ → ℕ → List ℕ
total_text n m = (116 ∷ 111 ∷ 116 ∷ 97 ∷ 108 ∷ 32 ∷ decimal n) ++ (32 ∷ 114 ∷ 101 ∷ 102 ∷ 117 ∷ 115 ∷ 101 ∷ 100 ∷ 32 ∷ decimal m) ++ (newline ∷ [])

-- the total is the number of lines, and the refused are those not 0
unfoldable pub output : ℕ → List ℕ → List ℕ
output part s = numbered 0 (all_lines part s) ++ total_text (length (all_lines part s)) (refused_among (all_lines part s))
