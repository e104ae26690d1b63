-- Working through a log piece by piece: more of the input comes, or some of the records that are there are worked through.
use Rattle.std.specs.Prelude.{ℕ, ◌+◌, ◌*◌, min, List, [], ◌∷◌, ◌++◌, length, drop}
use Rattle.rules.specs.Cells.{empty_cells}
use Rattle.log_rules.specs.Record.{record_size}
use Rattle.log_rules.specs.Output.{lines_of, cells_through, records, last_line, numbered, refused_among, total_text}

pub data Step : Type 0 where
  more : List ℕ → Step
  -- so many records, or all that are there whole
  work : ℕ → Step

-- the table's cells, the totals so far, and the input that was not worked through yet
pub record Run : Type 0 where
  pub cells : List ℕ
  pub lines : ℕ
  pub refused : ℕ
  pub rest : List ℕ

abbrev pub start : Run
start = record { cells = empty_cells; lines = 0; refused = 0; rest = [] }

abbrev pub worked : ℕ → ℕ → Run → Run
worked part n r = record {
  cells = cells_through part n r.cells r.rest;
  lines = r.lines + n;
  refused = r.refused + refused_among (lines_of part n r.cells r.rest);
  rest = drop (n * record_size part) r.rest;
}

abbrev pub printed : ℕ → ℕ → Run → List ℕ
printed part n r = numbered r.lines (lines_of part n r.cells r.rest)

abbrev pub step : ℕ → Run → Step → Run
step part r (more s) = record { cells = r.cells; lines = r.lines; refused = r.refused; rest = r.rest ++ s }
step part r (work n) = worked part (min n (records part r.rest)) r

abbrev pub step_text : ℕ → Run → Step → List ℕ
step_text part r (more s) = []
step_text part r (work n) = printed part (min n (records part r.rest)) r

-- through a list of steps
abbrev pub through : ℕ → Run → List Step → Run
through part r [] = r
through part r (x ∷ xs) = through part (step part r x) xs

abbrev pub text_through : ℕ → Run → List Step → List ℕ
text_through part r [] = []
text_through part r (x ∷ xs) = step_text part r x ++ text_through part (step part r x) xs

-- at the end of the input: what is left is a short last piece, then the totals
abbrev pub ending : Run → List ℕ
ending r = let ls = last_line r.rest in numbered r.lines ls ++ total_text (r.lines + length ls) (r.refused + refused_among ls)

-- the whole input
abbrev pub whole_input : List Step → List ℕ
whole_input [] = []
whole_input (more s ∷ xs) = s ++ whole_input xs
whole_input (work n ∷ xs) = whole_input xs
