-- A log that comes in pieces: each piece joins what is left of those before it, and then all whole records that are there
-- are worked through.
use Rattle.std.specs.Prelude.{ℕ, List, [], ◌∷◌, ◌++◌}
use Rattle.log_rules.specs.Output.{records}
use Rattle.log_rules.specs.Cutting.{Run, worked, printed}

-- more of the input
abbrev pub with_more : Run → List ℕ → Run
with_more r s = record { cells = r.cells; lines = r.lines; refused = r.refused; rest = r.rest ++ s }

-- all whole records that are there, and their lines
abbrev pub all_worked : ℕ → Run → Run
all_worked part r = worked part (records part r.rest) r

abbrev pub all_printed : ℕ → Run → List ℕ
all_printed part r = printed part (records part r.rest) r

-- piece after piece
abbrev pub after_pieces : ℕ → Run → List (List ℕ) → Run
after_pieces part r [] = r
after_pieces part r (s ∷ pieces) = after_pieces part (all_worked part (with_more r s)) pieces

abbrev pub pieces_text : ℕ → Run → List (List ℕ) → List ℕ
pieces_text part r [] = []
pieces_text part r (s ∷ pieces) = all_printed part (with_more r s) ++ pieces_text part (all_worked part (with_more r s)) pieces

-- the whole input
abbrev pub joined : List (List ℕ) → List ℕ
joined [] = []
joined (s ∷ pieces) = s ++ joined pieces
