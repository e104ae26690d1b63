-- Laws of the log. They are proved in proofs/Laws.antt.
use Rattle.std.specs.Prelude.{ℕ, zero, suc, ◌+◌, ◌<◌, ◌≡◌, List, [], ◌∷◌, ◌++◌, length, take, drop}
use Rattle.protocol.specs.Number.{Bytes}
use Rattle.log_rules.specs.Record.{record_size, experiment_in}
use Rattle.log_rules.specs.Line.{Line, refused, accepted, values, combined_values}
use Rattle.log_rules.specs.Output.{records, all_lines, output}
use Rattle.log_rules.specs.Cutting.{Run, Step, start, worked, printed, through, text_through, ending, whole_input}
use Rattle.log_rules.specs.Pieces.{after_pieces, pieces_text, joined}

-- however the input is cut and worked through, once no whole record is left, what was printed and the ending are the
-- output of the whole, totals and last piece included; over the size of the message part
abbrev pub AnyCutting : Type 0
AnyCutting = (part : ℕ) (steps : List Step) → length (through part start steps).rest < record_size part → text_through part start steps ++ ending (through part start steps) ≡ output part (whole_input steps)

-- two blocks, one after the other, are the block of their records
abbrev pub BlockAfterBlock : Type 0
BlockAfterBlock = (part n m : ℕ) (r : Run) → (worked part m (worked part n r) ≡ worked part (n + m) r) × (printed part n r ++ printed part m (worked part n r) ≡ printed part (n + m) r)

-- a log in any pieces: what is printed of them, one after the other from the start, and the ending are the output of the whole
abbrev pub PieceByPiece : Type 0
PieceByPiece = (part : ℕ) (pieces : List (List ℕ)) → pieces_text part start pieces ++ ending (after_pieces part start pieces) ≡ output part (joined pieces)

-- the experiment numbers of the first so many records are 0
abbrev pub NumbersZero : ℕ → ℕ → List ℕ → Type 0
NumbersZero part zero s = Unit {0}
NumbersZero part (suc n) s = (experiment_in (take (record_size part) s) ≡ 0) × NumbersZero part n (drop (record_size part) s)

abbrev pub line_experiment : Line → ℕ
line_experiment (refused n) = 0
line_experiment accepted = 0
line_experiment (values port mode state experiment ns) = experiment
line_experiment (combined_values port state experiment p ns) = experiment

abbrev pub ValuesZero : List Line → Type 0
ValuesZero [] = Unit {0}
ValuesZero (l ∷ ls) = (line_experiment l ≡ 0) × ValuesZero ls

-- where every experiment number of a log is 0, as in a log from before there were any, every value's is
abbrev pub NumberlessLog : Type 0
NumberlessLog = (part : ℕ) (s : List ℕ) → Bytes s → NumbersZero part (records part s) s → ValuesZero (all_lines part s)
