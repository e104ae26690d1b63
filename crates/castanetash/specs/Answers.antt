-- What each call gives, before it is held to the room that was lent for it.
use Rattle.std.specs.Prelude.{ℕ, ◌≡◌, cond, List, [], ◌∷◌, ◌++◌, ltb, length, get_or, Result, Ok, Err}
use Rattle.protocol.specs.Decode as Decode
use Rattle.protocol.specs.Decode.{decode, open_part}
use Rattle.protocol.specs.declared.Way.{Way}
use Rattle.protocol.specs.declared.refusal.Refusal.{Refusal}
use Rattle.protocol.specs.declared.refusal.Refusal.TheVariants.{NotFinite}
use Rattle.message_rows.specs.Row.{accepted_row, open_start}
use Rattle.rules.specs.Answer.{Answer, refused, accepted}
use Rattle.rules.specs.Dataset.{Dataset}
use Rattle.log_rules.specs.Block.{block_records}
use Rattle.log_rules.specs.Cutting.{Run, printed}
use Rattle.table.specs.BlockAnswer.{Progress, run_of, block_answer, block_cells}
use Rattle.writer.specs.Writing as Writing
use Rattle.writer.specs.Writing.{WriteAnswer}
use Rattle.answers.specs.Call.{mapped, in_room, call_number, lent_after}
use Rattle.table_cells.specs.Rows.{dataset_row}

-- ---- reading: a message's row

abbrev pub reading_row : ℕ → ℕ → Decode.Answer → Answer (List ℕ)
reading_row size count (Decode.refused n place) = refused n place
reading_row size count (Decode.accepted f vs) = accepted (accepted_row f (open_start size count) count vs)

unfoldable pub read_answer : Way → List ℕ → Answer (List ℕ)
read_answer way s = reading_row (length s) (length (open_part way s)) (decode way s)

-- ---- writing: how many bytes

abbrev pub written_count : WriteAnswer → Answer ℕ
written_count (Writing.refused n place) = refused n place
written_count (Writing.written count) = accepted count

-- ---- all datasets of a message: a row each, and how many they are

abbrev pub dataset_rows : List Dataset → List ℕ
dataset_rows [] = []
dataset_rows (d ∷ ds) = dataset_row d ++ dataset_rows ds

abbrev pub values_in_room : List ℕ → Answer (List Dataset) → Answer (List Dataset)
values_in_room lent a = in_room (length lent) (λ ds. length (dataset_rows ds)) a

abbrev pub values_count : List ℕ → Answer (List Dataset) → Answer ℕ
values_count lent a = mapped length (values_in_room lent a)

abbrev pub values_number : List ℕ → Answer (List Dataset) → ℕ
values_number lent a = call_number (values_count lent a)

abbrev pub values_after : List ℕ → Answer (List Dataset) → List ℕ
values_after lent a = lent_after lent (mapped dataset_rows (values_in_room lent a))

abbrev pub datasets_of : Answer (List Dataset) → List Dataset
datasets_of (refused n place) = []
datasets_of (accepted ds) = ds

-- they are handed out, and so many
abbrev pub Given : Answer (List Dataset) → ℕ → Type 0
Given (refused n place) count = ⊥
Given (accepted ds) count = length ds ≡ count

-- so many where they are all finite; else 18
abbrev pub AllOr18 : Result ℕ Refusal → Answer (List Dataset) → Type 0
AllOr18 (Ok count) a = Given a count
AllOr18 (Err r) a = (r ≡ NotFinite) × (a ≡ refused 18 0)

-- ---- a block of a log: the totals before it are in two cells, and so are those after it

-- no more text than half of the answer can count
abbrev pub most_text : ℕ
most_text = 4294967295

abbrev pub text_room : ℕ → ℕ
text_room room = cond (ltb most_text room) most_text room

abbrev pub run_before : List ℕ → List ℕ → List ℕ → Run
run_before cells totals log = run_of cells (get_or totals 0 0) (get_or totals 1 0) log

abbrev pub totals_row : Progress → List ℕ
totals_row p = p.lines ∷ p.refused ∷ []

-- the text of as many records as there is room for
abbrev pub text_of : Run → ℕ → List ℕ
text_of r room = printed 128 (block_records 128 r (text_room room)) r

unfoldable pub block_call : List ℕ → List ℕ → List ℕ → ℕ → Answer Progress
block_call cells totals log room = in_room (length totals) (λ p. length (totals_row p)) (block_answer 128 (run_before cells totals log) (text_room room))

-- the table afterwards
abbrev pub cells_if : {A : Type 0} → List ℕ → List ℕ → Answer A → List ℕ
cells_if before after (refused n place) = before
cells_if before after (accepted p) = after

unfoldable pub cells_then : List ℕ → List ℕ → List ℕ → ℕ → List ℕ
cells_then cells totals log room = cells_if cells (block_cells 128 (run_before cells totals log) (text_room room)) (block_call cells totals log room)
