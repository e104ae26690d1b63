-- Working through a block of a log: 9 where the table isn't sound, else how much input was taken and how much text was
-- written, and the totals. Then document 01's answer for what the code gives.
use Rattle.std.specs.Prelude.{ℕ, ◌*◌, ◌≤◌, cond, List, length, Result, Ok, Err}
use Rattle.protocol.specs.declared.refusal.Refusal.{Refusal}
use Rattle.rules.specs.Answer.{Answer, refused, accepted, answered}
use Rattle.rules.specs.Cells.{sound}
use Rattle.log_rules.specs.Record.{record_size}
use Rattle.protocol.specs.Overwrite.{overwrite}
use Rattle.log_rules.specs.Cutting.{Run, worked, printed}
use Rattle.log_rules.specs.Block.{block_records}
use Rattle.table.specs.declared.block.Block.{Block}

pub record Progress : Type 0 where
  pub taken : ℕ
  pub written : ℕ
  pub lines : ℕ
  pub refused : ℕ

abbrev pub progress_of : Block → Progress
progress_of b = record { taken = b.taken; written = b.written; lines = b.totals.lines; refused = b.totals.refused }

abbrev pub answer_of : Result Block Refusal → Answer Progress
answer_of = answered progress_of

-- it takes no more input than there is, and no more room
abbrev pub block_fits : Result Block Refusal → ℕ → ℕ → Type 0
block_fits (Err r) size room = Unit {0}
block_fits (Ok b) size room = (b.taken ≤ size) × (b.written ≤ room)

-- before the block
abbrev pub run_of : List ℕ → ℕ → ℕ → List ℕ → Run
run_of cells lines refused' input = record { cells = cells; lines = lines; refused = refused'; rest = input }

-- so many records of it
abbrev pub progress : ℕ → Run → ℕ → Progress
progress part r n = record { taken = n * record_size part; written = length (printed part n r); lines = (worked part n r).lines; refused = (worked part n r).refused }

unfoldable pub block_answer : ℕ → Run → ℕ → Answer Progress
block_answer part r room = cond (sound r.cells) (accepted (progress part r (block_records part r room))) (refused 9 0)

unfoldable pub block_cells : ℕ → Run → ℕ → List ℕ
block_cells part r room = cond (sound r.cells) (worked part (block_records part r room) r).cells r.cells

unfoldable pub block_text : ℕ → Run → List ℕ → List ℕ
block_text part r out = cond (sound r.cells) (overwrite out 0 (printed part (block_records part r (length out)) r)) out
