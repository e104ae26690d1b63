-- What the functions of the program do to the run of a log: its table, its totals, and the input that was not worked through
-- yet. What a read brings and what a write takes no contract can say.
use Rattle.std.specs.Prelude.{ℕ, ◌*◌, ◌≤◌, ◌≡◌, Bool, true, false, not, List, eqb, length, take, Result, IfOk, OnOk}
use Rattle.protocol.specs.Overwrite.{overwrite}
use Rattle.log_rules.specs.Record.{record_size}
use Rattle.log_rules.specs.Output.{records}
use Rattle.log_rules.specs.Cutting.{Run, worked, printed}
use Rattle.log_rules.specs.Pieces.{with_more, all_worked}
use Rattle.log_rules.specs.Block.{block_records}
use Rattle.log_rules.specs.Ending.{ending_in}
use Rattle.log_lines.specs.declared.totals.Totals.{Totals}
use Rattle.logread.specs.declared.reading.Printer.{Printer}
use Rattle.logread.specs.declared.reading.LogReader.{LogReader}

-- the run at which a printer stands, with so much of the input behind it
abbrev pub run_with : {O : Type 0} → Printer O → List ℕ → Run
run_with p rest = record { cells = p.table; lines = p.totals.lines; refused = p.totals.refused; rest = rest }

-- the run at which a reader stands: the bytes that are held at the start of the buffer are what is left
abbrev pub run_at : {R O : Type 0} → LogReader R O → Run
run_at reader = run_with reader.printer (take reader.held reader.input)

-- so many records were worked through
pub record Through {O : Type 0} (r : Run) (n : ℕ) (p : Printer O) : Type 0 where
  pub most : n * record_size 128 ≤ length r.rest
  pub cells : p.table ≡ (worked 128 n r).cells
  pub lines : p.totals.lines ≡ (worked 128 n r).lines
  pub refused : p.totals.refused ≡ (worked 128 n r).refused

-- a block, as the output has room for it, and its lines at the start of the output
pub record BlockDone {O E : Type 0} (r : Run) (before : List ℕ) (p : Printer O) (answer : Result ℕ E) : Type 0 where
  pub through : Through r (block_records 128 r (length before)) p
  pub taken : IfOk answer (λ n. n ≡ block_records 128 r (length before) * record_size 128)
  pub text : p.out ≡ overwrite before 0 (printed 128 (block_records 128 r (length before)) r)

-- all whole records, unless it failed before
pub record RecordsDone {O E : Type 0} (r : Run) (p : Printer O) (answer : Result ℕ E) : Type 0 where
  pub count : ℕ
  pub through : Through r count p
  pub taken : IfOk answer (λ n. n ≡ count * record_size 128)
  pub all : OnOk answer (count ≡ records 128 r.rest)

-- all whole records of what is there were worked through, and the rest is held
abbrev pub TakenIn : {E : Type 0} → Run → Run → Result Unit E → Type 0
TakenIn r after answer = OnOk answer (after ≡ all_worked 128 r)

-- one piece came
pub record Came (r after : Run) : Type 0 where
  pub piece : List ℕ
  pub worked_off : after ≡ all_worked 128 (with_more r piece)

-- one piece came, or nothing at the end of the input
abbrev pub Went : Run → Run → Bool → Type 0
Went r after true = Came r after
Went r after false = after ≡ r

abbrev pub Stepped : {E : Type 0} → Run → Run → Result Bool E → Type 0
Stepped r after answer = IfOk answer (Went r after)

-- what is printed at the end of the input, in an output of so many bytes
abbrev pub ending_of : ℕ → ℕ → Totals → List ℕ
ending_of room held totals = ending_in room totals.lines totals.refused (not (eqb held 0))
