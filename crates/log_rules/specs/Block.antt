-- A block of a log: as many of its records as there is room for.
use Rattle.std.specs.Prelude.{ℕ, zero, suc, ◌-◌, Bool, cond, ◌&&◌, leb, ltb, length}
use Rattle.log_rules.specs.Record.{record_size}
use Rattle.log_rules.specs.Cutting.{Run, worked, printed}
use Rattle.log_rules.specs.Ending.{most_count}

-- no line is longer: at most 22 numbers of 20 characters, a sign among them, each with a space or the line's end
abbrev pub line_room : ℕ
line_room = 462

-- a whole record is there, the output has room for any line, and the totals can count one more
abbrev pub goes_on : ℕ → Run → ℕ → Bool
goes_on part r room = leb (record_size part) (length r.rest) && leb line_room room && ltb r.lines most_count && ltb r.refused most_count

-- how many records, of at most so many
abbrev pub records_in : ℕ → ℕ → Run → ℕ → ℕ
records_in part zero r room = 0
records_in part (suc most) r room = cond (goes_on part r room) (suc (records_in part most (worked part 1 r) (room - length (printed part 1 r)))) 0

-- an input has fewer records than bytes
unfoldable pub block_records : ℕ → Run → ℕ → ℕ
block_records part r room = records_in part (length r.rest) r room
