use native.Mathlib.Omega.{arith}
use Rattle.rules.specs.Table.{view_of_table}
use Rattle.rules.specs.Cells.{table_at}
use Rattle.soundness.proofs.Sound.{record_tests}
use Rattle.soundness.proofs.is_sound_record.Goals as goal

pub returns-then-settings_fit : goal.returns-then-settings_fit
returns-then-settings_fit c = rw (← record_tests (view_of_table (table_at c.args.table.now)) c.args.place.now c.told-place) (grind arith)

pub returns-else-settings_fit : goal.returns-else-settings_fit
returns-else-settings_fit c = rw (← record_tests (view_of_table (table_at c.args.table.now)) c.args.place.now c.told-place) (grind arith)
