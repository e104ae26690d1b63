use mathlib.Core.Path.{◌∙◌}
use Rattle.soundness.proofs.Found.{is_known}
use Rattle.rules.proofs.CellsSound.{sound_length}
use Rattle.table.proofs.judge.is_present.Goals as goal

pub returns : goal.returns
returns c = c.is_some.ensures ∙ is_known c.args.table.cells.now (sound_length c.args.table.cells.now c.args.table.tested) c.args.port c.find.result c.find.ensures
