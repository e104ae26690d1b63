use mathlib.Core.Path.{ap}
use mathlib.Core.Bool.{Bool}
use Rattle.std.specs.Prelude.{Some, None}
use Rattle.rules.specs.Answer.{tested}
use Rattle.rules.specs.Judge.{refusal_if_full}
use Rattle.soundness.proofs.Found.{is_full}
use Rattle.rules.proofs.CellsSound.{sound_length}
use Rattle.table.proofs.judge.full_refusal.Goals as goal

pub returns-in-Some : goal.returns-in-Some
returns-in-Some c = ap (λ (b : Bool). tested (refusal_if_full b)) (is_full c.args.table.cells.now (sound_length c.args.table.cells.now c.args.table.tested) (Some _) c.in-Some.ensures)

pub returns-in-None : goal.returns-in-None
returns-in-None c = ap (λ (b : Bool). tested (refusal_if_full b)) (is_full c.args.table.cells.now (sound_length c.args.table.cells.now c.args.table.tested) None c.in-None.ensures)
