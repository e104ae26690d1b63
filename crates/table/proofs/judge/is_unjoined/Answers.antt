use mathlib.Core.Path.{sym, ◌∙◌, ap}
use Rattle.rules.specs.Judge.{present_unjoined}
use Rattle.table.proofs.Judging.{unjoined_at}
use Rattle.table.proofs.judge.is_unjoined.Goals as goal

pub returns : goal.returns
returns c = sym (ap present_unjoined c.in-Ok.ensures.1 ∙ unjoined_at c.args.table.cells.now c.in-Ok.place)
