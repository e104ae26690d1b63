use Rattle.log_rules.specs.Record.{experiment_in}
use Rattle.log_lines.proofs.record.experiment_in.Goals as goal

pub returns : goal.returns
unfolding experiment_in
returns c = c.u16_at.ensures
