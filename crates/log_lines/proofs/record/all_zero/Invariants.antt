use Rattle.log_rules.proofs.Records.{Looked}
use Rattle.log_lines.proofs.record.all_zero.Given as goal

abbrev pub invariant-loop-b : goal.invariant-loop-b
invariant-loop-b l = Looked l.s l.found l.b-index
