use Rattle.log_rules.proofs.Records.{looked_start, looked_one, looked_all}
use Rattle.log_lines.proofs.record.all_zero.Goals as goal

pub loop-b-init : goal.loop-b-init
loop-b-init c = looked_start c.args.s.now

pub loop-b-preserved : goal.loop-b-preserved
loop-b-preserved c = looked_one c.loop-b.invariant c.loop-b-test.true

pub returns : goal.returns
returns c = looked_all c.loop-b.invariant c.loop-b-test.false
