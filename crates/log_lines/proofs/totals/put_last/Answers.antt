use Rattle.log_rules.proofs.Endings.{last_written}
use Rattle.log_lines.proofs.totals.put_last.Goals as goal

pub returns : goal.returns
returns c =
    last_written c.args.out.now c.args.lines c.requires.0 c.put_decimal-n.ensures c.put_bytes.ensures
