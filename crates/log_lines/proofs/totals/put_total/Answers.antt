use Rattle.log_rules.proofs.Endings.{total_written}
use Rattle.log_lines.proofs.totals.put_total.Goals as goal

pub returns : goal.returns
returns c =
    total_written c.args.out.now c.args.at c.args.totals.lines c.args.totals.refused c.requires c.put_bytes.ensures c.put_decimal-n.ensures c.put_bytes-2.ensures c.put_decimal-m.ensures c.put_byte.ensures
