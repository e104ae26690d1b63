use Rattle.std.proofs.Common.{rules, refl}
use Rattle.logread.proofs.Records.{passed_more, records_failed}
use Rattle.logread.proofs.reading.Printer.print_records.Goals as goal

pub returns-in_err-taken : goal.returns-in_err-taken
returns-in_err-taken g c =
    let none = passed_more c.loop-rest.invariant c.print_block.ensures.through refl in
    records_failed none c.from_residual.result (search rules)

pub loop-rest-preserved : goal.loop-rest-preserved
loop-rest-preserved g c = passed_more c.loop-rest.invariant c.print_block.ensures.through (search rules)
