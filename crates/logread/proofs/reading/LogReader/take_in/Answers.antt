use Rattle.logread.proofs.Reached.{taken_in}
use Rattle.logread.proofs.reading.LogReader.take_in.Goals as goal

pub returns : goal.returns
returns g c =
    let r = c.args.self.now in
    taken_in r.printer r.input c.args.end c.requires c.print_records.ensures c.in_ok-taken.was {input' = c.copy_within.new.self} c.copy_within.ensures.after
