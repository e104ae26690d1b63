use native.Mathlib.Omega.{arith}
use Rattle.logread.proofs.Endings.{ending_put}
use Rattle.logread.proofs.reading.LogReader.put_end.Goals as goal

pub returns : goal.returns
returns g c =
    let r = c.args.self.now in
    let done = c.put_ending.ensures in
    (omega (arith, done.1), ending_put r.printer.out r.printer.totals.lines r.printer.totals.refused r.held done.0 done.1 done.2)
