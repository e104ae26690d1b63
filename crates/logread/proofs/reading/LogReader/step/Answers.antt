use Prim.Native.Nat.{◌-◌}
use borrow.Rule.Slice.PartMut.{put_mid, take_put}
use Rattle.logread.specs.Reading.{run_at}
use Rattle.logread.proofs.Reached.{piece_came}
use Rattle.logread.proofs.reading.LogReader.step.Goals as goal

pub returns : goal.returns
returns g c =
    let r = c.args.self.now in
    let input = put_mid r.held (65536 - r.held) r.input c.read.new.buf in
    piece_came r.printer r.input r.held input (take_put r.held (65536 - r.held) r.input c.read.new.buf r.within) c.in_ok-count.count {after = run_at c.take_in.new.self} c.in_ok-take_in.ensures
