use Rattle.writer.proofs.Copying.{Copied}
use Rattle.writer.proofs.put.put_bytes.Given as goal

abbrev pub invariant-loop-i : goal.invariant-loop-i
invariant-loop-i l = Copied l.initial.out l.at l.bytes l.i l.out
