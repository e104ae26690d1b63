use Rattle.writer.proofs.Walk.{Put}
use Rattle.writer.proofs.put_slots.Given as goal

abbrev pub invariant-loop-slot : goal.invariant-loop-slot
invariant-loop-slot l = Put l.initial.out l.fn.slots l.out l.at l.slot-index
