use Prim.Native.Nat.{◌+◌, ◌*◌, ◌≤◌}
use mathlib.Core.Path.{◌≡◌}
use lib.ListN.{drop}
use Rattle.writer.specs.Slots.{first_outside, type_place}
use Rattle.writer.proofs.fields_listed.Given as goal

abbrev pub invariant-loop-slot : goal.invariant-loop-slot
invariant-loop-slot l = (l.slot-index ≤ 11) × ((2 ≤ l.at) × (l.at ≤ type_place + 9 * l.slot-index)) × (first_outside type_place l.fn.slots ≡ first_outside l.at (drop l.slot-index l.fn.slots))
