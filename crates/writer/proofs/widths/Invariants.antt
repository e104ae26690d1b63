use Prim.Native.Nat.{◌+◌, ◌*◌, ◌≤◌}
use mathlib.Core.Path.{◌≡◌}
use lib.ListN.{length, drop}
use Rattle.writer.specs.Slots.{slots_bytes}
use Rattle.writer.proofs.widths.Given as goal

abbrev pub invariant-loop-slot : goal.invariant-loop-slot
invariant-loop-slot l = (l.slot-index ≤ 11) × (l.total ≤ 9 * l.slot-index) × (length (slots_bytes l.fn.slots) ≡ l.total + length (slots_bytes (drop l.slot-index l.fn.slots)))
