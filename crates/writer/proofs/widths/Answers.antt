use Prim.Native.Nat.{ℕ}
use mathlib.Core.Path.{◌≡◌, ap}
use native.Mathlib.Omega.{arith}
use mathlib.Core.List.{List}
use lib.ListN.{length, drop, drop_of_length-le}
use Rattle.writer.proofs.Walk.{width_here}
use Rattle.writer.specs.Slots.{slots_bytes}
use Rattle.slots.specs.declared.Slot.{Slot}
use Rattle.slots.specs.declared.Slot.TheVariants as Slot'
use Rattle.writer.proofs.widths.Goals as goal

pub loop-slot-init : goal.loop-slot-init
loop-slot-init c = (omega arith, omega arith, omega arith)

pub overflow_add-total : goal.overflow_add-total
overflow_add-total c = record { fits = omega (arith, c.width-total.ensures.1, c.loop-slot.invariant.1, c.loop-slot.invariant.0) }

pub loop-slot-preserved : goal.loop-slot-preserved
loop-slot-preserved c =
    let slots : List Slot = c.args.slots.now in
    let i : ℕ = c.loop-slot.slot-index in
    let total : ℕ = c.loop-slot.total in
    let next = width_here slots Slot'.Nothing i total (omega (arith, c.told-slots, c.loop-slot-test.true)) c.loop-slot.invariant.2 in
    (omega (arith, c.loop-slot-test.true), omega (arith, c.width-total.ensures.1, c.loop-slot.invariant.1), rw c.width-total.ensures.0 next)

pub returns : goal.returns
returns c =
    let slots : List Slot = c.args.slots.now in
    let i : ℕ = c.loop-slot.slot-index in
    let none : length (slots_bytes (drop i slots)) ≡ 0 = ap (λ (l : List Slot). length (slots_bytes l)) (drop_of_length-le slots {i = i} (omega (arith, c.told-slots, c.loop-slot-test.false))) in
    (omega (arith, none, c.loop-slot.invariant.2), omega (arith, c.loop-slot.invariant.1, c.loop-slot.invariant.0))
