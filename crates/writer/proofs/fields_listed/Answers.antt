use Prim.Native.Nat.{ℕ, ◌+◌, ◌≤◌, ◌<◌}
use borrow.Author.Rules.{rules}
use mathlib.Core.Path.{◌≡◌, refl, sym, ◌∙◌, ap}
use mathlib.Core.List.{List}
use native.Mathlib.Omega.{arith}
use lib.ListN.{length, drop, drop_of_length-le}
use Rattle.writer.proofs.Walk.{outside_here, inside_here}
use Rattle.writer.specs.Slots.{first_outside, type_place}
use Rattle.slots.specs.declared.Slot.{Slot}
use Rattle.slots.specs.declared.Slot.TheVariants as Slot'
use Rattle.writer.proofs.fields_listed.Goals as goal

pub loop-slot-init : goal.loop-slot-init
loop-slot-init c = (omega arith, (omega arith, omega arith), refl)

pub overflow_cast-result : goal.overflow_cast-result
overflow_cast-result c = record { fits = omega (arith, c.loop-slot.invariant.1.1, c.loop-slot.invariant.0) }

pub returns-then-not-fits : goal.returns-then-not-fits
returns-then-not-fits c =
    let loop = c.loop-slot in
    let slots : List Slot = c.args.slots.now in
    let i : ℕ = loop.slot-index in
    let inside : i < length slots = omega (arith, c.told-slots, c.loop-slot-test.true) in
    let e : first_outside type_place slots ≡ loop.at = loop.invariant.2 ∙ outside_here slots Slot'.Nothing loop.at i inside (sym c.fits.ensures ∙ c.if-not-fits.true) in
    let k : 2 ≤ loop.at = loop.invariant.1.0 in
    grind arith

pub overflow_add-at : goal.overflow_add-at
overflow_add-at c = record { fits = omega (arith, c.width-at.ensures.1, c.loop-slot.invariant.1.1, c.loop-slot.invariant.0) }

pub loop-slot-preserved : goal.loop-slot-preserved
loop-slot-preserved c =
    let slots : List Slot = c.args.slots.now in
    let i : ℕ = c.loop-slot.slot-index in
    let at : ℕ = c.loop-slot.at in
    let inside : i < length slots = omega (arith, c.told-slots, c.loop-slot-test.true) in
    let next = inside_here slots Slot'.Nothing at i inside (sym c.fits.ensures ∙ c.if-not-fits.false) in (
      omega (arith, c.loop-slot-test.true),
      (omega (arith, c.loop-slot.invariant.1.0), omega (arith, c.width-at.ensures.1, c.loop-slot.invariant.1.1)),
      c.loop-slot.invariant.2 ∙ next ∙ ap (λ (k : ℕ). first_outside (at + k) (drop (i + 1) slots)) (sym c.width-at.ensures.0),
    )

pub returns : goal.returns
returns c =
    let slots : List Slot = c.args.slots.now in
    let i : ℕ = c.loop-slot.slot-index in
    let e : first_outside type_place slots ≡ 0 = (c.loop-slot.invariant.2 ∙ ap (first_outside c.loop-slot.at) (drop_of_length-le slots {i = i} (omega (arith, c.told-slots, c.loop-slot-test.false)))) in
    rw e (search rules)
