use Prim.Native.Nat.{ℕ}
use mathlib.Core.Path.{◌≡◌, refl, sym, ◌∙◌, ap}
use mathlib.Core.List.{List}
use native.Mathlib.Omega.{arith}
use lib.ListN.{length, get_or}
use lib.Seq.{take_all}
use Rattle.protocol.proofs.Overwrite.{overwrite_nothing}
use Rattle.writer.proofs.Walk.{put_here, put_one, put_length}
use Rattle.protocol.specs.Overwrite.{overwrite}
use Rattle.slots.specs.Slot.{slot_bytes}
use Rattle.writer.specs.Slots.{slots_bytes, type_place}
use Rattle.slots.specs.declared.Slot.{Slot}
use Rattle.slots.specs.declared.Slot.TheVariants as Slot'
use Rattle.writer.proofs.put_slots.Goals as goal

pub loop-slot-init : goal.loop-slot-init
loop-slot-init c = record { few = omega arith; narrow = omega arith; place = refl; done = sym (overwrite_nothing c.args.out.now type_place); rest = c.requires.0 }

pub put_slot-requires : goal.put_slot-requires
put_slot-requires c =
    let a = c.args in
    let pre = c.requires in
    let loop = c.loop-slot in
    put_here a.out.now a.slots.now Slot'.Nothing loop.out loop.at loop.slot-index loop.invariant
    c.loop-slot-test.true c.told-slots pre.1

pub overflow_add-at : goal.overflow_add-at
overflow_add-at c =
    let loop = c.loop-slot in
    record { fits = omega (arith, c.width-at.ensures.1, loop.invariant.narrow, loop.invariant.few) }

pub loop-slot-preserved : goal.loop-slot-preserved
loop-slot-preserved c =
    let a = c.args in
    let pre = c.requires in
    let loop = c.loop-slot in
    let put_slot = c.put_slot in
    let slots : List Slot = a.slots.now in
    let i : ℕ = loop.slot-index in
    let size : c.width-at.result ≡ length (slot_bytes (get_or slots i Slot'.Nothing)) = c.width-at.ensures.0 in
    rw size
    (put_one a.out.now slots Slot'.Nothing loop.out loop.at i put_slot.new.out loop.invariant
    c.loop-slot-test.true c.told-slots (omega (arith, size, c.width-at.ensures.1)) pre.1 put_slot.ensures)

pub shape_of-out : goal.shape_of-out
shape_of-out c =
    let a = c.args in
    put_length a.out.now a.slots.now c.loop-slot.out c.loop-slot.at c.loop-slot.slot-index c.loop-slot.invariant c.requires.1

pub returns : goal.returns
returns c =
    let a = c.args in
    let slots : List Slot = a.slots.now in
    let i : ℕ = c.loop-slot.slot-index in
    c.loop-slot.invariant.done ∙ ap (λ (l : List Slot). overwrite a.out.now type_place (slots_bytes l)) (take_all i slots (omega (arith, c.told-slots, c.loop-slot-test.false)))
