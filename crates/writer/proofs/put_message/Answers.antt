use Prim.Native.Nat.{ℕ, ◌+◌}
use native.Mathlib.Omega.{arith}
use mathlib.Core.Path.{◌∙◌, ap}
use mathlib.Core.List.{List}
use lib.ListN.{length}
use lib.Seq.{lt-length-set}
use Rattle.writer.proofs.Whole.{size_is, header_length, short_answer, whole_answer}
use Rattle.protocol.specs.Overwrite.{overwrite}
use Rattle.writer.specs.Slots.{type_place}
use Rattle.writer.proofs.put_message.Goals as goal

pub returns-then-out-size : goal.returns-then-out-size
returns-then-out-size c =
    let a = c.args in
    short_answer a.slots.now a.«open».now c.widths-end.result c.widths-end.ensures.0 a.out.now c.if-out-size.true

pub overflow_cast-out : goal.overflow_cast-out
overflow_cast-out c =
    let a = c.args in
    record { fits = omega (arith, size_is a.slots.now a.«open».now c.widths-end.result c.widths-end.ensures.0, c.requires.1) }

pub bounds-out-1 : goal.bounds-out-1
bounds-out-1 c = lt-length-set c.args.out.now 0 _ (omega (arith, c.if-out-size.false))

pub put_slots-requires : goal.put_slots-requires
put_slots-requires c =
    let a = c.args in
    let pre = c.requires in
    (pre.0, omega (arith, header_length a.out.now (type_place + c.widths-end.result + length a.«open».now) 0, c.if-out-size.false, c.widths-end.ensures.0))

pub put_bytes-requires : goal.put_bytes-requires
put_bytes-requires c =
    let a = c.args in
    omega (arith, c.put_slots.auto.out, header_length a.out.now (type_place + c.widths-end.result + length a.«open».now) 0, c.if-out-size.false)

pub overflow_cast-result : goal.overflow_cast-result
overflow_cast-result c =
    let a = c.args in
    let widths = c.widths-end in
    record { fits = omega (arith, size_is a.slots.now a.«open».now widths.result widths.ensures.0, c.requires.1) }

pub shape_of-out : goal.shape_of-out
shape_of-out c =
    let a = c.args in
    c.put_bytes.auto.out ∙ c.put_slots.auto.out ∙ header_length a.out.now (type_place + c.widths-end.result + length a.«open».now) 0

pub returns : goal.returns
returns c =
    let a = c.args in
    let widths = c.widths-end in
    let if1 = c.if-out-size in
    let put_slots = c.put_slots in
    whole_answer a.slots.now a.«open».now widths.result widths.ensures.0 a.out.now _ if1.false
    (c.put_bytes.ensures ∙ ap (λ (l : List ℕ). overwrite l (type_place + widths.result) a.«open».now) put_slots.ensures)
