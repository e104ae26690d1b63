use Prim.Native.Nat.{ℕ, ◌+◌, ◌-◌}
use native.Mathlib.Omega.{arith}
use mathlib.Core.Path.{◌≡◌, sym, ◌∙◌, ap, subst}
use mathlib.Core.List.{List}
use lib.ListN.{length}
use Rattle.rules.specs.Layout.{places}
use Rattle.soundness.specs.Row.{Indexed}
use Rattle.soundness.proofs.Rows.{noted_right, noted_wrong, blank}
use Rattle.soundness.proofs.row.note_all.Goals as goal

pub loop-i-init : goal.loop-i-init
loop-i-init c =
    let a = c.args in
    subst (λ (l : List ℕ). Indexed a.table.now l places) (sym c.requires) (blank a.table.now)

pub note-requires : goal.note-requires
note-requires c =
    let loop = c.loop-i in
    let next : loop.i - 1 + 1 ≡ loop.i = omega (arith, c.loop-i-test.true) in
    (omega (arith, c.loop-i-test.true, loop.auto.i), subst (λ (n : ℕ). Indexed c.args.table.now loop.row n) (sym next) loop.invariant)

pub returns-then-not-note : goal.returns-then-not-note
returns-then-not-note c = noted_wrong (c.note.ensures.wrong c.if-not-note.true)

pub loop-i-preserved : goal.loop-i-preserved
loop-i-preserved c = c.note.ensures.right c.if-not-note.false

pub shape_of-row : goal.shape_of-row
shape_of-row c =
    let loop = c.loop-i in
    loop.invariant.size ∙ sym (blank c.args.table.now).size ∙ sym (ap length c.requires)

pub returns : goal.returns
returns c =
    let loop = c.loop-i in
    let all : loop.i ≡ 0 = omega (arith, c.loop-i-test.false) in
    noted_right (subst (λ (n : ℕ). Indexed c.args.table.now loop.row n) all loop.invariant)
