use Prim.Native.Nat.{◌-◌, ◌<◌}
use native.Mathlib.Omega.{arith}
use mathlib.Core.Path.{sym, ◌∙◌, ap}
use mathlib.Core.Bool.{Bool, ◌&&◌}
use Rattle.soundness.proofs.Loops.{joins, joined}
use Rattle.soundness.proofs.FactsFit.{formats_below, formats_start, formats_next, formats_none}
use Rattle.soundness.proofs.record.formats_fit.Goals as goal

pub loop-mode-init : goal.loop-mode-init
loop-mode-init c = formats_start c.args.place.now

pub loop-mode-preserved : goal.loop-mode-preserved
loop-mode-preserved c =
    let place = c.args.place.now in
    let loop = c.loop-mode in
    let later : Bool = formats_below place (loop.mode - 1) in
    let left : 0 < loop.mode = omega (arith, c.loop-mode-test.true) in
    let next = formats_next place loop.mode loop.auto.mode left ∙ ap (λ (b : Bool). b && later) (sym c.format_fits-fit.ensures) in
    joins loop.fit c.format_fits-fit.result later loop.invariant next

pub returns : goal.returns
returns c =
    let loop = c.loop-mode in
    joined loop.fit loop.invariant (formats_none c.args.place.now loop.mode c.loop-mode-test.false)
