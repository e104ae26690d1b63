use mathlib.Core.Path.{refl}
use native.Mathlib.Omega.{arith}
use Rattle.writer.proofs.Copying.{copied_none, copied_length, copied_one, copied_all}
use Rattle.writer.proofs.put.put_bytes.Goals as goal

pub loop-i-init : goal.loop-i-init
loop-i-init c = copied_none c.args.out.now c.args.at c.args.bytes.now

pub bounds-out-at : goal.bounds-out-at
bounds-out-at c =
    let a = c.args in
    omega (arith, copied_length a.out.now a.at a.bytes.now c.loop-i.i c.loop-i.out c.loop-i.invariant c.requires)

pub loop-i-preserved : goal.loop-i-preserved
loop-i-preserved c =
    let loop = c.loop-i in
    let a = c.args in
    copied_one a.out.now a.at a.bytes.now loop.i loop.out _ loop.invariant c.requires c.loop-i-test.true refl

pub shape_of-out : goal.shape_of-out
shape_of-out c =
    let a = c.args in
    copied_length a.out.now a.at a.bytes.now c.loop-i.i c.loop-i.out c.loop-i.invariant c.requires

pub returns : goal.returns
returns c =
    let a = c.args in
    copied_all a.out.now a.at a.bytes.now c.loop-i.i c.loop-i.out c.loop-i.invariant c.loop-i-test.false
