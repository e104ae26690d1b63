use mathlib.Core.Path.{sym, ap}
use native.Mathlib.Omega.{arith}
use Rattle.std.specs.Prelude.{Ok}
use Rattle.writer.proofs.Judging.{known, length_is}
use Rattle.writer.proofs.Whole.{size_is}
use Rattle.writer.specs.Writing.{answered}
use Rattle.std.proofs.lemmas.Result.{err_from_is_err_and}
use Rattle.writer.proofs.judge.Goals as goal

pub overflow_cast-result : goal.overflow_cast-result
overflow_cast-result c =
    let a = c.args in
    let good = known a.way a.m a.«open».now c.slots_of-slots.result _ (Ok tt) c.judged.ensures c.in_ok-judged.was in
    record { fits = omega (arith, size_is c.slots_of-slots.result a.«open».now c.widths.result c.widths.ensures.0, good.short) }

pub returns-in_err-judged : goal.returns-in_err-judged
returns-in_err-judged c =
    let a = c.args in
    let p = err_from_is_err_and c.from_residual.result c.from_residual.ensures.1 in
    rw (p.1, p.2) (sym (ap answered (known a.way a.m a.«open».now c.slots_of-slots.result _ _ c.judged.ensures c.in_err-judged.was)))

pub returns : goal.returns
returns c =
    let a = c.args in
    length_is a.way a.m a.«open».now c.slots_of-slots.result (known a.way a.m a.«open».now c.slots_of-slots.result _ (Ok tt) c.judged.ensures c.in_ok-judged.was) c.widths.result c.widths.ensures.0
