use mathlib.Core.Path.{sym, ◌∙◌, ap}
use lib.ListN.{length}
use Rattle.protocol.specs.Encode.{Encoded}
use Rattle.std.specs.Prelude.{Ok}
use Rattle.writer.proofs.Encoding.{refused_answer}
use Rattle.writer.proofs.Judging.{known}
use Rattle.writer.specs.Writing.{answered, limited, lent_after}
use Rattle.std.proofs.lemmas.Result.{err_from_is_err_and}
use Rattle.writer.proofs.write.Goals as goal

pub put_message-requires : goal.put_message-requires
put_message-requires c =
    let a = c.args in
    let good = known a.way a.m a.«open».now c.slots_of-slots.result _ (Ok tt) c.judged.ensures c.in_ok-judged.was in
    (good.inside, good.short)

pub returns-in_err-judged : goal.returns-in_err-judged
returns-in_err-judged c =
    let a = c.args in
    let p = err_from_is_err_and c.from_residual.result c.from_residual.ensures.1 in
    rw (p.1, p.2) (refused_answer _ _ (length a.out.now) a.out.now (known a.way a.m a.«open».now c.slots_of-slots.result _ _ c.judged.ensures c.in_err-judged.was))

pub returns : goal.returns
returns c =
    let a = c.args in
    let good = known a.way a.m a.«open».now c.slots_of-slots.result _ (Ok tt) c.judged.ensures c.in_ok-judged.was in
    (c.put_message.ensures.0 ∙ sym (ap (λ (x : Encoded). answered (limited (length a.out.now) x)) good.bytes), c.put_message.ensures.1 ∙ sym (ap (λ (x : Encoded). lent_after (limited (length a.out.now) x) a.out.now) good.bytes))
