use mathlib.Core.Path.{sym, ◌∙◌, ap}
use mathlib.Core.Bool.{Bool, cond}
use mathlib.Core.Option.{Option}
use Rattle.protocol.specs.Refusal.{number_of}
use Rattle.rules.specs.Answer.{tested}
use Rattle.rules.specs.Facts.{Facts}
use Rattle.rules.specs.Judge.{refusal_unless_virtual}
use Rattle.table.proofs.Judging.{physical_at, virtual_at, refusal_is}
use Rattle.table.proofs.judge.unless_virtual.Goals as goal

pub returns-then-wiring-eq-UNJOINED : goal.returns-then-wiring-eq-UNJOINED
returns-then-wiring-eq-UNJOINED c =
    let n = number_of c.args.refusal in
    let is = ap (refusal_unless_virtual n) c.in_ok-place.ensures.1 ∙ ap (λ (b : Bool). cond b 0 n) (physical_at c.args.table.cells.now c.in_ok-place.place c.then-wiring-eq-UNJOINED.either) in
    (sym is, λ e. refusal_is c.args.refusal e ∙ sym (ap tested is))

pub returns : goal.returns
returns c =
    let n = number_of c.args.refusal in
    let is = ap (refusal_unless_virtual n) c.in_ok-place.ensures.1 ∙ ap (λ (b : Bool). cond b 0 n) (virtual_at c.args.table.cells.now c.in_ok-place.place c.if-wiring-eq-UNJOINED.false c.if-wiring-eq-JOINED.false) in
    (sym is, λ _. sym (ap tested is))
