use native.Mathlib.Omega.{arith}
use mathlib.Core.Path.{sym, ◌∙◌}
use Rattle.log_rules.specs.Decimal.{decimal}
use Rattle.log_rules.proofs.OverwriteIfRoom.{if_room, if_no_room}
use Rattle.log_lines.proofs.decimal.put_decimal.Goals.{else-k-out-via-then-k-out+else-at-out, else-k-out-via-else-k-out}
use Rattle.log_lines.proofs.decimal.put_decimal.Goals as goal

pub returns-then-at-out : goal.returns-then-at-out
returns-then-at-out c =
    let a = c.args in
    let e = c.places-k.ensures in
    (e.0, e.2, c.spell.ensures ∙ sym (if_room a.out.now a.at (decimal a.n) (omega (arith, e.0))))

pub returns-else-k-out : goal.returns-else-k-out
returns-else-k-out c =
    let a = c.args in
    let e = c.places-k.ensures in (
      e.0,
      e.2,
      sym (if_no_room a.out.now a.at (decimal a.n) (elim c.else-k-out.branch [
        | else-k-out-via-then-k-out+else-at-out w ↦ omega (arith, e.0, w.if-k-out.true, w.if-at-out.false)
        | else-k-out-via-else-k-out w ↦ omega (arith, e.0, w.if-k-out.false)
      ])),
    )
