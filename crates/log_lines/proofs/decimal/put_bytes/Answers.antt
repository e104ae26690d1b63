use native.Mathlib.Omega.{arith}
use mathlib.Core.Path.{sym}
use Rattle.log_rules.proofs.OverwriteIfRoom.{if_no_room}
use Rattle.log_lines.proofs.Lines.{put_part}
use Rattle.log_lines.proofs.decimal.put_bytes.Goals.{else-bytes-out-via-then-bytes-out+else-at-out, else-bytes-out-via-else-bytes-out}
use Rattle.log_lines.proofs.decimal.put_bytes.Goals as goal

pub returns-then-at-out : goal.returns-then-at-out
returns-then-at-out c = let a = c.args in put_part a.out.now a.at a.bytes.now _ c.copy_from_slice.ensures.after (omega arith)

pub returns-else-bytes-out : goal.returns-else-bytes-out
returns-else-bytes-out c =
    let a = c.args in
    sym (if_no_room a.out.now a.at a.bytes.now (elim c.else-bytes-out.branch [
      | else-bytes-out-via-then-bytes-out+else-at-out w ↦ omega (arith, w.if-bytes-out.true, w.if-at-out.false)
      | else-bytes-out-via-else-bytes-out w ↦ omega (arith, w.if-bytes-out.false)
    ]))
