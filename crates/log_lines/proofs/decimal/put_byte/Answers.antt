use Rattle.log_rules.proofs.OverwriteIfRoom.{if_room_byte, if_no_room_byte}
use Rattle.log_lines.proofs.decimal.put_byte.Goals as goal

pub bounds-out-at : goal.bounds-out-at
bounds-out-at c = c.if-at-out.true

pub returns-then-at-out : goal.returns-then-at-out
returns-then-at-out c = if_room_byte c.args.out.now c.args.at c.args.b c.if-at-out.true

pub returns-else-at-out : goal.returns-else-at-out
returns-else-at-out c = if_no_room_byte c.args.out.now c.args.at c.args.b c.if-at-out.false
