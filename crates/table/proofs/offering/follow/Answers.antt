use Rattle.rules.specs.OpenBytes.{opens_in}
use Rattle.table.proofs.Offers.{tell_ready, change_ready, attach_ready, virtual_ready, detach_ready, changed_as, unchanged}
use Rattle.table.proofs.Steps.{empty_is}
use Rattle.table.proofs.offering.follow.Goals as goal

pub tell-requires : goal.tell-requires
tell-requires c =
    let p = c.requires in
    let a = c.args in
    let cells = c.args.table.now in
    (p.0, tell_ready cells a.message.now a.e p.2 _ _ c.in-ToPort.is, change_ready a.e a.message.now p.1 _ _ c.in-ToPort.is)

pub attach-requires : goal.attach-requires
attach-requires c =
    let p = c.requires in
    let a = c.args in
    let cells = c.args.table.now in
    (p.0, attach_ready cells a.message.now a.e p.2 _ _ c.in-Attach.is)

pub attach_virtual-requires : goal.attach_virtual-requires
attach_virtual-requires c =
    let p = c.requires in
    let a = c.args in
    let cells = c.args.table.now in
    let k = virtual_ready cells a.message.now a.e p.2 _ _ _ _ c.in-AttachVirtual.is in
    (p.0, k.0, k.1)

pub detach-requires : goal.detach-requires
detach-requires c =
    let p = c.requires in
    let a = c.args in
    let cells = c.args.table.now in
    (p.0, detach_ready cells a.message.now a.e p.2 _ c.in-Detach.is)

pub returns-in-Empty : goal.returns-in-Empty
returns-in-Empty c =
    let p = c.requires in
    let a = c.args in
    let cells = c.args.table.now in
    changed_as cells c.clear.new.table a.message.now a.e _ c.in-Empty.is (empty_is cells c.clear.new.table p.0 c.clear.ensures)

pub returns-in_default : goal.returns-in_default
returns-in_default c =
    let a = c.args in
    let cells = c.args.table.now in
    unchanged cells (opens_in a.e a.message.now) a.e c.requires.0 (record {
      not_told = c.in_default.not-ToPort;
      not_attached = c.in_default.not-Attach;
      not_joined = c.in_default.not-AttachVirtual;
      not_detached = c.in_default.not-Detach;
      not_emptied = c.in_default.not-Empty;
    })
