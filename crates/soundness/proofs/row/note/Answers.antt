use Rattle.soundness.proofs.Rows.{noted_right, noted_wrong, free_noted, record_noted, no_port, twice}
use Rattle.soundness.proofs.row.note.Goals as goal

pub returns-then-table-i-eq-FREE : goal.returns-then-table-i-eq-FREE
returns-then-table-i-eq-FREE c =
    let a = c.args in
    noted_right (free_noted a.table.now a.row.now a.i c.requires.0 c.requires.1 c.if-table-i-eq-FREE.true)

pub returns-then-port-ge-PORT_COUNT : goal.returns-then-port-ge-PORT_COUNT
returns-then-port-ge-PORT_COUNT c =
    let a = c.args in
    noted_wrong (no_port a.table.now a.row.now a.i c.requires.0 c.requires.1 c.if-table-i-eq-FREE.false c.told-table c.if-port-ge-PORT_COUNT.true)

pub returns-then-is_noted : goal.returns-then-is_noted
returns-then-is_noted c =
    let a = c.args in
    noted_wrong (twice a.table.now a.row.now a.i c.requires.0 c.requires.1 c.if-table-i-eq-FREE.false c.told-table c.if-port-ge-PORT_COUNT.false c.if-is_noted.true)

pub returns : goal.returns
returns c =
    let a = c.args in
    noted_right (record_noted a.table.now a.row.now a.i c.requires.0 c.requires.1 c.if-table-i-eq-FREE.false c.if-port-ge-PORT_COUNT.false c.if-is_noted.false)
