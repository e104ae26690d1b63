use mathlib.Core.Path.{◌≡◌}
use borrow.Author.Tests.{eq-eqb, ne_eqb}
use Rattle.rules.specs.Layout.{wiring_index}
use Rattle.soundness.specs.Place.{cell_of, port_at}
use Rattle.soundness.proofs.place.is_at.Goals as goal

pub returns-then-table-i-eq-FREE : goal.returns-then-table-i-eq-FREE
unfolding port_at
returns-then-table-i-eq-FREE c =
    let a = c.args in
    let free : cell_of a.table.now a.i wiring_index ≡ 0 = c.if-table-i-eq-FREE.true in
    rw (eq-eqb _ _ free)

pub returns : goal.returns
unfolding port_at
returns c = rw (ne_eqb _ _ c.if-table-i-eq-FREE.false)
