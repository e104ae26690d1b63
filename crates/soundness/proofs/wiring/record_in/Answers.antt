use mathlib.Core.Path.{◌∙◌, sym, ap}
use mathlib.Core.List.{List}
use mathlib.Core.Option.{some}
use Prim.Native.Nat.{ℕ}
use Rattle.rules.specs.Cells.{record_at}
use Rattle.soundness.proofs.Places.{found, facts_some, facts_none}
use Rattle.soundness.proofs.Rows.{row_found}
use Rattle.soundness.proofs.wiring.record_in.Goals as goal

pub returns-then-i-lt-PLACES : goal.returns-then-i-lt-PLACES
returns-then-i-lt-PLACES c =
    let a = c.args in
    let cells = c.args.table.now in
    let find = c.place_in-i in
    let is = find.ensures ∙ row_found cells a.row.now c.told-table c.requires.0 a.port c.requires.1 in
    found cells c.told-table a.port find.result is
    ∙ facts_some cells find.result c.if-i-lt-PLACES.true
    ∙ sym (ap (λ (l : List ℕ). some (record_at l).facts) c.place_at.ensures)

pub returns-else-i-lt-PLACES : goal.returns-else-i-lt-PLACES
returns-else-i-lt-PLACES c =
    let a = c.args in
    let cells = c.args.table.now in
    let find = c.place_in-i in
    let is = find.ensures ∙ row_found cells a.row.now c.told-table c.requires.0 a.port c.requires.1 in
    found cells c.told-table a.port find.result is ∙ facts_none cells find.result c.if-i-lt-PLACES.false
