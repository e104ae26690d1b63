use mathlib.Core.Path.{refl}
use borrow.Author.Rules.{rules}
use Rattle.rules.specs.Cells.{record_at, table_at}
use Rattle.rules.specs.Table.{view_of_table}
use Rattle.rules.specs.WellFormed.{is_joined_to}
use Rattle.soundness.proofs.WiringFits.{looked}
use Rattle.soundness.proofs.wiring.is_joined_to.Goals as goal

pub returns : goal.returns
unfolding record_at
returns c =
    let a = c.args in
    looked (is_joined_to a.pair) (view_of_table (table_at a.table.now) a.port) refl c.is_some_and.result _ c.record_in.result c.record_in.ensures c.is_some_and.ensures (λ place q. search rules)
