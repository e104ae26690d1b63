use Prim.Native.Nat.{ℕ, ◌*◌, ◌-◌, ◌≤◌}
use native.Mathlib.Omega.{arith}
use mathlib.Core.Path.{◌∙◌}
use lib.ListN.{drop}
use lib.Seq.{take-take}
use Rattle.rules.specs.Layout.{stride, table_size}
use Rattle.soundness.proofs.place.place_at.Goals as goal

pub returns : goal.returns
returns c =
    let at : ℕ = stride * c.args.i in
    let table = c.args.table.now in
    let enough : stride ≤ table_size - at = omega (arith, c.requires) in
    let chunk = rw c.unwrap.ensures at c.first_chunk.ensures.cases in
    chunk.same ∙ take-take stride (table_size - at) (drop at table) enough
