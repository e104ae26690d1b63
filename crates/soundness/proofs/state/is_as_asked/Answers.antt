use Prim.Native.Nat.{ℕ, suc, ◌^◌}
use mathlib.Core.Path.{◌∙◌, ap}
use mathlib.Core.Bool.{Bool, ◌&&◌}
use lib.Dec.{eqb}
use borrow.Author.Tests.{eq-eqb, ne_eqb}
use Rattle.rules.specs.Layout.{asked_index, taken_index}
use Rattle.rules.specs.Cells.{combined_cell, cell_at}
use Rattle.soundness.specs.Soundness.{as_asked}
use Rattle.soundness.proofs.Loops.{first_of, second_of}
use Rattle.soundness.proofs.state.is_as_asked.Goals as goal

pub returns-then-place-eq-COMBINED : goal.returns-then-place-eq-COMBINED
unfolding as_asked
returns-then-place-eq-COMBINED c =
    let place = c.args.place.now in
    ap (λ (b : Bool). eqb (cell_at place asked_index) combined_cell && b) (c.name_all.ensures ∙ ap (λ (n : ℕ). eqb (suc n) (2 ^ cell_at place taken_index)) c.pointers_of.ensures) ∙ first_of _ _ (eq-eqb _ _ c.if-place-eq-COMBINED.true)

pub returns : goal.returns
unfolding as_asked
returns c = second_of _ _ (ne_eqb _ _ c.if-place-eq-COMBINED.false)
