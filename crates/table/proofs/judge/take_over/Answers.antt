use Prim.Native.Nat.{ℕ, zero, suc, ◌<◌}
use native.Mathlib.Omega.{arith}
use mathlib.Core.Path.{◌≡◌, refl, sym, ◌∙◌, ap}
use mathlib.Core.Bool.{Bool, true, false, cond, not, ◌&&◌, and-false}
use mathlib.Core.List.{List}
use mathlib.Core.Logic.{⊎_elim}
use borrow.Author.Tests.{eqb-true, eqb-false, le-ltb}
use lib.Dec.{eqb}
use Rattle.protocol.proofs.Tests.{which}
use Rattle.rules.proofs.CellsSound.{sound_length}
use mathlib.Core.Option.{Option, some}
use Rattle.rules.specs.Answer.{tested}
use Rattle.rules.specs.Cells.{sound}
use Rattle.rules.specs.Facts.{Facts}
use Rattle.rules.specs.Judge.{takes_over, told_refusal}
use Rattle.rules.specs.Layout.{places, list_index}
use Rattle.rules.specs.Offer.{view_of_cells}
use Rattle.rules.specs.Pointers.{pointers_fit}
use Rattle.rules.specs.declared.Change.TheVariants.{Combined}
use Rattle.soundness.proofs.Bounds.{list_small}
use Rattle.soundness.proofs.Records.{here, list_at, list_none, list_some, entries_length}
use Rattle.soundness.specs.Place.{cell_of}
use Rattle.table.proofs.judge.take_over.Goals as goal

-- A 48 by the list of its port's place.
none_fits : (p : ℕ) → pointers_fit p 0 ≡ false
unfolding pointers_fit
none_fits zero = refl
none_fits (suc p) = ap (λ (b : Bool). not (eqb (suc p) 0) && b) (le-ltb (suc p) 1 (omega arith)) ∙ and-false (not (eqb (suc p) 0))

module _ (cells : List ℕ) (port i p : ℕ) (ok : sound cells ≡ true) (low : i < places) (at : view_of_cells cells port ≡ some (here cells i)) where
  abbrev count : ℕ
  count = cell_of cells i list_index

  by_count : takes_over p (here cells i).settings.list ≡ pointers_fit p count
  by_count =
      ap (takes_over p) (list_at cells i)
      ∙ ⊎_elim
      (λ (k : eqb count 0 ≡ true). let e = eqb-true count 0 k in ap (takes_over p) (list_none cells i list_index e) ∙ sym (ap (pointers_fit p) e ∙ none_fits p))
      (λ (k : eqb count 0 ≡ false). ap (takes_over p) (list_some cells i list_index (eqb-false count 0 k)) ∙ ap (pointers_fit p) (entries_length cells i list_index (list_small cells i ok low).few (sound_length cells ok) low (omega arith)))
      (which (eqb count 0))

  told_by : (b : Bool) → b ≡ pointers_fit p count → tested (told_refusal (Combined p) (view_of_cells cells port)) ≡ tested (cond b 0 21)
  told_by b e = ap (λ (x : Option Facts). tested (told_refusal (Combined p) x)) at ∙ ap (λ (b : Bool). tested (cond b 0 21)) (by_count ∙ sym e)

pub returns-then-fit : goal.returns-then-fit
returns-then-fit c =
    let a = c.args in
    let at = c.in_ok-place.ensures in
    sym (told_by a.table.cells.now a.port _ a.pointers c.args.table.tested at.0 at.1 true (sym c.if-fit.true ∙ c.fit.ensures))

pub returns-else-fit : goal.returns-else-fit
returns-else-fit c =
    let a = c.args in
    let at = c.in_ok-place.ensures in
    sym (told_by a.table.cells.now a.port _ a.pointers c.args.table.tested at.0 at.1 false (sym c.if-fit.false ∙ c.fit.ensures))
