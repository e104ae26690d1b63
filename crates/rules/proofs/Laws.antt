-- The laws of the table that come with demand 3.
use Prim.Native.Nat.{ℕ}
use mathlib.Core.Path.{◌≡◌, refl, sym, ◌∙◌, ap, subst}
use mathlib.Core.Bool.{Bool, true, cond}
use mathlib.Core.List.{List, [], ◌∷◌}
use mathlib.Core.Option.{none, some}
use native.Mathlib.Omega.{arith}
use borrow.Author.Tests.{eq-eqb}
use Rattle.rules.specs.Table.{Table, remove}
use Rattle.rules.specs.Cells.{table_at, sound}
use Rattle.rules.specs.Datasets.{all_datasets}
use Rattle.rules.specs.Offer.{judge_entry, offer_by_cells, applied_to, cells_after, dataset_message, dataset_by_cells}
use Rattle.rules.specs.Laws.{EmptySound, StepKeepsSound, RefusedChangesNothing, ReadingRefused, FreedIsEmpty, LowestPlace}
use Rattle.rules.proofs.Sound.{Sound}
use Rattle.rules.proofs.CellsSound as CellsSound
use Rattle.rules.proofs.Formed.{formed_sound}
use Rattle.rules.proofs.Offered.{is_sound, judged, after, cells_after_lem, sound_after}

pub empty_sound : EmptySound
empty_sound = CellsSound.empty_sound

-- a sound slice of cells stands for a sound table
pub table_sound : (cells : List ℕ) → sound cells ≡ true → Sound (table_at cells)
table_sound cells e =
    let k = CellsSound.sound_is cells e in
    formed_sound (table_at cells) k.2 k.3 k.1

pub step_keeps_sound : StepKeepsSound
step_keeps_sound cells e b s =
    let t : Table = table_at cells in
    let good : Sound t = table_sound cells s in
    subst (λ (c : List ℕ). sound (cells_after c e) ≡ true) (sym (CellsSound.sound_is cells s).0) (ap sound (cells_after_lem t good e) ∙ is_sound (after (judged t e) t) (sound_after t good e b))

pub refused_changes_nothing : RefusedChangesNothing
unfolding cells_after
refused_changes_nothing cells e n place k = ap (applied_to cells) k

pub reading_refused : ReadingRefused
unfolding offer_by_cells judge_entry dataset_by_cells dataset_message all_datasets
reading_refused cells s e n place k = (rw (s, k), (λ (i : ℕ). rw (s, k)), rw (s, k))

pub freed_is_empty : FreedIsEmpty
freed_is_empty port r t e = (ap (λ (b : Bool). cond b none (some r) ∷ remove port t) (eq-eqb r.port port e), refl)

pub lowest_place : LowestPlace
lowest_place new [] rest full = refl
lowest_place new (none ∷ before) rest full = let z : ◌≡◌ {A = ℕ} 0 1 = cc in absurd (omega arith)
lowest_place new (some r ∷ before) rest full = ap (λ (t : Table). some r ∷ t) (lowest_place new before rest full)
