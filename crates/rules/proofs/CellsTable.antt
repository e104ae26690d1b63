-- The table in cells: decoding what was encoded.
use Prim.Native.Nat.{ℕ, suc}
use mathlib.Core.Path.{◌≡◌, refl, sym, ◌∙◌, ap}
use mathlib.Core.Bool.{true, not}
use mathlib.Core.List.{[], ◌∷◌}
use mathlib.Core.Option.{Option, none, some}
use lib.Dec.{ltb}
use lib.ListN.{length}
use lib.Seq.{take_at, drop_at}
use Rattle.rules.specs.Layout.{port_count, places, stride}
use Rattle.rules.specs.Facts.{View, known}
use Rattle.rules.specs.Table.{Record, Table, view_of_table}
use Rattle.rules.specs.WellFormed.{facts_fit, wiring_fits, places_fit, well_formed}
use Rattle.rules.specs.Cells.{place_cells, cells_of, place_at, places_at, table_at}
use Rattle.rules.proofs.SettingsFit.{NoHigh, five_passed}
use Rattle.rules.proofs.CellsRecord.{record_place, place_length}

-- no record has a format of a mode from 16 on
abbrev pub NoHighFormats : Table → Type 0
NoHighFormats [] = Unit {0}
NoHighFormats (none ∷ t) = NoHighFormats t
NoHighFormats (some r ∷ t) = NoHigh r.facts.settings.formats × NoHighFormats t

-- a place, and those after it
place_then : (p : Option Record) (t : Table) → place_at (place_cells p) ≡ p → places_at (length t) (cells_of t) ≡ t → places_at (suc (length t)) (cells_of (p ∷ t)) ≡ p ∷ t
unfolding cells_of
place_then p t here there = rw (take_at (place_cells p) (cells_of t) stride (place_length p), drop_at (place_cells p) (cells_of t) stride (place_length p), here, there)

places_back : (view : View) (t : Table) → NoHighFormats t → places_fit view t ≡ true → places_at (length t) (cells_of t) ≡ t
places_back view [] high fits = refl
places_back view (none ∷ t) high fits = place_then none t refl (places_back view t high fits)
places_back view (some r ∷ t) high fits =
    let passed = five_passed (ltb r.port port_count) (facts_fit r.facts) (wiring_fits view r.port r.facts.wiring) (not (known (view_of_table t r.port))) (places_fit view t) fits in
    place_then (some r) t (record_place r high.0 passed.1) (places_back view t high.1 passed.4)

pub table_back : (t : Table) → length t ≡ places → NoHighFormats t → well_formed t ≡ true → table_at (cells_of t) ≡ t
unfolding table_at well_formed
table_back t sixteen high well = ap (λ (n : ℕ). places_at n (cells_of t)) (sym sixteen) ∙ places_back (view_of_table t) t high well
