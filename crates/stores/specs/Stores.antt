-- Stores in the cells of a table, and what the functions make of any cells.
use Rattle.std.specs.Prelude.{ℕ, suc, ◌+◌, ◌*◌, ◌^◌, cond, ◌&&◌, List, [], ◌∷◌, ◌++◌, eqb, leb, ltb, length, set, take, drop, replicate}
use Rattle.std.proofs.Math.Option.{Option, none, some}
use Rattle.rules.specs.Layout.{stride, places, wiring_index, first_index, state_index, table_size, asked_index, experiment_index, answered_index, list_index, taken_index}
use Rattle.protocol.specs.Form.{most_entries}
use Rattle.rules.specs.Facts.{Asking, asked_single, asked_combined}
use Rattle.rules.specs.Cells as Cells
use Rattle.rules.specs.Cells.{combined_cell, list_cells, empty_cells}
use Rattle.rules.specs.declared.Setup.{Setup}
use Rattle.stores.specs.declared.ThreeCells.{ThreeCells}
use Rattle.soundness.specs.Place.{cell_of}

-- a number put into a cell of a place
pub data Store : Type 0 where
  put : ℕ → ℕ → Store

-- stores in one place, the first in the list first
abbrev pub stored : List ℕ → ℕ → List Store → List ℕ
stored cells place [] = cells
stored cells place (put index v ∷ s) = stored (set cells (stride * place + index) v) place s

-- an asking or an answer in the three cells from an index on, and the state
abbrev pub three_stores : ℕ → ℕ → ℕ → ℕ → ℕ → List Store
three_stores index mode delta notify state = put index mode ∷ put (index + 1) delta ∷ put (index + 2) notify ∷ put state_index state ∷ []

abbrev pub setup_stores : ℕ → Setup → ℕ → List Store
setup_stores index setup state = three_stores index (setup.mode + 1) setup.delta setup.notify state

-- the three cells of a setup
abbrev pub setup_cells : Setup → ThreeCells
setup_cells setup = record { mode = setup.mode + 1; delta = setup.delta; notify = setup.notify }

-- an asking: its experiment number, what it asks for, and no answer since
abbrev pub asking_stores : ℕ → ℕ → ℕ → ℕ → List Store
asking_stores mode delta notify experiment = put experiment_index experiment ∷ three_stores asked_index mode delta notify 1

-- numbers put into the cells from an index on
unfoldable pub cell_stores : ℕ → List ℕ → List Store
cell_stores index [] = []
cell_stores index (v ∷ vs) = put index v ∷ cell_stores (suc index) vs

-- a 47: no list that was taken over, what was answered, and the state
abbrev pub answered_stores : Setup → ℕ → List Store
answered_stores setup state = cell_stores taken_index (replicate (suc most_entries) 0) ++ setup_stores answered_index setup state

-- a list: itself, and that it is asked for
abbrev pub listed_stores : List ℕ → ℕ → List Store
listed_stores entries experiment = cell_stores list_index (list_cells (some entries)) ++ asking_stores combined_cell 0 0 experiment

-- a 48: the cells of the list that it takes over, its pointers, and the state
abbrev pub taken_stores : ℕ → ℕ → List ℕ → List Store
taken_stores pointers state taken = cell_stores taken_index taken ++ three_stores answered_index combined_cell pointers 0 state

-- a 41
abbrev pub asked_stores : Setup → ℕ → List Store
asked_stores setup experiment = asking_stores (setup.mode + 1) setup.delta setup.notify experiment

-- zeros in so many cells
unfoldable pub zeroed : List ℕ → ℕ → ℕ → List ℕ
zeroed cells from count = take from cells ++ replicate count 0 ++ drop (from + count) cells

-- what was asked of the port at a place
abbrev pub asked_at : List ℕ → ℕ → Option Asking
asked_at cells place = Cells.asked_at (cell_of cells place asked_index) (cell_of cells place (asked_index + 1)) (cell_of cells place (asked_index + 2))

-- the cells of the list that it keeps
abbrev pub kept_cells : List ℕ → ℕ → List ℕ
kept_cells cells place = take (suc most_entries) (drop (stride * place + list_index) cells)

-- the state after a 48, by the number of entries of that list
abbrev pub combined_state_by : Option Asking → ℕ → ℕ → ℕ
combined_state_by none p count = 0
combined_state_by (some (asked_single s)) p count = 3
combined_state_by (some asked_combined) p count = cond (eqb (suc p) (2 ^ count)) 2 3

-- a list of no more entries than there may be is put; one of more changes nothing
abbrev pub listed_at : List ℕ → ℕ → List ℕ → ℕ → List ℕ
listed_at cells place entries experiment = cond (leb (length entries) most_entries) (stored cells place (listed_stores entries experiment)) cells

-- a place of a table is changed; nothing is where the cells are no table's, or the place is none of its places
unfoldable pub if_place : List ℕ → ℕ → List ℕ → List ℕ
if_place cells place changed = cond (eqb (length cells) table_size && ltb place places) changed cells

-- emptying asks for a table's number of cells and nothing else of them
abbrev pub emptied : List ℕ → List ℕ
emptied cells = cond (eqb (length cells) table_size) empty_cells cells

-- the record at a place is wired: its kind of wiring, and its first partner
abbrev pub wired_at : List ℕ → ℕ → ℕ → ℕ → List ℕ
wired_at cells place kind partner = if_place cells place (stored cells place (put wiring_index kind ∷ put first_index partner ∷ []))
