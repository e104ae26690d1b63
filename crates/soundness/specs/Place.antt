-- A place of the table in its cells, the place of a port's record, and the lowest free one.
use Rattle.std.specs.Prelude.{ℕ, suc, ◌+◌, ◌*◌, ◌-◌, Bool, false, cond, List, [], ◌∷◌, eqb, ltb, length, get_or, take, drop}
use Rattle.std.proofs.Math.Option.{Option, none, some}
use Rattle.rules.specs.Layout.{places, stride, table_size, wiring_index, port_index, first_index, second_index}
use Rattle.rules.specs.Facts.{Facts}
use Rattle.rules.specs.declared.Wiring.{Wiring}
use Rattle.rules.specs.Table.{Table}
use Rattle.rules.specs.Cells.{record_at, wiring_at, entries_from, list_from, places_at, table_at}

-- the cells of the place at an index
abbrev pub place_at_index : List ℕ → ℕ → List ℕ
place_at_index cells i = take stride (drop (stride * i) cells)

-- one cell of the place at an index
abbrev pub cell_of : List ℕ → ℕ → ℕ → ℕ
cell_of cells i index = get_or cells (stride * i + index) 0

-- the facts of the record at an index; none past the last place
unfoldable pub facts_at : List ℕ → ℕ → Option Facts
facts_at cells i = cond (ltb i places) (some (record_at (place_at_index cells i)).facts) none

-- the wiring that the cells of the place at an index stand for
abbrev pub wiring_here : List ℕ → ℕ → Wiring
wiring_here cells i = wiring_at (cell_of cells i wiring_index) (cell_of cells i first_index) (cell_of cells i second_index)

-- the list whose count is a cell of the place at an index, and its entries
abbrev pub entries_here : List ℕ → ℕ → ℕ → List ℕ
entries_here cells i index = entries_from cells (stride * i + index)

abbrev pub list_here : List ℕ → ℕ → ℕ → Option (List ℕ)
list_here cells i index = list_from cells (stride * i + index)

-- whether the record of a port stands at an index
unfoldable pub port_at : List ℕ → ℕ → ℕ → Bool
port_at cells i port = cond (eqb (cell_of cells i wiring_index) 0) false (eqb (cell_of cells i port_index) port)

-- the place of a port's record; the number of places where the port is not present
abbrev pub place_of : Table → ℕ → ℕ
place_of [] port = 0
place_of (none ∷ t) port = suc (place_of t port)
place_of (some r ∷ t) port = cond (eqb r.port port) 0 (suc (place_of t port))

-- the lowest free place; the number of places where none is
abbrev pub first_free : Table → ℕ
first_free [] = 0
first_free (none ∷ t) = 0
first_free (some r ∷ t) = suc (first_free t)

-- the same in cells; cells that are not as many as a table's have no such place
unfoldable pub find_place : List ℕ → ℕ → ℕ
find_place cells port = cond (eqb (length cells) table_size) (place_of (table_at cells) port) places

unfoldable pub free_place : List ℕ → ℕ
free_place cells = cond (eqb (length cells) table_size) (first_free (table_at cells)) places

-- the table from the place at an index on
abbrev pub from_place : List ℕ → ℕ → Table
from_place cells i = places_at (places - i) (drop (stride * i) cells)
