-- Each port's place in a row of numbers, by the port.
use Rattle.std.specs.Prelude.{ℕ, ◌+◌, ◌≤◌, ◌<◌, ◌≡◌, Bool, true, false, List, length, get_or}
use Rattle.std.proofs.Math.Option.{none}
use Rattle.rules.specs.Layout.{places, port_count, wiring_index, port_index}
use Rattle.rules.specs.Table.{view_of_table}
use Rattle.rules.specs.Cells.{sound}
use Rattle.soundness.specs.Place.{cell_of, place_of, from_place}

-- the port of a record at an index stands in no later place
abbrev pub Alone : List ℕ → ℕ → Type 0
Alone cells i = (cell_of cells i wiring_index ≡ 0 → ⊥) → view_of_table (from_place cells (i + 1)) (cell_of cells i port_index) ≡ none

-- the row has each port's first place from an index on, and the number of places for a port that has none there; no port
-- there stands twice
pub record Indexed (cells row : List ℕ) (from : ℕ) : Type 0 where
  pub size : length row ≡ port_count
  pub first : (port : ℕ) → port < port_count → get_or row port 0 ≡ from + place_of (from_place cells from) port
  pub most : (port : ℕ) → port < port_count → get_or row port 0 ≤ places
  pub once : (i : ℕ) → from ≤ i → i < places → Alone cells i

-- what the answer says after the places from an index on were noted
pub record Noted (cells row : List ℕ) (from : ℕ) (r : Bool) : Type 0 where
  pub right : r ≡ true → Indexed cells row from
  pub wrong : r ≡ false → sound cells ≡ false
