-- Demand 3, one statement over the list as a whole: the table and the reader without a table agree on every answer, and on
-- every port and every dataset, their experiment numbers included, at the start and after every message. It is proved in
-- proofs/Demand3.antt.
use Rattle.std.specs.Prelude.{ℕ, ◌≡◌, true, List, [], ◌∷◌, ltb}
use Rattle.protocol.specs.Number.{Bytes}
use Rattle.protocol.specs.declared.Way.{Way}
use Rattle.rules.specs.Layout.{experiment_count}
use Rattle.rules.specs.Cells.{empty_cells}
use Rattle.rules.specs.Present.{present_ports}
use Rattle.rules.specs.Offer.{Entry, offer_by_cells, cells_after, dataset_by_cells, values_by_cells, view_of_cells, modes_of_cells, offer_by_past, dataset_by_past, values_by_past, view_of_past, modes_of_past}

-- now: what is known of every port, every dataset of every message that is tried and all of them at once, the ports present
pub record Agree (cells : List ℕ) (past : List Entry) : Type 0 where
  pub ports : (port : ℕ) → view_of_cells cells port ≡ view_of_past past port
  pub modes : (port : ℕ) → modes_of_cells cells port ≡ modes_of_past past port
  pub datasets : (way : Way) (bytes : List ℕ) (number : ℕ) → dataset_by_cells cells way bytes number ≡ dataset_by_past past way bytes number
  pub values : (way : Way) (bytes : List ℕ) → values_by_cells cells way bytes ≡ values_by_past past way bytes
  pub present : present_ports (view_of_cells cells) ≡ present_ports (view_of_past past)

-- through a list from its start: agreement now, then on the next answer, then on the rest
abbrev pub AgreeThrough : List ℕ → List Entry → List Entry → Type 0
AgreeThrough cells past [] = Agree cells past
AgreeThrough cells past (e ∷ rest) = Agree cells past × (offer_by_cells cells e ≡ offer_by_past past e) × AgreeThrough (cells_after cells e) (e ∷ past) rest

-- every element of a message is a byte, every experiment number a u16
abbrev pub EntryFits : Entry → Type 0
EntryFits e = Bytes e.bytes × (ltb e.experiment experiment_count ≡ true)

abbrev pub EntriesFit : List Entry → Type 0
EntriesFit [] = Unit {0}
EntriesFit (e ∷ es) = EntryFits e × EntriesFit es

-- for every list of messages with their numbers, refused ones included, offered one at a time to a table that began empty
abbrev pub Demand3 : Type 0
Demand3 = (entries : List Entry) → EntriesFit entries → AgreeThrough empty_cells [] entries
