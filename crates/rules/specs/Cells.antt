-- How the table lies in cells, each a number below 2 ^ 32: sixteen records, each as Layout.antt says.
use Rattle.std.specs.Prelude.{ℕ, zero, suc, ◌+◌, ◌*◌, ◌/◌, ◌%◌, Bool, cond, ◌&&◌, List, [], ◌∷◌, ◌++◌, eqb, length, get_or, take, drop, replicate}
use Rattle.std.proofs.Math.Option.{Option, none, some}
use Rattle.protocol.specs.Form.{up_from, most_entries}
use Rattle.rules.specs.Layout.{mode_count, places, stride, table_size, wiring_index, port_index, device_index, first_index, second_index, state_index, asked_index, answered_index, experiment_index, formats_index, list_index, taken_index}
use Rattle.rules.specs.Facts.{Setup, Format, Asking, asked_single, asked_combined, Answering, answered_single, answered_combined, Wiring, Unjoined, Joined, Virtual, Settings, same_list}
use Rattle.rules.specs.Table.{Record, Table}
use Rattle.rules.specs.WellFormed.{well_formed}

-- a record's cells
abbrev pub format_cell : Option Format → ℕ
format_cell none = 0
format_cell (some f) = f.datasets + 256 * (f.kind + 256 * (f.figures + 256 * f.decimals))

-- in place of a mode plus one
abbrev pub combined_cell : ℕ
combined_cell = suc mode_count

abbrev pub setup_cells : Setup → List ℕ
setup_cells s = suc s.mode ∷ s.delta ∷ s.notify ∷ []

abbrev pub asked_cells : Option Asking → List ℕ
asked_cells none = 0 ∷ 0 ∷ 0 ∷ []
asked_cells (some (asked_single s)) = setup_cells s
asked_cells (some asked_combined) = combined_cell ∷ 0 ∷ 0 ∷ []

abbrev pub answered_cells : Option Answering → List ℕ
answered_cells none = 0 ∷ 0 ∷ 0 ∷ []
answered_cells (some (answered_single s)) = setup_cells s
answered_cells (some (answered_combined p list)) = combined_cell ∷ p ∷ 0 ∷ []

-- the list that a 48 took over
abbrev pub taken_by : Option Answering → Option (List ℕ)
taken_by none = none
taken_by (some (answered_single s)) = none
taken_by (some (answered_combined p list)) = some list

unfoldable pub list_cells : Option (List ℕ) → List ℕ
list_cells none = replicate (suc most_entries) 0
list_cells (some list) = length list ∷ take most_entries (list ++ replicate most_entries 0)

abbrev pub wiring_cell : Wiring → ℕ
wiring_cell Unjoined = 1
wiring_cell (Joined v) = 2
wiring_cell (Virtual a b) = 3

abbrev pub first_partner : Wiring → ℕ
first_partner Unjoined = 0
first_partner (Joined v) = v
first_partner (Virtual a b) = a

abbrev pub second_partner : Wiring → ℕ
second_partner Unjoined = 0
second_partner (Joined v) = 0
second_partner (Virtual a b) = b

abbrev pub format_cells : (ℕ → Option Format) → List ℕ → List ℕ
format_cells formats [] = []
format_cells formats (m ∷ ms) = format_cell (formats m) ∷ format_cells formats ms

abbrev pub modes : List ℕ
modes = up_from 0 mode_count

abbrev pub settings_cells : Settings → List ℕ
settings_cells s =
    s.state ∷ (asked_cells s.asked ++ (s.experiment ∷ (answered_cells s.answered ++ (format_cells s.formats modes ++ (list_cells s.list ++ list_cells (taken_by s.answered))))))

unfoldable pub record_cells : Record → List ℕ
record_cells r =
    let f = r.facts in
    wiring_cell f.wiring ∷ r.port ∷ f.device ∷ first_partner f.wiring ∷ second_partner f.wiring ∷ settings_cells f.settings

abbrev pub place_cells : Option Record → List ℕ
place_cells none = replicate stride 0
place_cells (some r) = record_cells r

unfoldable pub cells_of : Table → List ℕ
cells_of [] = []
cells_of (p ∷ t) = place_cells p ++ cells_of t

-- the record that cells stand for
abbrev pub format_bytes : ℕ → Format
format_bytes n = record { datasets = n % 256; kind = n / 256 % 256; figures = n / 256 / 256 % 256; decimals = n / 256 / 256 / 256 }

abbrev pub format_at : ℕ → Option Format
format_at zero = none
format_at (suc n) = some (format_bytes (suc n))

abbrev pub setup_at : ℕ → ℕ → ℕ → Setup
setup_at mode delta notify = record { mode = mode; delta = delta; notify = notify }

abbrev pub asked_at : ℕ → ℕ → ℕ → Option Asking
asked_at zero delta notify = none
asked_at (suc m) delta notify = some (cond (eqb m mode_count) asked_combined (asked_single (setup_at m delta notify)))

abbrev pub answered_at : ℕ → ℕ → ℕ → List ℕ → Option Answering
answered_at zero delta notify taken = none
answered_at (suc m) delta notify taken = some (cond (eqb m mode_count) (answered_combined delta taken) (answered_single (setup_at m delta notify)))

abbrev pub wiring_at : ℕ → ℕ → ℕ → Wiring
wiring_at kind a b = cond (eqb kind 1) Unjoined (cond (eqb kind 2) (Joined a) (Virtual a b))

abbrev pub cell_at : List ℕ → ℕ → ℕ
cell_at c index = get_or c index 0

-- the three cells from an index on
abbrev pub asked_from : List ℕ → ℕ → Option Asking
asked_from c index = asked_at (cell_at c index) (cell_at c (index + 1)) (cell_at c (index + 2))

abbrev pub answered_from : List ℕ → ℕ → List ℕ → Option Answering
answered_from c index taken = answered_at (cell_at c index) (cell_at c (index + 1)) (cell_at c (index + 2)) taken

-- the list whose count is at an index
abbrev pub entries_from : List ℕ → ℕ → List ℕ
entries_from c index = take (cell_at c index) (take most_entries (drop (suc index) c))

abbrev pub list_from : List ℕ → ℕ → Option (List ℕ)
list_from c index = cond (eqb (cell_at c index) 0) none (some (entries_from c index))

abbrev pub settings_at : List ℕ → Settings
settings_at c = record {
  formats = λ mode. format_at (cell_at (take mode_count (drop formats_index c)) mode);
  answered = answered_from c answered_index (entries_from c taken_index);
  asked = asked_from c asked_index;
  list = list_from c list_index;
  state = cell_at c state_index;
  experiment = cell_at c experiment_index;
}

unfoldable pub record_at : List ℕ → Record
record_at c = record {
  port = cell_at c port_index;
  facts = record {
    device = cell_at c device_index;
    wiring = wiring_at (cell_at c wiring_index) (cell_at c first_index) (cell_at c second_index);
    settings = settings_at c;
  };
}

abbrev pub place_at : List ℕ → Option Record
place_at c = cond (eqb (cell_at c wiring_index) 0) none (some (record_at c))

abbrev pub places_at : ℕ → List ℕ → Table
places_at zero cells = []
places_at (suc n) cells = place_at (take stride cells) ∷ places_at n (drop stride cells)

unfoldable pub table_at : List ℕ → Table
table_at cells = places_at places cells

-- sound: they are the cells of the table that they stand for, and that is well formed
unfoldable pub sound : List ℕ → Bool
sound cells = same_list cells (cells_of (table_at cells)) && well_formed (table_at cells)

unfoldable pub empty_cells : List ℕ
empty_cells = replicate table_size 0
