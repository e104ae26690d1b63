-- What soundness asks of the cells of one place, part by part.
use Rattle.std.specs.Prelude.{ℕ, suc, ◌+◌, ◌-◌, ◌^◌, Bool, true, cond, not, ◌&&◌, ◌||◌, List, [], ◌∷◌, eqb, ltb, length, take, drop, replicate}
use Rattle.std.proofs.Math.Option.{Option, none, some}
use Rattle.protocol.specs.Form.{most_entries, mode_dataset_list, wrong_byte}
use Rattle.rules.specs.declared.Wiring.{Wiring}
use Rattle.rules.specs.Layout.{mode_count, wiring_index, first_index, second_index, state_index, asked_index, experiment_index, answered_index, list_index, taken_index}
use Rattle.rules.specs.Facts.{Asking, Answering, View, known, same_list}
use Rattle.rules.specs.Pointers.{pointers_fit}
use Rattle.rules.specs.Table.{Record, Table, view_of_table}
use Rattle.rules.specs.WellFormed.{setup_fits, all_bytes, is_none, kept_fits, asked_fits, answered_fits, formats_fit, experiment_fits, settings_fit, record_fits}
use Rattle.rules.specs.Cells.{combined_cell, asked_cells, answered_cells, taken_by, list_cells, wiring_cell, first_partner, second_partner, record_cells, place_cells, cell_at, setup_at, asked_from, answered_from, entries_from, list_from, wiring_at, settings_at, record_at, place_at, table_at}
use Rattle.soundness.specs.Place.{place_at_index, from_place}

-- ---- what the cells of a place stand for

abbrev pub wiring_in : List ℕ → Wiring
wiring_in place = wiring_at (cell_at place wiring_index) (cell_at place first_index) (cell_at place second_index)

abbrev pub asked_in : List ℕ → Option Asking
asked_in place = asked_from place asked_index

abbrev pub answered_in : List ℕ → Option Answering
answered_in place = answered_from place answered_index (entries_from place taken_index)

abbrev pub list_in : List ℕ → Option (List ℕ)
list_in place = list_from place list_index

-- ---- exact: the cells are those of what they stand for

unfoldable pub all_zeros : List ℕ → Bool
all_zeros cells = same_list cells (replicate (length cells) 0)

unfoldable pub empty_place : List ℕ → Bool
empty_place place = same_list place (place_cells none)

abbrev pub three_cells : List ℕ → ℕ → List ℕ
three_cells place at = cell_at place at ∷ cell_at place (at + 1) ∷ cell_at place (at + 2) ∷ []

-- a list's count and entries
abbrev pub cells_of_list : List ℕ → ℕ → List ℕ
cells_of_list place at = take (suc most_entries) (drop at place)

unfoldable pub exact_asked : List ℕ → Bool
exact_asked place = same_list (three_cells place asked_index) (asked_cells (asked_in place))

unfoldable pub exact_answered : List ℕ → Bool
exact_answered place = same_list (three_cells place answered_index) (answered_cells (answered_in place))

unfoldable pub exact_list : List ℕ → ℕ → Bool
exact_list place at = same_list (cells_of_list place at) (list_cells (list_from place at))

-- the list that a 48 took over; zeros where the answer is no 48
unfoldable pub exact_taken : List ℕ → Bool
exact_taken place = same_list (cells_of_list place taken_index) (list_cells (taken_by (answered_in place)))

unfoldable pub exact_settings : List ℕ → Bool
exact_settings place = exact_asked place && exact_answered place && exact_list place list_index && exact_taken place

abbrev pub exact_as : Wiring → List ℕ → Bool
exact_as w place = eqb (cell_at place wiring_index) (wiring_cell w) && eqb (cell_at place first_index) (first_partner w) && eqb (cell_at place second_index) (second_partner w)

unfoldable pub exact_wiring : List ℕ → Bool
exact_wiring place = exact_as (wiring_in place) place

unfoldable pub exact_record : List ℕ → Bool
exact_record place = same_list place (record_cells (record_at place))

-- ---- within the lists, the experiment number by its rule

-- bytes, none twice
unfoldable pub entries_fit : List ℕ → Bool
entries_fit entries = all_bytes entries && is_none (wrong_byte mode_dataset_list entries)

unfoldable pub formats_in_fit : List ℕ → Bool
formats_in_fit place = formats_fit mode_count (settings_at place).formats

unfoldable pub experiment_in_fits : List ℕ → Bool
experiment_in_fits place = experiment_fits (asked_in place) (cell_at place experiment_index)

-- ---- exact, and within the lists

-- none, or a setup
unfoldable pub sound_setup : List ℕ → ℕ → Bool
sound_setup place at =
    let mode = cell_at place at in
    let delta = cell_at place (at + 1) in
    let notify = cell_at place (at + 2) in
    cond (eqb mode 0) (eqb delta 0 && eqb notify 0) (setup_fits (setup_at (mode - 1) delta notify))

unfoldable pub sound_list : List ℕ → ℕ → Bool
sound_list place at = exact_list place at && kept_fits (list_from place at)

unfoldable pub sound_asked : List ℕ → Bool
sound_asked place = exact_asked place && asked_fits (asked_in place) (list_in place)

unfoldable pub sound_answered : List ℕ → Bool
sound_answered place = exact_answered place && exact_taken place && answered_fits (answered_in place) (list_in place)

-- the pointers of a cell, a u16; none where it is larger
unfoldable pub pointers_of : ℕ → ℕ
pointers_of n = cond (ltb n 65536) n 0

-- the same of a 48, by its cells
unfoldable pub sound_combined : List ℕ → Bool
sound_combined place =
    let count = cell_at place taken_index in
    eqb (cell_at place (answered_index + 2)) 0 && not (eqb (cell_at place list_index) 0) && not (eqb count 0)
    && sound_list place taken_index
    && pointers_fit (pointers_of (cell_at place (answered_index + 1))) count

-- ---- the state by the cells, where the other settings are exact and within their lists

-- the cells of what was asked and of what was answered are equal
abbrev pub same_setups : List ℕ → Bool
same_setups place =
    eqb (cell_at place asked_index) (cell_at place answered_index)
    && eqb (cell_at place (asked_index + 1)) (cell_at place (answered_index + 1))
    && eqb (cell_at place (asked_index + 2)) (cell_at place (answered_index + 2))

-- what was answered is what was asked: the same setup, or all of the list
unfoldable pub as_asked : List ℕ → Bool
as_asked place =
    cond (eqb (cell_at place answered_index) combined_cell)
    (eqb (cell_at place asked_index) combined_cell && eqb (suc (pointers_of (cell_at place (answered_index + 1)))) (2 ^ cell_at place taken_index))
    (same_setups place)

-- a 48 took over the list that is kept
unfoldable pub took_kept : List ℕ → Bool
took_kept place = cond (eqb (cell_at place answered_index) combined_cell) (same_list (cells_of_list place taken_index) (cells_of_list place list_index)) true

unfoldable pub state_by_cells : List ℕ → Bool
state_by_cells place =
    let state = cell_at place state_index in
    cond (eqb (cell_at place asked_index) 0) (eqb state 0)
    (eqb state 1 || (not (eqb (cell_at place answered_index) 0) && (eqb state (cond (as_asked place) 2 3) && took_kept place)))

-- ---- all of a record

unfoldable pub sound_settings : List ℕ → Bool
sound_settings place = exact_settings place && settings_fit (settings_at place)

unfoldable pub sound_record : View → List ℕ → Bool
sound_record view place = exact_record place && record_fits view (record_at place)

-- ---- among the places of a table

-- a place's record fits, and its port stands in no later place
abbrev pub place_fits : View → Table → Option Record → Bool
place_fits view later none = true
place_fits view later (some r) = record_fits view r && not (known (view_of_table later r.port))

-- the place at an index is exact and fits
unfoldable pub sound_place : List ℕ → ℕ → Bool
sound_place cells i =
    let place = place_at_index cells i in
    same_list place (place_cells (place_at place)) && place_fits (view_of_table (table_at cells)) (from_place cells (i + 1)) (place_at place)
