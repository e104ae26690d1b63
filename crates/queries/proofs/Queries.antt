-- What the queries answer, by the cells of a place.
use Prim.Native.Nat.{ℕ, suc, ◌+◌, ◌≤◌, ◌<◌}
use native.Mathlib.Omega.{arith}
use mathlib.Core.Path.{◌≡◌, sym, ◌∙◌, ap}
use mathlib.Core.Bool.{true, not, ◌&&◌}
use mathlib.Core.List.{List, ◌++◌}
use mathlib.Core.Option.{Option, none, some}
use borrow.Author.Tests.{ltb-true}
use lib.Dec.{ltb, eqb}
use lib.ListN.{length, drop, take-append-drop, length-drop}
use lib.Seq.{drop-drop, take_all}
use Rattle.protocol.specs.Form.{most_entries}
use Rattle.protocol.proofs.Tests.{and_left, and_right}
use Rattle.rules.specs.Facts.{Asking, Answering, Facts, View}
use Rattle.rules.specs.declared.Wiring.{Wiring}
use Rattle.rules.specs.declared.Wiring.TheVariants.{Unjoined, Joined, Virtual}
use Rattle.rules.specs.Layout.{port_count, mode_count, places, stride, device_index, state_index, experiment_index, formats_index, list_index, taken_index}
use Rattle.rules.specs.Table.{view_of_table}
use Rattle.rules.specs.WellFormed.{is_joined_to, is_pair_with, wiring_fits, settings_fit}
use Rattle.rules.specs.Cells.{first_partner, second_partner, format_at, taken_by, list_cells, list_from, settings_at, record_at, table_at, sound}
use Rattle.rules.specs.Offer.{view_of_cells}
use Rattle.rules.proofs.CellsSound.{same_equal, sound_length}
use Rattle.rules.proofs.SettingsFit.{five_passed}
use Rattle.rules.proofs.Laws.{table_sound}
use Rattle.rules.proofs.Sound.{wiring?, wiring_fits_lem}
use Rattle.soundness.specs.Place.{place_at_index, cell_of, list_here, facts_at, wiring_here}
use Rattle.soundness.specs.Soundness.{answered_in, cells_of_list, exact_asked, exact_answered, exact_list, exact_taken, exact_settings, sound_settings}
use Rattle.soundness.proofs.Places.{place_size}
use Rattle.soundness.proofs.Records.{here, some_at, device_at, wiring_at_lem, asked_at_lem, answered_at_lem, list_at, state_at, experiment_at, format_at_lem, fit}
use Rattle.soundness.proofs.Sound.{settings_here_lem}
use Rattle.queries.specs.FormatAnswer.{format_from}
use Rattle.queries.specs.PortAnswer.{port_facts, Lists, asked_here, answered_here}

-- ---- the lists at a place

module _ (cells : List ℕ) (i : ℕ) (s : sound cells ≡ true) (h : i < places) where
  abbrev place : List ℕ
  place = place_at_index cells i

  size : length place ≡ stride
  size = place_size cells i (sound_length cells s) h

  exact : exact_settings place ≡ true
  unfolding sound_settings
  exact = and_left (exact_settings place) (settings_fit (settings_at place)) (settings_here_lem cells s i h)

  kept_exact : cells_of_list place list_index ≡ list_cells (here cells i).settings.list
  unfolding exact_settings exact_list record_at
  kept_exact =
      let three = and_left (exact_asked place && exact_answered place && exact_list place list_index) (exact_taken place) exact in
      same_equal (cells_of_list place list_index) (list_cells (list_from place list_index)) (and_right (exact_asked place && exact_answered place) (exact_list place list_index) three)

  taken_exact : cells_of_list place taken_index ≡ list_cells (taken_by (here cells i).settings.answered)
  unfolding exact_settings exact_taken record_at
  taken_exact = same_equal (cells_of_list place taken_index) (list_cells (taken_by (answered_in place))) (and_right (exact_asked place && exact_answered place && exact_list place list_index) (exact_taken place) exact)

  -- one after the other, to the end of the place
  both : drop list_index place ≡ cells_of_list place list_index ++ cells_of_list place taken_index
  both =
      sym (take-append-drop (suc most_entries) (drop list_index place))
      ∙ ap (λ (l : List ℕ). cells_of_list place list_index ++ l) (drop-drop (suc most_entries) list_index place ∙ sym (take_all (suc most_entries) (drop taken_index place) (omega (arith, length-drop taken_index place, size))))

  pub lists_stand_lem : (answered : Option Answering) → answered ≡ answered_here cells i → Lists cells i (list_here cells i list_index) (taken_by answered)
  lists_stand_lem answered e = record {
    size = sound_length cells s;
    inside = h;
    exact = both ∙ (λ j. (kept_exact ∙ ap list_cells (list_at cells i)) j ++ (taken_exact ∙ ap (λ (x : Option Answering). list_cells (taken_by x)) (answered_at_lem cells i ∙ sym e)) j);
  }

-- ---- partners

pub record SmallPartners (w : Wiring) : Type 0 where
  pub first : first_partner w < port_count
  pub second : second_partner w < port_count

small_partners : (view : View) (port : ℕ) (w : Wiring) → wiring_fits view port w ≡ true → SmallPartners w
small_partners view port Unjoined e = record { first = omega arith; second = omega arith }
small_partners view port (Joined v) e = record { first = ltb-true v port_count (and_left (ltb v port_count) (is_pair_with port (view v)) e); second = omega arith }
small_partners view port (Virtual a b) e =
    let k = five_passed (ltb a port_count) (ltb b port_count) (not (eqb a b)) (is_joined_to port (view a)) (is_joined_to port (view b)) e in
    record { first = ltb-true a port_count k.0; second = ltb-true b port_count k.1 }

module _ (cells : List ℕ) (i port : ℕ) (s : sound cells ≡ true) (h : i < places) (found : view_of_cells cells port ≡ facts_at cells i) where
  pub partners_small : SmallPartners (wiring_here cells i)
  partners_small =
      let fits : wiring_fits (view_of_table (table_at cells)) port (here cells i).wiring ≡ true = wiring_fits_lem (table_at cells) (table_sound cells s) port (here cells i).wiring (ap wiring? (found ∙ some_at cells i h)) in
      small_partners (view_of_table (table_at cells)) port (wiring_here cells i) (sym (ap (wiring_fits (view_of_table (table_at cells)) port) (wiring_at_lem cells i)) ∙ fits)

  -- all that is known of the port
  pub port_at_lem : (device state experiment : ℕ) (wiring : Wiring) (answered : Option Answering) (asked : Option Asking)
      → device ≡ cell_of cells i device_index
      → wiring ≡ wiring_here cells i
      → answered ≡ answered_here cells i
      → asked ≡ asked_here cells i
      → state ≡ cell_of cells i state_index
      → experiment ≡ cell_of cells i experiment_index
      → some (record { device = device; wiring = wiring; answered = answered; asked = asked; list = list_here cells i list_index; state = state; experiment = experiment }) ≡ port_facts (view_of_cells cells port)
  port_at_lem device state experiment wiring answered asked d w x y z n =
      (λ j. some (record {
        device = (d ∙ sym (device_at cells i)) j;
        wiring = (w ∙ sym (wiring_at_lem cells i)) j;
        answered = (x ∙ sym (answered_at_lem cells i)) j;
        asked = (y ∙ sym (asked_at_lem cells i)) j;
        list = sym (list_at cells i) j;
        state = (z ∙ sym (state_at cells i)) j;
        experiment = (n ∙ sym (experiment_at cells i)) j;
      })) ∙ sym (ap port_facts (found ∙ some_at cells i h))

  -- ---- the format of a mode

  pub no_format : (mode : ℕ) → mode_count ≤ mode → format_from (view_of_cells cells port) mode ≡ none
  no_format mode high = ap (λ (x : Option Facts). format_from x mode) (found ∙ some_at cells i h) ∙ (fit cells i port s h found).settings.high mode high

  pub the_format : (mode : ℕ) → mode < mode_count → format_from (view_of_cells cells port) mode ≡ format_at (cell_of cells i (formats_index + mode))
  the_format mode low = ap (λ (x : Option Facts). format_from x mode) (found ∙ some_at cells i h) ∙ format_at_lem cells i mode low
