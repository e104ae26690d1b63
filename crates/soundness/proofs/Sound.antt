-- Soundness of cells, place by place.
use Prim.Native.Nat.{ℕ, zero, suc, ◌+◌, ◌*◌, ◌-◌, ◌≤◌, ◌<◌}
use native.Mathlib.Omega.{arith}
use mathlib.Core.Path.{◌≡◌, refl, sym, ◌∙◌, ap}
use mathlib.Core.Bool.{Bool, true, false, cond, not, ◌&&◌, and-true, and-false, and_assoc, true≢false}
use mathlib.Core.List.{List, ◌∷◌, ◌++◌}
use mathlib.Core.Option.{Option, none, some}
use mathlib.Core.Logic.{⊎_elim}
use borrow.Author.Tests.{eq-eqb, ne_eqb, eqb-true, eqb-false}
use lib.Dec.{eqb, ltb}
use lib.ListN.{length, drop, take-append-drop, drop_of_length-le}
use lib.Seq.{drop-drop}
use Rattle.protocol.proofs.Tests.{which, and_left, and_right}
use Rattle.rules.specs.Layout.{places, stride, table_size, port_count, wiring_index, port_index, device_index}
use Rattle.rules.specs.Facts.{Facts, View, known, same_list}
use Rattle.rules.specs.Table.{Record, Table, view_of_table}
use Rattle.rules.specs.WellFormed.{settings_fit, wiring_fits, record_fits, places_fit, well_formed}
use Rattle.rules.specs.Cells.{list_cells, place_cells, cells_of, cell_at, settings_at, record_at, place_at, table_at, sound}
use Rattle.rules.proofs.CellsRecord.{place_length}
use Rattle.rules.proofs.CellsSound.{same_equal, sound_length}
use Rattle.soundness.specs.Place.{place_at_index, from_place}
use Rattle.soundness.specs.Soundness.{wiring_in, empty_place, exact_asked, exact_answered, exact_list, exact_taken, exact_settings, exact_wiring, exact_record, sound_settings, sound_record, place_fits, sound_place}
use Rattle.soundness.proofs.Places.{place_size, next}
use Rattle.soundness.proofs.ExactCells.{record_exact}
use Rattle.soundness.proofs.Lists.{same_append}
use Rattle.soundness.proofs.Loops.{crossed}

-- ---- the places from an index on

abbrev pub sound_from : List ℕ → ℕ → Bool
sound_from cells i = same_list (drop (stride * i) cells) (cells_of (from_place cells i)) && places_fit (view_of_table (table_at cells)) (from_place cells i)

pub sound_start : (cells : List ℕ) → sound cells ≡ sound_from cells 0
unfolding sound table_at well_formed
sound_start cells = refl

place_then : (view : View) (p : Option Record) (t : Table) → places_fit view (p ∷ t) ≡ (place_fits view t p && places_fit view t)
place_then view none t = refl
place_then view (some r) t = refl

module _ (cells : List ℕ) (i : ℕ) (size : length cells ≡ table_size) where
  pub sound_done : places ≤ i → sound_from cells i ≡ true
  unfolding cells_of
  sound_done h =
      let none_left : places - i ≡ 0 = omega arith in
      rw (none_left, drop_of_length-le cells {i = stride * i} (omega arith))

  pub sound_next : i < places → sound_from cells i ≡ (sound_place cells i && sound_from cells (i + 1))
  unfolding sound_place cells_of
  sound_next h =
      let view : View = view_of_table (table_at cells) in
      let place : List ℕ = place_at_index cells i in
      let p : Option Record = place_at place in
      let rest : List ℕ = drop (stride * (i + 1)) cells in
      let later : Table = from_place cells (i + 1) in
      let width : stride * i + stride ≡ stride * (i + 1) = omega arith in
      let cut : drop (stride * i) cells ≡ place ++ rest =
      sym (take-append-drop stride (drop (stride * i) cells)) ∙ ap (λ (l : List ℕ). place ++ l) (drop-drop stride (stride * i) cells ∙ ap (λ (n : ℕ). drop n cells) width)
      in
      ap (λ (l : List ℕ). same_list l (cells_of (from_place cells i)) && places_fit view (from_place cells i)) cut
      ∙ ap (λ (t : Table). same_list (place ++ rest) (cells_of t) && places_fit view t) (next cells i h)
      ∙ (λ j. same_append place (place_cells p) rest (cells_of later) (place_size cells i size h ∙ sym (place_length p)) j && place_then view p later j)
      ∙ crossed (same_list place (place_cells p)) (same_list rest (cells_of later)) (place_fits view later p) (places_fit view later)

-- one place that is not sound is enough

module _ (cells : List ℕ) (size : length cells ≡ table_size) where
  back : (i : ℕ) → i ≤ places → sound_from cells i ≡ false → sound_from cells 0 ≡ false
  back zero h e = e
  back (suc i) h e =
      let one : i + 1 ≡ suc i = omega arith in
      back i (omega arith) (sound_next cells i size (omega arith) ∙ ap (λ (k : ℕ). sound_place cells i && sound_from cells k) one ∙ ap (λ (b : Bool). sound_place cells i && b) e ∙ and-false (sound_place cells i))

  pub unsound : (i : ℕ) → i < places → sound_place cells i ≡ false → sound cells ≡ false
  unsound i h e = sound_start cells ∙ back i (omega arith) (sound_next cells i size h ∙ ap (λ (b : Bool). b && sound_from cells (i + 1)) e)

pub wrong_size : (cells : List ℕ) → (length cells ≡ table_size → ⊥) → false ≡ sound cells
wrong_size cells n = ⊎_elim (λ (k : sound cells ≡ true). absurd (n (sound_length cells k))) (λ (k : sound cells ≡ false). sym k) (which (sound cells))

-- ---- the place at an index

module _ (cells place : List ℕ) (i : ℕ) (is : place ≡ place_at_index cells i) where
  -- what is asked of it, by what it stands for
  asked : Option Record → Bool
  asked p = same_list place (place_cells p) && place_fits (view_of_table (table_at cells)) (from_place cells (i + 1)) p

  by_place : (free : Bool) → eqb (cell_at place wiring_index) 0 ≡ free → asked (cond free none (some (record_at place))) ≡ sound_place cells i
  unfolding sound_place asked
  by_place free e =
      sym (ap (λ (l : List ℕ). same_list l (place_cells (place_at l)) && place_fits (view_of_table (table_at cells)) (from_place cells (i + 1)) (place_at l)) (sym is) ∙ ap (λ (b : Bool). asked (cond b none (some (record_at place)))) e)

  pub free_sound : cell_at place wiring_index ≡ 0 → empty_place place ≡ sound_place cells i
  unfolding asked empty_place
  free_sound e = sym (and-true (same_list place (place_cells none))) ∙ by_place true (eq-eqb (cell_at place wiring_index) 0 e)

  pub record_sound : (cell_at place wiring_index ≡ 0 → ⊥) → (exact_record place && record_fits (view_of_table (table_at cells)) (record_at place) && not (known (view_of_table (from_place cells (i + 1)) (cell_at place port_index)))) ≡ sound_place cells i
  unfolding asked exact_record record_at
  record_sound n =
      and_assoc (exact_record place) (record_fits (view_of_table (table_at cells)) (record_at place)) (not (known (view_of_table (from_place cells (i + 1)) (cell_at place port_index))))
      ∙ by_place false (ne_eqb (cell_at place wiring_index) 0 n)

  -- where its port is in no later place
  pub record_alone : (cell_at place wiring_index ≡ 0 → ⊥) → view_of_table (from_place cells (i + 1)) (cell_at place port_index) ≡ none → sound_record (view_of_table (table_at cells)) place ≡ sound_place cells i
  unfolding sound_record
  record_alone n alone =
      sym (and-true (exact_record place && record_fits (view_of_table (table_at cells)) (record_at place)))
      ∙ ap (λ (f : Option Facts). exact_record place && record_fits (view_of_table (table_at cells)) (record_at place) && not (known f)) (sym alone)
      ∙ record_sound n

-- ---- a record, test by test

pub record_tests : (view : View) (place : List ℕ) → length place ≡ stride → (exact_wiring place && (ltb (cell_at place port_index) port_count && ltb (cell_at place device_index) 65536) && sound_settings place && wiring_fits view (cell_at place port_index) (wiring_in place)) ≡ sound_record view place
unfolding sound_settings sound_record record_at
record_tests view place size =
    grouped (exact_wiring place) (exact_settings place) (ltb (cell_at place port_index) port_count) (ltb (cell_at place device_index) 65536) (settings_fit (settings_at place)) (wiring_fits view (cell_at place port_index) (wiring_in place))
    ∙ ap (λ (b : Bool). b && record_fits view (record_at place)) (record_exact place size)
  where
    front : (x p d s f : Bool) → (p && d && (x && s) && f) ≡ (x && (p && (d && s) && f))
    front true true d s f = refl
    front true false d s f = refl
    front false true true s f = refl
    front false true false s f = refl
    front false false d s f = refl

    grouped : (w x p d s f : Bool) → (w && (p && d) && (x && s) && f) ≡ (w && x && (p && (d && s) && f))
    grouped true x p d s f = front x p d s f
    grouped false x p d s f = refl

-- ---- the settings at a place of a sound table; those of a free place are none

pub settings_here_lem : (cells : List ℕ) → sound cells ≡ true → (i : ℕ) → i < places → sound_settings (place_at_index cells i) ≡ true
unfolding empty_place sound_settings exact_settings exact_asked exact_answered exact_list exact_taken sound_record list_cells
settings_here_lem cells s i h =
    let place : List ℕ = place_at_index cells i in
    let view : View = view_of_table (table_at cells) in
    let size : length cells ≡ table_size = sound_length cells s in
    let here : sound_place cells i ≡ true =
    ⊎_elim (λ (k : sound_place cells i ≡ true). k) (λ (k : sound_place cells i ≡ false). absurd (true≢false (sym s ∙ unsound cells size i h k))) (which (sound_place cells i))
    in
    ⊎_elim
    (λ (k : eqb (cell_at place wiring_index) 0 ≡ true).
    ap sound_settings (same_equal place (place_cells none) (free_sound cells place i refl (eqb-true (cell_at place wiring_index) 0 k) ∙ here)))
    (λ (k : eqb (cell_at place wiring_index) 0 ≡ false).
    let alone : Bool = not (known (view_of_table (from_place cells (i + 1)) (cell_at place port_index))) in
    let small : Bool = ltb (cell_at place port_index) port_count && ltb (cell_at place device_index) 65536 in
    let wired : Bool = wiring_fits view (cell_at place port_index) (wiring_in place) in
    let whole : sound_record view place ≡ true = and_left (sound_record view place) alone (record_sound cells place i refl (eqb-false (cell_at place wiring_index) 0 k) ∙ here) in
    and_right (exact_wiring place && small) (sound_settings place) (and_left (exact_wiring place && small && sound_settings place) wired (record_tests view place (place_size cells i size h) ∙ whole)))
    (which (eqb (cell_at place wiring_index) 0))
