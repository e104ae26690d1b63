-- The cells of a place are those of what it stands for: zeros, or a record's, by its wiring, what was asked and answered, and
-- the lists; any experiment number is exact.
use Prim.Native.Nat.{ℕ, zero, suc, ◌+◌, ◌≤◌}
use native.Mathlib.Nat.{add-zero}
use native.Mathlib.Omega.{arith}
use mathlib.Core.Path.{◌≡◌, refl, sym, ◌∙◌, ap}
use mathlib.Core.Bool.{Bool, true, false, ◌&&◌}
use mathlib.Core.List.{List, [], ◌∷◌, ◌++◌}
use mathlib.Core.Option.{Option, none, some}
use borrow.Author.Tests.{eq-eqb}
use lib.Dec.{eqb}
use lib.ListN.{length, take, drop, replicate, length-drop, drop_of_length-le, take-append-drop}
use lib.Seq.{take_all, drop-drop, drop-cons, length-take-le}
use Rattle.protocol.specs.Form.{up_from}
use Rattle.rules.specs.declared.Wiring.{Wiring}
use Rattle.rules.specs.Layout.{mode_count, stride, port_index, device_index, wiring_index, first_index, second_index, state_index, asked_index, experiment_index, answered_index, formats_index, list_index, taken_index}
use Rattle.rules.specs.Facts.{Asking, asked_single, asked_combined, Answering, answered_single, answered_combined, same_list}
use Rattle.rules.specs.Cells.{format_cell, asked_cells, answered_cells, taken_by, list_cells, wiring_cell, first_partner, second_partner, format_cells, modes, record_cells, cell_at, format_at, record_at}
use Rattle.rules.proofs.CellsRecord.{list_length}
use Rattle.rules.proofs.CellsSound.{same_refl}
use Rattle.soundness.specs.Soundness.{wiring_in, asked_in, answered_in, list_in, all_zeros, empty_place, three_cells, cells_of_list, exact_asked, exact_answered, exact_list, exact_taken, exact_settings, exact_as, exact_wiring, exact_record}
use Rattle.soundness.proofs.Lists.{same_append, list_cells_lem}

pub same : (n : ℕ) → eqb n n ≡ true
same n = eq-eqb n n refl

-- ---- a free place

pub empty_zeros : (place : List ℕ) → length place ≡ stride → all_zeros place ≡ empty_place place
unfolding empty_place all_zeros
empty_zeros place size = ap (λ (n : ℕ). same_list place (replicate n 0)) size

-- ---- a record

-- so many cells from an index on
abbrev some_cells : List ℕ → ℕ → ℕ → List ℕ
some_cells place from zero = []
some_cells place from (suc n) = cell_at place from ∷ some_cells place (suc from) n

first_cells : (place : List ℕ) (from n : ℕ) → from + n ≤ length place → drop from place ≡ some_cells place from n ++ drop (from + n) place
first_cells place from zero h = ap (λ (k : ℕ). drop k place) (sym (add-zero from))
first_cells place from (suc n) h =
    let more : suc from + n ≡ from + suc n = omega arith in
    drop-cons place from 0 (omega arith)
    ∙ ap (λ (l : List ℕ). cell_at place from ∷ l) (first_cells place (suc from) n (omega arith) ∙ ap (λ (k : ℕ). some_cells place (suc from) n ++ drop k place) more)

-- the cells of formats are those of what they stand for, whatever they are

format_cell_lem : (n : ℕ) → format_cell (format_at n) ≡ n
format_cell_lem zero = refl
format_cell_lem (suc n) = omega arith

formats_from : (fs : List ℕ) (from n : ℕ) → from + n ≡ length fs → format_cells (λ mode. format_at (cell_at fs mode)) (up_from from n) ≡ drop from fs
formats_from fs from zero e = sym (drop_of_length-le fs {i = from} (omega arith))
formats_from fs from (suc n) e =
    (λ i. format_cell_lem (cell_at fs from) i ∷ formats_from fs (suc from) n (omega arith) i) ∙ sym (drop-cons fs from 0 (omega arith))

formats_same : (fs : List ℕ) → length fs ≡ mode_count → same_list fs (format_cells (λ mode. format_at (cell_at fs mode)) modes) ≡ true
formats_same fs e = ap (same_list fs) (formats_from fs 0 mode_count (omega arith)) ∙ same_refl fs

-- what was asked and what was answered has three cells

three_asked : (x : Option Asking) → length (asked_cells x) ≡ 3
three_asked none = refl
three_asked (some (asked_single s)) = refl
three_asked (some asked_combined) = refl

three_answered : (x : Option Answering) → length (answered_cells x) ≡ 3
three_answered none = refl
three_answered (some (answered_single s)) = refl
three_answered (some (answered_combined p list)) = refl

-- the cells from what was asked to what was answered, the experiment number between them
setups_same : (place fs gs : List ℕ) → same_list (some_cells place asked_index 7 ++ fs) (asked_cells (asked_in place) ++ (cell_at place experiment_index ∷ (answered_cells (answered_in place) ++ gs))) ≡ (exact_asked place && (exact_answered place && same_list fs gs))
unfolding exact_asked exact_answered
setups_same place fs gs =
    let asked : List ℕ = asked_cells (asked_in place) in
    let answered : List ℕ = answered_cells (answered_in place) in
    let number : ℕ = cell_at place experiment_index in
    same_append (three_cells place asked_index) asked (number ∷ (three_cells place answered_index ++ fs)) (number ∷ (answered ++ gs)) (sym (three_asked (asked_in place)))
    ∙ (λ i. same_list (three_cells place asked_index) asked && (same number i && same_append (three_cells place answered_index) answered fs gs (sym (three_answered (answered_in place))) i))

-- the formats and the lists
later_same : (place : List ℕ) → length place ≡ stride → same_list (drop formats_index place) (format_cells (λ mode. format_at (cell_at (take mode_count (drop formats_index place)) mode)) modes ++ (list_cells (list_in place) ++ list_cells (taken_by (answered_in place)))) ≡ (exact_list place list_index && exact_taken place)
unfolding exact_list exact_taken
later_same place size =
    let fs : List ℕ = take mode_count (drop formats_index place) in
    let gs : List ℕ = format_cells (λ mode. format_at (cell_at fs mode)) modes in
    let kept : List ℕ = list_cells (list_in place) in
    let taken : List ℕ = list_cells (taken_by (answered_in place)) in
    let list : List ℕ = cells_of_list place list_index in
    let last : List ℕ = cells_of_list place taken_index in
    let formats : length fs ≡ mode_count = length-take-le mode_count (drop formats_index place) (rw length-drop (omega arith)) in
    ap (λ (l : List ℕ). same_list l (gs ++ (kept ++ taken))) (cut formats_index mode_count ∙ ap (λ (l : List ℕ). fs ++ l) (cut list_index 17 ∙ ap (λ (l : List ℕ). list ++ l) (sym (take_all 17 (drop taken_index place) (rw length-drop (omega arith))))))
    ∙ same_append fs gs (list ++ last) (kept ++ taken) formats
    ∙ (λ i. formats_same fs formats i && same_append list kept last taken (list_cells_lem place list_index size (omega arith) ∙ sym (list_length (list_in place))) i)
  where
    cut : (at n : ℕ) → drop at place ≡ take n (drop at place) ++ drop (at + n) place
    cut at n = sym (take-append-drop n (drop at place)) ∙ ap (λ (l : List ℕ). take n (drop at place) ++ l) (drop-drop n at place)

front_same : (w : Wiring) (place fs gs : List ℕ) → same_list (some_cells place 0 asked_index ++ fs) (wiring_cell w ∷ cell_at place port_index ∷ cell_at place device_index ∷ first_partner w ∷ second_partner w ∷ cell_at place state_index ∷ gs) ≡ (exact_as w place && same_list fs gs)
front_same w place fs gs =
    rw (same (cell_at place port_index), same (cell_at place device_index), same (cell_at place state_index)) (grouped (eqb (cell_at place wiring_index) (wiring_cell w)) (eqb (cell_at place first_index) (first_partner w)) (eqb (cell_at place second_index) (second_partner w)) (same_list fs gs))
  where
    grouped : (x y z t : Bool) → (x && (y && (z && t))) ≡ (x && y && z && t)
    grouped true true z t = refl
    grouped true false z t = refl
    grouped false y z t = refl

pub record_exact : (place : List ℕ) → length place ≡ stride → (exact_wiring place && exact_settings place) ≡ exact_record place
unfolding exact_record record_cells record_at exact_wiring exact_settings
record_exact place size =
    let w : Wiring = wiring_in place in
    let fs : List ℕ = drop formats_index place in
    let gs : List ℕ = format_cells (λ mode. format_at (cell_at (take mode_count fs) mode)) modes ++ (list_cells (list_in place) ++ list_cells (taken_by (answered_in place))) in
    sym (ap (λ (l : List ℕ). same_list l (record_cells (record_at place))) (first_cells place 0 formats_index (omega arith))
    ∙ front_same w place (some_cells place asked_index 7 ++ fs) (asked_cells (asked_in place) ++ (cell_at place experiment_index ∷ (answered_cells (answered_in place) ++ gs)))
    ∙ ap (λ (t : Bool). exact_as w place && t) (setups_same place fs gs ∙ ap (λ (t : Bool). exact_asked place && (exact_answered place && t)) (later_same place size) ∙ grouped (exact_asked place) (exact_answered place) (exact_list place list_index) (exact_taken place)))
  where
    grouped : (a b c d : Bool) → (a && (b && (c && d))) ≡ (a && b && c && d)
    grouped true true c d = refl
    grouped true false c d = refl
    grouped false b c d = refl
