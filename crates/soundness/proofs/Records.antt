-- The record at a place, by its cells.
use Prim.Native.Nat.{ℕ, zero, suc, ◌+◌, ◌*◌, ◌-◌, ◌≤◌, ◌<◌}
use native.Mathlib.Nat.{sub-zero}
use native.Mathlib.Omega.{arith}
use mathlib.Core.Path.{◌≡◌, sym, ◌∙◌, ap}
use mathlib.Core.Bool.{Bool, true, cond}
use mathlib.Core.List.{List, [], ◌∷◌}
use mathlib.Core.Option.{none, some}
use borrow.Author.Tests.{eq-eqb, ne_eqb, lt-ltb, ltb-true}
use lib.Dec.{eqb}
use lib.ListN.{length, get_or, take, drop, length-drop}
use lib.Seq.{take-nil, take-take, drop-drop, get_or-take, get_or-drop, length-take-le}
use Rattle.protocol.specs.Form.{most_entries}
use Rattle.rules.specs.Layout.{places, mode_count, stride, table_size, wiring_index, device_index, first_index, second_index, state_index, asked_index, experiment_index, answered_index, formats_index, list_index, taken_index}
use Rattle.rules.specs.Facts.{Facts}
use Rattle.rules.specs.Cells.{format_at, asked_at, answered_at, wiring_at, entries_from, record_at, sound}
use Rattle.rules.specs.Offer.{view_of_cells}
use Rattle.rules.proofs.SettingsFit.{InLists, listed}
use Rattle.rules.proofs.Sound.{Fit}
use Rattle.rules.proofs.Laws.{table_sound}
use Rattle.soundness.specs.Place.{place_at_index, cell_of, entries_here, list_here, facts_at, wiring_here}
use Rattle.soundness.proofs.Places.{cell}

-- the facts of the record at a place
abbrev pub here : List ℕ → ℕ → Facts
here cells i = (record_at (place_at_index cells i)).facts

pub some_at : (cells : List ℕ) (i : ℕ) → i < places → facts_at cells i ≡ some (here cells i)
unfolding facts_at
some_at cells i h = rw (lt-ltb i places h)

pub wiring_at_lem : (cells : List ℕ) (i : ℕ) → (here cells i).wiring ≡ wiring_here cells i
unfolding record_at
wiring_at_lem cells i = λ j. wiring_at (cell cells i wiring_index (omega arith) j) (cell cells i first_index (omega arith) j) (cell cells i second_index (omega arith) j)

pub device_at : (cells : List ℕ) (i : ℕ) → (here cells i).device ≡ cell_of cells i device_index
unfolding record_at
device_at cells i = cell cells i device_index (omega arith)

pub state_at : (cells : List ℕ) (i : ℕ) → (here cells i).settings.state ≡ cell_of cells i state_index
unfolding record_at
state_at cells i = cell cells i state_index (omega arith)

pub experiment_at : (cells : List ℕ) (i : ℕ) → (here cells i).settings.experiment ≡ cell_of cells i experiment_index
unfolding record_at
experiment_at cells i = cell cells i experiment_index (omega arith)

drop_take : (n k : ℕ) (l : List ℕ) → drop n (take k l) ≡ take (k - n) (drop n l)
drop_take zero k l = ap (λ (m : ℕ). take m l) (sym (sub-zero k))
drop_take (suc n) zero l = let over : 0 - suc n ≡ 0 = omega arith in sym (ap (λ (m : ℕ). take m (drop (suc n) l)) over)
drop_take (suc n) (suc k) [] = sym (take-nil (suc k - suc n))
drop_take (suc n) (suc k) (x ∷ l) = let less : k - n ≡ suc k - suc n = omega arith in drop_take n k l ∙ ap (λ (m : ℕ). take m (drop n l)) less

-- a list's entries
entries_at : (cells : List ℕ) (i index : ℕ) → index + most_entries < stride → entries_from (place_at_index cells i) index ≡ entries_here cells i index
entries_at cells i index inside =
    let next : stride * i + suc index ≡ suc (stride * i + index) = omega arith in
    let from : List ℕ = drop (stride * i) cells in
    λ j. take (cell cells i index (omega arith) j) ((ap (take most_entries) (drop_take (suc index) stride from)
    ∙ take-take most_entries (stride - suc index) (drop (suc index) from) (omega arith)
    ∙ ap (take most_entries) (drop-drop (suc index) (stride * i) cells ∙ ap (λ (n : ℕ). drop n cells) next)) j)

pub list_at : (cells : List ℕ) (i : ℕ) → (here cells i).settings.list ≡ list_here cells i list_index
unfolding record_at
list_at cells i = λ j. cond (eqb (cell cells i list_index (omega arith) j) 0) none (some (entries_at cells i list_index (omega arith) j))

pub asked_at_lem : (cells : List ℕ) (i : ℕ) → (here cells i).settings.asked ≡ asked_at (cell_of cells i asked_index) (cell_of cells i (asked_index + 1)) (cell_of cells i (asked_index + 2))
unfolding record_at
asked_at_lem cells i = λ j. asked_at (cell cells i asked_index (omega arith) j) (cell cells i (asked_index + 1) (omega arith) j) (cell cells i (asked_index + 2) (omega arith) j)

pub answered_at_lem : (cells : List ℕ) (i : ℕ) → (here cells i).settings.answered ≡ answered_at (cell_of cells i answered_index) (cell_of cells i (answered_index + 1)) (cell_of cells i (answered_index + 2)) (entries_here cells i taken_index)
unfolding record_at
answered_at_lem cells i = λ j. answered_at (cell cells i answered_index (omega arith) j) (cell cells i (answered_index + 1) (omega arith) j) (cell cells i (answered_index + 2) (omega arith) j) (entries_at cells i taken_index (omega arith) j)

pub format_at_lem : (cells : List ℕ) (i m : ℕ) → m < mode_count → (here cells i).settings.formats m ≡ format_at (cell_of cells i (formats_index + m))
unfolding record_at
format_at_lem cells i m h =
    ap format_at (get_or-take mode_count (drop formats_index (place_at_index cells i)) m 0 h ∙ get_or-drop formats_index (place_at_index cells i) m 0 ∙ cell cells i (formats_index + m) (omega arith))

-- ---- a list by its count

pub list_none : (cells : List ℕ) (i index : ℕ) → cell_of cells i index ≡ 0 → list_here cells i index ≡ none
list_none cells i index e = ap (λ (b : Bool). cond b none (some (entries_here cells i index))) (eq-eqb (cell_of cells i index) 0 e)

pub list_some : (cells : List ℕ) (i index : ℕ) → (cell_of cells i index ≡ 0 → ⊥) → list_here cells i index ≡ some (entries_here cells i index)
list_some cells i index used = ap (λ (b : Bool). cond b none (some (entries_here cells i index))) (ne_eqb (cell_of cells i index) 0 used)

module _ (cells : List ℕ) (i index : ℕ) (few : cell_of cells i index ≤ most_entries) where
  -- the entries as a part of the cells
  pub entries_part : entries_here cells i index ≡ take (cell_of cells i index) (drop (stride * i + suc index) cells)
  entries_part =
      let next : suc (stride * i + index) ≡ stride * i + suc index = omega arith in
      take-take (cell_of cells i index) most_entries (drop (suc (stride * i + index)) cells) few ∙ ap (λ (n : ℕ). take (cell_of cells i index) (drop n cells)) next

  pub entry_at : (k : ℕ) → k < cell_of cells i index → get_or (entries_here cells i index) k 0 ≡ cell_of cells i (suc index + k)
  entry_at k low =
      let next : stride * i + suc index + k ≡ stride * i + (suc index + k) = omega arith in
      ap (λ (l : List ℕ). get_or l k 0) entries_part
      ∙ get_or-take (cell_of cells i index) (drop (stride * i + suc index) cells) k 0 low
      ∙ get_or-drop (stride * i + suc index) cells k 0
      ∙ ap (λ (n : ℕ). get_or cells n 0) next

  pub entries_length : length cells ≡ table_size → i < places → index + most_entries < stride → length (entries_here cells i index) ≡ cell_of cells i index
  entries_length size h inside =
      ap length entries_part ∙ length-take-le (cell_of cells i index) (drop (stride * i + suc index) cells) (rw length-drop (omega arith))

-- ---- a sound table's fields are within their lists

module _ (cells : List ℕ) (i port : ℕ) (s : sound cells ≡ true) (h : i < places) (found : view_of_cells cells port ≡ facts_at cells i) where
  pub fit : Fit port (here cells i)
  fit = (table_sound cells s).loose.fit port (here cells i) (found ∙ some_at cells i h)

  pub settings_listed : InLists (here cells i).settings
  settings_listed = listed (here cells i).settings fit.settings.lists

  pub device_small : cell_of cells i device_index < 65536
  device_small = rw (sym (device_at cells i)) (ltb-true (here cells i).device 65536 fit.device)
