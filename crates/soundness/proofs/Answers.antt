-- What soundness asks of what was asked and of what was answered, by the tests of the cells.
use Prim.Native.Nat.{ℕ, zero, suc, ◌+◌, ◌-◌, ◌^◌, ◌≤◌, ◌<◌}
use native.Mathlib.Nat.{lt_of_lt_of_le}
use native.Mathlib.Omega.{arith}
use mathlib.Core.Path.{◌≡◌, refl, sym, ◌∙◌, ap}
use mathlib.Core.Bool.{Bool, true, false, cond, not, ◌&&◌, ◌||◌, and-true, and-false, and_assoc, and_comm, true≢false}
use mathlib.Core.List.{List, [], ◌∷◌}
use mathlib.Core.Option.{Option, none, some}
use mathlib.Core.Logic.{⊎_elim}
use borrow.Author.Tests.{eqb-true, eq-eqb, ne_eqb, lt-ltb, le-ltb, ltb-true, not-true}
use lib.Dec.{eqb, leb, ltb, leb-suc-suc, eqb-suc-zero, eqb-suc-suc}
use lib.ListN.{length, take, drop, replicate}
use lib.Pow.{pow_mono}
use Rattle.std.specs.Prelude.{Result, Ok, Err}
use Rattle.std.specs.Result.{OkIff, result_unwrap_or}
use Rattle.protocol.specs.Form.{last_mode, last_notify, most_entries}
use Rattle.protocol.proofs.Tests.{which, and_right}
use Rattle.rules.specs.Layout.{mode_count, stride, asked_index, answered_index, list_index, taken_index}
use Rattle.rules.specs.Facts.{asked_combined, asked_single, answered_combined, answered_single, same_list}
use Rattle.rules.specs.Pointers.{pointers_fit}
use Rattle.rules.specs.WellFormed.{setup_fits, is_none, list_fits, kept_fits, asked_fits, answered_fits}
use Rattle.rules.specs.Cells.{combined_cell, asked_cells, answered_cells, taken_by, list_cells, cell_at, setup_at, asked_at, answered_at, entries_from, list_from}
use Rattle.rules.proofs.CellsSound.{same_refl}
use Rattle.rules.proofs.SettingsFit.{five_passed}
use Rattle.soundness.specs.Soundness.{list_in, all_zeros, cells_of_list, exact_asked, exact_answered, exact_list, exact_taken, sound_setup, sound_list, sound_asked, sound_answered, pointers_of, sound_combined}
use Rattle.soundness.proofs.Lists.{list_cells_lem, list_few, entries_count}
use Rattle.soundness.proofs.Loops.{and_when}

-- ---- a setup, whose delta is a cell

-- by the test of its mode
pub setup_fits_lem : (mode delta notify : ℕ) → delta < 4294967296 → (leb mode mode_count && leb notify last_notify) ≡ setup_fits (setup_at (mode - 1) delta notify)
setup_fits_lem mode delta notify h = ap (λ (b : Bool). b && leb notify last_notify) (low mode ∙ sym (and-true (leb (mode - 1) last_mode)) ∙ ap (λ (b : Bool). leb (mode - 1) last_mode && b) (sym (lt-ltb delta 4294967296 h)))
  where
    low : (m : ℕ) → leb m mode_count ≡ leb (m - 1) last_mode
    low zero = refl
    low (suc m) = let less : suc m - 1 ≡ m = omega arith in leb-suc-suc m last_mode ∙ ap (λ (n : ℕ). leb n last_mode) (sym less)

-- the value of the test of three cells
abbrev setup_test : ℕ → ℕ → ℕ → Bool
setup_test m d n = cond (eqb m 0) (eqb d 0 && eqb n 0) (setup_fits (setup_at (m - 1) d n))

set : (m d n : ℕ) → setup_test (suc m) d n ≡ setup_fits (setup_at m d n)
set m d n = let less : suc m - 1 ≡ m = omega arith in λ i. cond (eqb-suc-zero m i) (eqb d 0 && eqb n 0) (setup_fits (setup_at (less i) d n))

zeros : (d n : ℕ) → (eqb d 0 && (eqb n 0 && true)) ≡ (eqb d 0 && eqb n 0)
zeros d n = ap (λ (b : Bool). eqb d 0 && b) (and-true (eqb n 0))

-- a mode is not the number that stands in its place
other_mode : (m : ℕ) → eqb (suc m) combined_cell ≡ false → eqb m mode_count ≡ false
other_mode m e = sym (eqb-suc-suc m mode_count) ∙ e

-- whether there is a list, by its count
pub listed_by : (place : List ℕ) (at : ℕ) → is_none (list_from place at) ≡ eqb (cell_at place at) 0
listed_by place at = chosen (eqb (cell_at place at) 0)
  where
    chosen : (b : Bool) → is_none (cond b none (some (entries_from place at))) ≡ b
    chosen true = refl
    chosen false = refl

-- ---- what was asked

asked_list : (d n : ℕ) (list : Option (List ℕ)) → (eqb d 0 && eqb n 0 && not (is_none list)) ≡ (same_list (combined_cell ∷ d ∷ n ∷ []) (asked_cells (asked_at combined_cell d n)) && asked_fits (asked_at combined_cell d n) list)
asked_list d n list = ap (λ (b : Bool). b && not (is_none list)) (sym (zeros d n))

asked_setup : (m d n : ℕ) (list : Option (List ℕ)) → eqb m combined_cell ≡ false → (setup_test m d n && (not (eqb m 0) || is_none list)) ≡ (same_list (m ∷ d ∷ n ∷ []) (asked_cells (asked_at m d n)) && asked_fits (asked_at m d n) list)
asked_setup zero d n list e = ap (λ (b : Bool). b && is_none list) (sym (zeros d n))
asked_setup (suc m) d n list e =
    (λ i. set m d n i && (not (eqb-suc-zero m i) || is_none list))
    ∙ and-true (setup_fits (setup_at m d n))
    ∙ sym ((λ i. same_list (suc m ∷ d ∷ n ∷ []) (asked_cells (some (cond (other_mode m e i) asked_combined (asked_single (setup_at m d n))))) && asked_fits (some (cond (other_mode m e i) asked_combined (asked_single (setup_at m d n)))) list)
    ∙ ap (λ (b : Bool). b && setup_fits (setup_at m d n)) (same_refl (suc m ∷ d ∷ n ∷ [])))

module _ (place : List ℕ) where
  pub asked_combined_lem : cell_at place asked_index ≡ combined_cell → (eqb (cell_at place (asked_index + 1)) 0 && eqb (cell_at place (asked_index + 2)) 0 && not (eqb (cell_at place list_index) 0)) ≡ sound_asked place
  unfolding sound_asked exact_asked
  asked_combined_lem e =
      let d : ℕ = cell_at place (asked_index + 1) in
      let n : ℕ = cell_at place (asked_index + 2) in
      ap (λ (b : Bool). eqb d 0 && eqb n 0 && not b) (sym (listed_by place list_index))
      ∙ asked_list d n (list_in place)
      ∙ ap (λ (m : ℕ). same_list (m ∷ d ∷ n ∷ []) (asked_cells (asked_at m d n)) && asked_fits (asked_at m d n) (list_in place)) (sym e)

  pub asked_single_lem : (cell_at place asked_index ≡ combined_cell → ⊥) → (sound_setup place asked_index && (not (eqb (cell_at place asked_index) 0) || eqb (cell_at place list_index) 0)) ≡ sound_asked place
  unfolding sound_asked exact_asked sound_setup
  asked_single_lem other =
      let m : ℕ = cell_at place asked_index in
      let d : ℕ = cell_at place (asked_index + 1) in
      let n : ℕ = cell_at place (asked_index + 2) in
      ap (λ (b : Bool). setup_test m d n && (not (eqb m 0) || b)) (sym (listed_by place list_index)) ∙ asked_setup m d n (list_in place) (ne_eqb m combined_cell other)

-- ---- what was answered by a 47, or nothing

answered_setup : (m d n : ℕ) (cells taken : List ℕ) (list : Option (List ℕ)) → length cells ≡ suc most_entries → eqb m combined_cell ≡ false → (setup_test m d n && all_zeros cells) ≡ (same_list (m ∷ d ∷ n ∷ []) (answered_cells (answered_at m d n taken)) && same_list cells (list_cells (taken_by (answered_at m d n taken))) && answered_fits (answered_at m d n taken) list)
unfolding all_zeros list_cells
answered_setup zero d n cells taken list size e = (λ i. sym (zeros d n) i && same_list cells (replicate (size i) 0)) ∙ sym (and-true _)
answered_setup (suc m) d n cells taken list size e =
    (λ i. set m d n i && same_list cells (replicate (size i) 0))
    ∙ and_comm (setup_fits (setup_at m d n)) (same_list cells (list_cells none))
    ∙ sym ((λ i. let x = some (cond (other_mode m e i) (answered_combined d taken) (answered_single (setup_at m d n))) in same_list (suc m ∷ d ∷ n ∷ []) (answered_cells x) && same_list cells (list_cells (taken_by x)) && answered_fits x list)
    ∙ ap (λ (b : Bool). b && same_list cells (list_cells none) && setup_fits (setup_at m d n)) (same_refl (suc m ∷ d ∷ n ∷ [])))

pub answered_single_lem : (place : List ℕ) → length place ≡ stride → (cell_at place answered_index ≡ combined_cell → ⊥) → (sound_setup place answered_index && all_zeros (cells_of_list place taken_index)) ≡ sound_answered place
unfolding sound_answered exact_answered exact_taken sound_setup
answered_single_lem place size other =
    answered_setup (cell_at place answered_index) (cell_at place (answered_index + 1)) (cell_at place (answered_index + 2)) (cells_of_list place taken_index) (entries_from place taken_index) (list_in place) (list_cells_lem place taken_index size (omega arith)) (ne_eqb (cell_at place answered_index) combined_cell other)

-- ---- what was answered by a 48

-- pointers within a list of at most sixteen are a u16's
pointers_small : (p count : ℕ) → count ≤ most_entries → pointers_fit p count ≡ true → p < 65536
unfolding pointers_fit
pointers_small p count few e = lt_of_lt_of_le (ltb-true p (2 ^ count) (and_right (not (eqb p 0)) (ltb p (2 ^ count)) e)) (pow_mono few)

pub pointers_by : {E : Type 0} (n : ℕ) (r : Result ℕ E) → OkIff r (n < 65536) n → result_unwrap_or r 0 ≡ pointers_of n
unfolding pointers_of
pointers_by n (Ok p) e = e.1 ∙ sym (ap (λ (b : Bool). cond b n 0) (lt-ltb n 65536 e.0))
pointers_by n (Err x) large = sym (ap (λ (b : Bool). cond b n 0) (le-ltb n 65536 (omega (arith, large))))

pub as_they_are : (n : ℕ) → n < 65536 → pointers_of n ≡ n
unfolding pointers_of
as_they_are n h = ap (λ (b : Bool). cond b n 0) (lt-ltb n 65536 h)

fit_small : (p count : ℕ) → count ≤ most_entries → pointers_fit (pointers_of p) count ≡ pointers_fit p count
unfolding pointers_of pointers_fit
fit_small p count few =
    ⊎_elim
    (λ (k : ltb p 65536 ≡ true). ap (λ (n : ℕ). pointers_fit n count) (as_they_are p (ltb-true p 65536 k)))
    (λ (k : ltb p 65536 ≡ false).
    ap (λ (b : Bool). pointers_fit (cond b p 0) count) k
    ∙ ⊎_elim (λ (j : pointers_fit p count ≡ true). absurd (true≢false (sym (lt-ltb p 65536 (pointers_small p count few j)) ∙ k))) (λ (j : pointers_fit p count ≡ false). sym j) (which (pointers_fit p count)))
    (which (ltb p 65536))

module _ (place : List ℕ) (size : length place ≡ stride) where
  abbrev pointers : ℕ
  pointers = cell_at place (answered_index + 1)

  abbrev notify : Bool
  notify = eqb (cell_at place (answered_index + 2)) 0

  abbrev kept : Bool
  kept = not (eqb (cell_at place list_index) 0)

  abbrev count : ℕ
  count = cell_at place taken_index

  abbrev taken : List ℕ
  taken = entries_from place taken_index

  abbrev exact : Bool
  exact = same_list (cells_of_list place taken_index) (list_cells (some taken))

  -- what a 48's cells have to be
  abbrev by_rules : Bool
  by_rules = notify && exact && (kept && list_fits taken && pointers_fit pointers (length taken))

  no_list : count ≡ 0 → list_fits taken ≡ false
  unfolding list_fits
  no_list e = ap (λ (n : ℕ). list_fits (take n (take most_entries (drop (suc taken_index) place)))) e

  with_none : eqb count 0 ≡ true → sound_combined place ≡ by_rules
  unfolding sound_combined
  with_none e =
      ap (λ (b : Bool). notify && kept && not b && sound_list place taken_index && pointers_fit (pointers_of pointers) count) e
      ∙ ap (λ (b : Bool). b && sound_list place taken_index && pointers_fit (pointers_of pointers) count) (and-false (notify && kept))
      ∙ sym (ap (λ (b : Bool). notify && exact && (kept && b && pointers_fit pointers (length taken))) (no_list (eqb-true count 0 e))
      ∙ ap (λ (b : Bool). notify && exact && (b && pointers_fit pointers (length taken))) (and-false kept)
      ∙ and-false (notify && exact))

  with_list_lem : eqb count 0 ≡ false → sound_combined place ≡ by_rules
  unfolding sound_combined sound_list exact_list
  with_list_lem e =
      let fits : Bool = list_fits taken in
      let is : sound_list place taken_index ≡ (exact && fits) = ap (λ (b : Bool). same_list (cells_of_list place taken_index) (list_cells (cond b none (some taken))) && kept_fits (cond b none (some taken))) e in
      let front : Bool = notify && kept && true && (exact && fits) in
      (λ i. notify && kept && not (e i) && is i && pointers_fit (pointers_of pointers) count)
      ∙ and_when front (λ k.
      let few : count ≤ most_entries = list_few place taken_index size (omega arith) (is ∙ and_right (notify && kept && true) (exact && fits) k) in
      fit_small pointers count few ∙ ap (pointers_fit pointers) (sym (entries_count place taken_index size (omega arith) few)))
      ∙ grouped notify kept exact fits (pointers_fit pointers (length taken))
    where
      grouped : (n k x f p : Bool) → (n && k && true && (x && f) && p) ≡ (n && x && (k && f && p))
      grouped true true x f p = and_assoc x f p
      grouped true false x f p = sym (and-false x)
      grouped false k x f p = refl

  pub answered_combined_lem : cell_at place answered_index ≡ combined_cell → sound_combined place ≡ sound_answered place
  unfolding sound_answered exact_answered exact_taken
  answered_combined_lem e =
      let n : ℕ = cell_at place (answered_index + 2) in
      ⊎_elim with_none with_list_lem (which (eqb count 0))
      ∙ sym (ap (λ (m : ℕ). let x = answered_at m pointers n taken in same_list (m ∷ pointers ∷ n ∷ []) (answered_cells x) && same_list (cells_of_list place taken_index) (list_cells (taken_by x)) && answered_fits x (list_in place)) e
      ∙ (λ i. eq-eqb pointers pointers refl i && and-true notify i && exact && (not (listed_by place list_index i) && list_fits taken && pointers_fit pointers (length taken))))

  -- the tests of a 48's cells, one by one
  pub record Combined : Type 0 where
    pub notified : cell_at place (answered_index + 2) ≡ 0
    pub listed : eqb (cell_at place list_index) 0 ≡ false
    pub took : eqb count 0 ≡ false
    pub list : sound_list place taken_index ≡ true
    pub small : pointers < 65536
    pub within : pointers_fit pointers count ≡ true

  pub combined_parts : cell_at place answered_index ≡ combined_cell → sound_answered place ≡ true → Combined
  unfolding sound_combined
  combined_parts e s =
      let k = five_passed notify kept (not (eqb count 0)) (sound_list place taken_index) (pointers_fit (pointers_of pointers) count) (answered_combined_lem e ∙ s) in
      let few : count ≤ most_entries = list_few place taken_index size (omega arith) k.3 in
      let fits : pointers_fit pointers count ≡ true = sym (fit_small pointers count few) ∙ k.4 in
      record {
        notified = eqb-true (cell_at place (answered_index + 2)) 0 k.0;
        listed = not-true (eqb (cell_at place list_index) 0) k.1;
        took = not-true (eqb count 0) k.2;
        list = k.3;
        small = pointers_small pointers count few fits;
        within = fits;
      }
