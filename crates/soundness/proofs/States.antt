-- The state by the cells is the one of the rule, where the other settings are exact and within their lists.
use Prim.Native.Nat.{ℕ, zero, suc, ◌+◌, ◌^◌, ◌≤◌}
use native.Mathlib.Omega.{arith}
use mathlib.Core.Path.{◌≡◌, refl, sym, ◌∙◌, ap}
use mathlib.Core.Bool.{Bool, true, false, cond, not, ◌&&◌, ◌||◌, or-false, true≢false}
use mathlib.Core.List.{List}
use mathlib.Core.Option.{Option, none, some}
use mathlib.Core.Logic.{⊎_elim}
use borrow.Author.Tests.{eqb-true, eqb-false, ne_eqb}
use lib.Dec.{eqb, eqb-suc-zero, eqb-suc-suc}
use lib.ListN.{length}
use Rattle.protocol.specs.Form.{most_entries}
use Rattle.protocol.proofs.Tests.{which, and_left}
use Rattle.rules.specs.Layout.{mode_count, stride, state_index, asked_index, answered_index, list_index, taken_index}
use Rattle.rules.specs.Facts.{asked_single, asked_combined, answered_single, answered_combined, same_list}
use Rattle.rules.specs.Learn.{whole_list}
use Rattle.rules.specs.WellFormed.{kept_fits, state_fits}
use Rattle.rules.specs.Cells.{combined_cell, list_cells, cell_at, setup_at, asked_at, answered_at, entries_from, list_from}
use Rattle.rules.proofs.CellsSound.{same_refl, same_equal}
use Rattle.soundness.specs.Soundness.{asked_in, answered_in, list_in, cells_of_list, exact_list, same_setups, sound_list, sound_answered, pointers_of, as_asked, took_kept, state_by_cells}
use Rattle.soundness.proofs.Answers.{as_they_are, Combined, combined_parts}
use Rattle.soundness.proofs.Lists.{list_few, list_entries, entries_count}

-- ---- by the tests of the cells

pub state_by_lem : (place : List ℕ) {unasked one unanswered : Bool} → eqb (cell_at place asked_index) 0 ≡ unasked → eqb (cell_at place state_index) 1 ≡ one → eqb (cell_at place answered_index) 0 ≡ unanswered → cond unasked (eqb (cell_at place state_index) 0) (one || (not unanswered && (eqb (cell_at place state_index) (cond (as_asked place) 2 3) && took_kept place))) ≡ state_by_cells place
unfolding state_by_cells
state_by_lem place a b c =
    let state : ℕ = cell_at place state_index in
    λ i. cond (sym a i) (eqb state 0) (sym b i || (not (sym c i) && (eqb state (cond (as_asked place) 2 3) && took_kept place)))

-- ---- the latest answer is a 47, or there is none

-- the test of a state after an asking, by what was answered
abbrev after_asking : ℕ → ℕ → ℕ → Bool → Bool → Bool
after_asking m m' s same took = cond (eqb m 0) (eqb s 0) (eqb s 1 || (not (eqb m' 0) && (eqb s (cond same 2 3) && took)))

single_rule : (m d n m' d' n' s : ℕ) (list : Option (List ℕ)) (taken : List ℕ) → eqb m' combined_cell ≡ false → after_asking m m' s (eqb m m' && eqb d d' && eqb n n') true ≡ state_fits (asked_at m d n) (answered_at m' d' n' taken) list s
single_rule zero d n m' d' n' s list taken e = refl
single_rule (suc m) d n zero d' n' s list taken e = ap (λ (b : Bool). cond b (eqb s 0) (eqb s 1 || false)) (eqb-suc-zero m) ∙ or-false (eqb s 1)
single_rule (suc m) d n (suc m') d' n' s list taken e =
    let other : eqb m' mode_count ≡ false = sym (eqb-suc-suc m' mode_count) ∙ e in
    let rest : Bool = eqb d d' && eqb n n' in
    (λ i. cond (eqb-suc-zero m i) (eqb s 0) (eqb s 1 || (not (eqb-suc-zero m' i) && (eqb s (cond (eqb-suc-suc m m' i && eqb d d' && eqb n n') 2 3) && true))))
    ∙ by_asking (eqb m mode_count) refl
    ∙ sym (ap (λ (b : Bool). state_fits (asked_at (suc m) d n) (some (cond b (answered_combined d' taken) (answered_single (setup_at m' d' n')))) list s) other)
  where
    by_asking : (b : Bool) → eqb m mode_count ≡ b → (eqb s 1 || (eqb s (cond (eqb m m' && eqb d d' && eqb n n') 2 3) && true)) ≡ state_fits (some (cond b asked_combined (asked_single (setup_at m d n)))) (some (answered_single (setup_at m' d' n'))) list s
    by_asking true k =
        let differs : eqb m m' ≡ false = ne_eqb m m' (λ (q : m ≡ m'). eqb-false m' mode_count (sym (eqb-suc-suc m' mode_count) ∙ e) (sym q ∙ eqb-true m mode_count k)) in
        ap (λ (b : Bool). eqb s 1 || (eqb s (cond (b && eqb d d' && eqb n n') 2 3) && true)) differs
    by_asking false k = refl

-- ---- it is a 48

combined_rule : (m d n p s : ℕ) (list taken : List ℕ) (all took : Bool) → all ≡ whole_list p taken → took ≡ same_list taken list → after_asking m combined_cell s (eqb m combined_cell && all) took ≡ state_fits (asked_at m d n) (some (answered_combined p taken)) (some list) s
combined_rule zero d n p s list taken all took e k = refl
combined_rule (suc m) d n p s list taken all took e k =
    (λ i. cond (eqb-suc-zero m i) (eqb s 0) (eqb s 1 || (eqb s (cond (eqb-suc-suc m mode_count i && e i) 2 3) && k i))) ∙ by_asking (eqb m mode_count)
  where
    by_asking : (b : Bool) → (eqb s 1 || (eqb s (cond (b && whole_list p taken) 2 3) && same_list taken list)) ≡ state_fits (some (cond b asked_combined (asked_single (setup_at m d n)))) (some (answered_combined p taken)) (some list) s
    by_asking true = refl
    by_asking false = refl

-- ---- two lists by their cells

module _ (place : List ℕ) (size : length place ≡ stride) where
  -- the cells of a list that is there
  exact_cells : (at : ℕ) → eqb (cell_at place at) 0 ≡ false → sound_list place at ≡ true → cells_of_list place at ≡ list_cells (some (entries_from place at))
  unfolding sound_list exact_list
  exact_cells at used s =
      same_equal (cells_of_list place at) (list_cells (list_from place at)) (and_left (exact_list place at) (kept_fits (list_from place at)) s) ∙ ap (λ (b : Bool). list_cells (cond b none (some (entries_from place at)))) used

  same_lists : eqb (cell_at place taken_index) 0 ≡ false → sound_list place taken_index ≡ true → eqb (cell_at place list_index) 0 ≡ false → sound_list place list_index ≡ true → same_list (cells_of_list place taken_index) (cells_of_list place list_index) ≡ same_list (entries_from place taken_index) (entries_from place list_index)
  same_lists a s b t =
      ⊎_elim
      (λ (k : same_list (entries_from place taken_index) (entries_from place list_index) ≡ true).
      let equal = exact_cells taken_index a s ∙ ap (λ (l : List ℕ). list_cells (some l)) (same_equal (entries_from place taken_index) (entries_from place list_index) k) ∙ sym (exact_cells list_index b t) in
      ap (λ (l : List ℕ). same_list l (cells_of_list place list_index)) equal ∙ same_refl (cells_of_list place list_index) ∙ sym k)
      (λ (k : same_list (entries_from place taken_index) (entries_from place list_index) ≡ false).
      ⊎_elim
      (λ (j : same_list (cells_of_list place taken_index) (cells_of_list place list_index) ≡ true).
      let cells : cells_of_list place taken_index ≡ cells_of_list place list_index = same_equal (cells_of_list place taken_index) (cells_of_list place list_index) j in
      let equal : entries_from place taken_index ≡ entries_from place list_index = list_entries place taken_index size (omega arith) ∙ ap (λ (c : List ℕ). entries_from c 0) cells ∙ sym (list_entries place list_index size (omega arith)) in
      absurd (true≢false (sym (ap (λ (l : List ℕ). same_list l (entries_from place list_index)) equal ∙ same_refl (entries_from place list_index)) ∙ k)))
      (λ (j : same_list (cells_of_list place taken_index) (cells_of_list place list_index) ≡ false). j ∙ sym k)
      (which (same_list (cells_of_list place taken_index) (cells_of_list place list_index))))
      (which (same_list (entries_from place taken_index) (entries_from place list_index)))

  -- ---- the rule

  abbrev by_rule : Bool
  by_rule = state_fits (asked_in place) (answered_in place) (list_in place) (cell_at place state_index)

  single_state : eqb (cell_at place answered_index) combined_cell ≡ false → state_by_cells place ≡ by_rule
  unfolding state_by_cells as_asked took_kept
  single_state e =
      let m : ℕ = cell_at place asked_index in
      let m' : ℕ = cell_at place answered_index in
      let state : ℕ = cell_at place state_index in
      let p : ℕ = cell_at place (answered_index + 1) in
      let all : Bool = eqb m combined_cell && eqb (suc (pointers_of p)) (2 ^ cell_at place taken_index) in
      (λ i. after_asking m m' state (cond (e i) all (same_setups place)) (cond (e i) (same_list (cells_of_list place taken_index) (cells_of_list place list_index)) true))
      ∙ single_rule m (cell_at place (asked_index + 1)) (cell_at place (asked_index + 2)) m' p (cell_at place (answered_index + 2)) state (list_in place) (entries_from place taken_index) e

  combined_state_lem : cell_at place answered_index ≡ combined_cell → Combined place size → sound_list place list_index ≡ true → state_by_cells place ≡ by_rule
  unfolding state_by_cells as_asked took_kept
  combined_state_lem e c s =
      let m : ℕ = cell_at place asked_index in
      let state : ℕ = cell_at place state_index in
      let p : ℕ = cell_at place (answered_index + 1) in
      let taken : List ℕ = entries_from place taken_index in
      let all : Bool = eqb (suc (pointers_of p)) (2 ^ cell_at place taken_index) in
      let took : Bool = same_list (cells_of_list place taken_index) (cells_of_list place list_index) in
      let few : cell_at place taken_index ≤ most_entries = list_few place taken_index size (omega arith) c.list in
      let whole : all ≡ whole_list p taken = λ i. eqb (suc (as_they_are p c.small i)) (2 ^ sym (entries_count place taken_index size (omega arith) few) i) in
      ap (λ (m' : ℕ). after_asking m m' state (cond (eqb m' combined_cell) (eqb m combined_cell && all) (same_setups place)) (cond (eqb m' combined_cell) took true)) e
      ∙ combined_rule m (cell_at place (asked_index + 1)) (cell_at place (asked_index + 2)) p state (entries_from place list_index) taken all took whole (same_lists c.took c.list c.listed s)
      ∙ sym (λ i. state_fits (asked_in place) (answered_at (e i) p (cell_at place (answered_index + 2)) taken) (cond (c.listed i) none (some (entries_from place list_index))) state)

  pub state_rule : sound_list place list_index ≡ true → sound_answered place ≡ true → state_by_cells place ≡ by_rule
  state_rule s t =
      ⊎_elim
      (λ (k : eqb (cell_at place answered_index) combined_cell ≡ true). let e = eqb-true (cell_at place answered_index) combined_cell k in combined_state_lem e (combined_parts place size e t) s)
      single_state
      (which (eqb (cell_at place answered_index) combined_cell))
