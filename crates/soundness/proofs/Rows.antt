-- The row of each port's place, from place to place.
use Prim.Native.Nat.{ℕ, ◌+◌, ◌-◌, ◌≤◌, ◌<◌}
use native.Mathlib.Omega.{arith}
use mathlib.Core.Path.{◌≡◌, refl, sym, ◌∙◌, ap, subst}
use mathlib.Core.Bool.{Bool, true, false, not, ◌&&◌, and-false, true≢false, false≢true}
use mathlib.Core.List.{List}
use mathlib.Core.Option.{none}
use mathlib.Core.Logic.{◌⊎◌, inl, inr, ⊎_elim}
use borrow.Author.Tests.{eqb-true, eqb-false, eq-eqb, ne_eqb, le-ltb}
use lib.Dec.{eqb, ltb}
use lib.ListN.{length, get_or, set, replicate, length-set, length-replicate, get_or-replicate}
use lib.Seq.{get_or-set_same, get_or-set_other}
use Rattle.protocol.proofs.Tests.{which}
use Rattle.rules.specs.Layout.{places, port_count, table_size, wiring_index, port_index}
use Rattle.rules.specs.Facts.{View, known}
use Rattle.rules.specs.Table.{view_of_table}
use Rattle.rules.specs.WellFormed.{facts_fit, wiring_fits, record_fits}
use Rattle.rules.specs.Cells.{cell_at, record_at, table_at, sound}
use Rattle.soundness.specs.Place.{place_at_index, cell_of, facts_at, port_at, place_of, find_place, from_place}
use Rattle.soundness.specs.Soundness.{exact_record, sound_place}
use Rattle.soundness.specs.Row.{Alone, Indexed, Noted}
use Rattle.soundness.proofs.Places.{cell, place_end, place_here, place_later, place_start, step_on, step_last, found_from, find_place_lem, nowhere, not_from}
use Rattle.soundness.proofs.Sound.{unsound, record_sound}

pub noted_right : {cells row : List ℕ} {i : ℕ} → Indexed cells row i → Noted cells row i true
noted_right h = record { right = λ e. h; wrong = λ e. absurd (true≢false e) }

pub noted_wrong : {cells row : List ℕ} {i : ℕ} → sound cells ≡ false → Noted cells row i false
noted_wrong h = record { right = λ e. absurd (false≢true e); wrong = λ e. h }

-- no place noted
pub blank : (cells : List ℕ) → Indexed cells (replicate port_count places) places
blank cells = record {
  size = length-replicate port_count places;
  first = λ port low. get_or-replicate port_count port places 0 low ∙ sym (ap (λ (k : ℕ). places + k) (place_end cells places port (omega arith)));
  most = λ port low. let is = get_or-replicate port_count port places 0 low in omega arith;
  once = λ i from h used. absurd (omega arith);
}

-- the place that the row has is the one found
pub row_found : (cells row : List ℕ) → length cells ≡ table_size → Indexed cells row 0 → (port : ℕ) → port < port_count → get_or row port 0 ≡ find_place cells port
row_found cells row size x port low = x.first port low ∙ sym (find_place_lem cells size port ∙ place_start cells port)

-- the port of a record stands in no later place
pub row_alone : (cells row place : List ℕ) (i : ℕ) → i < places → Indexed cells row 0 → place ≡ place_at_index cells i → (cell_at place wiring_index ≡ 0 → ⊥) → view_of_table (from_place cells (i + 1)) (cell_at place port_index) ≡ none
row_alone cells row place i h x is used =
    let wiring = ap (λ (l : List ℕ). cell_at l wiring_index) is ∙ cell cells i wiring_index (omega arith) in
    let port = ap (λ (l : List ℕ). cell_at l port_index) is ∙ cell cells i port_index (omega arith) in
    ap (view_of_table (from_place cells (i + 1))) port ∙ x.once i (omega arith) h (λ free. used (wiring ∙ free))

-- one place more
module _ (cells row : List ℕ) (i : ℕ) (h : i < places) (x : Indexed cells row (i + 1)) where
  once_more : Alone cells i → (j : ℕ) → i ≤ j → j < places → Alone cells j
  once_more here j from low =
      ⊎_elim
      (λ (k : eqb j i ≡ true). subst (Alone cells) (sym (eqb-true j i k)) here)
      (λ (k : eqb j i ≡ false). let other = eqb-false j i k in x.once j (omega arith) low)
      (which (eqb j i))

  later : (port : ℕ) → port < port_count → port_at cells i port ≡ false → get_or row port 0 ≡ i + place_of (from_place cells i) port
  later port low e = x.first port low ∙ sym (step_on _ i _ _ refl (place_later cells i port h e))

  module _ (free : cell_of cells i wiring_index ≡ 0) where
    not_here : (port : ℕ) → port_at cells i port ≡ false
    unfolding port_at
    not_here port = rw (eq-eqb (cell_of cells i wiring_index) 0 free)

    pub free_noted : Indexed cells row i
    free_noted = record {
      size = x.size;
      first = λ port low. later port low (not_here port);
      most = x.most;
      once = once_more (λ used. absurd (used free));
    }

  module _ (used : cell_of cells i wiring_index ≡ 0 → ⊥) where
    abbrev here : ℕ
    here = cell_of cells i port_index

    by_port : (port : ℕ) {b : Bool} → eqb here port ≡ b → port_at cells i port ≡ b
    unfolding port_at
    by_port port e = rw (ne_eqb (cell_of cells i wiring_index) 0 used) e

    module _ (low : here < port_count) (new : get_or row here 0 ≡ places) where
      -- what the row then has
      at : (port : ℕ) → port < port_count → (eqb here port ≡ true) ⊎ (eqb here port ≡ false) → get_or (set row here i) port 0 ≡ i + place_of (from_place cells i) port
      at port k (inl e) =
          ap (λ (n : ℕ). get_or (set row here i) n 0) (sym (eqb-true here port e))
          ∙ get_or-set_same row here i 0 (omega (arith, x.size))
          ∙ step_last _ i _ refl (place_here cells i port h (by_port port e))
      at port k (inr e) = get_or-set_other row here port i 0 (λ (same : port ≡ here). eqb-false here port e (sym same)) ∙ later port k (by_port port e)

      small : (port : ℕ) → port < port_count → (eqb here port ≡ true) ⊎ (eqb here port ≡ false) → get_or (set row here i) port 0 ≤ places
      small port k (inl e) =
          let is = ap (λ (n : ℕ). get_or (set row here i) n 0) (sym (eqb-true here port e)) ∙ get_or-set_same row here i 0 (omega (arith, x.size)) in
          omega arith
      small port k (inr e) =
          let is = get_or-set_other row here port i 0 (λ (same : port ≡ here). eqb-false here port e (sym same)) in
          omega (arith, x.most port k)

      pub record_noted : Indexed cells (set row here i) i
      record_noted = record {
        size = length-set row here i ∙ x.size;
        first = λ port k. at port k (which (eqb here port));
        most = λ port k. small port k (which (eqb here port));
        once = once_more (λ u. found_from cells here (places - (i + 1)) (i + 1) (omega arith) ∙ ap (facts_at cells) (sym (x.first here low) ∙ new) ∙ nowhere cells);
      }

    -- ---- what makes the table not sound

    abbrev place : List ℕ
    place = place_at_index cells i

    abbrev view : View
    view = view_of_table (table_at cells)

    by_tests : (exact_record place && record_fits view (record_at place) && not (known (view_of_table (from_place cells (i + 1)) (cell_at place port_index)))) ≡ sound_place cells i
    by_tests = record_sound cells place i refl (λ free. used (sym (cell cells i wiring_index (omega arith)) ∙ free))

    pub no_port : length cells ≡ table_size → port_count ≤ here → sound cells ≡ false
    unfolding record_at
    no_port size high =
        let large : ltb (cell_at place port_index) port_count ≡ false = ap (λ (n : ℕ). ltb n port_count) (cell cells i port_index (omega arith)) ∙ le-ltb here port_count high in
        let alone : Bool = not (known (view_of_table (from_place cells (i + 1)) (cell_at place port_index))) in
        unsound cells size i h
        (sym by_tests
        ∙ ap (λ (b : Bool). exact_record place && (b && facts_fit (record_at place).facts && wiring_fits view (cell_at place port_index) (record_at place).facts.wiring) && alone) large
        ∙ ap (λ (b : Bool). b && alone) (and-false (exact_record place)))

    pub twice : length cells ≡ table_size → here < port_count → (get_or row here 0 ≡ places → ⊥) → sound cells ≡ false
    twice size low other =
        let seen = sym (not_from cells here (i + 1) (get_or row here 0) (omega arith) (x.most here low) (x.first here low)) ∙ ne_eqb (get_or row here 0) places other in
        unsound cells size i h
        (sym by_tests
        ∙ ap (λ (b : Bool). exact_record place && record_fits view (record_at place) && b) (ap (λ (n : ℕ). not (known (view_of_table (from_place cells (i + 1)) n))) (cell cells i port_index (omega arith)) ∙ seen)
        ∙ and-false (exact_record place && record_fits view (record_at place)))
