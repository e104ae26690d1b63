-- Going through the places of a table in its cells.
use Prim.Native.Nat.{ℕ, zero, suc, ◌+◌, ◌*◌, ◌-◌, ◌≤◌, ◌<◌}
use native.Mathlib.Nat.{zero-add, add-zero}
use native.Mathlib.Omega.{arith}
use mathlib.Core.Path.{◌≡◌, refl, sym, ◌∙◌, ap}
use mathlib.Core.Bool.{Bool, true, false, cond, not}
use mathlib.Core.List.{List, [], ◌∷◌}
use mathlib.Core.Option.{Option, none, some}
use mathlib.Core.Logic.{⊎_elim}
use borrow.Author.Tests.{eqb-true, eqb-false, eq-eqb, ne_eqb, lt-ltb, le-ltb}
use lib.Dec.{eqb, eqb-suc-suc}
use lib.ListN.{length, get_or, drop, length-drop}
use lib.Seq.{get_or-take, get_or-drop, drop-drop, length-take-le}
use Rattle.protocol.proofs.Tests.{which}
use Rattle.rules.specs.Layout.{places, stride, table_size, wiring_index, port_index}
use Rattle.rules.specs.Facts.{Facts, known}
use Rattle.rules.specs.Table.{Record, Table, view_of_table, full_table}
use Rattle.rules.specs.Cells.{cell_at, record_at, place_at, places_at, table_at}
use Rattle.soundness.specs.Place.{place_at_index, cell_of, facts_at, port_at, place_of, first_free, find_place, free_place, from_place}

-- a cell of the place at an index
pub cell : (cells : List ℕ) (i k : ℕ) → k < stride → get_or (place_at_index cells i) k 0 ≡ cell_of cells i k
cell cells i k h = get_or-take stride (drop (stride * i) cells) k 0 h ∙ get_or-drop (stride * i) cells k 0

pub next : (cells : List ℕ) (i : ℕ) → i < places → from_place cells i ≡ place_at (place_at_index cells i) ∷ from_place cells (i + 1)
next cells i h =
    let more : places - i ≡ suc (places - (i + 1)) = omega arith in
    let place : stride * i + stride ≡ stride * (i + 1) = omega arith in
    ap (λ (n : ℕ). places_at n (drop (stride * i) cells)) more
    ∙ ap (λ (l : List ℕ). place_at (place_at_index cells i) ∷ places_at (places - (i + 1)) l) (drop-drop stride (stride * i) cells ∙ ap (λ (n : ℕ). drop n cells) place)

pub place_size : (cells : List ℕ) (i : ℕ) → length cells ≡ table_size → i < places → length (place_at_index cells i) ≡ stride
place_size cells i size h = length-take-le stride (drop (stride * i) cells) (rw length-drop (omega arith))

-- ---- the first of the places left

module _ (cells : List ℕ) (i : ℕ) (h : i < places) where
  by_wiring : (free : Bool) → eqb (cell_of cells i wiring_index) 0 ≡ free → from_place cells i ≡ cond free none (some (record_at (place_at_index cells i))) ∷ from_place cells (i + 1)
  by_wiring free e =
      next cells i h ∙ ap (λ (b : Bool). cond b none (some (record_at (place_at_index cells i))) ∷ from_place cells (i + 1)) (ap (λ (n : ℕ). eqb n 0) (cell cells i wiring_index (omega arith)) ∙ e)

  -- free
  pub free_first : cell_of cells i wiring_index ≡ 0 → from_place cells i ≡ none ∷ from_place cells (i + 1)
  free_first e = by_wiring true (eq-eqb (cell_of cells i wiring_index) 0 e)

  -- with a record
  pub record_first : (cell_of cells i wiring_index ≡ 0 → ⊥) → from_place cells i ≡ some (record_at (place_at_index cells i)) ∷ from_place cells (i + 1)
  record_first used = by_wiring false (ne_eqb (cell_of cells i wiring_index) 0 used)

-- ---- no place left

over : (i : ℕ) → places ≤ i → places - i ≡ 0
over i h = omega arith

pub none_left : (cells : List ℕ) (i port : ℕ) → places ≤ i → view_of_table (from_place cells i) port ≡ none
none_left cells i port h = rw (over i h)

pub place_end : (cells : List ℕ) (i port : ℕ) → places ≤ i → place_of (from_place cells i) port ≡ 0
place_end cells i port h = rw (over i h)

pub free_end : (cells : List ℕ) (i : ℕ) → places ≤ i → first_free (from_place cells i) ≡ 0
free_end cells i h = rw (over i h)

-- ---- the facts at a place

module _ (cells : List ℕ) (i : ℕ) where
  pub facts_some : i < places → facts_at cells i ≡ some (record_at (place_at_index cells i)).facts
  unfolding facts_at
  facts_some h = rw (lt-ltb i places h)

  pub facts_none : places ≤ i → facts_at cells i ≡ none
  unfolding facts_at
  facts_none h = rw (le-ltb i places h)

pub nowhere : (cells : List ℕ) → facts_at cells places ≡ none
nowhere cells = facts_none cells places (omega arith)

-- ---- by the test of a place

-- whether a place has a port's record, and its facts
abbrev has : ℕ → Option Record → Bool
has port none = false
has port (some r) = eqb r.port port

abbrev facts_of : Option Record → Option Facts
facts_of none = none
facts_of (some r) = some r.facts

-- the first place has it or has not
place_first : (port : ℕ) (p : Option Record) (t : Table) {b : Bool} → has port p ≡ b → place_of (p ∷ t) port ≡ cond b 0 (suc (place_of t port))
place_first port none t e = ap (λ (b : Bool). cond b 0 (suc (place_of t port))) e
place_first port (some r) t e = ap (λ (b : Bool). cond b 0 (suc (place_of t port))) e

view_first : (port : ℕ) (p : Option Record) (t : Table) {b : Bool} → has port p ≡ b → view_of_table (p ∷ t) port ≡ cond b (facts_of p) (view_of_table t port)
view_first port none t e = ap (λ (b : Bool). cond b none (view_of_table t port)) e
view_first port (some r) t e = ap (λ (b : Bool). cond b (some r.facts) (view_of_table t port)) e

module _ (cells : List ℕ) (i port : ℕ) (h : i < places) where
  its_port : port_at cells i port ≡ has port (place_at (place_at_index cells i))
  unfolding port_at record_at
  its_port =
      sym (λ j. cond (eqb (cell cells i wiring_index (omega arith) j) 0) false (eqb (cell cells i port_index (omega arith) j) port)) ∙ go (eqb (cell_at (place_at_index cells i) wiring_index) 0)
    where
      go : (free : Bool) → cond free false (eqb (cell_at (place_at_index cells i) port_index) port) ≡ has port (cond free none (some (record_at (place_at_index cells i))))
      go true = refl
      go false = refl

  by_place : {b : Bool} → port_at cells i port ≡ b → place_of (from_place cells i) port ≡ cond b 0 (suc (place_of (from_place cells (i + 1)) port))
  by_place e = ap (λ (t : Table). place_of t port) (next cells i h) ∙ place_first port (place_at (place_at_index cells i)) (from_place cells (i + 1)) (sym its_port ∙ e)

  by_view : {b : Bool} → port_at cells i port ≡ b → view_of_table (from_place cells i) port ≡ cond b (facts_of (place_at (place_at_index cells i))) (view_of_table (from_place cells (i + 1)) port)
  by_view e = ap (λ (t : Table). view_of_table t port) (next cells i h) ∙ view_first port (place_at (place_at_index cells i)) (from_place cells (i + 1)) (sym its_port ∙ e)

  pub not_at : port_at cells i port ≡ false → view_of_table (from_place cells i) port ≡ view_of_table (from_place cells (i + 1)) port
  not_at e = by_view e

  pub place_later : port_at cells i port ≡ false → place_of (from_place cells i) port ≡ suc (place_of (from_place cells (i + 1)) port)
  place_later e = by_place e

  pub is_at : port_at cells i port ≡ true → view_of_table (from_place cells i) port ≡ facts_at cells i
  is_at e = by_view e ∙ own (eqb (cell_at (place_at_index cells i) wiring_index) 0) (record_at (place_at_index cells i)) (sym its_port ∙ e) ∙ sym (facts_some cells i h)
    where
      own : (free : Bool) (r : Record) → has port (cond free none (some r)) ≡ true → facts_of (cond free none (some r)) ≡ some r.facts
      own true r k = let one : ◌≡◌ {A = ℕ} 0 1 = cc in absurd (omega arith)
      own false r k = refl

  pub place_here : port_at cells i port ≡ true → place_of (from_place cells i) port ≡ 0
  place_here e = by_place e

-- ---- going on from place to place

-- a place below the one sought has been passed
pub step_on : (n i k l : ℕ) → n ≡ i + k → k ≡ suc l → n ≡ i + 1 + l
step_on n i k l e s = omega arith

-- the place sought is here
pub step_last : (n i k : ℕ) → n ≡ i + k → ◌≡◌ {A = ℕ} k 0 → i ≡ n
step_last n i k e z = omega arith

-- ---- the place of a port's record

pub find_place_lem : (cells : List ℕ) → length cells ≡ table_size → (port : ℕ) → find_place cells port ≡ place_of (table_at cells) port
unfolding find_place
find_place_lem cells size port = ap (λ (b : Bool). cond b (place_of (table_at cells) port) places) (eq-eqb (length cells) table_size size)

pub no_place : (cells : List ℕ) → (length cells ≡ table_size → ⊥) → (port : ℕ) → places ≡ find_place cells port
unfolding find_place
no_place cells size port = sym (ap (λ (b : Bool). cond b (place_of (table_at cells) port) places) (ne_eqb (length cells) table_size size))

pub from_start : (cells : List ℕ) (port : ℕ) → view_of_table (table_at cells) port ≡ view_of_table (from_place cells 0) port
unfolding table_at
from_start cells port = refl

pub place_start : (cells : List ℕ) (port : ℕ) → place_of (table_at cells) port ≡ 0 + place_of (from_place cells 0) port
unfolding table_at
place_start cells port = sym (zero-add (place_of (places_at places cells) port))

-- what is known of a port from a place on, by the first place that has its record
pub found_from : (cells : List ℕ) (port left i : ℕ) → i + left ≡ places → view_of_table (from_place cells i) port ≡ facts_at cells (i + place_of (from_place cells i) port)
found_from cells port zero i e =
    let all : places ≡ i = omega arith in
    none_left cells i port (omega arith) ∙ sym (ap (facts_at cells) (ap (λ (k : ℕ). i + k) (place_end cells i port (omega arith)) ∙ add-zero i ∙ sym all) ∙ nowhere cells)
found_from cells port (suc left) i e =
    let below : i < places = omega arith in
    ⊎_elim
    (λ (k : port_at cells i port ≡ true). is_at cells i port below k ∙ ap (facts_at cells) (step_last _ i _ refl (place_here cells i port below k)))
    (λ (k : port_at cells i port ≡ false).
    not_at cells i port below k ∙ found_from cells port left (i + 1) (omega arith) ∙ ap (facts_at cells) (sym (step_on _ i _ _ refl (place_later cells i port below k))))
    (which (port_at cells i port))

pub found : (cells : List ℕ) → length cells ≡ table_size → (port r : ℕ) → r ≡ find_place cells port → view_of_table (table_at cells) port ≡ facts_at cells r
found cells size port r e =
    from_start cells port ∙ found_from cells port places 0 refl ∙ ap (facts_at cells) (sym (e ∙ find_place_lem cells size port ∙ place_start cells port))

-- in no place from one on, by the place found
pub not_from : (cells : List ℕ) (port i r : ℕ) → i ≤ places → r ≤ places → r ≡ i + place_of (from_place cells i) port → eqb r places ≡ not (known (view_of_table (from_place cells i) port))
not_from cells port i r h most e =
    let is : view_of_table (from_place cells i) port ≡ facts_at cells r = found_from cells port (places - i) i (omega arith) ∙ ap (facts_at cells) (sym e) in
    ⊎_elim
    (λ (k : eqb r places ≡ true). k ∙ sym (ap (λ (x : Option Facts). not (known x)) (is ∙ facts_none cells r (omega (arith, eqb-true r places k)))))
    (λ (k : eqb r places ≡ false). let differs = eqb-false r places k in k ∙ sym (ap (λ (x : Option Facts). not (known x)) (is ∙ facts_some cells r (omega arith))))
    (which (eqb r places))

-- ---- the lowest free place

pub free_place_lem : (cells : List ℕ) → length cells ≡ table_size → free_place cells ≡ first_free (table_at cells)
unfolding free_place
free_place_lem cells size = ap (λ (b : Bool). cond b (first_free (table_at cells)) places) (eq-eqb (length cells) table_size size)

pub no_free_place : (cells : List ℕ) → (length cells ≡ table_size → ⊥) → places ≡ free_place cells
unfolding free_place
no_free_place cells size = sym (ap (λ (b : Bool). cond b (first_free (table_at cells)) places) (ne_eqb (length cells) table_size size))

pub free_start : (cells : List ℕ) → first_free (table_at cells) ≡ 0 + first_free (from_place cells 0)
unfolding table_at
free_start cells = sym (zero-add (first_free (places_at places cells)))

pub free_here : (cells : List ℕ) (i : ℕ) → i < places → cell_of cells i wiring_index ≡ 0 → first_free (from_place cells i) ≡ 0
free_here cells i h e = ap first_free (free_first cells i h e)

pub free_later : (cells : List ℕ) (i : ℕ) → i < places → (cell_of cells i wiring_index ≡ 0 → ⊥) → first_free (from_place cells i) ≡ suc (first_free (from_place cells (i + 1)))
free_later cells i h used = ap first_free (record_first cells i h used)

-- full, by the lowest free place
full_first : (t : Table) → full_table t ≡ eqb (first_free t) (length t)
full_first [] = refl
full_first (none ∷ t) = sym (ne_eqb 0 (suc (length t)) (λ (e : 0 ≡ suc (length t)). omega arith))
full_first (some r ∷ t) = full_first t ∙ sym (eqb-suc-suc (first_free t) (length t))

pub sixteen : (cells : List ℕ) → length (table_at cells) ≡ places
unfolding table_at
sixteen cells = refl

pub full_at : (cells : List ℕ) (i : ℕ) → i ≡ first_free (table_at cells) → full_table (table_at cells) ≡ eqb i places
full_at cells i e = full_first (table_at cells) ∙ (λ j. eqb (sym e j) (sixteen cells j))

pub free_is : (cells : List ℕ) → length cells ≡ table_size → (r : ℕ) → r ≡ free_place cells → full_table (table_at cells) ≡ eqb r places
free_is cells size r e = full_at cells r (e ∙ free_place_lem cells size)
