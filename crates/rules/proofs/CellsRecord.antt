-- One record in cells: decoding what was encoded.
use Prim.Native.Nat.{ℕ, zero, suc, ◌+◌, ◌*◌, ◌/◌, ◌%◌, ◌≤◌, ◌<◌}
use native.Mathlib.Nat.{zero-add, add-zero, add-suc, suc-add}
use native.Mathlib.Omega.{arith}
use mathlib.Core.Path.{◌≡◌, refl, sym, ◌∙◌, ap}
use mathlib.Core.Bool.{Bool, true, false, cond, not, ◌&&◌}
use mathlib.Core.List.{List, [], ◌∷◌, ◌++◌, append-nil}
use mathlib.Core.Logic.{⊎_elim}
use mathlib.Core.Option.{Option, none, some}
use borrow.Author.Tests.{ltb-true, ltb-false, leb-true, eqb-true, eqb-false, ne_eqb}
use lib.Dec.{eqb, leb, ltb}
use lib.ListN.{length, get_or, take, drop, replicate, length-append, length-replicate}
use lib.Seq.{take_at, take-take, length-take-le, get_or-append-add, drop-append-add}
use Rattle.protocol.specs.Rule.{between}
use Rattle.protocol.specs.Form.{up_from, last_mode, last_notify, most_datasets, last_kind, most_entries, mode_dataset_list, wrong_byte}
use Rattle.protocol.proofs.Tests.{which, and_left, and_right}
use Rattle.rules.specs.Layout.{mode_count, stride}
use Rattle.rules.specs.Facts.{Setup, Format, Asking, asked_single, asked_combined, Answering, answered_single, answered_combined, Wiring, Unjoined, Joined, Virtual, Settings, Facts}
use Rattle.rules.specs.Pointers.{pointers_fit}
use Rattle.rules.specs.Table.{Record}
use Rattle.rules.specs.WellFormed.{setup_fits, format_fits, formats_fit, all_bytes, is_none, list_fits, kept_fits, asked_fits, answered_fits, settings_fit, facts_fit}
use Rattle.rules.specs.Cells.{format_cell, asked_cells, answered_cells, taken_by, list_cells, wiring_cell, first_partner, second_partner, format_cells, modes, record_cells, place_cells, format_bytes, format_at, asked_at, answered_at, wiring_at, cell_at, asked_from, answered_from, entries_from, list_from, record_at, place_at}
use Rattle.rules.proofs.SettingsFit.{NoHigh, five_passed, InLists, listed}

-- ---- formats

-- a cell that is not zero stands for its four bytes
bytes_at : (n : ℕ) → 1 ≤ n → format_at n ≡ some (format_bytes n)
bytes_at zero h = absurd (omega arith)
bytes_at (suc n) h = refl

format_back : (f : Option Format) → format_fits f ≡ true → format_at (format_cell f) ≡ f
format_back none e = refl
format_back (some f) e =
    let passed = five_passed (leb 1 f.datasets) (leb f.datasets most_datasets) (leb f.kind last_kind) (ltb f.figures 256) (ltb f.decimals 256) e in
    let low : 1 ≤ f.datasets = leb-true 1 f.datasets passed.0 in
    let d : f.datasets ≤ most_datasets = leb-true f.datasets most_datasets passed.1 in
    let k : f.kind ≤ last_kind = leb-true f.kind last_kind passed.2 in
    let g : f.figures < 256 = ltb-true f.figures 256 passed.3 in
    let n : ℕ = format_cell (some f) in
    let first : n % 256 ≡ f.datasets = omega arith in
    let once : n / 256 ≡ f.kind + 256 * (f.figures + 256 * f.decimals) = omega arith in
    let second : n / 256 % 256 ≡ f.kind = rw once (omega arith) in
    let twice : n / 256 / 256 ≡ f.figures + 256 * f.decimals = rw once (omega arith) in
    let third : n / 256 / 256 % 256 ≡ f.figures = rw twice (omega arith) in
    let fourth : n / 256 / 256 / 256 ≡ f.decimals = rw twice (omega arith) in
    bytes_at n (omega arith) ∙ λ i. some (record { datasets = first i; kind = second i; figures = third i; decimals = fourth i })

-- the cell of a mode, over the first mode and the number of modes
mode_cell : (formats : ℕ → Option Format) (from n m : ℕ) → ((k : ℕ) → from + n ≤ k → formats k ≡ none) → get_or (format_cells formats (up_from from n)) m 0 ≡ format_cell (formats (from + m))
mode_cell formats from zero m high = rw (high (from + m) (omega arith))
mode_cell formats from (suc n) zero high = rw add-zero
mode_cell formats from (suc n) (suc m) high = mode_cell formats (suc from) n m (λ k h. high k (omega arith)) ∙ rw (suc-add, add-suc)

pub mode_fits : (n : ℕ) (formats : ℕ → Option Format) → formats_fit n formats ≡ true → (m : ℕ) → m < n → format_fits (formats m) ≡ true
mode_fits zero formats e m h = absurd (omega arith)
mode_fits (suc n) formats e m h =
    ⊎_elim
    (λ (last : eqb m n ≡ true). rw (eqb-true m n last) (and_left _ (formats_fit n formats) e))
    (λ (other : eqb m n ≡ false). let differs = eqb-false m n other in mode_fits n formats (and_right (format_fits (formats n)) _ e) m (omega arith))
    (which (eqb m n))

formats_back : (formats : ℕ → Option Format) → NoHigh formats → formats_fit mode_count formats ≡ true → (m : ℕ) → format_at (get_or (format_cells formats modes) m 0) ≡ formats m
formats_back formats high e m =
    let fits : format_fits (formats m) ≡ true =
    ⊎_elim (λ (below : ltb m mode_count ≡ true). mode_fits mode_count formats e m (ltb-true m mode_count below)) (λ (above : ltb m mode_count ≡ false). rw (high m (ltb-false m mode_count above))) (which (ltb m mode_count))
    in
    ap format_at (mode_cell formats 0 mode_count m high ∙ ap (λ (k : ℕ). format_cell (formats k)) (zero-add m)) ∙ format_back (formats m) fits

-- ---- the other cells

wiring_back : (w : Wiring) → wiring_at (wiring_cell w) (first_partner w) (second_partner w) ≡ w
wiring_back Unjoined = refl
wiring_back (Joined v) = refl
wiring_back (Virtual a b) = refl

wired_not_free : (w : Wiring) → eqb (wiring_cell w) 0 ≡ false
wired_not_free Unjoined = refl
wired_not_free (Joined v) = refl
wired_not_free (Virtual a b) = refl

-- ---- what was asked and what was answered

-- three cells
asked_three : (x : Option Asking) → asked_cells x ≡ cell_at (asked_cells x) 0 ∷ cell_at (asked_cells x) 1 ∷ cell_at (asked_cells x) 2 ∷ []
asked_three none = refl
asked_three (some (asked_single s)) = refl
asked_three (some asked_combined) = refl

answered_three : (x : Option Answering) → answered_cells x ≡ cell_at (answered_cells x) 0 ∷ cell_at (answered_cells x) 1 ∷ cell_at (answered_cells x) 2 ∷ []
answered_three none = refl
answered_three (some (answered_single s)) = refl
answered_three (some (answered_combined p list)) = refl

-- a mode is below the number that stands in place of one
mode_low : (s : Setup) → setup_fits s ≡ true → eqb s.mode mode_count ≡ false
mode_low s e =
    let front = and_left (leb s.mode last_mode && ltb s.delta 4294967296) (leb s.notify last_notify) e in
    let low : s.mode ≤ last_mode = leb-true s.mode last_mode (and_left (leb s.mode last_mode) (ltb s.delta 4294967296) front) in
    ne_eqb s.mode mode_count (λ k. omega arith)

pub asked_back : (x : Option Asking) (list : Option (List ℕ)) → asked_fits x list ≡ true → asked_from (asked_cells x) 0 ≡ x
asked_back none list e = refl
asked_back (some (asked_single s)) list e = ap (λ (b : Bool). some (cond b asked_combined (asked_single s))) (mode_low s e)
asked_back (some asked_combined) list e = refl

answered_back : (x : Option Answering) (list : Option (List ℕ)) (taken : List ℕ) → answered_fits x list ≡ true → ((l : List ℕ) → taken_by x ≡ some l → taken ≡ l) → answered_from (answered_cells x) 0 taken ≡ x
answered_back none list taken e k = refl
answered_back (some (answered_single s)) list taken e k = ap (λ (b : Bool). some (cond b (answered_combined s.delta taken) (answered_single s))) (mode_low s e)
answered_back (some (answered_combined p l)) list taken e k = ap (λ (x : List ℕ). some (answered_combined p x)) (k l refl)

-- ---- lists

pub list_length : (x : Option (List ℕ)) → length (list_cells x) ≡ suc most_entries
unfolding list_cells
list_length none = refl
list_length (some list) =
    ap suc (length-take-le most_entries (list ++ replicate most_entries 0) (rw (length-append, length-replicate) (omega arith)))

-- behind other cells
entries_behind : (xs c : List ℕ) (at : ℕ) → length xs ≡ at → (k : ℕ) → entries_from (xs ++ c) (at + k) ≡ entries_from c k
entries_behind xs c at e k =
    let cell : get_or (xs ++ c) (at + k) 0 ≡ get_or c k 0 = ap (λ (n : ℕ). get_or (xs ++ c) (n + k) 0) (sym e) ∙ get_or-append-add xs c k 0 in
    let past : suc (at + k) ≡ length xs + suc k = omega arith in
    let rest : drop (suc (at + k)) (xs ++ c) ≡ drop (suc k) c = ap (λ (n : ℕ). drop n (xs ++ c)) past ∙ drop-append-add xs c (suc k) in
    λ i. take (cell i) (take most_entries (rest i))

list_behind : (xs c : List ℕ) (at : ℕ) → length xs ≡ at → (k : ℕ) → list_from (xs ++ c) (at + k) ≡ list_from c k
list_behind xs c at e k =
    let cell : get_or (xs ++ c) (at + k) 0 ≡ get_or c k 0 = ap (λ (n : ℕ). get_or (xs ++ c) (n + k) 0) (sym e) ∙ get_or-append-add xs c k 0 in
    λ i. cond (eqb (cell i) 0) none (some (entries_behind xs c at e k i))

-- at the front of cells
entries_front : (list c : List ℕ) → length list ≤ most_entries → entries_from (list_cells (some list) ++ c) 0 ≡ list
unfolding list_cells
entries_front list c few =
    let zeros : List ℕ = replicate most_entries 0 in
    ap (take (length list)) (take_at (take most_entries (list ++ zeros)) c most_entries (length-take-le most_entries (list ++ zeros) (rw (length-append, length-replicate) (omega arith))))
    ∙ take-take (length list) most_entries (list ++ zeros) few
    ∙ take_at list zeros (length list) refl

pub few_entries : (list : List ℕ) → list_fits list ≡ true → (1 ≤ length list) × (length list ≤ most_entries)
unfolding list_fits
few_entries list e =
    let size = and_left (leb 1 (length list)) (leb (length list) most_entries) in
    let both = and_left (between 1 most_entries (length list)) (all_bytes list) (and_left (between 1 most_entries (length list) && all_bytes list) (is_none (wrong_byte mode_dataset_list list)) e) in
    (leb-true 1 (length list) (and_left (leb 1 (length list)) (leb (length list) most_entries) both), leb-true (length list) most_entries (and_right (leb 1 (length list)) (leb (length list) most_entries) both))

list_front : (x : Option (List ℕ)) (c : List ℕ) → kept_fits x ≡ true → list_from (list_cells x ++ c) 0 ≡ x
unfolding list_cells
list_front none c e = refl
list_front (some list) c e =
    let few = few_entries list e in
    rw (ne_eqb (length list) 0 (λ k. omega (arith, few.0))) (ap some (entries_front list c few.1))

-- ---- a record, and a place

-- what cells stand for, by those after what was answered
cells_back : (w port device a b state x0 x1 x2 experiment y0 y1 y2 : ℕ) (rest : List ℕ) → record_at (w ∷ port ∷ device ∷ a ∷ b ∷ state ∷ x0 ∷ x1 ∷ x2 ∷ experiment ∷ y0 ∷ y1 ∷ y2 ∷ rest) ≡ record {
  port = port;
  facts = record {
    device = device;
    wiring = wiring_at w a b;
    settings = record {
      formats = λ mode. format_at (get_or (take mode_count rest) mode 0);
      answered = answered_at y0 y1 y2 (entries_from rest 33);
      asked = asked_at x0 x1 x2;
      list = list_from rest 16;
      state = state;
      experiment = experiment;
    };
  };
}
unfolding record_at
cells_back w port device a b state x0 x1 x2 experiment y0 y1 y2 rest = refl

-- the cells after what was answered
abbrev later : Settings → List ℕ
later s = format_cells s.formats modes ++ (list_cells s.list ++ list_cells (taken_by s.answered))

module _ (s : Settings) (k : InLists s) where
  kept_back : list_from (later s) 16 ≡ s.list
  kept_back = list_behind (format_cells s.formats modes) (list_cells s.list ++ list_cells (taken_by s.answered)) 16 refl 0 ∙ list_front s.list (list_cells (taken_by s.answered)) k.list

  taken_back : (l : List ℕ) → taken_by s.answered ≡ some l → entries_from (later s) 33 ≡ l
  taken_back l e =
      entries_behind (format_cells s.formats modes) (list_cells s.list ++ list_cells (taken_by s.answered)) 16 refl 17
      ∙ entries_behind (list_cells s.list) (list_cells (taken_by s.answered)) 17 (list_length s.list) 0
      ∙ ap (λ (x : Option (List ℕ)). entries_from (list_cells x) 0) e
      ∙ ap (λ (c : List ℕ). entries_from c 0) (sym (append-nil (list_cells (some l))))
      ∙ entries_front l [] (few_entries l (taken_fits_lem s.answered s.list k.answered l e)).1
    where
      taken_fits_lem : (x : Option Answering) (list : Option (List ℕ)) → answered_fits x list ≡ true → (l : List ℕ) → taken_by x ≡ some l → list_fits l ≡ true
      taken_fits_lem none list e l t = let z : ◌≡◌ {A = ℕ} 0 1 = cc in absurd (omega arith)
      taken_fits_lem (some (answered_single t)) list e l j = let z : ◌≡◌ {A = ℕ} 0 1 = cc in absurd (omega arith)
      taken_fits_lem (some (answered_combined p taken)) list e l t =
          let is : taken ≡ l = cc in
          rw (sym is) (and_right (not (is_none list)) (list_fits taken) (and_left (not (is_none list) && list_fits taken) (pointers_fit p (length taken)) e))

  settings_formats : NoHigh s.formats → (m : ℕ) → format_at (get_or (take mode_count (later s)) m 0) ≡ s.formats m
  settings_formats high m =
      ap (λ (c : List ℕ). format_at (get_or c m 0)) (take_at (format_cells s.formats modes) (list_cells s.list ++ list_cells (taken_by s.answered)) mode_count refl)
      ∙ formats_back s.formats high k.formats m

-- the three cells of each, one by one
abbrev spread : ℕ → ℕ → ℕ → ℕ → ℕ → ℕ → List ℕ → ℕ → List ℕ → List ℕ → List ℕ
spread w port device a b state asked experiment answered rest = w ∷ port ∷ device ∷ a ∷ b ∷ state ∷ (asked ++ (experiment ∷ (answered ++ rest)))

pub record_back : (r : Record) → NoHigh r.facts.settings.formats → facts_fit r.facts ≡ true → record_at (record_cells r) ≡ r
unfolding record_cells
record_back r high fits =
    let f : Facts = r.facts in
    let s : Settings = f.settings in
    let k = listed s (and_right (ltb f.device 65536) (settings_fit s) fits) in
    let x : List ℕ = asked_cells s.asked in
    let y : List ℕ = answered_cells s.answered in
    let front : List ℕ → List ℕ → List ℕ = λ x y. spread (wiring_cell f.wiring) r.port f.device (first_partner f.wiring) (second_partner f.wiring) s.state x s.experiment y (later s) in
    (λ i. record_at (front (asked_three s.asked i) (answered_three s.answered i)))
    ∙ cells_back (wiring_cell f.wiring) r.port f.device (first_partner f.wiring) (second_partner f.wiring) s.state (cell_at x 0) (cell_at x 1) (cell_at x 2) s.experiment (cell_at y 0) (cell_at y 1) (cell_at y 2) (later s)
    ∙ λ i. record {
      port = r.port;
      facts = record {
        device = f.device;
        wiring = wiring_back f.wiring i;
        settings = record {
          formats = λ mode. settings_formats s k high mode i;
          answered = answered_back s.answered s.list (entries_from (later s) 33) k.answered (taken_back s k) i;
          asked = asked_back s.asked s.list k.asked i;
          list = kept_back s k i;
          state = s.state;
          experiment = s.experiment;
        };
      };
    }

record_length : (r : Record) → length (record_cells r) ≡ stride
unfolding record_cells
record_length r =
    let s : Settings = r.facts.settings in
    (λ i. suc (suc (suc (suc (suc (suc (length (asked_three s.asked i ++ (s.experiment ∷ (answered_three s.answered i ++ later s))))))))))
    ∙ ap (λ (n : ℕ). suc (suc (suc (suc (suc (suc (suc (suc (suc (suc (suc (suc (suc n))))))))))))) (later_length s)
  where
    later_length : (s : Settings) → length (later s) ≡ 50
    later_length s =
        length-append (format_cells s.formats modes) (list_cells s.list ++ list_cells (taken_by s.answered))
        ∙ ap (λ (n : ℕ). 16 + n) (length-append (list_cells s.list) (list_cells (taken_by s.answered)) ∙ (λ i. list_length s.list i + list_length (taken_by s.answered) i))

-- no record has the first cell of a free place
pub record_place : (r : Record) → NoHigh r.facts.settings.formats → facts_fit r.facts ≡ true → place_at (record_cells r) ≡ some r
unfolding record_cells
record_place r high fits = rw (wired_not_free r.facts.wiring) (ap some (record_back r high fits))

pub place_length : (p : Option Record) → length (place_cells p) ≡ stride
place_length none = refl
place_length (some r) = record_length r
