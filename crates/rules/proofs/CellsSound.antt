-- Sound cells: those of a well formed table, and no others. The cells of the empty table are zeros.
use Prim.Native.Nat.{ℕ, zero, suc, ◌+◌, ◌*◌}
use native.Mathlib.Omega.{arith}
use mathlib.Core.Path.{◌≡◌, refl, sym, ◌∙◌, ap}
use mathlib.Core.Bool.{Bool, true, false, cond}
use mathlib.Core.List.{List, [], ◌∷◌, ◌++◌}
use mathlib.Core.Option.{none, some}
use borrow.Author.Tests.{eqb-true, eq-eqb}
use lib.Dec.{eqb}
use lib.ListN.{length, get_or, take, drop, replicate, length-take, length-append, replicate-append-replicate, get_or-eq_default}
use Rattle.protocol.proofs.Tests.{and_left, and_right}
use Rattle.rules.specs.Layout.{mode_count, places, stride, table_size, formats_index}
use Rattle.rules.specs.Facts.{View, same_list}
use Rattle.rules.specs.Table.{Record, Table, view_of_table}
use Rattle.rules.specs.WellFormed.{places_fit, well_formed}
use Rattle.rules.specs.Cells.{place_cells, cells_of, format_at, record_at, places_at, table_at, sound, empty_cells}
use Rattle.rules.proofs.SettingsFit.{NoHigh}
use Rattle.rules.proofs.CellsRecord.{place_length}
use Rattle.rules.proofs.CellsTable.{NoHighFormats, table_back}

-- ---- the comparison of cells

pub same_refl : (cs : List ℕ) → same_list cs cs ≡ true
same_refl [] = refl
same_refl (c ∷ cs) = rw (eq-eqb c c refl) (same_refl cs)

pub same_equal : (cs ds : List ℕ) → same_list cs ds ≡ true → cs ≡ ds
same_equal [] [] e = refl
same_equal [] (d ∷ ds) e = let z : ◌≡◌ {A = ℕ} 0 1 = cc in absurd (omega arith)
same_equal (c ∷ cs) [] e = let z : ◌≡◌ {A = ℕ} 0 1 = cc in absurd (omega arith)
same_equal (c ∷ cs) (d ∷ ds) e =
    let here : c ≡ d = eqb-true c d (and_left (eqb c d) (same_list cs ds) e) in
    let there : cs ≡ ds = same_equal cs ds (and_right (eqb c d) (same_list cs ds) e) in
    λ i. here i ∷ there i

-- ---- the cells of a well formed table are sound

pub sound_cells : (t : Table) → length t ≡ places → NoHighFormats t → well_formed t ≡ true → sound (cells_of t) ≡ true
unfolding sound
sound_cells t sixteen high well = rw (table_back t sixteen high well, same_refl, well)

-- ---- what cells stand for has sixteen places, and formats of modes below sixteen

places_length : (n : ℕ) (cells : List ℕ) → length (places_at n cells) ≡ n
places_length zero cells = refl
places_length (suc n) cells = ap suc (places_length n (drop stride cells))

record_high : (c : List ℕ) → NoHigh (record_at c).facts.settings.formats
unfolding record_at
record_high c m h = ap format_at (get_or-eq_default (take mode_count (drop formats_index c)) 0 (rw length-take (omega arith)))

place_high : (free : Bool) (r : Record) (t : Table) → NoHigh r.facts.settings.formats → NoHighFormats t → NoHighFormats (cond free none (some r) ∷ t)
place_high true r t here there = there
place_high false r t here there = (here, there)

places_high : (n : ℕ) (cells : List ℕ) → NoHighFormats (places_at n cells)
places_high zero cells = tt
places_high (suc n) cells =
    let c : List ℕ = take stride cells in
    place_high (eqb (get_or c 0 0) 0) (record_at c) (places_at n (drop stride cells)) (record_high c) (places_high n (drop stride cells))

pub sound_is : (cells : List ℕ) → sound cells ≡ true → (cells ≡ cells_of (table_at cells)) × (well_formed (table_at cells) ≡ true) × (length (table_at cells) ≡ places) × NoHighFormats (table_at cells)
unfolding sound table_at
sound_is cells e =
    let same : Bool = same_list cells (cells_of (table_at cells)) in
    let well : Bool = well_formed (table_at cells) in
    (same_equal cells (cells_of (table_at cells)) (and_left same well e), and_right same well e, places_length places cells, places_high places cells)

-- ---- how many cells

pub cells_length : (t : Table) → length (cells_of t) ≡ stride * length t
unfolding cells_of
cells_length [] = refl
cells_length (p ∷ t) =
    let more : stride + stride * length t ≡ stride * suc (length t) = omega arith in
    length-append (place_cells p) (cells_of t) ∙ (λ i. place_length p i + cells_length t i) ∙ more

pub sound_length : (cells : List ℕ) → sound cells ≡ true → length cells ≡ table_size
sound_length cells e =
    let k = sound_is cells e in
    ap length k.0 ∙ cells_length (table_at cells) ∙ ap (λ (n : ℕ). stride * n) k.2

-- ---- the empty table

none_cells : (n : ℕ) → cells_of (replicate n none) ≡ replicate (n * stride) 0
unfolding cells_of
none_cells zero = refl
none_cells (suc n) =
    let more : stride + n * stride ≡ suc n * stride = omega arith in
    ap (λ (l : List ℕ). replicate stride 0 ++ l) (none_cells n) ∙ replicate-append-replicate stride (n * stride) 0 ∙ ap (λ (k : ℕ). replicate k 0) more

none_fits : (view : View) (n : ℕ) → places_fit view (replicate n none) ≡ true
none_fits view zero = refl
none_fits view (suc n) = none_fits view n

pub none_high : (n : ℕ) → NoHighFormats (replicate n none)
none_high zero = tt
none_high (suc n) = none_high n

pub empty_well : well_formed (replicate places none) ≡ true
unfolding well_formed
empty_well = none_fits (view_of_table (replicate places none)) places

pub empty_cells_lem : empty_cells ≡ cells_of (replicate places none)
unfolding empty_cells
empty_cells_lem = sym (none_cells places)

pub empty_table : table_at empty_cells ≡ replicate places none
empty_table = ap table_at empty_cells_lem ∙ table_back (replicate places none) refl (none_high places) empty_well

pub empty_sound : sound empty_cells ≡ true
empty_sound = ap sound empty_cells_lem ∙ sound_cells (replicate places none) refl (none_high places) empty_well
