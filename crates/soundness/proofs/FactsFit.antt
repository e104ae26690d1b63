-- What soundness asks of a record by itself, by the tests of its cells.
use Prim.Native.Nat.{ℕ, zero, suc, ◌+◌, ◌-◌, ◌/◌, ◌%◌, ◌≤◌, ◌<◌}
use native.Mathlib.Omega.{arith}
use mathlib.Core.Path.{◌≡◌, refl, sym, ◌∙◌, ap}
use mathlib.Core.Bool.{Bool, true, false, cond, ◌&&◌, and-true, and-false, and_assoc}
use mathlib.Core.List.{List}
use mathlib.Core.Option.{Option}
use mathlib.Core.Logic.{⊎_elim}
use borrow.Author.Tests.{lt-ltb, le-leb, lt-leb, leb-true, leb-false}
use lib.Dec.{eqb, leb, ltb, eqb-suc-zero}
use lib.ListN.{length, drop}
use lib.Seq.{get_or-take, get_or-drop}
use Rattle.protocol.proofs.Tests.{which, and_left, and_right}
use Rattle.protocol.specs.Rule.{between}
use Rattle.protocol.specs.Form.{most_datasets, last_kind}
use Rattle.rules.specs.Layout.{mode_count, stride, experiment_count, state_index, asked_index, experiment_index, formats_index, list_index}
use Rattle.rules.specs.Facts.{Asking, Answering}
use Rattle.rules.specs.WellFormed.{format_fits, formats_fit, kept_fits, asked_fits, answered_fits, state_fits, experiment_fits}
use Rattle.rules.specs.Cells.{cell_at, format_at, asked_at, settings_at}
use Rattle.soundness.specs.Soundness.{asked_in, answered_in, list_in, exact_asked, exact_answered, exact_list, exact_taken, exact_settings, formats_in_fit, experiment_in_fits, sound_list, sound_asked, sound_answered, state_by_cells, sound_settings}
use Rattle.soundness.proofs.Loops.{crossed, and_when}
use Rattle.soundness.proofs.States.{state_rule}

-- ---- a format, whose figures and decimals are bytes

-- one dataset less of so many
one_less : (n : ℕ) → (leb (n % 256) 15 && leb (n / 256 % 256) last_kind) ≡ (between 1 most_datasets (suc n % 256) && leb (suc n / 256 % 256) last_kind)
one_less n =
    ⊎_elim
    (λ (k : leb (n % 256) 15 ≡ true).
    let few : n % 256 ≤ 15 = leb-true (n % 256) 15 k in
    let kind : n / 256 % 256 ≡ suc n / 256 % 256 = omega arith in
    (λ i. k i && leb (kind i) last_kind)
    ∙ sym (λ i. le-leb 1 (suc n % 256) (omega arith) i && le-leb (suc n % 256) most_datasets (omega arith) i && leb (suc n / 256 % 256) last_kind))
    (λ (k : leb (n % 256) 15 ≡ false).
    let many : 15 < n % 256 = leb-false (n % 256) 15 k in
    ap (λ (b : Bool). b && leb (n / 256 % 256) last_kind) k ∙ sym (ap (λ (b : Bool). b && leb (suc n / 256 % 256) last_kind) (outside many)))
    (which (leb (n % 256) 15))
  where
    outside : 15 < n % 256 → between 1 most_datasets (suc n % 256) ≡ false
    outside many =
        ⊎_elim
        (λ (k : leb 1 (suc n % 256) ≡ true). let some_left : 1 ≤ suc n % 256 = leb-true 1 (suc n % 256) k in (λ i. k i && lt-leb (suc n % 256) most_datasets (omega arith) i))
        (λ (k : leb 1 (suc n % 256) ≡ false). ap (λ (b : Bool). b && leb (suc n % 256) most_datasets) k)
        (which (leb 1 (suc n % 256)))

pub format_fits_lem : (n less : ℕ) → less ≡ n - 1 → n < 4294967296 → (leb (less % 256) 15 && leb (less / 256 % 256) last_kind) ≡ format_fits (format_at n)
format_fits_lem zero less e h = ap (λ (m : ℕ). leb (m % 256) 15 && leb (m / 256 % 256) last_kind) e
format_fits_lem (suc n) less e h =
    let is : less ≡ n = omega arith in
    let front : Bool = between 1 most_datasets (suc n % 256) && leb (suc n / 256 % 256) last_kind in
    let figures : suc n / 256 / 256 % 256 < 256 = omega arith in
    let decimals : suc n / 256 / 256 / 256 < 256 = omega arith in
    ap (λ (m : ℕ). leb (m % 256) 15 && leb (m / 256 % 256) last_kind) is
    ∙ one_less n
    ∙ sym ((λ i. front && lt-ltb (suc n / 256 / 256 % 256) 256 figures i && lt-ltb (suc n / 256 / 256 / 256) 256 decimals i) ∙ and-true (front && true) ∙ and-true front)

-- ---- the formats of the modes below a number

abbrev pub formats_below : List ℕ → ℕ → Bool
formats_below place m = formats_fit m (settings_at place).formats

pub formats_start : (place : List ℕ) → formats_in_fit place ≡ formats_below place mode_count
unfolding formats_in_fit
formats_start place = refl

pub formats_next : (place : List ℕ) (m : ℕ) → m ≤ mode_count → 0 < m → formats_below place m ≡ (format_fits (format_at (cell_at place (formats_index + (m - 1)))) && formats_below place (m - 1))
formats_next place zero h k = absurd (omega arith)
formats_next place (suc m) h k =
    let last : suc m - 1 ≡ m = omega arith in
    rw last (ap (λ (n : ℕ). format_fits (format_at n) && formats_below place m) (get_or-take mode_count (drop formats_index place) m 0 (omega arith) ∙ get_or-drop formats_index place m 0))

pub formats_none : (place : List ℕ) (m : ℕ) → m ≤ 0 → formats_below place m ≡ true
formats_none place m h = let zero_left : m ≡ 0 = omega arith in ap (formats_below place) zero_left

-- ---- the experiment number

experiment_rule : (m d n e : ℕ) → cond (eqb m 0) (eqb e 0) (ltb e experiment_count) ≡ experiment_fits (asked_at m d n) e
experiment_rule zero d n e = refl
experiment_rule (suc m) d n e = ap (λ (b : Bool). cond b (eqb e 0) (ltb e experiment_count)) (eqb-suc-zero m)

pub experiment_by : (place : List ℕ) {unasked : Bool} → eqb (cell_at place asked_index) 0 ≡ unasked → cond unasked (eqb (cell_at place experiment_index) 0) (ltb (cell_at place experiment_index) experiment_count) ≡ experiment_in_fits place
unfolding experiment_in_fits
experiment_by place a =
    let experiment : ℕ = cell_at place experiment_index in
    ap (λ (b : Bool). cond b (eqb experiment 0) (ltb experiment experiment_count)) (sym a)
    ∙ experiment_rule (cell_at place asked_index) (cell_at place (asked_index + 1)) (cell_at place (asked_index + 2)) experiment

-- ---- the settings, test by test

pub settings_sound : (place : List ℕ) → length place ≡ stride → (formats_in_fit place && sound_list place list_index && sound_answered place && sound_asked place && state_by_cells place && experiment_in_fits place) ≡ sound_settings place
unfolding sound_list sound_answered sound_asked sound_settings exact_settings formats_in_fit experiment_in_fits
settings_sound place size =
    let asked : Option Asking = asked_in place in
    let answered : Option Answering = answered_in place in
    let list : Option (List ℕ) = list_in place in
    let formats : Bool = formats_fit mode_count (settings_at place).formats in
    let experiment : Bool = experiment_fits asked (cell_at place experiment_index) in
    ap (λ (b : Bool). b && experiment) (and_when (formats && sound_list place list_index && sound_answered place && sound_asked place) (λ k.
    let three = and_left (formats && sound_list place list_index && sound_answered place) (sound_asked place) k in
    let two = and_left (formats && sound_list place list_index) (sound_answered place) three in
    state_rule place size (and_right formats (sound_list place list_index) two) (and_right (formats && sound_list place list_index) (sound_answered place) three)))
    ∙ grouped
    (exact_asked place)
    (asked_fits asked list)
    (exact_answered place)
    (exact_taken place)
    (answered_fits answered list)
    (exact_list place list_index)
    (kept_fits list)
    formats
    (state_fits asked answered list (cell_at place state_index))
    experiment
  where
    lists : (f l fl : Bool) → (f && (l && fl)) ≡ (l && (f && fl))
    lists true l fl = refl
    lists false l fl = sym (and-false l)

    order : (a b l t : Bool) → (l && (b && t) && a) ≡ (a && b && l && t)
    order true b true t = and-true (b && t) ∙ ap (λ (x : Bool). x && t) (sym (and-true b))
    order true b false t = sym (ap (λ (x : Bool). x && t) (and-false b))
    order false b l t = and-false (l && (b && t))

    grouped : (a fa b t fb l fl f s e : Bool) → (f && (l && fl) && (b && t && fb) && (a && fa) && s && e) ≡ (a && b && l && t && (f && fl && fb && fa && s && e))
    grouped a fa b t fb l fl f s e =
        ap (λ (x : Bool). x && (b && t && fb) && (a && fa) && s && e) (lists f l fl)
        ∙ ap (λ (x : Bool). x && (a && fa) && s && e) (crossed l (f && fl) (b && t) fb)
        ∙ ap (λ (x : Bool). x && s && e) (crossed (l && (b && t)) (f && fl && fb) a fa ∙ ap (λ (x : Bool). x && (f && fl && fb && fa)) (order a b l t))
        ∙ ap (λ (x : Bool). x && e) (and_assoc (a && b && l && t) (f && fl && fb && fa) s)
        ∙ and_assoc (a && b && l && t) (f && fl && fb && fa && s) e
