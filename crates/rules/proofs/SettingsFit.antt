-- What a port is told keeps its settings within their lists. There are no ports here, and no tables.
use Prim.Native.Nat.{ℕ, zero, suc, ◌≤◌}
use mathlib.Core.Path.{◌≡◌, refl, sym, ◌∙◌, ap}
use mathlib.Core.Bool.{Bool, true, false, cond, ◌&&◌, ◌||◌}
use mathlib.Core.List.{List, [], ◌∷◌}
use mathlib.Core.Option.{Option, none, some}
use native.Mathlib.Omega.{arith}
use borrow.Author.Tests.{eq-eqb, ne_eqb, leb-true}
use lib.Dec.{eqb, leb, ltb}
use lib.ListN.{length}
use Rattle.protocol.specs.Form.{last_mode}
use Rattle.protocol.proofs.Tests.{and_left, and_right}
use Rattle.rules.specs.Layout.{mode_count, experiment_count}
use Rattle.rules.specs.Effect.{Change, Unchanged, Formatted, Answered, Asked, Listed, Combined}
use Rattle.rules.specs.Facts.{Setup, Format, Asking, asked_single, asked_combined, Answering, answered_single, answered_combined, Settings, same_list}
use Rattle.rules.specs.Judge.{takes_over, change_refusal}
use Rattle.rules.specs.Learn.{answered_state, combined_state, bare_settings, take_over, learn}
use Rattle.rules.specs.Pointers.{pointers_fit}
use Rattle.rules.specs.Ranges.{change_fits}
use Rattle.rules.specs.WellFormed.{setup_fits, format_fits, formats_fit, list_fits, kept_fits, asked_fits, answered_fits, answer_state, taken_fits, state_fits, experiment_fits, settings_fit}

-- five tests passed: each did
pub five_passed : (a b c d e : Bool) → (a && b && c && d && e) ≡ true → (a ≡ true) × (b ≡ true) × (c ≡ true) × (d ≡ true) × (e ≡ true)
five_passed a b c d e h =
    let abcd = and_left (a && b && c && d) e h in
    let abc = and_left (a && b && c) d abcd in
    let ab = and_left (a && b) c abc in
    (and_left a b ab, and_right a b ab, and_right (a && b) c abc, and_right (a && b && c) d abcd, and_right (a && b && c && d) e h)

-- what holds of both is so of the one that is chosen
pub either_way : {A : Type 0} (P : A → Type 0) (b : Bool) (x y : A) → P x → P y → P (cond b x y)
either_way P true x y p q = p
either_way P false x y p q = q

-- no format of a mode past the last
abbrev pub NoHigh : (ℕ → Option Format) → Type 0
NoHigh formats = (m : ℕ) → mode_count ≤ m → formats m ≡ none

pub record Fits (s : Settings) : Type 0 where
  pub lists : settings_fit s ≡ true
  pub high : NoHigh s.formats

-- the tests of settings, one by one
pub record InLists (s : Settings) : Type 0 where
  pub formats : formats_fit mode_count s.formats ≡ true
  pub list : kept_fits s.list ≡ true
  pub answered : answered_fits s.answered s.list ≡ true
  pub asked : asked_fits s.asked s.list ≡ true
  pub state : state_fits s.asked s.answered s.list s.state ≡ true
  pub experiment : experiment_fits s.asked s.experiment ≡ true

pub listed : (s : Settings) → settings_fit s ≡ true → InLists s
listed s e =
    let five = formats_fit mode_count s.formats && kept_fits s.list && answered_fits s.answered s.list && asked_fits s.asked s.list && state_fits s.asked s.answered s.list s.state in
    let k = five_passed (formats_fit mode_count s.formats) (kept_fits s.list) (answered_fits s.answered s.list) (asked_fits s.asked s.list) (state_fits s.asked s.answered s.list s.state) (and_left five (experiment_fits s.asked s.experiment) e) in
    record { formats = k.0; list = k.1; answered = k.2; asked = k.3; state = k.4; experiment = and_right five (experiment_fits s.asked s.experiment) e }

fits_by : (s : Settings) → InLists s → settings_fit s ≡ true
fits_by s k = rw (k.formats, k.list, k.answered, k.asked, k.state, k.experiment)

pub bare_fits : Fits bare_settings
bare_fits = record { lists = refl; high = λ m h. refl }

-- ---- a format

formats_set : (n mode : ℕ) (new : Format) (formats : ℕ → Option Format) → format_fits (some new) ≡ true → formats_fit n formats ≡ true → formats_fit n (λ m. cond (eqb mode m) (some new) (formats m)) ≡ true
formats_set zero mode new formats good e = refl
formats_set (suc n) mode new formats good e =
    rw (either_way (λ (x : Option Format). format_fits x ≡ true) (eqb mode n) (some new) (formats n) good (and_left (format_fits (formats n)) (formats_fit n formats) e)) (formats_set n mode new formats good (and_right (format_fits (formats n)) (formats_fit n formats) e))

-- ---- the state

-- 2 or 3, by an answer that took over the kept list or none
answer_state_lem : (x : Asking) (a : Answering) (list : Option (List ℕ)) → taken_fits a list ≡ true → state_fits (some x) (some a) list (answer_state x a) ≡ true
answer_state_lem x a list e = go (eqb (answer_state x a) 1) (eqb (answer_state x a) (answer_state x a)) (eq-eqb (answer_state x a) (answer_state x a) refl) e
  where
    go : (one same : Bool) → same ≡ true → taken_fits a list ≡ true → (one || (same && taken_fits a list)) ≡ true
    go true same e k = refl
    go false same e k = rw (e, k)

answered_state_lem : (asked : Option Asking) (s : Setup) (list : Option (List ℕ)) → state_fits asked (some (answered_single s)) list (answered_state asked s) ≡ true
answered_state_lem none s list = refl
answered_state_lem (some x) s list = answer_state_lem x (answered_single s) list refl

same_refl : (list : List ℕ) → same_list list list ≡ true
same_refl [] = refl
same_refl (e ∷ list) = rw (eq-eqb e e refl) (same_refl list)

combined_state_lem : (asked : Option Asking) (p : ℕ) (list : List ℕ) → state_fits asked (some (answered_combined p list)) (some list) (combined_state asked p list) ≡ true
combined_state_lem none p list = refl
combined_state_lem (some x) p list = answer_state_lem x (answered_combined p list) (some list) (same_refl list)

asked_state : (x : Asking) (answered : Option Answering) (list : Option (List ℕ)) → state_fits (some x) answered list 1 ≡ true
asked_state x none list = refl
asked_state x (some a) list = refl

-- ---- a list

-- an answer fits with a new list as with an old one
answered_listed : (answered : Option Answering) (old : Option (List ℕ)) (new : List ℕ) → answered_fits answered old ≡ true → answered_fits answered (some new) ≡ true
answered_listed none old new e = refl
answered_listed (some (answered_single s)) old new e = e
answered_listed (some (answered_combined p taken)) none new e = let z : ◌≡◌ {A = ℕ} 0 1 = cc in absurd (omega arith)
answered_listed (some (answered_combined p taken)) (some list) new e = e

-- ---- every change

-- a 48 that was not refused takes over the list
take_fits : (p : ℕ) (s : Settings) (list : Option (List ℕ)) → s.list ≡ list → ◌≡◌ {A = ℕ} (cond (takes_over p list) 0 21) 0 → Fits s → Fits (take_over p list s)
take_fits p s none e ok k = k
take_fits p s (some list) e ok k =
    let l = listed s k.lists in
    let good : list_fits list ≡ true = sym (ap kept_fits e) ∙ l.list in
    record {
      lists = fits_by (take_over p (some list) s) (record {
        formats = l.formats;
        list = l.list;
        answered = ap (answered_fits (some (answered_combined p list))) e ∙ rw (good, taken (pointers_fit p (length list)) ok);
        asked = l.asked;
        state = ap (λ (x : Option (List ℕ)). state_fits s.asked (some (answered_combined p list)) x (combined_state s.asked p list)) e ∙ combined_state_lem s.asked p list;
        experiment = l.experiment;
      });
      high = k.high;
    }
  where
    taken : (b : Bool) → ◌≡◌ {A = ℕ} (cond b 0 21) 0 → b ≡ true
    taken true z = refl
    taken false z = let no : ◌≡◌ {A = ℕ} 21 0 = z in absurd (omega arith)

pub learn_fits : (c : Change) (opens : List ℕ) → change_fits c opens ≡ true → (s : Settings) → change_refusal c s ≡ 0 → Fits s → Fits (learn c opens s)
unfolding learn
learn_fits Unchanged o good s ok k = k
learn_fits (Formatted mode f) o good s ok k =
    let l = listed s k.lists in
    let low : mode ≤ last_mode = leb-true mode last_mode (and_left (leb mode last_mode) (format_fits (some f)) good) in
    record {
      lists = fits_by (learn (Formatted mode f) o s) (record { formats = formats_set mode_count mode f s.formats (and_right (leb mode last_mode) (format_fits (some f)) good) l.formats; list = l.list; answered = l.answered; asked = l.asked; state = l.state; experiment = l.experiment });
      high = λ m h. rw (ne_eqb mode m (λ (e : mode ≡ m). omega arith)) (k.high m h);
    }
learn_fits (Answered x) o good s ok k =
    let l = listed s k.lists in
    record { lists = fits_by (learn (Answered x) o s) (record { formats = l.formats; list = l.list; answered = good; asked = l.asked; state = answered_state_lem s.asked x s.list; experiment = l.experiment }); high = k.high }
learn_fits (Asked x n) o good s ok k =
    let l = listed s k.lists in
    let small = ltb n experiment_count in
    record {
      lists = fits_by (learn (Asked x n) o s) (record { formats = l.formats; list = l.list; answered = l.answered; asked = and_left (setup_fits x) small good; state = asked_state (asked_single x) s.answered s.list; experiment = and_right (setup_fits x) small good });
      high = k.high;
    }
learn_fits (Listed n) o good s ok k =
    let l = listed s k.lists in
    let small = ltb n experiment_count in
    record {
      lists = fits_by (learn (Listed n) o s) (record { formats = l.formats; list = and_left (list_fits o) small good; answered = answered_listed s.answered s.list o l.answered; asked = refl; state = asked_state asked_combined s.answered (some o); experiment = and_right (list_fits o) small good });
      high = k.high;
    }
learn_fits (Combined p) o good s ok k = take_fits p s s.list refl ok k
