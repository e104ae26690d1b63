-- Demand 3's half on settings: what the table learns of a port, change by change, is what the reader finds by going
-- back through the list of changes. There are no ports here, and no tables.
use Prim.Native.Nat.{ℕ, zero, suc, ◌*◌, ◌/◌, ◌%◌, ◌^◌, ◌<◌}
use native.Mathlib.Nat.{mod-lt, zero-lt-suc, pow-suc}
use native.Mathlib.Omega.{arith}
use mathlib.Core.Path.{◌≡◌, refl, sym, ◌∙◌, ap}
use mathlib.Core.Bool.{Bool, true, false, cond, not, ◌&&◌, ◌||◌}
use mathlib.Core.List.{List, [], ◌∷◌}
use mathlib.Core.Option.{Option, none, some}
use mathlib.Core.Logic.{⊎_elim}
use borrow.Author.Tests.{eq-eqb, ne_eqb, eqb-true, eqb-false}
use lib.Dec.{eqb, eqb-suc-suc}
use lib.ListN.{length}
use Rattle.protocol.proofs.Tests.{which}
use Rattle.rules.specs.Effect.{Unchanged, Formatted, Answered, Asked, Listed, Combined, Told, told}
use Rattle.rules.specs.Facts.{Setup, Format, Asking, asked_single, asked_combined, answered_single, answered_combined, Settings}
use Rattle.rules.specs.Learn.{answered_state, combined_state, whole_list, bare_settings, take_over, learn}
use Rattle.rules.specs.Latest.{or_else, latest, format_for, listing, asking, asking_number, or_zero, with_list, latest_answer, answer_since, names_all, state_by, settings_of}

-- what the table learns of a change
abbrev pub learn_told : Told → Settings → Settings
learn_told (told c opens) s = learn c opens s

-- what the table has learnt of a list of changes, the latest first
abbrev pub learnt : List Told → Settings
learnt [] = bare_settings
learnt (c ∷ changes) = learn_told c (learnt changes)

-- ---- the two comparisons of setups

three_tests : (a b c : Bool) → ◌≡◌ {A = ℕ} (cond (a && b && c) 2 3) (cond (not a || not b || not c) 3 2)
three_tests true true true = refl
three_tests true true false = refl
three_tests true false c = refl
three_tests false b c = refl

same_state : (asked : Option Asking) (s : Setup) → answered_state asked s ≡ state_by asked (some (answered_single s))
same_state none s = refl
same_state (some (asked_single t)) s = three_tests (eqb t.mode s.mode) (eqb t.delta s.delta) (eqb t.notify s.notify)
same_state (some asked_combined) s = refl

-- ---- the two comparisons of pointers with a list

-- of which one is doubled, by the last digit
doubled : (p n d : ℕ) → p % 2 ≡ d → d < 2 → (eqb d 1 && eqb (suc (p / 2)) n) ≡ eqb (suc p) (n * 2)
doubled p n zero e h = sym (ne_eqb (suc p) (n * 2) (λ k. omega arith))
doubled p n (suc zero) e h =
    ⊎_elim
    (λ (y : eqb (suc (p / 2)) n ≡ true). let is = eqb-true (suc (p / 2)) n y in y ∙ sym (eq-eqb (suc p) (n * 2) (omega arith)))
    (λ (y : eqb (suc (p / 2)) n ≡ false). let no = eqb-false (suc (p / 2)) n y in y ∙ sym (ne_eqb (suc p) (n * 2) (λ k. no (omega arith))))
    (which (eqb (suc (p / 2)) n))
doubled p n (suc (suc d)) e h = absurd (omega arith)

same_pointers : (p : ℕ) (list : List ℕ) → whole_list p list ≡ names_all p list
same_pointers p [] = one p
  where
    one : (p : ℕ) → eqb (suc p) 1 ≡ eqb p 0
    one p = eqb-suc-suc p 0
same_pointers p (e ∷ list) =
    ap (eqb (suc p)) (pow-suc 2 (length list))
    ∙ sym (doubled p (2 ^ length list) (p % 2) refl (mod-lt p (zero-lt-suc 1)))
    ∙ ap (λ (b : Bool). eqb (p % 2) 1 && b) (same_pointers (p / 2) list)

same_combined : (asked : Option Asking) (p : ℕ) (list : List ℕ) → combined_state asked p list ≡ state_by asked (some (answered_combined p list))
same_combined none p list = refl
same_combined (some (asked_single s)) p list = refl
same_combined (some asked_combined) p list = ap (λ (b : Bool). cond {A = ℕ} b 2 3) (same_pointers p list)

-- ---- one change more

same_format : (b : Bool) (f : Format) (old : Option Format) → cond b (some f) old ≡ or_else (cond b (some f) none) old
same_format true f old = refl
same_format false f old = refl

-- a 48 takes over the latest list
takes_over_lem : (p : ℕ) (changes : List Told) (list : Option (List ℕ)) → latest listing changes ≡ list → take_over p list (settings_of changes) ≡ record {
  formats = λ mode. latest (format_for mode) changes;
  answered = or_else (with_list p list) (latest_answer changes);
  asked = latest asking changes;
  list = latest listing changes;
  state = state_by (latest asking changes) (or_else (with_list p list) (answer_since changes));
  experiment = or_zero (latest asking_number changes);
}
unfolding settings_of
takes_over_lem p changes none e = refl
takes_over_lem p changes (some list) e = λ i. record {
  formats = λ mode. latest (format_for mode) changes;
  answered = some (answered_combined p list);
  asked = latest asking changes;
  list = latest listing changes;
  state = same_combined (latest asking changes) p list i;
  experiment = or_zero (latest asking_number changes);
}

learns : (c : Told) (changes : List Told) → learn_told c (settings_of changes) ≡ settings_of (c ∷ changes)
unfolding learn settings_of
learns (told Unchanged opens) changes = refl
learns (told (Formatted m f) opens) changes = λ i. record {
  formats = λ mode. same_format (eqb m mode) f (latest (format_for mode) changes) i;
  answered = latest_answer changes;
  asked = latest asking changes;
  list = latest listing changes;
  state = state_by (latest asking changes) (answer_since changes);
  experiment = or_zero (latest asking_number changes);
}
learns (told (Answered s) opens) changes = λ i. record {
  formats = λ mode. latest (format_for mode) changes;
  answered = some (answered_single s);
  asked = latest asking changes;
  list = latest listing changes;
  state = same_state (latest asking changes) s i;
  experiment = or_zero (latest asking_number changes);
}
learns (told (Asked s n) opens) changes = refl
learns (told (Listed n) opens) changes = refl
learns (told (Combined p) opens) changes = takes_over_lem p changes (latest listing changes) refl

pub same_settings : (changes : List Told) → learnt changes ≡ settings_of changes
unfolding settings_of
same_settings [] = refl
same_settings (c ∷ changes) = ap (learn_told c) (same_settings changes) ∙ learns c changes
