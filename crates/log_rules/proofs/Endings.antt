-- What is printed at the end of the input.
use Prim.Native.Nat.{ℕ, suc, ◌+◌, ◌≤◌, ◌<◌}
use native.Mathlib.Nat.{add-zero}
use native.Mathlib.Numerals.{add-one}
use native.Mathlib.Omega.{arith}
use mathlib.Core.Path.{◌≡◌, refl, sym, ◌∙◌, ap, ap₂}
use mathlib.Core.Bool.{Bool, true, false, cond, not, ◌&&◌, ◌||◌}
use mathlib.Core.List.{List, [], ◌∷◌, ◌++◌, append_assoc, append-nil}
use lib.Dec.{eqb, eqb-suc-zero}
use lib.ListN.{length, length-append}
use borrow.Author.Tests.{lt-ltb, le-ltb, eq-eqb, ne_eqb}
use Rattle.log_rules.specs.Decimal.{decimal}
use Rattle.log_rules.specs.Line as Line
use Rattle.log_rules.specs.Output.{last_line, numbered, total_text, refused_among}
use Rattle.protocol.specs.Overwrite.{overwrite}
use Rattle.log_rules.specs.OverwriteIfRoom.{overwrite_if_room}
use Rattle.log_rules.specs.Ending.{ending_text, most_count, ending_in, EndingOfRun}
use Rattle.protocol.proofs.Overwrite.{overwrite_nothing, overwrite_then}
use Rattle.log_rules.proofs.OverwriteIfRoom.{filled_none, filled_more, if_room}

-- ---- the ending of a run

pub ending_of_run : EndingOfRun
ending_of_run r = go r.rest
  where
    -- by what is left
    go : (rest : List ℕ)
        → numbered r.lines (last_line rest) ++ total_text (r.lines + length (last_line rest)) (r.refused + refused_among (last_line rest))
        ≡ ending_text r.lines r.refused (not (eqb (length rest) 0))
    go [] = ap₂ total_text (add-zero r.lines) (add-zero r.refused)
    go (b ∷ bs) = sym (ap (λ (t : Bool). ending_text r.lines r.refused (not t)) (eqb-suc-zero (length bs)))

-- ---- its text, piece by piece

-- a number's digits were put, so many
abbrev Digits : List ℕ → ℕ → ℕ → List ℕ → ℕ → Type 0
Digits d at n out k = (k ≡ length (decimal n)) × (k ≤ 20) × (out ≡ overwrite_if_room d at (decimal n))

nineteen : decimal 19 ≡ 49 ∷ 57 ∷ []
unfolding decimal
nineteen = refl

-- "N 19"
last_text : (lines : ℕ) → [] ++ decimal (lines + 1) ++ (32 ∷ 49 ∷ 57 ∷ 10 ∷ []) ≡ numbered lines (Line.refused 19 ∷ [])
last_text lines =
    ap (λ (n : ℕ). decimal n ++ (32 ∷ 49 ∷ 57 ∷ 10 ∷ [])) (add-one lines) ∙ ap (λ (l : List ℕ). decimal (suc lines) ++ (32 ∷ (l ++ (10 ∷ [])))) (sym nineteen)
    ∙ sym (append-nil (decimal (suc lines) ++ (32 ∷ (decimal 19 ++ (10 ∷ [])))))

pub last_written : (d : List ℕ) (lines : ℕ) {n : ℕ} {o₁ o₂ : List ℕ} → 24 ≤ length d → Digits d 0 (lines + 1) o₁ n → o₂ ≡ overwrite_if_room o₁ n (32 ∷ 49 ∷ 57 ∷ 10 ∷ [])
    → (n + 4 ≡ length (numbered lines (Line.refused 19 ∷ []))) × (n + 4 ≤ 24) × (o₂ ≡ overwrite d 0 (numbered lines (Line.refused 19 ∷ [])))
last_written d lines {n} h a b =
    let f₁ = filled_more (filled_none d 0 (omega arith)) (decimal (lines + 1)) {stop = n} a.2 (omega (arith, a.0)) (omega (arith, a.1)) in
    let f₂ = filled_more f₁ (32 ∷ 49 ∷ 57 ∷ 10 ∷ []) {stop = n + 4} b refl (omega (arith, a.1)) in
    let size = ap length (last_text lines) in
    (omega (arith, f₂.place, size), omega (arith, a.1), f₂.done ∙ ap (overwrite d 0) (last_text lines))

abbrev total_word : List ℕ
total_word = 116 ∷ 111 ∷ 116 ∷ 97 ∷ 108 ∷ 32 ∷ []

abbrev refused_word : List ℕ
refused_word = 32 ∷ 114 ∷ 101 ∷ 102 ∷ 117 ∷ 115 ∷ 101 ∷ 100 ∷ 32 ∷ []

-- "total N refused M"
total_text_lem : (lines refused : ℕ) → [] ++ total_word ++ decimal lines ++ refused_word ++ decimal refused ++ (10 ∷ []) ≡ total_text lines refused
unfolding total_text
total_text_lem lines refused = ap (λ (l : List ℕ). l ++ (10 ∷ [])) (append_assoc (total_word ++ decimal lines) refused_word (decimal refused))

pub total_written : (d : List ℕ) (at lines refused : ℕ) {n m : ℕ} {o₁ o₂ o₃ o₄ o₅ : List ℕ} → at + 56 ≤ length d → o₁ ≡ overwrite_if_room d at total_word → Digits o₁ (at + 6) lines o₂ n → o₃ ≡ overwrite_if_room o₂ (at + 6 + n) refused_word
    → Digits o₃ (at + 15 + n) refused o₄ m → o₅ ≡ overwrite_if_room o₄ (at + 15 + n + m) (10 ∷ [])
    → (16 + n + m ≡ length (total_text lines refused)) × (16 + n + m ≤ 56) × (o₅ ≡ overwrite d at (total_text lines refused))
total_written d at lines refused {n} {m} h a b e f g =
    let f₁ = filled_more (filled_none d at (omega arith)) total_word {stop = at + 6} a refl (omega arith) in
    let f₂ = filled_more f₁ (decimal lines) {stop = at + 6 + n} b.2 (omega (arith, b.0)) (omega (arith, b.1)) in
    let f₃ = filled_more f₂ refused_word {stop = at + 15 + n} e (omega arith) (omega (arith, b.1)) in
    let f₄ = filled_more f₃ (decimal refused) {stop = at + 15 + n + m} f.2 (omega (arith, f.0)) (omega (arith, b.1, f.1)) in
    let f₅ = filled_more f₄ (10 ∷ []) {stop = at + 15 + n + m + 1} g refl (omega (arith, b.1, f.1)) in
    let size = ap length (total_text_lem lines refused) in
    (omega (arith, f₅.place, size), omega (arith, b.1, f.1), f₅.done ∙ ap (overwrite d at) (total_text_lem lines refused))

-- ---- in an output

module _ (room lines refused : ℕ) where
  pub in_none : (cut : Bool) → room < 128 → ending_in room lines refused cut ≡ []
  unfolding ending_in
  in_none cut h = ap (λ (t : Bool). cond (t || (cut && (eqb lines most_count || eqb refused most_count))) [] (ending_text lines refused cut)) (lt-ltb room 128 h)

  pub in_whole : 128 ≤ room → ending_in room lines refused false ≡ total_text lines refused
  unfolding ending_in
  in_whole h = ap (λ (t : Bool). cond (t || false) [] (total_text lines refused)) (le-ltb room 128 h)

  -- with a short last piece, by the three tests
  abbrev cut_by : Bool → Bool → Bool → List ℕ
  cut_by a b c = cond (a || (true && (b || c))) [] (ending_text lines refused true)

  pub in_most_lines : 128 ≤ room → lines ≡ most_count → ending_in room lines refused true ≡ []
  unfolding ending_in
  in_most_lines h e = ap₂ (λ (a b : Bool). cut_by a b (eqb refused most_count)) (le-ltb room 128 h) (eq-eqb lines most_count e)

  few_lines : 128 ≤ room → (lines ≡ most_count → ⊥) → ending_in room lines refused true ≡ cut_by false false (eqb refused most_count)
  unfolding ending_in
  few_lines h l = ap₂ (λ (a b : Bool). cut_by a b (eqb refused most_count)) (le-ltb room 128 h) (ne_eqb lines most_count l)

  pub in_most_refused : 128 ≤ room → (lines ≡ most_count → ⊥) → refused ≡ most_count → ending_in room lines refused true ≡ []
  in_most_refused h l e = few_lines h l ∙ ap (cut_by false false) (eq-eqb refused most_count e)

  pub in_cut : 128 ≤ room → (lines ≡ most_count → ⊥) → (refused ≡ most_count → ⊥) → ending_in room lines refused true ≡ numbered lines (Line.refused 19 ∷ []) ++ total_text (lines + 1) (refused + 1)
  in_cut h l e = few_lines h l ∙ ap (cut_by false false) (ne_eqb refused most_count e)

-- nothing is written where the text is empty
pub none_written : (d : List ℕ) {s : List ℕ} → s ≡ [] → (◌≡◌ {A = ℕ} 0 (length s)) × (0 ≤ 128) × (d ≡ overwrite d 0 s)
none_written d e = (sym (ap length e), omega arith, sym (ap (overwrite d 0) e ∙ overwrite_nothing d 0))

-- the line of a short last piece, and the totals after it
pub cut_written : (d s t : List ℕ) {u : List ℕ} (n m : ℕ) (o₁ o₂ : List ℕ) → u ≡ s ++ t → 128 ≤ length d → (n ≡ length s) × (n ≤ 24) × (o₁ ≡ overwrite d 0 s) → (m ≡ length t) × (m ≤ 56) × (o₂ ≡ overwrite o₁ n t)
    → (n + m ≡ length u) × (n + m ≤ 128) × (o₂ ≡ overwrite d 0 u)
cut_written d s t {u} n m o₁ o₂ e h a b =
    let size : length u ≡ length s + length t = ap length e ∙ length-append s t in
    let place : n ≡ 0 + length s = omega (arith, a.0) in (
      omega (arith, a.0, b.0),
      omega (arith, a.1, b.1),
      b.2 ∙ ap (λ (l : List ℕ). overwrite l n t) a.2 ∙ ap (λ (k : ℕ). overwrite (overwrite d 0 s) k t) place ∙ overwrite_then d 0 s t (omega (arith, a.0, a.1)) ∙ ap (overwrite d 0) (sym e),
    )

-- a text that was written at the start is the ending
pub ending_written : (d s t : List ℕ) {n : ℕ} {out : List ℕ} → s ≡ t → n ≡ length s → n ≤ length d → out ≡ overwrite d 0 s → (n ≡ length t) × (n ≤ length d) × (out ≡ overwrite_if_room d 0 t)
ending_written d s t e k h q = (k ∙ ap length e, h, q ∙ sym (if_room d 0 s (omega arith)) ∙ ap (overwrite_if_room d 0) e)
