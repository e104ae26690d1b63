-- The answers of writing a row.
use Prim.Native.Nat.{ℕ, ◌≤◌, ◌<◌}
use mathlib.Core.Path.{◌≡◌, refl, sym, ◌∙◌, ap}
use mathlib.Core.Bool.{Bool, true, false}
use mathlib.Core.List.{List}
use mathlib.Core.Logic.{⊎_elim}
use lib.Dec.{ltb}
use Rattle.protocol.proofs.Tests.{which}
use borrow.Author.Tests.{lt-ltb, le-ltb, ltb-true, ltb-false}
use lib.ListN.{length, get_or}
use Rattle.protocol.specs.Encode.{Encoded, encoded, refused}
use Rattle.protocol.specs.declared.Way.{Way}
use Rattle.std.specs.Prelude.{Result, Ok, Err}
use Rattle.protocol.specs.declared.refusal.Refusal.{Refusal}
use Rattle.protocol.specs.Refusal.{number_of, place_of}
use Rattle.message_rows.specs.Row.{row_size}
use Rattle.writer.specs.Writing.{WriteAnswer, answer_of, answered, limited, lent_after}
use Rattle.writer.specs.Writing as Writing
use Rattle.row_messages.specs.RowWriting.{no_message, last_form, unless_own, form_encoded, row_encoded}

-- what a call that writes has to give, of what the definition says
abbrev pub Answers : Encoded → Result ℕ Refusal → List ℕ → List ℕ → Type 0
Answers x r before after = (answer_of r ≡ answered (limited (length before) x)) × (after ≡ lent_after (limited (length before) x) before)

pub answers_by : (x y : Encoded) (r : Result ℕ Refusal) (before after : List ℕ) → x ≡ y → Answers x r before after → Answers y r before after
answers_by x y r before after e a = rw e at a

-- a refusal leaves what was lent
pub answers_refused : (x : Encoded) (r : Result ℕ Refusal) (n place : ℕ) (before : List ℕ) → x ≡ refused n place → answer_of r ≡ answered (refused n place) → Answers x r before before
unfolding limited
answers_refused x r n place before e a =
    (a ∙ sym (ap (λ (y : Encoded). answered (limited (length before) y)) e), sym (ap (λ (y : Encoded). lent_after (limited (length before) y) before) e))

-- a refusal, by its answer
abbrev refusal_of : WriteAnswer → Encoded
refusal_of (Writing.refused n place) = refused n place
refusal_of (Writing.written n) = no_message

-- numbers that are not the message's own: its refusal
not_own_refused : (x : Encoded) (q : Refusal) (j : Result ℕ Refusal) → answer_of j ≡ answered x → j ≡ Err q → unless_own false x ≡ refused (number_of q) (place_of q)
not_own_refused (refused k at) q j e is = sym (ap refusal_of e) ∙ ap (λ (w : Result ℕ Refusal). refusal_of (answer_of w)) is
not_own_refused (encoded bytes) q j e is = cc

-- or none
not_own_length : (x : Encoded) (n : ℕ) (j : Result ℕ Refusal) → answer_of j ≡ answered x → j ≡ Ok n → unless_own false x ≡ no_message
not_own_length (refused k at) n j e is = cc
not_own_length (encoded bytes) n j e is = refl

module _ (x : Encoded) (own : Bool) (before : List ℕ) where
  pub written_own : (r : Result ℕ Refusal) (after : List ℕ) → own ≡ true → Answers x r before after → Answers (unless_own own x) r before after
  written_own r after e a = answers_by x (unless_own own x) r before after (sym (ap (λ (b : Bool). unless_own b x) e)) a

  pub refused_own : (q : Refusal) (j : Result ℕ Refusal) → own ≡ false → answer_of j ≡ answered x → j ≡ Err q → Answers (unless_own own x) (Err q) before before
  refused_own q j e a is =
      answers_refused (unless_own own x) (Err q) (number_of q) (place_of q) before (ap (λ (b : Bool). unless_own b x) e ∙ not_own_refused x q j a is) refl

  pub none_own : (n : ℕ) (j r : Result ℕ Refusal) → own ≡ false → answer_of j ≡ answered x → j ≡ Ok n → answer_of r ≡ answered no_message → Answers (unless_own own x) r before before
  none_own n j r e a is k = answers_refused (unless_own own x) r 255 0 before (ap (λ (b : Bool). unless_own b x) e ∙ not_own_length x n j a is) k

-- ---- rows that give no message, and the others

module _ (way : Way) (row opens : List ℕ) where
  pub too_few : length row < row_size → row_encoded way row opens ≡ no_message
  unfolding row_encoded
  too_few h = rw (lt-ltb (length row) row_size h)

  no_form : row_size ≤ length row → get_or row 0 0 < 1 → row_encoded way row opens ≡ no_message
  unfolding row_encoded
  no_form h k = rw (le-ltb (length row) row_size h, lt-ltb (get_or row 0 0) 1 k)

  past_forms : row_size ≤ length row → 1 ≤ get_or row 0 0 → last_form < get_or row 0 0 → row_encoded way row opens ≡ no_message
  unfolding row_encoded
  past_forms h k l = rw (le-ltb (length row) row_size h, le-ltb (get_or row 0 0) 1 k, lt-ltb last_form (get_or row 0 0) l)

  pub not_form : row_size ≤ length row → ((1 ≤ get_or row 0 0) × (get_or row 0 0 ≤ last_form) → ⊥) → row_encoded way row opens ≡ no_message
  not_form h none =
      let n = get_or row 0 0 in
      ⊎_elim (λ (below : ltb n 1 ≡ true). no_form h (ltb-true n 1 below))
      (λ (above : ltb n 1 ≡ false).
      ⊎_elim (λ (past : ltb last_form n ≡ true). past_forms h (ltb-false n 1 above) (ltb-true last_form n past))
      (λ (here : ltb last_form n ≡ false). absurd (none (ltb-false n 1 above, ltb-false last_form n here)))
      (which (ltb last_form n)))
      (which (ltb n 1))

  pub of_form : row_size ≤ length row → 1 ≤ get_or row 0 0 → get_or row 0 0 ≤ last_form → row_encoded way row opens ≡ form_encoded way (get_or row 0 0) row opens
  unfolding row_encoded
  of_form h k l = rw (le-ltb (length row) row_size h, le-ltb (get_or row 0 0) 1 k, le-ltb last_form (get_or row 0 0) l)
