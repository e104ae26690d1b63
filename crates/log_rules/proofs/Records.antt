-- The parts of a record, and its tests.
use Prim.Native.Nat.{ℕ, ◌+◌, ◌-◌, ◌≤◌, ◌<◌}
use native.Mathlib.Numerals.{add-one}
use native.Mathlib.Omega.{arith}
use mathlib.Core.Path.{◌≡◌, refl, sym, ◌∙◌, ap}
use mathlib.Core.Bool.{Bool, true, false, cond, not, ◌&&◌, ◌||◌}
use mathlib.Core.List.{List, ◌∷◌}
use mathlib.Core.Logic.{⊎_elim}
use lib.Bits.{bit_and, bit_or, or_zero_l, or_add_and, and_le_r}
use lib.Dec.{eqb, leb}
use lib.ListN.{length, get_or, take, drop, length-drop, drop_of_length-le, get_or-eq_default}
use lib.Seq.{drop-cons, drop-drop, take_all}
use borrow.Author.Tests.{eqb-true, eqb-false, ne_eqb, eq-eqb, le-leb, lt-leb}
use Rattle.protocol.proofs.Tests.{which}
use Rattle.protocol.specs.declared.Way.TheVariants.{Down, Up}
use Rattle.protocol.specs.Decode.{longest_message}
use Rattle.log_rules.specs.Record.{front, record_size, message_size, message_in, malformed, all_zero, way_of}

-- ---- spare

-- an or of two is 0 where both are
or_zero_lem : (a b : ℕ) → eqb (bit_or a b) 0 ≡ (eqb a 0 && eqb b 0)
or_zero_lem a b =
    ⊎_elim
    (λ (e : eqb a 0 ≡ true). ap (λ (x : ℕ). eqb (bit_or x b) 0) (eqb-true a 0 e) ∙ ap (λ (x : ℕ). eqb x 0) (or_zero_l b) ∙ sym (ap (λ (t : Bool). t && eqb b 0) e))
    (λ (e : eqb a 0 ≡ false).
    ne_eqb (bit_or a b) 0 (λ (z : bit_or a b ≡ 0). let sum : bit_or a b + bit_and a b ≡ a + b = or_add_and a b in eqb-false a 0 e (omega (arith, and_le_r a b)))
    ∙ sym (ap (λ (t : Bool). t && eqb b 0) e))
    (which (eqb a 0))

and_assoc : (a b c : Bool) → (a && (b && c)) ≡ ((a && b) && c)
and_assoc true b c = refl
and_assoc false b c = refl

and_true : (a : Bool) → (a && true) ≡ a
and_true true = refl
and_true false = refl

-- so many bytes are looked at; the number found is 0 where they are
pub record Looked (s : List ℕ) (found i : ℕ) : Type 0 where
  pub inside : i ≤ length s
  pub same : (eqb found 0 && all_zero (drop i s)) ≡ all_zero s

pub looked_start : (s : List ℕ) → Looked s 0 0
looked_start s = record { inside = omega arith; same = refl }

pub looked_one : {s : List ℕ} {found i : ℕ} → Looked s found i → i < length s → Looked s (bit_or found (get_or s i 0)) (i + 1)
looked_one {s} {found} {i} p h =
    let b : ℕ = get_or s i 0 in
    let from : drop i s ≡ b ∷ drop (i + 1) s = drop-cons s i 0 h ∙ ap (λ (k : ℕ). b ∷ drop k s) (sym (add-one i)) in
    record {
      inside = omega arith;
      same =
          ap (λ (t : Bool). t && all_zero (drop (i + 1) s)) (or_zero_lem found b) ∙ sym (and_assoc (eqb found 0) (eqb b 0) (all_zero (drop (i + 1) s)))
          ∙ sym (ap (λ (l : List ℕ). eqb found 0 && all_zero l) from) ∙ p.same;
    }

pub looked_all : {s : List ℕ} {found i : ℕ} → Looked s found i → length s ≤ i → eqb found 0 ≡ all_zero s
looked_all {s} {found} {i} p h =
    sym (and_true (eqb found 0)) ∙ sym (ap (λ (l : List ℕ). eqb found 0 && all_zero l) (drop_of_length-le s {i = i} h)) ∙ p.same

-- ---- the message

module _ (part : ℕ) (s : List ℕ) where
  pub size_missing : length s ≤ front → ◌≡◌ {A = ℕ} 0 (message_size part s)
  size_missing h = sym (ap (λ (n : ℕ). cond (leb n longest_message) n part) (get_or-eq_default s 0 {n = front} h))

  pub size_over : longest_message < get_or s front 0 → part ≡ message_size part s
  size_over h = sym (ap (λ (t : Bool). cond t (get_or s front 0) part) (lt-leb (get_or s front 0) longest_message h))

  pub size_told : get_or s front 0 ≤ longest_message → get_or s front 0 ≡ message_size part s
  size_told h = sym (ap (λ (t : Bool). cond t (get_or s front 0) part) (le-leb (get_or s front 0) longest_message h))

  pub message_in_lem : (n : ℕ) → n ≡ message_size part s → take n (drop front s) ≡ message_in part s
  unfolding message_in
  message_in_lem n e = ap (λ (k : ℕ). take k (drop front s)) e

-- ---- the direction

pub way_missing : (s : List ℕ) → length s ≤ 4 → Down ≡ way_of (get_or s 4 0)
way_missing s h = sym (ap way_of (get_or-eq_default s 0 {n = 4} h))

pub way_down : (n : ℕ) → ◌≡◌ {A = ℕ} n 0 → Down ≡ way_of n
way_down n e = sym (ap way_of e)

pub way_up : (n : ℕ) → (◌≡◌ {A = ℕ} n 0 → ⊥) → Up ≡ way_of n
way_up n e = sym (ap (λ (t : Bool). cond t Down Up) (ne_eqb n 0 e))

-- ---- the tests of a record, in their order

abbrev failing : Bool → Bool → Bool → Bool → Bool
failing a b c d = not a || not b || not c || not d

module _ (part : ℕ) (s : List ℕ) where
  abbrev sized : Bool
  sized = eqb (length s) (record_size part)

  abbrev directed : Bool
  directed = leb (get_or s 4 0) 1

  abbrev spare : Bool
  spare = eqb (get_or s 5 0) 0

  abbrev ended : Bool
  ended = all_zero (drop (message_size part s) (drop front s))

  pub wrong_size : (length s ≡ record_size part → ⊥) → true ≡ malformed part s
  unfolding malformed
  wrong_size h = sym (ap (λ (t : Bool). failing t directed spare ended) (ne_eqb (length s) (record_size part) h))

  right_size : length s ≡ record_size part → malformed part s ≡ failing true directed spare ended
  unfolding malformed
  right_size h = ap (λ (t : Bool). failing t directed spare ended) (eq-eqb (length s) (record_size part) h)

  pub wrong_way : length s ≡ record_size part → 1 < get_or s 4 0 → true ≡ malformed part s
  wrong_way h w = sym (right_size h ∙ ap (λ (t : Bool). failing true t spare ended) (lt-leb (get_or s 4 0) 1 w))

  right_way : length s ≡ record_size part → get_or s 4 0 ≤ 1 → malformed part s ≡ failing true true spare ended
  right_way h w = right_size h ∙ ap (λ (t : Bool). failing true t spare ended) (le-leb (get_or s 4 0) 1 w)

  pub wrong_zero : length s ≡ record_size part → get_or s 4 0 ≤ 1 → (get_or s 5 0 ≡ 0 → ⊥) → true ≡ malformed part s
  wrong_zero h w z = sym (right_way h w ∙ ap (λ (t : Bool). failing true true t ended) (ne_eqb (get_or s 5 0) 0 z))

  pub by_end : (n : ℕ) → length s ≡ record_size part → get_or s 4 0 ≤ 1 → get_or s 5 0 ≡ 0 → n ≡ message_size part s → not (all_zero (take (record_size part - (front + n)) (drop (front + n) s))) ≡ malformed part s
  by_end n h w z e =
      let short : length (drop (front + n) s) ≤ record_size part - (front + n) = rw (length-drop (front + n) s) (omega arith) in
      ap (λ (l : List ℕ). not (all_zero l)) (take_all (record_size part - (front + n)) (drop (front + n) s) short ∙ sym (drop-drop n front s))
      ∙ ap (λ (k : ℕ). not (all_zero (drop k (drop front s)))) e ∙ sym (right_way h w ∙ ap (λ (t : Bool). failing true true t ended) (eq-eqb (get_or s 5 0) 0 z))
