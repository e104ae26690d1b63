-- Going through slots one by one.
use Prim.Native.Nat.{ℕ, ◌+◌, ◌*◌, ◌≤◌, ◌<◌}
use native.Mathlib.Numerals.{add-one}
use native.Mathlib.Omega.{arith}
use mathlib.Core.Path.{◌≡◌, refl, sym, ◌∙◌, ap}
use mathlib.Core.Bool.{true, false}
use mathlib.Core.List.{List, [], ◌∷◌, ◌++◌, append_assoc, append-nil}
use mathlib.Core.Logic.{⊎_elim}
use lib.ListN.{length, get_or, take, drop, length-append, take-append-drop}
use lib.Seq.{drop-cons, take-suc}
use Rattle.protocol.proofs.Tests.{which}
use Rattle.protocol.proofs.Overwrite.{overwrite_then, overwrite_length}
use Rattle.protocol.specs.Overwrite.{overwrite}
use Rattle.slots.specs.Slot.{slot_fits, slot_bytes}
use Rattle.writer.specs.Slots.{slots_bytes, first_outside, type_place}
use Rattle.slots.specs.declared.Slot.{Slot}

module _ (slots : List Slot) (d : Slot) where
  -- the slot at an index and those after it
  pub from : (i : ℕ) → i < length slots → drop i slots ≡ get_or slots i d ∷ drop (i + 1) slots
  from i h = rw add-one (drop-cons slots i d h)

  pub outside_here : (at i : ℕ) → i < length slots → slot_fits (get_or slots i d) ≡ false → first_outside at (drop i slots) ≡ at
  outside_here at i h e = ap (first_outside at) (from i h) ∙ rw e

  pub inside_here : (at i : ℕ) → i < length slots → slot_fits (get_or slots i d) ≡ true → first_outside at (drop i slots) ≡ first_outside (at + length (slot_bytes (get_or slots i d))) (drop (i + 1) slots)
  inside_here at i h e = ap (first_outside at) (from i h) ∙ rw e

  -- all hold their values, so this one does
  pub holds_here : (at i : ℕ) → 1 ≤ at → i < length slots → first_outside at (drop i slots) ≡ 0 → slot_fits (get_or slots i d) ≡ true
  holds_here at i h k e =
      ⊎_elim (λ (yes : slot_fits (get_or slots i d) ≡ true). yes)
      (λ (no : slot_fits (get_or slots i d) ≡ false). let z : at ≡ 0 = sym (outside_here at i k no) ∙ e in absurd (omega arith))
      (which (slot_fits (get_or slots i d)))

  pub width_here : (i total : ℕ) → i < length slots → length (slots_bytes slots) ≡ total + length (slots_bytes (drop i slots))
      → length (slots_bytes slots) ≡ total + length (slot_bytes (get_or slots i d)) + length (slots_bytes (drop (i + 1) slots))
  width_here i total h e =
      let both : length (slots_bytes (drop i slots)) ≡ length (slot_bytes (get_or slots i d)) + length (slots_bytes (drop (i + 1) slots)) =
      ap (λ (l : List Slot). length (slots_bytes l)) (from i h) ∙ length-append (slot_bytes (get_or slots i d)) (slots_bytes (drop (i + 1) slots))
      in
      omega arith

-- the bytes of slots in two parts
pub bytes_append : (xs ys : List Slot) → slots_bytes (xs ++ ys) ≡ slots_bytes xs ++ slots_bytes ys
bytes_append [] ys = refl
bytes_append (x ∷ xs) ys = ap (λ (l : List ℕ). slot_bytes x ++ l) (bytes_append xs ys) ∙ sym (append_assoc (slot_bytes x) (slots_bytes xs) (slots_bytes ys))

pub bytes_split : (i : ℕ) (slots : List Slot) → slots_bytes slots ≡ slots_bytes (take i slots) ++ slots_bytes (drop i slots)
bytes_split i slots = ap slots_bytes (sym (take-append-drop i slots)) ∙ bytes_append (take i slots) (drop i slots)

-- a list is overwritten with so many slots, from the place of the type byte on
pub record Put (out₀ : List ℕ) (slots : List Slot) (out : List ℕ) (at i : ℕ) : Type 0 where
  pub few : i ≤ 11
  pub narrow : at ≤ type_place + 9 * i
  pub place : at ≡ type_place + length (slots_bytes (take i slots))
  pub done : out ≡ overwrite out₀ type_place (slots_bytes (take i slots))
  pub rest : first_outside at (drop i slots) ≡ 0

pub put_room : (out₀ : List ℕ) (slots : List Slot) (out : List ℕ) (at i : ℕ) → Put out₀ slots out at i → type_place + length (slots_bytes slots) ≤ length out₀ → at + length (slots_bytes (drop i slots)) ≤ length out₀
put_room out₀ slots out at i p h =
    let both : length (slots_bytes slots) ≡ length (slots_bytes (take i slots)) + length (slots_bytes (drop i slots)) =
    ap length (bytes_split i slots) ∙ length-append (slots_bytes (take i slots)) (slots_bytes (drop i slots))
    in
    omega (arith, p.place)

pub put_length : (out₀ : List ℕ) (slots : List Slot) (out : List ℕ) (at i : ℕ) → Put out₀ slots out at i → type_place + length (slots_bytes slots) ≤ length out₀ → length out ≡ length out₀
put_length out₀ slots out at i p h = ap length p.done ∙ overwrite_length out₀ type_place (slots_bytes (take i slots)) (omega (arith, put_room out₀ slots out at i p h, p.place))

pub put_here : (out₀ : List ℕ) (slots : List Slot) (d : Slot) (out : List ℕ) (at i : ℕ) → Put out₀ slots out at i → i < 11 → length slots ≡ 11 → type_place + length (slots_bytes slots) ≤ length out₀
    → (at + length (slot_bytes (get_or slots i d)) ≤ length out) × (slot_fits (get_or slots i d) ≡ true)
put_here out₀ slots d out at i p h eleven room =
    let both : length (slots_bytes (drop i slots)) ≡ length (slot_bytes (get_or slots i d)) + length (slots_bytes (drop (i + 1) slots)) =
    ap (λ (l : List Slot). length (slots_bytes l)) (from slots d i (omega arith)) ∙ length-append (slot_bytes (get_or slots i d)) (slots_bytes (drop (i + 1) slots))
    in
    (omega (arith, put_room out₀ slots out at i p room, put_length out₀ slots out at i p room), holds_here slots d at i (omega (arith, p.place)) (omega arith) p.rest)

pub put_one : (out₀ : List ℕ) (slots : List Slot) (d : Slot) (out : List ℕ) (at i : ℕ) (next : List ℕ) → Put out₀ slots out at i → i < 11 → length slots ≡ 11 → length (slot_bytes (get_or slots i d)) ≤ 9
    → type_place + length (slots_bytes slots) ≤ length out₀ → next ≡ overwrite out at (slot_bytes (get_or slots i d))
    → Put out₀ slots next (at + length (slot_bytes (get_or slots i d))) (i + 1)
put_one out₀ slots d out at i next p h eleven nine room e =
    let s : Slot = get_or slots i d in
    let before : List ℕ = slots_bytes (take i slots) in
    let more : take (i + 1) slots ≡ take i slots ++ (s ∷ []) = ap (λ (k : ℕ). take k slots) (add-one i) ∙ take-suc slots i d (omega arith) in
    let bytes : slots_bytes (take (i + 1) slots) ≡ before ++ slot_bytes s =
    ap slots_bytes more ∙ bytes_append (take i slots) (s ∷ []) ∙ ap (λ (l : List ℕ). before ++ l) (append-nil (slot_bytes s))
    in
    let size : length (slots_bytes (take (i + 1) slots)) ≡ length before + length (slot_bytes s) = ap length bytes ∙ length-append before (slot_bytes s) in
    let fits : type_place + length before ≤ length out₀ = omega (arith, put_room out₀ slots out at i p room, p.place) in
    record {
      few = omega arith;
      narrow = omega (arith, p.narrow);
      place = omega (arith, p.place);
      done =
          e ∙ ap (λ (l : List ℕ). overwrite l at (slot_bytes s)) p.done ∙ ap (λ (k : ℕ). overwrite (overwrite out₀ type_place before) k (slot_bytes s)) p.place
          ∙ overwrite_then out₀ type_place before (slot_bytes s) fits ∙ ap (overwrite out₀ type_place) (sym bytes);
      rest = sym (inside_here slots d at i (omega arith) (holds_here slots d at i (omega (arith, p.place)) (omega arith) p.rest)) ∙ p.rest;
    }
