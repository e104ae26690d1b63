-- A message in front of what stands behind it.
use Prim.Native.Nat.{ℕ, ◌+◌, ◌≤◌, ◌<◌}
use native.Mathlib.Nat.{zero-add}
use native.Mathlib.Omega.{arith}
use mathlib.Core.Path.{◌≡◌, refl, sym, ◌∙◌, ap}
use mathlib.Core.List.{List, [], ◌∷◌, ◌++◌}
use borrow.Author.Tests.{lt-ltb, le-ltb}
use lib.ListN.{length, set, drop, length-append, length-set}
use Rattle.protocol.specs.Encode.{Encoded, encoded, refused}
use Rattle.std.specs.Prelude.{Ok, Err}
use Rattle.protocol.specs.declared.refusal.Refusal.TheVariants.{ShortOutput}
use Rattle.writer.specs.Writing.{limited, answer_of, written, answered, lent_after}
use Rattle.protocol.proofs.Overwrite.{overwrite_then}
use Rattle.protocol.specs.Overwrite.{overwrite}
use Rattle.writer.specs.Slots.{slots_bytes, type_place, message_bytes}
use Rattle.slots.specs.declared.Slot.{Slot}

-- at the front
front : (out bytes : List ℕ) → overwrite out 0 bytes ≡ bytes ++ drop (length bytes) out
unfolding overwrite
front out bytes = ap (λ (n : ℕ). bytes ++ drop n out) (zero-add (length bytes))

two : (out : List ℕ) (a b : ℕ) → 2 ≤ length out → set (set out 0 a) 1 b ≡ overwrite out 0 (a ∷ b ∷ [])
unfolding overwrite
two [] a b h = absurd (omega arith)
two (x ∷ []) a b h = absurd (omega arith)
two (x ∷ y ∷ out) a b h = refl

pub header_length : (out : List ℕ) (a b : ℕ) → length (set (set out 0 a) 1 b) ≡ length out
header_length out a b = length-set (set out 0 a) 1 b ∙ length-set out 0 a

module _ (slots : List Slot) (opens : List ℕ) (w : ℕ) (is : w ≡ length (slots_bytes slots)) where
  abbrev whole : List ℕ
  whole = message_bytes slots opens

  pub size_is : type_place + w + length opens ≡ length whole
  size_is = omega (arith, length-append (slots_bytes slots) opens)

  too_short : (room : ℕ) → room < type_place + w + length opens → limited room (encoded whole) ≡ refused 8 0
  unfolding limited
  too_short room h = rw (lt-ltb room (length whole) (omega (arith, size_is)))

  long_enough : (room : ℕ) → type_place + w + length opens ≤ room → limited room (encoded whole) ≡ encoded whole
  unfolding limited
  long_enough room h = rw (le-ltb room (length whole) (omega (arith, size_is)))

  message_put : (out : List ℕ) → type_place + w + length opens ≤ length out
      → overwrite (overwrite (set (set out 0 (type_place + w + length opens)) 1 0) type_place (slots_bytes slots)) (type_place + w) opens ≡ whole ++ drop (length whole) out
  message_put out h =
      let a : ℕ = type_place + w + length opens in
      let bs : List ℕ = slots_bytes slots in
      let head : List ℕ = a ∷ 0 ∷ [] in
      let first : set (set out 0 a) 1 0 ≡ overwrite out 0 head = two out a 0 (omega arith) in
      let second : overwrite (overwrite out 0 head) type_place bs ≡ overwrite out 0 (head ++ bs) = overwrite_then out 0 head bs (omega arith) in
      let place : type_place + w ≡ 0 + length (head ++ bs) = omega (arith, is) in
      let third : overwrite (overwrite out 0 (head ++ bs)) (0 + length (head ++ bs)) opens ≡ overwrite out 0 (head ++ bs ++ opens) = overwrite_then out 0 (head ++ bs) opens (omega arith) in
      let counted : a ≡ type_place + length (bs ++ opens) = omega (arith, length-append bs opens) in
      let same : a ∷ 0 ∷ (bs ++ opens) ≡ whole = ap (λ (n : ℕ). n ∷ 0 ∷ (bs ++ opens)) counted in
      ap (λ (l : List ℕ). overwrite (overwrite l type_place bs) (type_place + w) opens) first ∙ ap (λ (l : List ℕ). overwrite l (type_place + w) opens) second ∙ ap (λ (n : ℕ). overwrite (overwrite out 0 (head ++ bs)) n opens) place
      ∙ third ∙ ap (overwrite out 0) same ∙ front out whole

  -- the answer and the lent bytes afterwards, where there is no room
  pub short_answer : (out : List ℕ) → length out < type_place + w + length opens
      → (answer_of (Err ShortOutput) ≡ answered (limited (length out) (encoded whole))) × (out ≡ lent_after (limited (length out) (encoded whole)) out)
  short_answer out h =
      let e = too_short (length out) h in (sym (ap answered e), sym (ap (λ (x : Encoded). lent_after x out) e))

  -- and where there is
  pub whole_answer : (out last : List ℕ) → type_place + w + length opens ≤ length out
      → last ≡ overwrite (overwrite (set (set out 0 (type_place + w + length opens)) 1 0) type_place (slots_bytes slots)) (type_place + w) opens
      → (answer_of (Ok (type_place + w + length opens)) ≡ answered (limited (length out) (encoded whole))) × (last ≡ lent_after (limited (length out) (encoded whole)) out)
  whole_answer out last h is-put =
      let e : encoded whole ≡ limited (length out) (encoded whole) = sym (long_enough (length out) h) in
      let put : last ≡ lent_after (encoded whole) out = is-put ∙ message_put out h in
      (ap written size_is ∙ ap answered e, put ∙ ap (λ (x : Encoded). lent_after x out) e)
