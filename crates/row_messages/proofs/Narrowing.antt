-- A value that a field may hold, as a number and back; fields and words one after the other.
use Prim.Native.Nat.{ℕ, zero, suc, ◌+◌, ◌*◌, ◌-◌, ◌/◌, ◌%◌, ◌^◌, ◌≤◌, ◌<◌}
use native.Mathlib.Nat.{add-zero}
use native.Mathlib.Omega.{arith}
use mathlib.Core.Path.{◌≡◌, refl, sym, ◌∙◌, ap}
use mathlib.Core.Bool.{Bool, true, false, not, cond}
use mathlib.Core.List.{List, [], ◌∷◌, ◌++◌}
use mathlib.Core.Logic.{⊎_elim}
use borrow.Author.Tests.{lt-ltb, ltb-true}
use lib.Dec.{T, eqb, ltb}
use lib.IntN.{ℤ, pos, negsuc}
use lib.Ieee.{Float, binary32, of_bits, to_bits}
use lib.Ieee as Ieee
use lib.Ieee.Bits.{of_bits-to_bits, to_bits-lt}
use lib.ListN.{length, get_or, drop, replicate}
use lib.Seq.{get_or-drop, drop-drop}
use Rattle.protocol.specs.Number.{Bytes, little_endian, twos_complement, is_finite}
use Rattle.protocol.specs.Rule.{any}
use Rattle.protocol.specs.Field.{Field, number, high_first, signed, float, fixed, Value, natural, integer, real}
use Rattle.protocol.specs.Form.{word, words_from, up_from}
use Rattle.protocol.specs.Encode.{in_range, of_integer, holds, wrote, write_fields}
use Rattle.protocol.proofs.Tests.{which, and_left, and_right}
use Rattle.protocol.proofs.Bytes.{little_lt}
use Rattle.protocol.proofs.Signed.{integer_forth}
use Rattle.protocol.proofs.Floats.{finite_bits}
use Rattle.protocol.proofs.FieldTrip.{Taken, taken_good, step_after, never}
use Rattle.protocol.proofs.FieldsTrip.{one_step}
use Rattle.message_rows.specs.Row.{number_of}
use Rattle.row_messages.proofs.Settled.{half_most}
use Rattle.row_messages.specs.RowWriting.{fitted, least_signed, fitted_signed, settled_bits, narrow, narrow_all}

-- ---- one value

-- a signed field has from one to eight bytes
abbrev Slim : Field → Type 0
Slim (number w rule) = Unit {0}
Slim (high_first w) = Unit {0}
Slim (signed w rule) = (1 ≤ w) × (w ≤ 8)
Slim float = Unit {0}
Slim (fixed bytes) = Unit {0}

abbrev pub AllSlim : List Field → Type 0
AllSlim [] = Unit {0}
AllSlim (f ∷ fs) = Slim f × AllSlim fs

module _ (w : ℕ) (k : w ≤ 8) where
  -- a signed number of the width is one of 64 bits
  wider : (z : ℤ) → in_range w z ≡ true → in_range 8 z ≡ true
  wider (pos n) e = lt-ltb n (2 ^ 63) (omega (arith, ltb-true n (2 ^ (8 * w - 1)) e, half_most w k))
  wider (negsuc n) e = lt-ltb n (2 ^ 63) (omega (arith, ltb-true n (2 ^ (8 * w - 1)) e, half_most w k))

  bits_64 : (z : ℤ) → number_of (integer z) ≡ of_integer 8 z
  bits_64 (pos n) = refl
  bits_64 (negsuc n) = refl

  signed_back : (z : ℤ) → in_range w z ≡ true → fitted_signed w (number_of (integer z)) ≡ z
  unfolding fitted_signed
  signed_back z e =
      let same : twos_complement 8 (number_of (integer z)) ≡ z = ap (twos_complement 8) (bits_64 z) ∙ integer_forth 8 (omega arith) z (wider z e) in
      ap (λ (x : ℤ). cond (in_range w x) x (least_signed w)) same ∙ rw e

T-yes : (b : Bool) → b ≡ true → T b
T-yes b e = rw e tt

opposite : (b : Bool) → not b ≡ true → b ≡ false
opposite true e = never e
opposite false e = refl

float_back : (x : Float) → is_finite x ≡ true → Ieee.fits binary32 x ≡ true → of_bits binary32 (settled_bits (to_bits binary32 x)) ≡ x
unfolding settled_bits
float_back x finite fits =
    let n : ℕ = to_bits binary32 x in
    let fit : T (Ieee.fits binary32 x) = T-yes (Ieee.fits binary32 x) fits in
    let same : of_bits binary32 n ≡ x = of_bits-to_bits binary32 x fit in
    let ordinary : eqb (n % 2147483648 / 8388608) 255 ≡ false = opposite (eqb (n % 2147483648 / 8388608) 255) (sym (finite_bits n) ∙ ap is_finite same ∙ finite) in
    rw (lt-ltb n (256 ^ 4) (omega (arith, to_bits-lt binary32 x fit)), ordinary) same

-- what a field may hold comes back from its number
narrow_held : (f : Field) → Slim f → (v : Value) → holds f v ≡ true → narrow f (number_of v) ≡ v ∷ []
unfolding fitted
narrow_held (number w rule) p (natural n) h = rw (and_left (ltb n (256 ^ w)) (rule n) h)
narrow_held (number w rule) p (integer z) h = never h
narrow_held (number w rule) p (real x) h = never h
narrow_held (high_first w) p (natural n) h = refl
narrow_held (high_first w) p (integer z) h = never h
narrow_held (high_first w) p (real x) h = never h
narrow_held (signed w rule) p (natural n) h = never h
narrow_held (signed w rule) p (integer z) h =
    ap (λ (x : ℤ). integer x ∷ []) (signed_back w p.1 z (and_left (in_range w z) (rule z) h))
narrow_held (signed w rule) p (real x) h = never h
narrow_held float p (natural n) h = never h
narrow_held float p (integer z) h = never h
narrow_held float p (real x) h =
    ap (λ (y : Float). real y ∷ []) (float_back x (and_left (is_finite x) (Ieee.fits binary32 x) h) (and_right (is_finite x) (Ieee.fits binary32 x) h))
narrow_held (fixed bytes) p v h = never h

-- ---- fields one after the other

-- numbers that start with those of values
abbrev pub Numbers : List ℕ → List Value → Type 0
Numbers ns [] = Unit {0}
Numbers ns (v ∷ vs) = (get_or ns 0 0 ≡ number_of v) × Numbers (drop 1 ns) vs

module _ (row : List ℕ) where
  first : (i : ℕ) → get_or (drop i row) 0 0 ≡ get_or row i 0
  first i = get_or-drop i row 0 0 ∙ ap (λ (k : ℕ). get_or row k 0) (add-zero i)

  -- one value, and then the others
  value_back : (f : Field) → Slim f → (i : ℕ) (v : Value) (vs us : List Value) → holds f v ≡ true → Numbers (drop i row) (v ∷ vs)
      → (Numbers (drop (i + 1) row) vs → us ≡ vs)
      → narrow f (get_or row i 0) ++ us ≡ v ∷ vs
  value_back f p i v vs us h ns rest =
      ap (λ (l : List Value). l ++ us) (ap (narrow f) (sym (first i) ∙ ns.0) ∙ narrow_held f p v h) ∙ ap (λ (l : List Value). v ∷ l) (rest (rw (drop-drop 1 i row) at ns.1))

  taken_back : (f : Field) → Slim f → (i : ℕ) (vs : List Value) (bs : List ℕ) (ws us : List Value) → Taken f vs bs ws → Numbers (drop i row) vs
      → (Numbers (drop (i + 1) row) ws → us ≡ ws)
      → narrow f (get_or row i 0) ++ us ≡ vs
  taken_back f p i vs bs ws us t ns rest =
      value_back f p i t.value ws us t.held (rw t.front at ns) rest ∙ sym t.front

  -- fields that were written, and then what follows them
  pub fields_back : (fs gs : List Field) → AllSlim fs → (place i : ℕ) (vs : List Value) (bs : List ℕ) (ws : List Value) → write_fields place fs vs ≡ wrote bs ws → Numbers (drop i row) vs
      → ((j : ℕ) → Numbers (drop j row) ws → narrow_all gs row j ≡ ws)
      → narrow_all (fs ++ gs) row i ≡ vs
  fields_back [] gs p place i vs bs ws e ns rest = let same : vs ≡ ws = cc in rw same (rest i (rw same at ns))
  fields_back (number w rule ∷ fs) gs p place i vs bs ws e ns rest =
      let r = one_step (number w rule) fs place vs bs ws e in
      taken_back (number w rule) p.0 i vs r.first r.left (narrow_all (fs ++ gs) row (i + 1)) (taken_good (number w rule) vs r.first r.left r.first_is) ns
      (λ left. fields_back fs gs p.1 (place + w) (i + 1) r.left r.second ws r.second_is left rest)
  fields_back (high_first w ∷ fs) gs p place i vs bs ws e ns rest =
      let r = one_step (high_first w) fs place vs bs ws e in
      taken_back (high_first w) p.0 i vs r.first r.left (narrow_all (fs ++ gs) row (i + 1)) (taken_good (high_first w) vs r.first r.left r.first_is) ns
      (λ left. fields_back fs gs p.1 (place + w) (i + 1) r.left r.second ws r.second_is left rest)
  fields_back (signed w rule ∷ fs) gs p place i vs bs ws e ns rest =
      let r = one_step (signed w rule) fs place vs bs ws e in
      taken_back (signed w rule) p.0 i vs r.first r.left (narrow_all (fs ++ gs) row (i + 1)) (taken_good (signed w rule) vs r.first r.left r.first_is) ns
      (λ left. fields_back fs gs p.1 (place + w) (i + 1) r.left r.second ws r.second_is left rest)
  fields_back (float ∷ fs) gs p place i vs bs ws e ns rest =
      let r = one_step float fs place vs bs ws e in
      taken_back float p.0 i vs r.first r.left (narrow_all (fs ++ gs) row (i + 1)) (taken_good float vs r.first r.left r.first_is) ns
      (λ left. fields_back fs gs p.1 (place + 4) (i + 1) r.left r.second ws r.second_is left rest)
  fields_back (fixed bytes ∷ fs) gs p place i vs bs ws e ns rest =
      let r = one_step (fixed bytes) fs place vs bs ws e in
      let same : vs ≡ r.left = step_after (fixed bytes) vs r.first r.left r.first_is in
      fields_back fs gs p.1 (place + length bytes) i r.left r.second ws r.second_is (rw same at ns) rest ∙ sym same

  -- ---- the words of a 43's list

  module _ (s : List ℕ) (b : Bytes s) (at count : ℕ) (room : at + 2 * count ≤ length s) where
    small_word : (i : ℕ) → ltb (word s at count i) (256 ^ 2) ≡ true
    unfolding word
    small_word i =
        ⊎_elim
        (λ (yes : ltb i count ≡ true).
        rw yes (lt-ltb (little_endian s (at + 2 * i) 2) (256 ^ 2) (little_lt s (at + 2 * i) 2 b (omega (arith, ltb-true i count yes)))))
        (λ (no : ltb i count ≡ false). rw no)
        (which (ltb i count))

    held_word : (i : ℕ) → holds (number 2 any) (natural (word s at count i)) ≡ true
    held_word i = rw (small_word i)

    words_back : (n i j : ℕ) → Numbers (drop j row) (words_from s at count (up_from i n)) → narrow_all (replicate n (number 2 any)) row j ≡ words_from s at count (up_from i n)
    words_back zero i j ns = refl
    words_back (suc n) i j ns =
        value_back (number 2 any) tt j (natural (word s at count i)) (words_from s at count (up_from (suc i) n)) (narrow_all (replicate n (number 2 any)) row (j + 1)) (held_word i) ns
        (words_back n (suc i) (j + 1))

    -- with their count
    pub list_back : (n j : ℕ) → count < 256 → Numbers (drop j row) (natural count ∷ words_from s at count (up_from 0 n)) → narrow_all (number 1 any ∷ replicate n (number 2 any)) row j ≡ natural count ∷ words_from s at count (up_from 0 n)
    list_back n j small ns =
        value_back (number 1 any) tt j (natural count) (words_from s at count (up_from 0 n)) (narrow_all (replicate n (number 2 any)) row (j + 1)) (rw (lt-ltb count 256 small)) ns
        (words_back n 0 (j + 1))
