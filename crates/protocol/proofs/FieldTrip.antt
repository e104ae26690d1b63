-- One field: what was read is written back, and what was written is read back.
use Prim.Native.Nat.{ℕ, ◌+◌, ◌^◌, ◌≤◌}
use native.Mathlib.Omega.{arith}
use mathlib.Core.Path.{◌≡◌, refl, sym, ◌∙◌, ap}
use mathlib.Core.Bool.{Bool, true, false, ◌&&◌}
use mathlib.Core.List.{List, [], ◌∷◌, ◌++◌}
use mathlib.Core.Logic.{⊎_elim}
use borrow.Author.Tests.{lt-ltb, ltb-true, eqb-true, eq-eqb}
use lib.Dec.{T, ltb, eqb}
use lib.IntN.{ℤ}
use lib.Ieee.{Float, binary32, of_bits, to_bits}
use lib.Ieee as Ieee
use lib.Ieee.Bits.{to_bits-of_bits, of_bits-to_bits, of_bits-fits, to_bits-lt}
use lib.ListN.{length, get_or, take, drop, length-reverse}
use Rattle.protocol.specs.Number.{Bytes, little_endian, big_endian, twos_complement, is_finite}
use Rattle.protocol.specs.Rule.{Rule, SignedRule}
use Rattle.protocol.specs.Field.{Field, number, high_first, signed, float, fixed, Value, natural, integer, real, width, values, within, same_bytes, read_field}
use Rattle.protocol.specs.Field as Field'
use Rattle.protocol.specs.Encode.{low_first, of_integer, in_range, holds, field_bytes, good, bad, taken, step_field, after_field, front_value}
use Rattle.protocol.proofs.Tests.{which, and_left, and_right}
use Rattle.protocol.proofs.Bytes.{part, part_cons, low_little, little_lt, high_big, big_lt, little_low, big_high, low_length}
use Rattle.protocol.proofs.Signed.{integer_back, integer_ranged, integer_lt, integer_forth}
use Rattle.protocol.proofs.Floats.{not_nan}

-- a signed field has a byte at least
abbrev pub Proper : Field → Type 0
Proper (number w rule) = Unit {0}
Proper (high_first w) = Unit {0}
Proper (signed w rule) = 1 ≤ w
Proper float = Unit {0}
Proper (fixed bytes) = Unit {0}

yes : (b : Bool) → T b → b ≡ true
yes true t = refl
yes false t = absurd t

T-yes : (b : Bool) → b ≡ true → T b
T-yes b e = rw e tt

both : (a b : Bool) → a ≡ true → b ≡ true → (a && b) ≡ true
both a b p q = rw (p, q)

pub within_yes : (b : Bool) (at : ℕ) (v : Value) (ws : List Value) → within b at v ≡ values ws → (b ≡ true) × (ws ≡ v ∷ [])
within_yes true at v ws e = (refl, cc)
within_yes false at v ws e = let z : ◌≡◌ {A = ℕ} 0 1 = cc in absurd (omega arith)

-- a value that a field may hold is taken from the front
taken_held : (f : Field) (v : Value) (vs : List Value) (bs : List ℕ) → holds f v ≡ true → field_bytes f v ≡ bs → taken f (v ∷ vs) ≡ good bs vs
taken_held f v vs bs h e = rw (h, e)

same_part : (bs s : List ℕ) (at : ℕ) (ws : List Value) → at + length bs ≤ length s → same_bytes s at bs ≡ values ws → (part s at (length bs) ≡ bs) × (ws ≡ [])
unfolding same_bytes
same_part [] s at ws h e = (refl, cc)
same_part (b ∷ bs) s at ws h e =
    ⊎_elim
    (λ (same : eqb (get_or s at 0) b ≡ true).
    let rest = same_part bs s (at + 1) ws (omega arith) (rw same at e) in
    (rw (part_cons s at (length bs) (omega arith), eqb-true (get_or s at 0) b same, rest.0), rest.1))
    (λ (other : eqb (get_or s at 0) b ≡ false).
    let out : Field'.outside at ≡ values ws = rw other at e in
    let z : ◌≡◌ {A = ℕ} 0 1 = cc in absurd (omega arith))
    (which (eqb (get_or s at 0) b))

-- what a field read is what it writes
pub read_step : (f : Field) → Proper f → (s : List ℕ) (at : ℕ) → Bytes s → at + width f ≤ length s → (ws rest : List Value) → read_field s at f ≡ values ws
    → step_field f (ws ++ rest) ≡ good (part s at (width f)) rest
read_step (number w rule) p s at b h ws rest e =
    let n : ℕ = little_endian s at w in
    let k = within_yes (rule n) at (natural n) ws e in
    rw k.1 (taken_held (number w rule) (natural n) rest (part s at w) (both (ltb n (256 ^ w)) (rule n) (lt-ltb n (256 ^ w) (little_lt s at w b h)) k.0) (low_little s at w b h))
read_step (high_first w) p s at b h ws rest e =
    let n : ℕ = big_endian s at w in
    let k : ws ≡ natural n ∷ [] = cc in
    rw k (taken_held (high_first w) (natural n) rest (part s at w) (lt-ltb n (256 ^ w) (big_lt s at w b h)) (high_big s at w b h))
read_step (signed w rule) p s at b h ws rest e =
    let n : ℕ = little_endian s at w in
    let z : ℤ = twos_complement w n in
    let k = within_yes (rule z) at (integer z) ws e in
    rw k.1
    (taken_held (signed w rule) (integer z) rest (part s at w) (both (in_range w z) (rule z) (integer_ranged w p n (little_lt s at w b h)) k.0)
    (ap (low_first w) (integer_back w p n (little_lt s at w b h)) ∙ low_little s at w b h))
read_step float p s at b h ws rest e =
    let n : ℕ = little_endian s at 4 in
    let x : Float = of_bits binary32 n in
    let k = within_yes (is_finite x) at (real x) ws e in
    rw k.1
    (taken_held float (real x) rest (part s at 4) (both (is_finite x) (Ieee.fits binary32 x) k.0 (yes (Ieee.fits binary32 x) (of_bits-fits binary32 n)))
    (ap (low_first 4) (to_bits-of_bits binary32 n (omega (arith, little_lt s at 4 b h)) (not_nan x k.0)) ∙ low_little s at 4 b h))
read_step (fixed bytes) p s at b h ws rest e =
    let k = same_part bytes s at ws h e in
    rw (k.1, k.0) refl

-- what was taken was held
pub record Taken (f : Field) (vs : List Value) (bs : List ℕ) (ws : List Value) : Type 0 where
  pub value : Value
  pub front : vs ≡ value ∷ ws
  pub held : holds f value ≡ true
  pub bytes : bs ≡ field_bytes f value

pub taken_good : (f : Field) (vs : List Value) (bs : List ℕ) (ws : List Value) → taken f vs ≡ good bs ws → Taken f vs bs ws
taken_good f [] bs ws e = let z : ◌≡◌ {A = ℕ} 0 1 = cc in absurd (omega arith)
taken_good f (v ∷ vs) bs ws e =
    ⊎_elim
    (λ (yes : holds f v ≡ true).
    let g : good (field_bytes f v) vs ≡ good bs ws = rw yes at e in
    record { value = v; front = cc; held = yes; bytes = cc })
    (λ (no : holds f v ≡ false).
    let g : bad ≡ good bs ws = rw no at e in
    let z : ◌≡◌ {A = ℕ} 0 1 = cc in absurd (omega arith))
    (which (holds f v))

pub never : {A : Type 0} → ◌≡◌ {A = Bool} false true → A
never e = let z : ◌≡◌ {A = ℕ} 0 1 = cc in absurd (omega arith)

-- a field that holds a value, at the place of its bytes
module _ (s : List ℕ) (at : ℕ) where
  read_number : (w : ℕ) (rule : Rule) (v : Value) → at + w ≤ length s → holds (number w rule) v ≡ true → part s at w ≡ field_bytes (number w rule) v → read_field s at (number w rule) ≡ values (v ∷ [])
  read_number w rule (natural n) h k e =
      rw (little_low s at w n h e (ltb-true n (256 ^ w) (and_left (ltb n (256 ^ w)) (rule n) k)), and_right (ltb n (256 ^ w)) (rule n) k)
  read_number w rule (integer z) h k e = never k
  read_number w rule (real x) h k e = never k

  read_high : (w : ℕ) (v : Value) → at + w ≤ length s → holds (high_first w) v ≡ true → part s at w ≡ field_bytes (high_first w) v → read_field s at (high_first w) ≡ values (v ∷ [])
  read_high w (natural n) h k e = rw (big_high s at w n h e (ltb-true n (256 ^ w) k))
  read_high w (integer z) h k e = never k
  read_high w (real x) h k e = never k

  read_signed : (w : ℕ) (rule : SignedRule) → 1 ≤ w → (v : Value) → at + w ≤ length s → holds (signed w rule) v ≡ true → part s at w ≡ field_bytes (signed w rule) v → read_field s at (signed w rule) ≡ values (v ∷ [])
  read_signed w rule p (natural n) h k e = never k
  read_signed w rule p (integer z) h k e =
      let ranged : in_range w z ≡ true = and_left (in_range w z) (rule z) k in
      rw (little_low s at w (of_integer w z) h e (integer_lt w p z ranged), integer_forth w p z ranged, and_right (in_range w z) (rule z) k)
  read_signed w rule p (real x) h k e = never k

  read_float : (v : Value) → at + 4 ≤ length s → holds float v ≡ true → part s at 4 ≡ field_bytes float v → read_field s at float ≡ values (v ∷ [])
  read_float (natural n) h k e = never k
  read_float (integer z) h k e = never k
  read_float (real x) h k e =
      let fit : T (Ieee.fits binary32 x) = T-yes (Ieee.fits binary32 x) (and_right (is_finite x) (Ieee.fits binary32 x) k) in
      let n : little_endian s at 4 ≡ to_bits binary32 x = little_low s at 4 (to_bits binary32 x) h e (omega (arith, to_bits-lt binary32 x fit)) in
      rw (n, of_bits-to_bits binary32 x fit, and_left (is_finite x) (Ieee.fits binary32 x) k)

same_bytes_lem : (bs s : List ℕ) (at : ℕ) → at + length bs ≤ length s → part s at (length bs) ≡ bs → same_bytes s at bs ≡ values []
unfolding same_bytes
same_bytes_lem [] s at h e = refl
same_bytes_lem (b ∷ bs) s at h e =
    let there : get_or s at 0 ∷ part s (at + 1) (length bs) ≡ b ∷ bs = sym (part_cons s at (length bs) (omega arith)) ∙ e in
    let first : get_or s at 0 ≡ b = cc in
    let rest : part s (at + 1) (length bs) ≡ bs = cc in
    rw (eq-eqb (get_or s at 0) b first) (same_bytes_lem bs s (at + 1) (omega arith) rest)

-- what was written is what is read: the values that were taken
pub record ReadBack (f : Field) (s : List ℕ) (at : ℕ) (vs ws : List Value) : Type 0 where
  pub front : List Value
  pub read : read_field s at f ≡ values front
  pub is : front ≡ front_value f vs

-- a field whose value was taken, by what was read at its place
by_taken : (f : Field) (s : List ℕ) (at : ℕ) (vs : List Value) (bs : List ℕ) (ws : List Value) → Taken f vs bs ws
    → ((v : Value) → holds f v ≡ true → part s at (width f) ≡ field_bytes f v → read_field s at f ≡ values (v ∷ []))
    → part s at (width f) ≡ bs
    → front_value f vs ≡ take 1 vs
    → ReadBack f s at vs ws
by_taken f s at vs bs ws t reads e k =
    record {
      front = t.value ∷ [];
      read = reads t.value t.held (e ∙ t.bytes);
      is = sym (k ∙ ap (take 1) t.front);
    }

pub step_read : (f : Field) → Proper f → (vs : List Value) (bs : List ℕ) (ws : List Value) → step_field f vs ≡ good bs ws
    → (s : List ℕ) (at : ℕ) → at + width f ≤ length s → part s at (width f) ≡ bs → ReadBack f s at vs ws
step_read (number w rule) p vs bs ws g s at h e =
    by_taken (number w rule) s at vs bs ws (taken_good (number w rule) vs bs ws g) (λ v. read_number s at w rule v h) e refl
step_read (high_first w) p vs bs ws g s at h e =
    by_taken (high_first w) s at vs bs ws (taken_good (high_first w) vs bs ws g) (λ v. read_high s at w v h) e refl
step_read (signed w rule) p vs bs ws g s at h e =
    by_taken (signed w rule) s at vs bs ws (taken_good (signed w rule) vs bs ws g) (λ v. read_signed s at w rule p v h) e refl
step_read float p vs bs ws g s at h e =
    by_taken float s at vs bs ws (taken_good float vs bs ws g) (λ v. read_float s at v h) e refl
step_read (fixed bytes) p vs bs ws g s at h e =
    let same : bytes ≡ bs = cc in
    record { front = []; read = same_bytes_lem bytes s at h (e ∙ sym same); is = refl }

-- the bytes of a field are as many as its width
held_length : (f : Field) (v : Value) → holds f v ≡ true → length (field_bytes f v) ≡ width f
held_length (number w rule) (natural n) k = low_length w n
held_length (number w rule) (integer z) k = never k
held_length (number w rule) (real x) k = never k
held_length (high_first w) (natural n) k = rw length-reverse (low_length w n)
held_length (high_first w) (integer z) k = never k
held_length (high_first w) (real x) k = never k
held_length (signed w rule) (natural n) k = never k
held_length (signed w rule) (integer z) k = low_length w (of_integer w z)
held_length (signed w rule) (real x) k = never k
held_length float (natural n) k = never k
held_length float (integer z) k = never k
held_length float (real x) k = low_length 4 (to_bits binary32 x)
held_length (fixed bytes) v k = never k

taken_length : (f : Field) (vs : List Value) (bs : List ℕ) (ws : List Value) → taken f vs ≡ good bs ws → length bs ≡ width f
taken_length f vs bs ws g =
    let t = taken_good f vs bs ws g in
    ap length t.bytes ∙ held_length f t.value t.held

pub step_length : (f : Field) (vs : List Value) (bs : List ℕ) (ws : List Value) → step_field f vs ≡ good bs ws → length bs ≡ width f
step_length (number w rule) vs bs ws g = taken_length (number w rule) vs bs ws g
step_length (high_first w) vs bs ws g = taken_length (high_first w) vs bs ws g
step_length (signed w rule) vs bs ws g = taken_length (signed w rule) vs bs ws g
step_length float vs bs ws g = taken_length float vs bs ws g
step_length (fixed bytes) vs bs ws g = let same : bytes ≡ bs = cc in ap length (sym same)

-- the values that are left
taken_after : (f : Field) (vs : List Value) (bs : List ℕ) (ws : List Value) → taken f vs ≡ good bs ws → drop 1 vs ≡ ws
taken_after f vs bs ws g = rw (taken_good f vs bs ws g).front

pub step_after : (f : Field) (vs : List Value) (bs : List ℕ) (ws : List Value) → step_field f vs ≡ good bs ws → after_field f vs ≡ ws
step_after (number w rule) vs bs ws g = taken_after (number w rule) vs bs ws g
step_after (high_first w) vs bs ws g = taken_after (high_first w) vs bs ws g
step_after (signed w rule) vs bs ws g = taken_after (signed w rule) vs bs ws g
step_after float vs bs ws g = taken_after float vs bs ws g
step_after (fixed bytes) vs bs ws g = cc
