-- The fields of a form, one after the other: what was read is written back, and what was written is read back.
use Prim.Native.Nat.{ℕ, ◌+◌, ◌≤◌}
use native.Mathlib.Omega.{arith}
use mathlib.Core.Path.{◌≡◌, refl, sym, ◌∙◌, ap}
use mathlib.Core.List.{List, [], ◌∷◌, ◌++◌, append_assoc}
use lib.ListN.{length, take, drop, length-append}
use lib.Seq.{take-add, drop-drop, take_at, drop_at}
use Rattle.protocol.specs.Number.{Bytes}
use Rattle.protocol.specs.Field.{Field, Value, width, widths, Fields, values, and_then, read_field, read_fields}
use Rattle.protocol.specs.Field as Field'
use Rattle.protocol.specs.Encode.{FieldStep, good, bad, step_field, Written, wrote, before, write_fields, after_fields, front_values}
use Rattle.protocol.specs.Encode as Encode'
use Rattle.protocol.proofs.Bytes.{part, part_length}
use Rattle.protocol.proofs.FieldTrip.{Proper, read_step, step_read, step_length, step_after}

abbrev pub AllProper : List Field → Type 0
AllProper [] = Unit {0}
AllProper (f ∷ fs) = Proper f × AllProper fs

pub part_add : (s : List ℕ) (at a b : ℕ) → part s at (a + b) ≡ part s at a ++ part s (at + a) b
part_add s at a b = rw (take-add, drop-drop) refl

-- fields that were read one after the other
pub record Both (a b : Fields) (ws : List Value) : Type 0 where
  pub first : List Value
  pub second : List Value
  pub first_is : a ≡ values first
  pub second_is : b ≡ values second
  pub joined : ws ≡ first ++ second

pub both_read : (a b : Fields) (ws : List Value) → and_then a b ≡ values ws → Both a b ws
both_read (Field'.outside at) b ws e = let z : ◌≡◌ {A = ℕ} 0 1 = cc in absurd (omega arith)
both_read (values vs) (Field'.outside at) ws e = let z : ◌≡◌ {A = ℕ} 0 1 = cc in absurd (omega arith)
both_read (values vs) (values us) ws e = record { first = vs; second = us; first_is = refl; second_is = refl; joined = cc }

-- a field, and then those after it
abbrev stepping : Field → List Field → ℕ → FieldStep → Written
stepping f fs place bad = Encode'.outside place
stepping f fs place (good cs us) = before cs (write_fields (place + width f) fs us)

split : (st : FieldStep) (f : Field) (fs : List Field) (place : ℕ) → elim st [ bad ↦ Encode'.outside place | good bs ws ↦ before bs (write_fields (place + width f) fs ws) ] ≡ stepping f fs place st
split bad f fs place = refl
split (good cs us) f fs place = refl

pub write_step : (f : Field) (fs : List Field) (place : ℕ) (vs : List Value) (bs : List ℕ) (us : List Value) (w : Written) → step_field f vs ≡ good bs us → write_fields (place + width f) fs us ≡ w → write_fields place (f ∷ fs) vs ≡ before bs w
write_step f fs place vs bs us w e k = split (step_field f vs) f fs place ∙ ap (stepping f fs place) e ∙ ap (before bs) k

-- what was read is written back
pub fields_written : (fs : List Field) → AllProper fs → (s : List ℕ) (at : ℕ) → Bytes s → at + widths fs ≤ length s → (ws rest : List Value) → read_fields s at fs ≡ values ws
    → (place : ℕ) → write_fields place fs (ws ++ rest) ≡ wrote (part s at (widths fs)) rest
fields_written [] p s at b h ws rest e place = let none : ws ≡ [] = cc in rw none
fields_written (f ∷ fs) p s at b h ws rest e place =
    let r = both_read (read_field s at f) (read_fields s (at + width f) fs) ws e in
    let step : step_field f (ws ++ rest) ≡ good (part s at (width f)) (r.second ++ rest) =
    ap (λ (l : List Value). step_field f (l ++ rest)) r.joined ∙ ap (step_field f) (append_assoc r.first r.second rest)
    ∙ read_step f p.0 s at b (omega arith) r.first (r.second ++ rest) r.first_is
    in
    write_step f fs place (ws ++ rest) (part s at (width f)) (r.second ++ rest) (wrote (part s (at + width f) (widths fs)) rest) step
    (fields_written fs p.1 s (at + width f) b (omega arith) r.second rest r.second_is (place + width f))
    ∙ ap (λ (l : List ℕ). wrote l rest) (sym (part_add s at (width f) (widths fs)))

-- fields that were written one after the other
pub record Stepped (f : Field) (fs : List Field) (place : ℕ) (vs : List Value) (bs : List ℕ) (ws : List Value) : Type 0 where
  pub first : List ℕ
  pub left : List Value
  pub second : List ℕ
  pub first_is : step_field f vs ≡ good first left
  pub second_is : write_fields (place + width f) fs left ≡ wrote second ws
  pub joined : bs ≡ first ++ second

before_wrote : (cs : List ℕ) (w : Written) (bs : List ℕ) (ws : List Value) → before cs w ≡ wrote bs ws → (ds : List ℕ) × (w ≡ wrote ds ws) × (bs ≡ cs ++ ds)
before_wrote cs (Encode'.outside at) bs ws e = let z : ◌≡◌ {A = ℕ} 0 1 = cc in absurd (omega arith)
before_wrote cs (wrote ds us) bs ws e = (ds, cc, cc)

stepped : (f : Field) (fs : List Field) (place : ℕ) (vs : List Value) (bs : List ℕ) (ws : List Value) (st : FieldStep) → step_field f vs ≡ st → stepping f fs place st ≡ wrote bs ws → Stepped f fs place vs bs ws
stepped f fs place vs bs ws bad k e = let z : ◌≡◌ {A = ℕ} 0 1 = cc in absurd (omega arith)
stepped f fs place vs bs ws (good cs us) k e =
    let r = before_wrote cs (write_fields (place + width f) fs us) bs ws e in
    record { first = cs; left = us; second = r.0; first_is = k; second_is = r.1; joined = r.2 }

pub one_step : (f : Field) (fs : List Field) (place : ℕ) (vs : List Value) (bs : List ℕ) (ws : List Value) → write_fields place (f ∷ fs) vs ≡ wrote bs ws → Stepped f fs place vs bs ws
one_step f fs place vs bs ws e = stepped f fs place vs bs ws (step_field f vs) refl (sym (split (step_field f vs) f fs place) ∙ e)

pub wrote_length : (fs : List Field) (place : ℕ) (vs : List Value) (bs : List ℕ) (ws : List Value) → write_fields place fs vs ≡ wrote bs ws → length bs ≡ widths fs
wrote_length [] place vs bs ws e = let none : [] ≡ bs = cc in ap length (sym none)
wrote_length (f ∷ fs) place vs bs ws e =
    let r = one_step f fs place vs bs ws e in
    rw (r.joined, length-append, step_length f vs r.first r.left r.first_is, wrote_length fs (place + width f) r.left r.second ws r.second_is)

pub wrote_after : (fs : List Field) (place : ℕ) (vs : List Value) (bs : List ℕ) (ws : List Value) → write_fields place fs vs ≡ wrote bs ws → after_fields fs vs ≡ ws
wrote_after [] place vs bs ws e = cc
wrote_after (f ∷ fs) place vs bs ws e =
    let r = one_step f fs place vs bs ws e in
    rw (step_after f vs r.first r.left r.first_is) (wrote_after fs (place + width f) r.left r.second ws r.second_is)

-- what was written is read back
pub record FieldsBack (fs : List Field) (s : List ℕ) (at : ℕ) (vs ws : List Value) : Type 0 where
  pub front : List Value
  pub read : read_fields s at fs ≡ values front
  pub is : front ≡ front_values fs vs

pub front_part : (s : List ℕ) (at a b : ℕ) (xs ys : List ℕ) → length xs ≡ a → part s at (a + b) ≡ xs ++ ys → at + (a + b) ≤ length s → (part s at a ≡ xs) × (part s (at + a) b ≡ ys)
front_part s at a b xs ys n e h =
    let p : List ℕ = part s at a in
    let q : List ℕ = part s (at + a) b in
    let size : length p ≡ a = part_length s at a (omega arith) in
    let whole : p ++ q ≡ xs ++ ys = sym (part_add s at a b) ∙ e in
    (sym (take_at p q a size) ∙ ap (take a) whole ∙ take_at xs ys a n, sym (drop_at p q a size) ∙ ap (drop a) whole ∙ drop_at xs ys a n)

pub fields_read : (fs : List Field) → AllProper fs → (place : ℕ) (vs : List Value) (bs : List ℕ) (ws : List Value) → write_fields place fs vs ≡ wrote bs ws
    → (s : List ℕ) (at : ℕ) → at + widths fs ≤ length s → part s at (widths fs) ≡ bs → FieldsBack fs s at vs ws
fields_read [] p place vs bs ws e s at h k = record { front = []; read = refl; is = refl }
fields_read (f ∷ fs) p place vs bs ws e s at h k =
    let r = one_step f fs place vs bs ws e in
    let parts = front_part s at (width f) (widths fs) r.first r.second (step_length f vs r.first r.left r.first_is) (k ∙ r.joined) h in
    let here = step_read f p.0 vs r.first r.left r.first_is s at (omega arith) parts.0 in
    let there = fields_read fs p.1 (place + width f) r.left r.second ws r.second_is s (at + width f) (omega arith) parts.1 in
    record {
      front = here.front ++ there.front;
      read = rw (here.read, there.read);
      is = rw (here.is, there.is, step_after f vs r.first r.left r.first_is);
    }
