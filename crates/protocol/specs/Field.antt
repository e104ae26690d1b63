-- The fields of a form, read left to right.
use Rattle.std.specs.Prelude.{ℕ, ◌+◌, Bool, true, false, cond, List, [], ◌∷◌, ◌++◌, eqb, ℤ, Float, length, get_or}
use Rattle.std.specs.Float.{binary32}
use Rattle.std.specs.Float.Ieee.{of_bits}
use Rattle.protocol.specs.Number.{little_endian, big_endian, twos_complement, is_finite}
use Rattle.protocol.specs.Rule.{Rule, SignedRule}

pub data Field : Type 0 where
  -- so many bytes, least significant first, within the list
  number : ℕ → Rule → Field
  -- so many bytes, most significant first, any value
  high_first : ℕ → Field
  -- so many bytes in two's complement, least significant first, within the list
  signed : ℕ → SignedRule → Field
  -- an f32, finite
  float : Field
  -- these very bytes; no value
  fixed : List ℕ → Field

-- what a field holds
pub data Value : Type 0 where
  natural : ℕ → Value
  integer : ℤ → Value
  real : Float → Value

abbrev pub width : Field → ℕ
width (number w r) = w
width (high_first w) = w
width (signed w rule) = w
width float = 4
width (fixed bytes) = length bytes

-- the bytes that fields take up together
abbrev pub widths : List Field → ℕ
widths [] = 0
widths (f ∷ fs) = width f + widths fs

-- fields read: their values, or the place of the first that is outside its list
pub data Fields : Type 0 where
  outside : ℕ → Fields
  values : List Value → Fields

abbrev pub within : Bool → ℕ → Value → Fields
within true at v = values (v ∷ [])
within false at v = outside at

abbrev pub prepend : List Value → Fields → Fields
prepend vs (outside at) = outside at
prepend vs (values ws) = values (vs ++ ws)

abbrev pub and_then : Fields → Fields → Fields
and_then (outside at) rest = outside at
and_then (values vs) rest = prepend vs rest

-- a fixed string: the place of the first byte that differs
unfoldable pub same_bytes : List ℕ → ℕ → List ℕ → Fields
same_bytes s at [] = values []
same_bytes s at (b ∷ bs) = cond (eqb (get_or s at 0) b) (same_bytes s (at + 1) bs) (outside at)

-- one field at a place
abbrev pub read_field : List ℕ → ℕ → Field → Fields
read_field s at (number w rule) = within (rule (little_endian s at w)) at (natural (little_endian s at w))
read_field s at (high_first w) = values (natural (big_endian s at w) ∷ [])
read_field s at (signed w rule) =
    let z = twos_complement w (little_endian s at w) in
    within (rule z) at (integer z)
read_field s at float = within (is_finite (of_bits binary32 (little_endian s at 4))) at (real (of_bits binary32 (little_endian s at 4)))
read_field s at (fixed bytes) = same_bytes s at bytes

-- fields one after the other from a place on
abbrev pub read_fields : List ℕ → ℕ → List Field → Fields
read_fields s at [] = values []
read_fields s at (f ∷ fs) = and_then (read_field s at f) (read_fields s (at + width f) fs)
