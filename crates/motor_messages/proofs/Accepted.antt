-- Motor commands whose fields are all in their lists: the values that reading gives.
use Prim.Native.Nat.{ℕ}
use mathlib.Core.Path.{◌≡◌, sym, ◌∙◌, ap}
use mathlib.Core.Bool.{Bool, true}
use mathlib.Core.List.{List, [], ◌∷◌}
use borrow.Author.Tests.{eq-eqb}
use lib.Dec.{leb}
use lib.IntN.{ℤ}
use lib.ListN.{length, get_or}
use mir.Syntax.{Width}
use mir.Val.{SFits, to_z, of_z}
use mir.Facts.{to_z-of_z}
use Rattle.protocol.specs.Number.{little_endian, twos_complement}
use Rattle.protocol.specs.Rule.{between}
use Rattle.protocol.specs.Field.{natural, integer}
use Rattle.protocol.specs.Form
use Rattle.protocol.specs.Form.{layout, start_byte, signed_speed, degrees, end_state}
use Rattle.protocol.specs.Decode.{accepted, decode_form}

-- a test of a signed number that was read
pub tested : {w : Width} (rule : ℤ → Bool) (r z : ℤ) (b : Bool) → SFits w r → r ≡ z → b ≡ rule (to_z w (of_z w r)) → rule z ≡ b
tested rule r z b f e k = ap rule (sym e ∙ sym (to_z-of_z f)) ∙ sym k

module _ (s : List ℕ) (start : start_byte (get_or s 4 0) ≡ true) where
  pub speed_accepted : get_or s 5 0 ≡ 0x0C → length s ≡ 15 → degrees (twos_complement 4 (little_endian s 6 4)) ≡ true → signed_speed (twos_complement 1 (get_or s 10 0)) ≡ true → signed_speed (twos_complement 1 (get_or s 11 0)) ≡ true
      → (leb (get_or s 12 0) 100 ≡ true) × (end_state (get_or s 13 0) ≡ true) × (leb (get_or s 14 0) 3 ≡ true)
      → decode_form Form.start_speed_for_degrees s
      ≡ accepted Form.start_speed_for_degrees
      (natural (get_or s 3 0) ∷ natural (get_or s 4 0) ∷ natural 0x0C ∷ integer (twos_complement 4 (little_endian s 6 4)) ∷ integer (twos_complement 1 (get_or s 10 0)) ∷ integer (twos_complement 1 (get_or s 11 0))
      ∷ natural (get_or s 12 0) ∷ natural (get_or s 13 0) ∷ natural (get_or s 14 0) ∷ [])
  unfolding decode_form layout little_endian
  speed_accepted sub size turn left right inside = rw (eq-eqb (length s) 15 size, start, sub, turn, left, right, inside.0, inside.1, inside.2)

  pub position_accepted : get_or s 5 0 ≡ 0x0D → length s ≡ 14 → between 1 100 (get_or s 10 0) ≡ true → (leb (get_or s 11 0) 100 ≡ true) × (end_state (get_or s 12 0) ≡ true) × (leb (get_or s 13 0) 3 ≡ true)
      → decode_form Form.goto_absolute_position s
      ≡ accepted Form.goto_absolute_position
      (natural (get_or s 3 0) ∷ natural (get_or s 4 0) ∷ natural 0x0D ∷ integer (twos_complement 4 (little_endian s 6 4)) ∷ natural (get_or s 10 0)
      ∷ natural (get_or s 11 0) ∷ natural (get_or s 12 0) ∷ natural (get_or s 13 0) ∷ [])
  unfolding decode_form layout little_endian
  position_accepted sub size speed inside = rw (eq-eqb (length s) 14 size, start, sub, speed, inside.0, inside.1, inside.2)

  pub positions_accepted : get_or s 5 0 ≡ 0x0E → length s ≡ 18 → between 1 100 (get_or s 14 0) ≡ true → (leb (get_or s 15 0) 100 ≡ true) × (end_state (get_or s 16 0) ≡ true) × (leb (get_or s 17 0) 3 ≡ true)
      → decode_form Form.goto_absolute_positions s
      ≡ accepted Form.goto_absolute_positions
      (natural (get_or s 3 0) ∷ natural (get_or s 4 0) ∷ natural 0x0E ∷ integer (twos_complement 4 (little_endian s 6 4)) ∷ integer (twos_complement 4 (little_endian s 10 4)) ∷ natural (get_or s 14 0)
      ∷ natural (get_or s 15 0) ∷ natural (get_or s 16 0) ∷ natural (get_or s 17 0) ∷ [])
  unfolding decode_form layout little_endian
  positions_accepted sub size speed inside = rw (eq-eqb (length s) 18 size, start, sub, speed, inside.0, inside.1, inside.2)
