-- Power, end state and profile of a 0C: the refusal of the first that is outside its list is that of the message.
use Rattle.std.proofs.Common.{◌≡◌, ℕ, true, List, length, get_or}
use borrow.Author.Tests.{eq-eqb}
use Rattle.std.specs.Prelude.{Err, refl}
use Rattle.protocol.specs.Number.{little_endian, twos_complement}
use Rattle.protocol.specs.Field.{Fields, outside, values, read_fields}
use Rattle.protocol.specs.Form
use Rattle.protocol.specs.Form.{layout, start_byte, degrees, signed_speed, ending}
use Rattle.protocol.specs.Decode.{refused, decode_form}
use Rattle.protocol.specs.declared.refusal.Refusal.{Refusal}
use Rattle.protocol.specs.declared.refusal.Refusal.TheVariants.{OutsideList}
use Rattle.protocol.specs.Refusal.{number_of, place_of}
use Rattle.hub_messages.specs.Outcome.{outcome}

refused_fields : (r : Refusal) (x : Fields) → Err r ≡ outcome x → (x ≡ outside (place_of r)) × (number_of r ≡ 7)
refused_fields r (outside at) e = let is : r ≡ OutsideList at = cc in rw is (refl, refl)
refused_fields r (values vs) e = absurd (cc)

pub speed_refused : (s : List ℕ) (r : Refusal) → length s ≡ 15 → start_byte (get_or s 4 0) ≡ true → degrees (twos_complement 4 (little_endian s 6 4)) ≡ true → signed_speed (twos_complement 1 (get_or s 10 0)) ≡ true → signed_speed (twos_complement 1 (get_or s 11 0)) ≡ true
    → Err r ≡ outcome (read_fields s 12 ending) → decode_form Form.start_speed_for_degrees s ≡ refused (number_of r) (place_of r)
unfolding decode_form layout little_endian
speed_refused s r size start turn left right e = rw (eq-eqb (length s) 15 size, start, turn, left, right, (refused_fields r (read_fields s 12 ending) e).0, (refused_fields r (read_fields s 12 ending) e).1)
