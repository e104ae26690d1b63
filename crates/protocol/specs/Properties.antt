-- Hub properties (0x01): which operation each permits, which way an operation goes, and the bounds of the payloads.
use Rattle.std.specs.Prelude.{ℕ, cond, ◌&&◌, List, [], ◌∷◌, eqb}
use Rattle.protocol.specs.Rule.{Rule, between, one_of}
use Rattle.protocol.specs.declared.Way.{Way}
use Rattle.protocol.specs.declared.Way.TheVariants.{Down, Up}

-- Set 1, Enable 2, Disable 3, Reset 4, Request 5 (down), Update 6 (up)
abbrev pub goes : Way → Rule
goes Down operation = between 1 5 operation
goes Up operation = eqb operation 6

-- the operations of a property: 1 name, all six; 2 button, 5 RSSI and 6 battery voltage, 2 3 5 6; 12 network id, 1 4 5 6; 15 network family, 1 5 6;
-- the other nine only 5 6
abbrev pub operations : ℕ → List ℕ
operations property =
    cond (eqb property 1) (1 ∷ 2 ∷ 3 ∷ 4 ∷ 5 ∷ 6 ∷ [])
    (cond (one_of (2 ∷ 5 ∷ 6 ∷ []) property) (2 ∷ 3 ∷ 5 ∷ 6 ∷ [])
    (cond (eqb property 12) (1 ∷ 4 ∷ 5 ∷ 6 ∷ []) (cond (eqb property 15) (1 ∷ 5 ∷ 6 ∷ []) (5 ∷ 6 ∷ []))))

unfoldable pub permits : ℕ → Rule
permits property operation = one_of (operations property) operation

unfoldable pub allowed : Way → ℕ → Rule
allowed way property operation = goes way operation && permits property operation

-- the place of the first selector of a 01 that is outside its list, 0 where neither is
unfoldable pub outside_selector : Way → ℕ → ℕ → ℕ
outside_selector way property operation = cond (between 1 15 property) (cond (allowed way property operation) 0 4) 3

-- Set and Update carry the payload
unfoldable pub carries : Rule
carries operation = one_of (1 ∷ 6 ∷ []) operation

-- the most bytes of a text: the name 14, the manufacturer's name and the radio firmware version 122
unfoldable pub longest : ℕ → ℕ
longest property = cond (eqb property 1) 14 122

-- the greatest value of a one-byte payload: button and battery type 1, battery voltage 100, network family 8, system type and network id any
unfoldable pub greatest : ℕ → ℕ
greatest property = cond (one_of (2 ∷ 7 ∷ []) property) 1 (cond (eqb property 6) 100 (cond (eqb property 15) 8 255))
