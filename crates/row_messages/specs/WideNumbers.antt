-- The number that stands for wider ones is in no list of document 01: a statement about the layouts and the selectors, proved in
-- proofs/WideNumbers.antt. So a wider number in a field that has a list is outside of it.
use Rattle.std.specs.Prelude.{ℕ, ◌^◌, ◌<◌, ◌≡◌, true, false, List, [], ◌∷◌, ℤ}
use Rattle.protocol.specs.Field.{Field, number, high_first, signed, float, fixed}
use Rattle.protocol.specs.Form.{Form, layout}
use Rattle.protocol.specs.Encode.{in_range}
use Rattle.protocol.specs.Types.{Selection, always, select, Row, types}
use Rattle.protocol.specs.declared.Way.{Way}
use Rattle.row_messages.specs.RowWriting.{in_place_of_wider, least_signed}

-- it is in a field's list only if every number of that width is
abbrev Apart : Field → Type 0
Apart (number w rule) = rule (in_place_of_wider w) ≡ true → (n : ℕ) → n < 256 ^ w → rule n ≡ true
Apart (high_first w) = Unit {0}
Apart (signed w rule) = rule (least_signed w) ≡ true → (z : ℤ) → in_range w z ≡ true → rule z ≡ true
Apart float = Unit {0}
Apart (fixed bytes) = Unit {0}

abbrev pub AllApart : List Field → Type 0
AllApart [] = Unit {0}
AllApart (f ∷ fs) = Apart f × AllApart fs

-- and in no selector's
abbrev pub NoSelector : Selection → Type 0
NoSelector (always f) = Unit {0}
NoSelector (select offset rule next) = (rule (in_place_of_wider 1) ≡ false) × ((v : ℕ) → NoSelector (next v))

abbrev pub NoSelectors : List Row → Type 0
NoSelectors [] = Unit {0}
NoSelectors (r ∷ rs) = NoSelector r.type × NoSelectors rs

abbrev pub WiderIsOutside : Type 0
WiderIsOutside = ((f : Form) → AllApart (layout f).fields) × ((way : Way) → NoSelectors (types way))
