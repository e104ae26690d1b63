-- Ports don't wait for each other (document 02, W11): two messages whose ports differ commute. Offered in either order to any table they
-- leave the same cells, each gets the same answer, and each keeps its own experiment number. Document 02 wants it of sound tables; any
-- other refuses both with 9 and stays as it is. It is proved in proofs/Commute.antt, for whatever a port may be told; that the other
-- conditions matter is shown in OrderExamples.antt.
use Rattle.std.specs.Prelude.{ℕ, ◌≡◌, Bool, true, false, not, ◌&&◌, ◌||◌, List, [], ◌∷◌, eqb, get_or}
use Rattle.std.proofs.Math.Option.{Option, none, some}
use Rattle.protocol.specs.Rule.{one_of}
use Rattle.protocol.specs.Decode as Decode
use Rattle.protocol.specs.Decode.{decode}
use Rattle.protocol.specs.declared.Way.{Way}
use Rattle.rules.specs.Facts.{Facts}
use Rattle.rules.specs.Offer.{Entry, offer_by_cells, cells_after, dataset_by_cells, values_by_cells, view_of_cells}
use Rattle.rules.specs.Demand3.{EntryFits}
use Rattle.rules.specs.Laws.{accepted_asking}

-- ---- which messages

-- the types that tell one port something and nothing else
abbrev pub port_types : List ℕ
port_types = 0x41 ∷ 0x42 ∷ 0x44 ∷ 0x47 ∷ 0x48 ∷ []

-- byte 2 of a message is its type; of these types byte 3 is the port
abbrev pub type_byte : Entry → ℕ
type_byte e = get_or e.bytes 2 0

abbrev pub port_byte : Entry → ℕ
port_byte e = get_or e.bytes 3 0

abbrev pub is_accepted : Decode.Answer → Bool
is_accepted (Decode.refused n place) = false
is_accepted (Decode.accepted f vs) = true

-- reading accepts it
abbrev pub readable : Entry → Bool
readable e = is_accepted (decode e.way e.bytes)

-- one of these types, or refused by reading
abbrev pub of_port_type : Entry → Bool
of_port_type e = one_of port_types (type_byte e) || not (readable e)

-- the ports differ where reading accepts both
abbrev pub ports_differ : Entry → Entry → Bool
ports_differ one two = not (readable one && readable two && eqb (port_byte one) (port_byte two))

-- ---- the statement

-- the experiment number of a port; none where it is not present
abbrev pub experiment_of : Option Facts → Option ℕ
experiment_of none = none
experiment_of (some f) = some f.settings.experiment

-- a message with another one before or after it: at its port it leaves what it leaves there alone, an accepted asking its own number
pub record KeepsOwn (cells after : List ℕ) (e : Entry) (port : ℕ) : Type 0 where
  pub facts : view_of_cells after port ≡ view_of_cells (cells_after cells e) port
  pub experiment : accepted_asking (offer_by_cells cells e) ≡ true → experiment_of (view_of_cells after port) ≡ some e.experiment

-- two tables that no call tells apart: equal in every cell, and so in what is known of every port, its experiment number with it, and
-- in every dataset of every message that is tried
pub record SameTable (cells cells' : List ℕ) : Type 0 where
  pub same : cells ≡ cells'
  pub ports : (port : ℕ) → view_of_cells cells port ≡ view_of_cells cells' port
  pub datasets : (way : Way) (bytes : List ℕ) (number : ℕ) → dataset_by_cells cells way bytes number ≡ dataset_by_cells cells' way bytes number
  pub values : (way : Way) (bytes : List ℕ) → values_by_cells cells way bytes ≡ values_by_cells cells' way bytes

-- the two in either order
pub record Commute (cells : List ℕ) (one two : Entry) : Type 0 where
  pub table : SameTable (cells_after (cells_after cells one) two) (cells_after (cells_after cells two) one)
  -- an answer is a refusal with its number and its place, or what the message is to the table
  pub first : offer_by_cells (cells_after cells two) one ≡ offer_by_cells cells one
  pub second : offer_by_cells (cells_after cells one) two ≡ offer_by_cells cells two
  pub first_own : readable one ≡ true → KeepsOwn cells (cells_after (cells_after cells one) two) one (port_byte one)
  pub second_own : readable two ≡ true → KeepsOwn cells (cells_after (cells_after cells one) two) two (port_byte two)

abbrev pub PortsCommute : Type 0
PortsCommute =
    (cells : List ℕ) (one two : Entry) → EntryFits one → EntryFits two
    → of_port_type one ≡ true → of_port_type two ≡ true → ports_differ one two ≡ true
    → Commute cells one two
