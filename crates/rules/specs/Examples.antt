-- Document 01's examples on ports, and some for each rule, as statements about the reader without a table, which demand 3
-- carries over to the table; and on which tables are sound.
use Rattle.std.specs.Prelude.{ℕ, ◌+◌, ◌≡◌, Bool, true, false, List, [], ◌∷◌, ◌++◌, map, ℤ, pos, neg_ℤ, length}
use Rattle.std.proofs.Math.Option.{Option, none, some}
use Rattle.std.specs.Float.{fin}
use Rattle.protocol.specs.Form.{up_from}
use Rattle.protocol.specs.declared.Message.TheVariants as Message'
use Rattle.protocol.specs.declared.Way.TheVariants.{Down, Up}
use Rattle.rules.specs.Answer.{Answer, refused, accepted, outcome}
use Rattle.rules.specs.Effect.{setup, Unchanged, Formatted, ToPort, ToVirtual, effect_of}
use Rattle.rules.specs.Facts.{Setup, Format, asked_single, answered_single, Settings, Wiring, Unjoined, Joined, Virtual, Facts}
use Rattle.rules.specs.ValueLookup.{value_experiment}
use Rattle.rules.specs.Judge.{refusal_unless_virtual, ports_named}
use Rattle.rules.specs.Learn.{bare_settings, learn}
use Rattle.rules.specs.Offer.{Entry, offer_by_past, dataset_by_past, view_of_past}
use Rattle.rules.specs.Present.{ports_below}
use Rattle.rules.specs.Table.{Record, Table, view_of_table, bare}
use Rattle.rules.specs.Dataset.{Dataset, Number, whole, float, stamped, whole_at, dataset_of}
use Rattle.rules.specs.Datasets.{all_datasets}
use Rattle.rules.specs.WellFormed.{well_formed}
use Rattle.rules.specs.Width.{width_of}

-- ---- messages

abbrev pub up : List ℕ → Entry
up s = record { way = Up; bytes = s; experiment = 0 }

abbrev pub down : List ℕ → Entry
down s = record { way = Down; bytes = s; experiment = 0 }

-- a message with another experiment number
abbrev pub during : ℕ → Entry → Entry
during n e = record { way = e.way; bytes = e.bytes; experiment = n }

abbrev pub attached : ℕ → Entry
attached port = up (0x0F ∷ 0x00 ∷ 0x04 ∷ port ∷ 0x01 ∷ 0x26 ∷ 0x00 ∷ 0x00 ∷ 0x00 ∷ 0x00 ∷ 0x10 ∷ 0x00 ∷ 0x00 ∷ 0x00 ∷ 0x10 ∷ [])

abbrev pub virtual : ℕ → ℕ → ℕ → Entry
virtual port a b = up (0x09 ∷ 0x00 ∷ 0x04 ∷ port ∷ 0x02 ∷ 0x26 ∷ 0x00 ∷ a ∷ b ∷ [])

abbrev pub detached : ℕ → Entry
detached port = up (0x05 ∷ 0x00 ∷ 0x04 ∷ port ∷ 0x00 ∷ [])

-- the rest is about port 0
abbrev request : Entry
request = down (0x05 ∷ 0x00 ∷ 0x21 ∷ 0x00 ∷ 0x01 ∷ [])

abbrev pub format : ℕ → ℕ → ℕ → Entry
format mode datasets kind = up (0x0A ∷ 0x00 ∷ 0x44 ∷ 0x00 ∷ mode ∷ 0x80 ∷ datasets ∷ kind ∷ 0x04 ∷ 0x00 ∷ [])

abbrev pub asked : ℕ → ℕ → ℕ → Entry
asked mode delta notify = down (0x0A ∷ 0x00 ∷ 0x41 ∷ 0x00 ∷ mode ∷ delta ∷ 0x00 ∷ 0x00 ∷ 0x00 ∷ notify ∷ [])

abbrev pub answered : ℕ → ℕ → ℕ → Entry
answered mode delta notify = up (0x0A ∷ 0x00 ∷ 0x47 ∷ 0x00 ∷ mode ∷ delta ∷ 0x00 ∷ 0x00 ∷ 0x00 ∷ notify ∷ [])

abbrev pub value : List ℕ → Entry
value bytes = up ((4 + length bytes) ∷ 0x00 ∷ 0x45 ∷ 0x00 ∷ bytes)

abbrev five : Entry
five = value (0x05 ∷ 0x00 ∷ 0x00 ∷ 0x00 ∷ [])

-- motor commands to a port: 0C, 0D, 0E and 14
abbrev for_degrees : ℕ → Entry
for_degrees port = down (0x0F ∷ 0x00 ∷ 0x81 ∷ port ∷ 0x11 ∷ 0x0C ∷ 0x5A ∷ 0x00 ∷ 0x00 ∷ 0x00 ∷ 0x9C ∷ 0x64 ∷ 0x64 ∷ 0x7F ∷ 0x03 ∷ [])

abbrev to_position : ℕ → Entry
to_position port = down (0x0E ∷ 0x00 ∷ 0x81 ∷ port ∷ 0x11 ∷ 0x0D ∷ 0x5A ∷ 0x00 ∷ 0x00 ∷ 0x00 ∷ 0x32 ∷ 0x64 ∷ 0x7F ∷ 0x03 ∷ [])

abbrev to_positions : ℕ → Entry
to_positions port = down (0x12 ∷ 0x00 ∷ 0x81 ∷ port ∷ 0x11 ∷ 0x0E ∷ 0x5A ∷ 0x00 ∷ 0x00 ∷ 0x00 ∷ 0xA6 ∷ 0xFF ∷ 0xFF ∷ 0xFF ∷ 0x32 ∷ 0x64 ∷ 0x7F ∷ 0x03 ∷ [])

abbrev encoders : ℕ → Entry
encoders port = down (0x0E ∷ 0x00 ∷ 0x81 ∷ port ∷ 0x11 ∷ 0x14 ∷ 0x00 ∷ 0x00 ∷ 0x00 ∷ 0x00 ∷ 0x00 ∷ 0x00 ∷ 0x00 ∷ 0x00 ∷ [])

-- their feedback, as pairs
abbrev feedback : List ℕ → Entry
feedback bytes = up ((3 + length bytes) ∷ 0x00 ∷ 0x82 ∷ bytes)

-- one of each form that wants its port present: 21, 22, 41 to 48, 81, 82 and a detachment
abbrev wanting : List Entry
wanting =
    request
    ∷ down (0x06 ∷ 0x00 ∷ 0x22 ∷ 0x00 ∷ 0x02 ∷ 0x80 ∷ [])
    ∷ asked 2 1 1
    ∷ down (0x05 ∷ 0x00 ∷ 0x42 ∷ 0x00 ∷ 0x06 ∷ [])
    ∷ down (0x07 ∷ 0x00 ∷ 0x42 ∷ 0x00 ∷ 0x01 ∷ 0x00 ∷ 0x10 ∷ [])
    ∷ up (0x0B ∷ 0x00 ∷ 0x43 ∷ 0x00 ∷ 0x01 ∷ 0x07 ∷ 0x06 ∷ 0x1E ∷ 0x00 ∷ 0x1F ∷ 0x00 ∷ [])
    ∷ up (0x07 ∷ 0x00 ∷ 0x43 ∷ 0x00 ∷ 0x02 ∷ 0x0E ∷ 0x00 ∷ [])
    ∷ up (0x07 ∷ 0x00 ∷ 0x44 ∷ 0x00 ∷ 0x02 ∷ 0x00 ∷ 0x41 ∷ [])
    ∷ up (0x0E ∷ 0x00 ∷ 0x44 ∷ 0x00 ∷ 0x02 ∷ 0x01 ∷ 0x00 ∷ 0x00 ∷ 0x00 ∷ 0x00 ∷ 0x00 ∷ 0x00 ∷ 0x48 ∷ 0x43 ∷ [])
    ∷ up (0x08 ∷ 0x00 ∷ 0x44 ∷ 0x00 ∷ 0x02 ∷ 0x05 ∷ 0x08 ∷ 0x00 ∷ [])
    ∷ up (0x07 ∷ 0x00 ∷ 0x44 ∷ 0x00 ∷ 0x02 ∷ 0x07 ∷ 0x05 ∷ [])
    ∷ up (0x0C ∷ 0x00 ∷ 0x44 ∷ 0x00 ∷ 0x02 ∷ 0x08 ∷ 0x00 ∷ 0x00 ∷ 0x00 ∷ 0x00 ∷ 0x00 ∷ 0x01 ∷ [])
    ∷ format 2 1 2
    ∷ five
    ∷ up (0x07 ∷ 0x00 ∷ 0x46 ∷ 0x00 ∷ 0x00 ∷ 0x00 ∷ 0x00 ∷ [])
    ∷ answered 2 1 1
    ∷ up (0x07 ∷ 0x00 ∷ 0x48 ∷ 0x00 ∷ 0x00 ∷ 0x00 ∷ 0x00 ∷ [])
    ∷ for_degrees 0
    ∷ to_position 0
    ∷ to_positions 0
    ∷ encoders 0
    ∷ feedback (0 ∷ 0x0A ∷ [])
    ∷ detached 0
    ∷ []

abbrev connect : ℕ → ℕ → Entry
connect a b = down (0x06 ∷ 0x00 ∷ 0x61 ∷ 0x01 ∷ a ∷ b ∷ [])

abbrev disconnect : ℕ → Entry
disconnect port = down (0x05 ∷ 0x00 ∷ 0x61 ∷ 0x00 ∷ port ∷ [])

-- 02 up, and down
abbrev action : ℕ → Entry
action a = up (0x04 ∷ 0x00 ∷ 0x02 ∷ a ∷ [])

abbrev shut_down : Entry
shut_down = down (0x04 ∷ 0x00 ∷ 0x02 ∷ 0x2F ∷ [])

-- ---- what is asked after some messages, in the order in which they were sent

abbrev pub latest_first : List Entry → List Entry → List Entry
latest_first past [] = past
latest_first past (e ∷ es) = latest_first (e ∷ past) es

pub data Outcome : Type 0 where
  -- whether a message is accepted
  offered : Answer (Unit {0}) → Outcome
  -- one of its datasets
  dataset : Answer Dataset → Outcome
  -- a port that is not present; one that is, with its device and wiring
  absent : Outcome
  present : ℕ → Wiring → Outcome
  -- a mode's format
  known : Option Format → Outcome
  -- a port's experiment number
  numbered : ℕ → Outcome
  -- whether a table is well formed
  fits : Bool → Outcome

pub record Example : Type 0 where
  pub said : Outcome
  pub wanted : Outcome

abbrev port_of : Option Facts → Outcome
port_of none = absent
port_of (some f) = present f.device f.wiring

abbrev format_of : ℕ → Option Facts → Outcome
format_of mode none = absent
format_of mode (some f) = known (f.settings.formats mode)

abbrev number_of : Option Facts → Outcome
number_of none = absent
number_of (some f) = numbered f.settings.experiment

abbrev offers : List Entry → Entry → Answer (Unit {0}) → Example
offers before e a = record { said = offered (outcome (offer_by_past (latest_first [] before) e)); wanted = offered a }

abbrev pub accepts : List Entry → Entry → Example
accepts before e = offers before e (accepted tt)

abbrev pub refuses : List Entry → Entry → ℕ → Example
refuses before e n = offers before e (refused n 0)

abbrev pub hands : List Entry → Entry → ℕ → Answer Dataset → Example
hands before e n a = record { said = dataset (dataset_by_past (latest_first [] before) e.way e.bytes n); wanted = dataset a }

abbrev knows : List Entry → ℕ → Outcome → Example
knows before port o = record { said = port_of (view_of_past (latest_first [] before) port); wanted = o }

-- of port 0
abbrev formats : List Entry → ℕ → Option Format → Example
formats before mode f = record { said = format_of mode (view_of_past (latest_first [] before) 0); wanted = known f }

abbrev pub numbers : List Entry → ℕ → Example
numbers before n = record { said = number_of (view_of_past (latest_first [] before) 0); wanted = numbered n }

-- ---- tables, which the reader does not have: a few records, and whether they are well formed

abbrev wired : ℕ → Wiring → Option Record
wired port w = some (record { port = port; facts = record { device = 0x26; wiring = w; settings = bare_settings } })

-- one port with the latest 47, the latest 41, the state and the experiment number
abbrev optional : {A B : Type 0} → (A → B) → Option A → Option B
optional f none = none
optional f (some a) = some (f a)

abbrev settled : Option Setup → Option Setup → ℕ → ℕ → Table
settled answered asked state experiment =
    some (record { port = 0; facts = record { device = 0x26; wiring = Unjoined; settings = record { formats = λ mode. none; answered = optional answered_single answered; asked = optional asked_single asked; list = none; state = state; experiment = experiment } } }) ∷ []

abbrev stated : Option Setup → Option Setup → ℕ → Table
stated answered asked state = settled answered asked state 0

-- one port with a format of mode 2: datasets, kind
abbrev formatted : ℕ → ℕ → Table
formatted n k =
    some (record {
      port = 0;
      facts = record {
        device = 0x26;
        wiring = Unjoined;
        settings = learn (Formatted 2 (record { datasets = n; kind = k; figures = 4; decimals = 0 })) [] bare_settings;
      };
    })
    ∷ []

abbrev pub table : Table → Bool → Example
table t b = record { said = fits (well_formed t); wanted = fits b }

-- ---- the examples

-- a motor whose mode 2 has one dataset of kind 2
abbrev motor : List Entry
motor = attached 0 ∷ format 2 1 2 ∷ []

-- ports 0 and 1, joined to port 16
abbrev pub joined : List Entry
joined = attached 0 ∷ attached 1 ∷ virtual 16 0 1 ∷ []

abbrev sixteen : List Entry
sixteen = map attached (up_from 0 16)

-- a value of two datasets of a kind, and the second of them
abbrev second : ℕ → List ℕ → Number → Example
second kind bytes n = hands (attached 0 ∷ format 2 2 kind ∷ answered 2 1 1 ∷ []) (value bytes) 1 (stamped 0 2 0 0 n)

-- the six records of the log reader's section
abbrev the_log : List Example
the_log =
    accepts [] (attached 0)
    ∷ accepts (attached 0 ∷ []) (format 2 1 2)
    ∷ refuses motor five 14
    ∷ accepts motor (asked 2 1 1)
    ∷ accepts (motor ++ (asked 2 1 1 ∷ [])) (answered 2 1 1)
    ∷ hands (motor ++ (asked 2 1 1 ∷ answered 2 1 1 ∷ [])) five 0 (stamped 0 2 2 0 (whole (pos 5)))
    ∷ []

-- states 0, 1 (read by the mode that was answered, not by the one asked for) and 3: another delta, notify, mode
abbrev states : List Example
states =
    hands (motor ++ (answered 2 1 1 ∷ [])) five 0 (stamped 0 2 0 0 (whole (pos 5)))
    ∷ hands (motor ++ (format 3 1 0 ∷ answered 2 1 1 ∷ asked 3 1 1 ∷ [])) five 0 (stamped 0 2 1 0 (whole (pos 5)))
    ∷ hands (motor ++ (asked 2 1 1 ∷ answered 2 9 1 ∷ [])) five 0 (stamped 0 2 3 0 (whole (pos 5)))
    ∷ hands (motor ++ (asked 2 1 1 ∷ answered 2 1 0 ∷ [])) five 0 (stamped 0 2 3 0 (whole (pos 5)))
    ∷ hands (motor ++ (asked 3 1 1 ∷ answered 2 1 1 ∷ [])) five 0 (stamped 0 2 3 0 (whole (pos 5)))
    ∷ []

-- experiment numbers
abbrev experiments : List Example
experiments =
    -- the 41's, not the 47's, in state 2 only; the port keeps its number in states 1 and 3
    hands (motor ++ (during 7 (asked 2 1 1) ∷ during 8 (answered 2 1 1) ∷ [])) five 0 (stamped 0 2 2 7 (whole (pos 5)))
    ∷ hands (motor ++ (answered 2 1 1 ∷ during 7 (asked 2 1 1) ∷ [])) five 0 (stamped 0 2 1 0 (whole (pos 5)))
    ∷ hands (motor ++ (during 7 (asked 2 1 1) ∷ answered 2 9 1 ∷ [])) five 0 (stamped 0 2 3 0 (whole (pos 5)))
    ∷ numbers (motor ++ (answered 2 1 1 ∷ during 7 (asked 2 1 1) ∷ [])) 7
    ∷ numbers (motor ++ (during 7 (asked 2 1 1) ∷ answered 2 9 1 ∷ [])) 7
    -- the latest 41's; a refused one leaves no trace: another mode than there is, a port that is not present
    ∷ numbers (motor ++ (during 7 (asked 2 1 1) ∷ during 65535 (asked 2 1 1) ∷ [])) 65535
    ∷ numbers (motor ++ (during 7 (asked 2 1 1) ∷ during 8 (asked 16 1 1) ∷ [])) 7
    ∷ numbers (during 7 (asked 2 1 1) ∷ motor) 0
    -- nor does any message that is no 41; 0 before any 41, and after a new attachment
    ∷ numbers (map (during 7) motor ++ (during 8 (answered 2 1 1) ∷ during 9 five ∷ [])) 0
    ∷ numbers (motor ++ (during 7 (asked 2 1 1) ∷ detached 0 ∷ attached 0 ∷ [])) 0
    ∷ []

-- 11, before 12
abbrev attachments : List Example
attachments =
    refuses (attached 0 ∷ []) (attached 0) 11
    ∷ refuses (attached 0 ∷ []) (virtual 0 0 0) 11
    -- 12: the same member twice, an absent one, a joined one, a virtual one
    ∷ accepts (attached 0 ∷ attached 1 ∷ []) (virtual 16 0 1)
    ∷ refuses (attached 0 ∷ attached 1 ∷ []) (virtual 16 0 0) 12
    ∷ refuses (attached 0 ∷ []) (virtual 16 0 1) 12
    ∷ refuses (joined ++ (attached 2 ∷ [])) (virtual 17 1 2) 12
    ∷ refuses (joined ++ (attached 2 ∷ [])) (virtual 17 2 16) 12
    ∷ []

-- 61
abbrev pairs : List Example
pairs =
    accepts (attached 0 ∷ attached 1 ∷ []) (connect 0 1)
    ∷ refuses joined (connect 0 1) 12
    ∷ accepts joined (disconnect 16)
    ∷ refuses joined (disconnect 0) 12
    ∷ refuses joined (disconnect 2) 10
    ∷ []

-- 81: a member and an unjoined port take 0D
abbrev to_physical : List Example
to_physical =
    accepts motor (to_position 0)
    ∷ accepts joined (to_position 0)
    ∷ []

-- the others are 22 there, after 10
abbrev not_virtual : List Example
not_virtual =
    refuses motor (for_degrees 0) 22
    ∷ refuses joined (for_degrees 0) 22
    ∷ refuses joined (to_positions 1) 22
    ∷ refuses joined (encoders 1) 22
    ∷ refuses joined (for_degrees 2) 10
    ∷ []

-- a virtual port takes all four, until a member is pulled
abbrev to_virtual : List Example
to_virtual =
    accepts joined (for_degrees 16)
    ∷ accepts joined (to_position 16)
    ∷ accepts joined (to_positions 16)
    ∷ accepts joined (encoders 16)
    ∷ refuses (joined ++ (detached 1 ∷ [])) (to_positions 16) 10
    ∷ []

-- the fields come before the port; no datasets; nothing is changed
abbrev commands : List Example
commands =
    offers [] (down (0x0E ∷ 0x00 ∷ 0x81 ∷ 0x00 ∷ 0x21 ∷ 0x14 ∷ 0x00 ∷ 0x00 ∷ 0x00 ∷ 0x00 ∷ 0x00 ∷ 0x00 ∷ 0x00 ∷ 0x00 ∷ [])) (refused 7 4)
    ∷ hands joined (to_positions 16) 0 (refused 17 0)
    ∷ hands joined (to_positions 0) 0 (refused 22 0)
    ∷ knows (joined ++ (for_degrees 16 ∷ encoders 16 ∷ [])) 16 (present 0x26 (Virtual 0 1))
    ∷ []

-- 82: every port named is present, a port may be named twice; the fields come first
abbrev feedbacks : List Example
feedbacks =
    accepts joined (feedback (16 ∷ 0x0A ∷ []))
    ∷ accepts joined (feedback (16 ∷ 0x0A ∷ 0 ∷ 0x1F ∷ 1 ∷ 0x00 ∷ 16 ∷ 0x01 ∷ []))
    ∷ refuses joined (feedback (2 ∷ 0x0A ∷ 16 ∷ 0x0A ∷ [])) 10
    ∷ refuses joined (feedback (16 ∷ 0x0A ∷ 2 ∷ 0x0A ∷ [])) 10
    ∷ refuses joined (feedback (16 ∷ 0x0A ∷ 0 ∷ 0x0A ∷ 2 ∷ 0x0A ∷ [])) 10
    ∷ offers joined (feedback (2 ∷ 0x0A ∷ 16 ∷ 0x20 ∷ [])) (refused 7 6)
    ∷ hands joined (feedback (16 ∷ 0x0A ∷ [])) 0 (refused 17 0)
    ∷ hands joined (feedback (2 ∷ 0x0A ∷ [])) 0 (refused 10 0)
    ∷ knows (joined ++ (feedback (16 ∷ 0x04 ∷ []) ∷ [])) 16 (present 0x26 (Virtual 0 1))
    ∷ []

-- 13 at the seventeenth; none after a detachment
abbrev sixteen_ports : List Example
sixteen_ports =
    refuses sixteen (attached 16) 13
    ∷ accepts (sixteen ++ (detached 3 ∷ [])) (attached 16)
    ∷ []

-- 6 with the size that is wanted, before 10 and 14; 15 to 18
abbrev readings : List Example
readings =
    offers motor (value []) (refused 6 5)
    ∷ offers [] (down (0x09 ∷ 0x00 ∷ 0x41 ∷ 0x00 ∷ 0x02 ∷ 0x01 ∷ 0x00 ∷ 0x00 ∷ 0x00 ∷ [])) (refused 6 10)
    ∷ hands motor (value []) 0 (refused 6 5)
    ∷ refuses (attached 0 ∷ answered 2 1 1 ∷ []) five 15
    ∷ refuses (motor ++ (answered 2 1 1 ∷ [])) (value (0x05 ∷ 0x00 ∷ 0x00 ∷ [])) 16
    ∷ hands (motor ++ (answered 2 1 1 ∷ [])) five 1 (refused 17 0)
    ∷ hands motor (attached 1) 0 (refused 17 0)
    ∷ hands (attached 0 ∷ format 2 1 3 ∷ answered 2 1 1 ∷ []) (value (0x00 ∷ 0x00 ∷ 0x80 ∷ 0x7F ∷ [])) 0 (refused 18 0)
    ∷ []

-- two datasets of each kind, the second below 0, and a float
abbrev datasets : List Example
datasets =
    second 0 (0x01 ∷ 0xFF ∷ []) (whole (neg_ℤ (pos 1)))
    ∷ second 1 (0x02 ∷ 0x01 ∷ 0xFD ∷ 0xFF ∷ []) (whole (neg_ℤ (pos 3)))
    ∷ second 2 (0x01 ∷ 0x00 ∷ 0x00 ∷ 0x00 ∷ 0xFD ∷ 0xFF ∷ 0xFF ∷ 0xFF ∷ []) (whole (neg_ℤ (pos 3)))
    ∷ second 3 (0x00 ∷ 0x00 ∷ 0x00 ∷ 0x00 ∷ 0x00 ∷ 0x00 ∷ 0x48 ∷ 0x43 ∷ []) (float (fin false 25 (pos 3)))
    ∷ []

-- members as sent; a pulled member; what is told is forgotten with the port; 30 to 32 empty the table
abbrev ports : List Example
ports =
    knows (attached 0 ∷ attached 1 ∷ virtual 16 1 0 ∷ []) 16 (present 0x26 (Virtual 1 0))
    ∷ knows joined 1 (present 0x26 (Joined 16))
    ∷ knows (joined ++ (detached 0 ∷ [])) 16 absent
    ∷ knows (joined ++ (detached 0 ∷ [])) 1 (present 0x26 Unjoined)
    ∷ refuses (motor ++ (answered 2 1 1 ∷ detached 0 ∷ attached 0 ∷ [])) five 14
    ∷ formats motor 2 (some (record { datasets = 1; kind = 2; figures = 4; decimals = 0 }))
    ∷ knows (joined ++ (action 0x30 ∷ [])) 1 absent
    ∷ knows (joined ++ (action 0x32 ∷ [])) 1 absent
    ∷ knows (joined ++ (shut_down ∷ [])) 1 (present 0x26 (Joined 16))
    ∷ []

-- a port twice; joined to nothing; a pair, its member unjoined, the same member twice, a third one joined
abbrev wirings : List Example
wirings =
    table (wired 0 Unjoined ∷ wired 0 Unjoined ∷ []) false
    ∷ table (wired 0 (Joined 16) ∷ []) false
    ∷ table (wired 0 (Joined 16) ∷ wired 16 (Virtual 0 1) ∷ none ∷ wired 1 (Joined 16) ∷ []) true
    ∷ table (wired 0 (Joined 16) ∷ wired 16 (Virtual 0 1) ∷ wired 1 Unjoined ∷ []) false
    ∷ table (wired 0 (Joined 16) ∷ wired 16 (Virtual 0 0) ∷ []) false
    ∷ table (wired 0 (Joined 16) ∷ wired 16 (Virtual 0 1) ∷ wired 1 (Joined 16) ∷ wired 2 (Joined 16) ∷ []) false
    ∷ []

-- states and experiment numbers that fit, and that don't; fields outside their lists
abbrev fields : List Example
fields =
    table (stated none none 1) false
    ∷ table (stated none (some (setup 2 1 1)) 1) true
    ∷ table (stated none (some (setup 2 1 1)) 2) false
    ∷ table (stated (some (setup 2 1 1)) (some (setup 2 1 1)) 2) true
    ∷ table (stated (some (setup 2 1 1)) (some (setup 2 1 1)) 1) true
    ∷ table (stated (some (setup 2 1 0)) (some (setup 2 1 1)) 2) false
    ∷ table (stated (some (setup 2 1 0)) (some (setup 2 1 1)) 3) true
    ∷ table (stated (some (setup 16 1 1)) none 0) false
    ∷ table (stated (some (setup 2 1 2)) none 0) false
    ∷ table (settled none (some (setup 2 1 1)) 1 65535) true
    ∷ table (settled none (some (setup 2 1 1)) 1 65536) false
    ∷ table (settled (some (setup 2 1 1)) none 0 1) false
    ∷ table (formatted 16 3) true
    ∷ table (formatted 17 3) false
    ∷ table (formatted 0 3) false
    ∷ table (formatted 16 4) false
    ∷ []

-- 10; accepted where the port is present
abbrev presence : List Example
presence =
    accepts (attached 0 ∷ []) request
    ∷ map (λ e. refuses [] e 10) wanting

-- bytes of a dataset, by kind
abbrev Widths : Type 0
Widths = map width_of (0 ∷ 1 ∷ 2 ∷ 3 ∷ []) ≡ 1 ∷ 2 ∷ 4 ∷ 4 ∷ []

-- three datasets of a kind, each with its own sign
abbrev three : ℕ → List ℕ → List ℤ
three kind bytes = map (whole_at kind bytes) (0 ∷ 1 ∷ 2 ∷ [])

abbrev WholeNumbers : Type 0
WholeNumbers =
    (three 0 (0xFF ∷ 0x7F ∷ 0x80 ∷ []) ≡ neg_ℤ (pos 1) ∷ pos 127 ∷ neg_ℤ (pos 128) ∷ [])
    × (three 1 (0xFD ∷ 0xFF ∷ 0xFF ∷ 0x7F ∷ 0x00 ∷ 0x80 ∷ []) ≡ neg_ℤ (pos 3) ∷ pos 32767 ∷ neg_ℤ (pos 32768) ∷ [])
    × (three 2 (0xFD ∷ 0xFF ∷ 0xFF ∷ 0xFF ∷ 0xFF ∷ 0xFF ∷ 0xFF ∷ 0x7F ∷ 0x00 ∷ 0x00 ∷ 0x00 ∷ 0x80 ∷ []) ≡ neg_ℤ (pos 3) ∷ pos 2147483647 ∷ neg_ℤ (pos 2147483648) ∷ [])

-- all datasets of a value of port 7 in mode 2, by their number and kind: two signed bytes; a float, 1; an infinity after a float; and of
-- a message that has none
abbrev of_port : Number → Dataset
of_port n = record { port = 7; mode = 2; state = 1; experiment = 0; value = n }

abbrev value_of : ℕ → ℕ → List ℕ → Answer (List Dataset)
value_of count kind bytes = all_datasets (dataset_of 7 2 1 0 (record { datasets = count; kind = kind; figures = 0; decimals = 0 }) bytes)

abbrev AllDatasets : Type 0
AllDatasets =
    (value_of 2 0 (0x05 ∷ 0xFF ∷ []) ≡ accepted (of_port (whole (pos 5)) ∷ of_port (whole (neg_ℤ (pos 1))) ∷ []))
    × (value_of 1 3 (0x00 ∷ 0x00 ∷ 0x80 ∷ 0x3F ∷ []) ≡ accepted (of_port (float (fin false 1 (pos 0))) ∷ []))
    × (value_of 2 3 (0x00 ∷ 0x00 ∷ 0x80 ∷ 0x3F ∷ 0x00 ∷ 0x00 ∷ 0x80 ∷ 0x7F ∷ []) ≡ refused 18 0)
    × (all_datasets (λ number. refused 17 0) ≡ refused 17 0)

-- the ports below 10 of a table with ports 7, 12 and 0
abbrev unjoined : ℕ → Option Record
unjoined port = some (record { port = port; facts = bare 0x26 Unjoined })

abbrev PortsInOrder : Type 0
PortsInOrder = ports_below 10 (view_of_table (unjoined 7 ∷ none ∷ unjoined 12 ∷ unjoined 0 ∷ [])) ≡ 0 ∷ 7 ∷ []

-- a value's experiment number at a port whose number is 7, by the state
abbrev in_state : ℕ → Settings
in_state state = record { formats = λ mode. none; answered = none; asked = none; list = none; state = state; experiment = 7 }

abbrev ValueExperiments : Type 0
ValueExperiments = map (λ state. value_experiment (in_state state)) (0 ∷ 1 ∷ 2 ∷ 3 ∷ []) ≡ 0 ∷ 0 ∷ 7 ∷ 0 ∷ []

-- a disconnection of an absent port, an unjoined one, a joined one and a virtual one; and a command to each of them
abbrev one_of_each : List (Option Facts)
one_of_each = none ∷ some (bare 0x26 Unjoined) ∷ some (bare 0x26 (Joined 16)) ∷ some (bare 0x26 (Virtual 0 1)) ∷ []

abbrev Disconnections : Type 0
Disconnections = map (refusal_unless_virtual 12) one_of_each ≡ 10 ∷ 12 ∷ 12 ∷ 0 ∷ []

abbrev Commands : Type 0
Commands = map (refusal_unless_virtual 22) one_of_each ≡ 10 ∷ 22 ∷ 22 ∷ 0 ∷ []

-- what 0C, 0D, 0E and 14 to port 7 are to a table: 0D goes to any port, the others to a virtual one
abbrev CommandEffects : Type 0
CommandEffects =
    map (effect_of 0)
    (Message'.StartSpeedForDegrees 7 0x11 (pos 90) (pos 50) (pos 50) 100 127 3
    ∷ Message'.GotoAbsolutePosition 7 0x11 (pos 90) 50 100 127 3
    ∷ Message'.GotoAbsolutePositions 7 0x11 (pos 90) (pos 90) 50 100 127 3
    ∷ Message'.PresetEncoders 7 0x11 (pos 0) (pos 0)
    ∷ [])
    ≡ ToVirtual 7 ∷ ToPort 7 Unchanged ∷ ToVirtual 7 ∷ ToVirtual 7 ∷ []

-- the ports of three pairs
abbrev PortsOfPairs : Type 0
PortsOfPairs = ports_named (16 ∷ 0x0A ∷ 0 ∷ 0x01 ∷ 7 ∷ 0x02 ∷ []) ≡ 16 ∷ 0 ∷ 7 ∷ []

-- what was said is what was wanted, row by row
abbrev pub Hold : List Example → Type 0
Hold rows = map (λ e. e.said) rows ≡ map (λ e. e.wanted) rows

-- one statement, `examples_hold` in proofs/Examples.antt
abbrev pub ExamplesHold : Type 0
ExamplesHold =
    Widths
    × WholeNumbers
    × AllDatasets
    × PortsInOrder
    × ValueExperiments
    × Disconnections
    × Commands
    × CommandEffects
    × PortsOfPairs
    × Hold the_log
    × Hold states
    × Hold experiments
    × Hold attachments
    × Hold pairs
    × Hold to_physical
    × Hold not_virtual
    × Hold to_virtual
    × Hold commands
    × Hold feedbacks
    × Hold sixteen_ports
    × Hold readings
    × Hold datasets
    × Hold ports
    × Hold wirings
    × Hold fields
    × Hold presence
