-- Combined mode (42, 46 and 48): examples of document 02's W2, as statements about the reader without a table, which demand 3 carries
-- over to the table; and on which tables are sound.
use Rattle.std.specs.Prelude.{ℕ, ◌+◌, ◌≡◌, true, false, cond, List, [], ◌∷◌, ◌++◌, map, eqb, ℤ, pos, neg_ℤ, length}
use Rattle.std.proofs.Math.Option.{Option, none, some}
use Rattle.rules.specs.Answer.{Answer, refused}
use Rattle.rules.specs.Effect.{setup}
use Rattle.rules.specs.Facts.{Asking, asked_single, asked_combined, Answering, answered_single, answered_combined, Format, Unjoined}
use Rattle.rules.specs.Entries.{entry_mode, entry_dataset}
use Rattle.rules.specs.Judge.{entries_refusal}
use Rattle.rules.specs.Latest.{names_all}
use Rattle.rules.specs.Learn.{whole_list}
use Rattle.rules.specs.Offer.{Entry}
use Rattle.rules.specs.Pointers.{ones_of, pointed, pointers_fit, pointers_among}
use Rattle.rules.specs.Table.{Table}
use Rattle.rules.specs.Dataset.{Dataset, whole, stamped}
use Rattle.rules.specs.Examples.{Example, up, down, during, attached, detached, format, asked, answered, value, accepts, refuses, hands, numbers, table, Hold}

-- ---- messages, all about port 0

abbrev list : List ℕ → Entry
list entries = down ((6 + length entries) ∷ 0x00 ∷ 0x42 ∷ 0x00 ∷ 0x01 ∷ 0x00 ∷ entries)

abbrev reset : Entry
reset = down (0x05 ∷ 0x00 ∷ 0x42 ∷ 0x00 ∷ 0x06 ∷ [])

-- a 48 and a 46, with their pointers
abbrev taken : ℕ → Entry
taken pointers = up (0x07 ∷ 0x00 ∷ 0x48 ∷ 0x00 ∷ 0x00 ∷ pointers ∷ 0x00 ∷ [])

abbrev values : ℕ → List ℕ → Entry
values pointers bytes = up ((6 + length bytes) ∷ 0x00 ∷ 0x46 ∷ 0x00 ∷ pointers ∷ 0x00 ∷ bytes)

-- of mode 1 one dataset of one byte, of mode 2 two of two bytes
abbrev sensor : List Entry
sensor = attached 0 ∷ format 1 1 0 ∷ format 2 2 1 ∷ []

-- dataset 0 of mode 1 and dataset 1 of mode 2, asked for with number 9
abbrev listed : List Entry
listed = sensor ++ (during 9 (list (0x10 ∷ 0x21 ∷ [])) ∷ [])

abbrev combined : List Entry
combined = listed ++ (taken 3 ∷ [])

-- both values, of which -128 comes first
abbrev both : Entry
both = values 3 (0x80 ∷ 0xFE ∷ 0xFF ∷ [])

abbrev minus : ℕ → ℤ
minus n = neg_ℤ (pos n)

abbrev said : ℕ → ℕ → ℕ → ℕ → Answer Dataset
said mode state number n = stamped 0 mode state number (whole (minus n))

-- ---- the examples

-- the values in the order of the pointers, each by its entry's mode; 17 past them; one of them by its own pointer
abbrev handed : List Example
handed =
    accepts combined both
    ∷ hands combined both 0 (said 1 2 9 128)
    ∷ hands combined both 1 (said 2 2 9 2)
    ∷ hands combined both 2 (refused 17 0)
    ∷ hands combined (values 2 (0xFE ∷ 0xFF ∷ [])) 0 (said 2 2 9 2)
    ∷ []

-- a 46 is read by the list that its 48 took over, also after a new list and after a 48 that is refused; a second 48 takes the new one
abbrev taken_over : List Example
taken_over =
    hands (combined ++ (list (0x21 ∷ []) ∷ [])) both 0 (said 1 1 0 128)
    ∷ refuses (combined ++ (list (0x21 ∷ []) ∷ [])) (taken 3) 21
    ∷ hands (combined ++ (list (0x21 ∷ []) ∷ taken 3 ∷ [])) both 0 (said 1 1 0 128)
    ∷ hands (combined ++ (list (0x21 ∷ []) ∷ taken 1 ∷ [])) (values 1 (0xFE ∷ 0xFF ∷ [])) 0 (said 2 2 0 2)
    ∷ refuses (combined ++ (list (0x21 ∷ []) ∷ taken 1 ∷ [])) both 21
    ∷ []

-- 3: pointers short of the list, a 48 after a 41, which leaves the list, and a 47 after a list; 1: nothing answered since; and the number
-- of the latest asking
abbrev states : List Example
states =
    hands (listed ++ (taken 1 ∷ [])) (values 1 (0x80 ∷ [])) 0 (said 1 3 0 128)
    ∷ hands (listed ++ (asked 1 1 1 ∷ taken 3 ∷ [])) both 0 (said 1 3 0 128)
    ∷ hands (combined ++ (asked 1 1 1 ∷ [])) both 0 (said 1 1 0 128)
    ∷ hands (listed ++ (answered 1 1 1 ∷ [])) (value (0x80 ∷ [])) 0 (said 1 3 0 128)
    ∷ hands (combined ++ (during 4 (asked 1 1 1) ∷ answered 1 1 1 ∷ [])) (value (0x80 ∷ [])) 0 (said 1 2 4 128)
    ∷ numbers combined 9
    ∷ numbers (combined ++ (during 4 (asked 1 1 1) ∷ [])) 4
    ∷ []

-- 14 of a 45 to a combined port; a 47 makes it single again, and no other sub command does; 10, then 20, then 21
abbrev not_combined : List Example
not_combined =
    refuses combined (value (0x80 ∷ [])) 14
    ∷ accepts (combined ++ (answered 1 1 1 ∷ [])) (value (0x80 ∷ []))
    ∷ refuses (combined ++ (answered 1 1 1 ∷ [])) both 20
    ∷ accepts (combined ++ (reset ∷ [])) both
    ∷ refuses listed both 20
    ∷ refuses listed (values 0 (0x80 ∷ [])) 20
    ∷ refuses [] (values 0 (0x80 ∷ [])) 10
    ∷ []

-- 21 of a 48: no list, none since the attachment, a pointer past it, none set; of a 46: none set, one that the 48 hasn't
abbrev pointers : List Example
pointers =
    refuses sensor (taken 1) 21
    ∷ refuses (listed ++ (detached 0 ∷ attached 0 ∷ [])) (taken 1) 21
    ∷ refuses listed (taken 4) 21
    ∷ refuses listed (taken 0) 21
    ∷ accepts listed (taken 2)
    ∷ refuses combined (values 0 (0x80 ∷ [])) 21
    ∷ refuses (listed ++ (taken 2 ∷ [])) both 21
    ∷ refuses (combined ++ (detached 0 ∷ attached 0 ∷ [])) both 20
    ∷ []

-- 15 over all entries, then 17 over all, then 16 of the widths added up
abbrev unread : List Example
unread =
    refuses (sensor ++ (list (0x11 ∷ 0x30 ∷ []) ∷ taken 3 ∷ [])) (values 3 (0x80 ∷ [])) 15
    ∷ refuses (sensor ++ (list (0x11 ∷ 0x30 ∷ []) ∷ taken 3 ∷ [])) (values 1 (0x80 ∷ [])) 17
    ∷ refuses (sensor ++ (list (0x10 ∷ 0x22 ∷ []) ∷ taken 3 ∷ [])) (values 3 (0x80 ∷ [])) 17
    ∷ refuses combined (values 3 (0x80 ∷ 0xFE ∷ [])) 16
    ∷ refuses combined (values 3 (0x80 ∷ 0xFE ∷ 0xFF ∷ 0x00 ∷ [])) 16
    ∷ refuses combined (values 1 (0x80 ∷ 0xFE ∷ 0xFF ∷ [])) 16
    ∷ []

-- ---- tables: one port with what was answered, what was asked, its list, the state

abbrev port : Option Answering → Option Asking → Option (List ℕ) → ℕ → Table
port answer asking kept state =
    some (record { port = 0; facts = record { device = 0x26; wiring = Unjoined; settings = record { formats = λ mode. none; answered = answer; asked = asking; list = kept; state = state; experiment = 0 } } }) ∷ []

abbrev two : List ℕ
two = 0x10 ∷ 0x21 ∷ []

abbrev single : Asking
single = asked_single (setup 1 1 1)

-- a list that was asked for; no list; a byte twice; no byte; nothing asked
abbrev lists : List Example
lists =
    table (port none (some asked_combined) (some two) 1) true
    ∷ table (port none (some single) (some two) 1) true
    ∷ table (port none (some asked_combined) none 1) false
    ∷ table (port none (some asked_combined) (some (0x10 ∷ 0x10 ∷ [])) 1) false
    ∷ table (port none (some asked_combined) (some []) 1) false
    ∷ table (port none (some asked_combined) (some (256 ∷ [])) 1) false
    ∷ table (port none none (some two) 0) false
    ∷ []

-- a combined port: the states of its pointers; none set, one past the list; no list kept, another one kept
abbrev combined_ports : List Example
combined_ports =
    table (port (some (answered_combined 3 two)) (some asked_combined) (some two) 2) true
    ∷ table (port (some (answered_combined 3 two)) (some asked_combined) (some two) 3) false
    ∷ table (port (some (answered_combined 1 two)) (some asked_combined) (some two) 2) false
    ∷ table (port (some (answered_combined 1 two)) (some asked_combined) (some two) 3) true
    ∷ table (port (some (answered_combined 3 two)) (some single) (some two) 3) true
    ∷ table (port (some (answered_combined 3 two)) (some single) (some two) 2) false
    ∷ table (port (some (answered_combined 0 two)) (some asked_combined) (some two) 3) false
    ∷ table (port (some (answered_combined 4 two)) (some asked_combined) (some two) 3) false
    ∷ table (port (some (answered_combined 1 two)) (some single) none 1) false
    ∷ table (port (some (answered_combined 3 two)) (some asked_combined) (some (0x21 ∷ [])) 1) true
    ∷ table (port (some (answered_combined 3 two)) (some asked_combined) (some (0x21 ∷ [])) 2) false
    ∷ table (port (some (answered_single (setup 1 1 1))) (some asked_combined) (some two) 3) true
    ∷ table (port (some (answered_single (setup 1 1 1))) (some asked_combined) (some two) 2) false
    ∷ []

-- ---- one by one

-- the ones of a pointer word, and the entries at them, the lowest first
abbrev Pointed : Type 0
Pointed = (ones_of 0x8005 ≡ 0 ∷ 2 ∷ 15 ∷ []) × (pointed 5 (0x10 ∷ 0x20 ∷ 0x30 ∷ []) ≡ 0x10 ∷ 0x30 ∷ [])

-- pointers with a list of two, and among 6
abbrev Fitting : Type 0
Fitting =
    (map (λ p. pointers_fit p (length two)) (0 ∷ 1 ∷ 2 ∷ 3 ∷ 4 ∷ []) ≡ false ∷ true ∷ true ∷ true ∷ false ∷ [])
    × (map (λ p. pointers_among p 6) (0 ∷ 2 ∷ 4 ∷ 6 ∷ 1 ∷ 7 ∷ []) ≡ false ∷ true ∷ true ∷ true ∷ false ∷ false ∷ [])

-- the whole list, for the table and for the reader
abbrev WholeLists : Type 0
WholeLists =
    (map (λ p. whole_list p two) (0 ∷ 1 ∷ 2 ∷ 3 ∷ 7 ∷ []) ≡ false ∷ false ∷ false ∷ true ∷ false ∷ [])
    × (map (λ p. names_all p two) (0 ∷ 1 ∷ 2 ∷ 3 ∷ 7 ∷ []) ≡ false ∷ false ∷ false ∷ true ∷ false ∷ [])

-- mode in the high half, dataset in the low
abbrev Halves : Type 0
Halves = (entry_mode 0x21 ≡ 2) × (entry_dataset 0x21 ≡ 1)

-- what entries are refused with by the formats of `sensor`, and how many bytes there are: 15 over all, then 17 over all, then 16
abbrev sensor_formats : ℕ → Option Format
sensor_formats mode = cond (eqb mode 1) (some (record { datasets = 1; kind = 0; figures = 4; decimals = 0 })) (cond (eqb mode 2) (some (record { datasets = 2; kind = 1; figures = 4; decimals = 0 })) none)

abbrev EntriesRefused : Type 0
EntriesRefused =
    (entries_refusal sensor_formats two 3 ≡ 0)
    × (entries_refusal sensor_formats (0x11 ∷ 0x30 ∷ []) 1 ≡ 15)
    × (entries_refusal sensor_formats (0x10 ∷ 0x22 ∷ []) 1 ≡ 17)
    × (entries_refusal sensor_formats two 4 ≡ 16)

-- one statement, `sensor_examples_hold` in proofs/SensorExamples.antt
abbrev pub SensorExamplesHold : Type 0
SensorExamplesHold =
    Pointed
    × Fitting
    × WholeLists
    × Halves
    × EntriesRefused
    × Hold handed
    × Hold taken_over
    × Hold states
    × Hold not_combined
    × Hold pointers
    × Hold unread
    × Hold lists
    × Hold combined_ports
