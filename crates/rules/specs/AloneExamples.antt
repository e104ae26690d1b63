-- What one port is told changes the record of that port, in its place, and no other: examples on two ports and the virtual port that
-- joins them.
use Rattle.std.specs.Prelude.{ℕ, ◌≡◌, List, [], ◌∷◌, map}
use Rattle.std.proofs.Math.Option.{Option, none, some}
use Rattle.rules.specs.Effect.{setup, Change, Formatted, Answered, Asked, Listed, Combined, ToPort}
use Rattle.rules.specs.Facts.{Format, Answering, answered_single, answered_combined, asked_single, Settings, Wiring, Joined, Virtual}
use Rattle.rules.specs.Table.{Record, Table, apply}

-- a port that keeps a list of one entry and was asked for mode 2 with number 5
abbrev port : ℕ → Wiring → ℕ → Option Record
port number wiring entry =
    some (record {
      port = number;
      facts = record {
        device = 0x26;
        wiring = wiring;
        settings = record { formats = λ mode. none; answered = none; asked = some (asked_single (setup 2 1 1)); list = some (entry ∷ []); state = 1; experiment = 5 };
      };
    })

abbrev three : Table
three = port 16 (Virtual 0 1) 0x32 ∷ port 0 (Joined 16) 0x10 ∷ port 1 (Joined 16) 0x21 ∷ []

-- the datasets of mode 2, and the first entry of the list that a 48 took over; 0 where there is none
abbrev datasets_of : Option Format → ℕ
datasets_of none = 0
datasets_of (some f) = f.datasets

abbrev first_of : List ℕ → ℕ
first_of [] = 0
first_of (entry ∷ entries) = entry

abbrev taken_entry : Option Answering → ℕ
taken_entry none = 0
taken_entry (some (answered_single s)) = 0
taken_entry (some (answered_combined p list)) = first_of list

-- something of each of the three records, place by place, after a port was told something; a free place has 0
abbrev of_place : (Record → ℕ) → Option Record → ℕ
of_place f none = 0
of_place f (some r) = f r

abbrev afterwards : (Record → ℕ) → ℕ → Change → List ℕ → List ℕ
afterwards f number c opens = map (of_place f) (apply (ToPort number c) opens three)

abbrev of_settings : (Settings → ℕ) → Record → ℕ
of_settings f r = f r.facts.settings

abbrev pub AloneExamplesHold : Type 0
AloneExamplesHold =
    -- every record keeps its place
    (afterwards (λ r. r.port) 0 (Asked (setup 2 1 1) 9) [] ≡ 16 ∷ 0 ∷ 1 ∷ [])
    -- a 41 and a list give their port an experiment number
    × (afterwards (of_settings (λ s. s.experiment)) 0 (Asked (setup 2 1 1) 9) [] ≡ 5 ∷ 9 ∷ 5 ∷ [])
    × (afterwards (of_settings (λ s. s.experiment)) 16 (Listed 9) (0x10 ∷ []) ≡ 9 ∷ 5 ∷ 5 ∷ [])
    -- a 47 gives its port a state
    × (afterwards (of_settings (λ s. s.state)) 0 (Answered (setup 2 1 1)) [] ≡ 1 ∷ 2 ∷ 1 ∷ [])
    × (afterwards (of_settings (λ s. s.state)) 16 (Answered (setup 3 1 1)) [] ≡ 3 ∷ 1 ∷ 1 ∷ [])
    -- a 44 gives its port a format
    × (afterwards (of_settings (λ s. datasets_of (s.formats 2))) 0 (Formatted 2 (record { datasets = 3; kind = 2; figures = 4; decimals = 0 })) [] ≡ 0 ∷ 3 ∷ 0 ∷ [])
    -- a 48 takes over the list of its port
    × (afterwards (of_settings (λ s. taken_entry s.answered)) 0 (Combined 1) [] ≡ 0 ∷ 0x10 ∷ 0 ∷ [])
