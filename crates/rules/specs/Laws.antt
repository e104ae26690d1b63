-- Laws of the table that come with demand 3. They are proved in proofs/Laws.antt, those of experiment numbers in
-- proofs/Experiments.antt.
use Rattle.std.specs.Prelude.{ℕ, ◌≡◌, Bool, true, false, List, [], ◌∷◌, ◌++◌, replicate}
use Rattle.std.proofs.Math.Option.{none, some}
use Rattle.protocol.specs.Decode as Decode
use Rattle.protocol.specs.Decode.{decode}
use Rattle.protocol.specs.declared.Way.{Way}
use Rattle.rules.specs.Table.{Record, Table, full_table, insert, remove}
use Rattle.rules.specs.Layout.{stride}
use Rattle.rules.specs.Answer.{Answer, refused, accepted, outcome}
use Rattle.rules.specs.Cells.{place_cells, table_at, sound, empty_cells}
use Rattle.rules.specs.Effect.{Change, Unchanged, Formatted, Answered, Asked, Listed, Combined, Event, event, Effect, Nothing, ToPort, Attach, AttachVirtual, Detach, Value, Disconnect, Connect, Empty, ToVirtual, Feedback, CombinedValue}
use Rattle.rules.specs.Dataset.{Dataset}
use Rattle.rules.specs.Offer.{Entry, offer_by_cells, cells_after, dataset_by_cells, values_by_cells}
use Rattle.rules.specs.Demand3.{EntryFits}

-- the empty table is sound
abbrev pub EmptySound : Type 0
EmptySound = sound empty_cells ≡ true

-- every message keeps a sound table sound
abbrev pub StepKeepsSound : Type 0
StepKeepsSound = (cells : List ℕ) (e : Entry) → EntryFits e → sound cells ≡ true → sound (cells_after cells e) ≡ true

-- a refused message leaves the table as it was
abbrev pub RefusedChangesNothing : Type 0
RefusedChangesNothing = (cells : List ℕ) (e : Entry) (number place : ℕ) → offer_by_cells cells e ≡ refused number place → cells_after cells e ≡ cells

-- every call on a sound table passes a refusal of reading on as it is: its number and its place
abbrev pub ReadingRefused : Type 0
ReadingRefused =
    (cells : List ℕ) → sound cells ≡ true → (e : Entry) (number place : ℕ) → decode e.way e.bytes ≡ Decode.refused number place
    → (offer_by_cells cells e ≡ refused number place)
    × ((n : ℕ) → dataset_by_cells cells e.way e.bytes n ≡ refused number place)
    × (values_by_cells cells e.way e.bytes ≡ refused number place)

-- a freed place equals one in an empty table
abbrev pub FreedIsEmpty : Type 0
FreedIsEmpty = (port : ℕ) (r : Record) (t : Table) → r.port ≡ port → (remove port (some r ∷ t) ≡ none ∷ remove port t) × (place_cells none ≡ replicate stride 0)

-- a new record takes the lowest free place
abbrev pub LowestPlace : Type 0
LowestPlace = (new : Record) (before rest : Table) → full_table before ≡ true → insert new (before ++ (none ∷ rest)) ≡ before ++ (some new ∷ rest)

-- ---- experiment numbers

abbrev pub asks : Change → Bool
asks Unchanged = false
asks (Formatted m f) = false
asks (Answered s) = false
asks (Asked s n) = true
asks (Listed n) = true
asks (Combined p) = false

-- an accepted asking, a 41 or a list
abbrev pub is_asking : Effect → Bool
is_asking Nothing = false
is_asking (ToPort port c) = asks c
is_asking (Attach port device) = false
is_asking (AttachVirtual port device a b) = false
is_asking (Detach port) = false
is_asking (Value port) = false
is_asking (Disconnect port) = false
is_asking (Connect a b) = false
is_asking Empty = false
is_asking (ToVirtual port) = false
is_asking Feedback = false
is_asking (CombinedValue port p) = false

abbrev pub accepted_asking : Answer Event → Bool
accepted_asking (refused n place) = false
accepted_asking (accepted (event e opens)) = is_asking e

abbrev pub numbered : Way → List ℕ → ℕ → Entry
numbered way bytes n = record { way = way; bytes = bytes; experiment = n }

-- whether a message is accepted does not depend on its number; nor does the table afterwards, unless it is an accepted asking
abbrev pub NumberOfAskingOnly : Type 0
NumberOfAskingOnly =
    (cells : List ℕ) (way : Way) (bytes : List ℕ) (n m : ℕ)
    → (outcome (offer_by_cells cells (numbered way bytes n)) ≡ outcome (offer_by_cells cells (numbered way bytes m)))
    × (accepted_asking (offer_by_cells cells (numbered way bytes n)) ≡ false → cells_after cells (numbered way bytes n) ≡ cells_after cells (numbered way bytes m))

-- every record's number is 0
abbrev pub NoNumbers : Table → Type 0
NoNumbers [] = Unit {0}
NoNumbers (none ∷ t) = NoNumbers t
NoNumbers (some r ∷ t) = (r.facts.settings.experiment ≡ 0) × NoNumbers t

abbrev pub dataset_experiment : Answer Dataset → ℕ
dataset_experiment (refused n place) = 0
dataset_experiment (accepted d) = d.experiment

-- so it is in the empty table, and stays so by messages whose number is 0; and then every value's is 0
abbrev pub EmptyNoNumbers : Type 0
EmptyNoNumbers = NoNumbers (table_at empty_cells)

abbrev pub StepKeepsNoNumbers : Type 0
StepKeepsNoNumbers = (cells : List ℕ) (e : Entry) → EntryFits e → sound cells ≡ true → e.experiment ≡ 0 → NoNumbers (table_at cells) → NoNumbers (table_at (cells_after cells e))

abbrev pub ValuesNoNumbers : Type 0
ValuesNoNumbers = (cells : List ℕ) → NoNumbers (table_at cells) → (way : Way) (bytes : List ℕ) (number : ℕ) → dataset_experiment (dataset_by_cells cells way bytes number) ≡ 0
