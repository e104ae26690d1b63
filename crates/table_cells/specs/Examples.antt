-- Rows of datasets: a whole number below 0 in two's complement of 64 bits, a float as its 32 bits. Rows of ports: one that was asked
-- by a list and isn't answered, and one with a 48 that points at part of its list.
use Rattle.std.specs.Prelude.{ℕ, ◌≡◌, true, List, [], ◌∷◌, ◌++◌, replicate, pos, neg_ℤ}
use Rattle.std.proofs.Math.Option.{Option, none, some}
use Rattle.std.specs.Float.{fin}
use Rattle.rules.specs.Dataset.{Dataset, Number, whole, float}
use Rattle.rules.specs.declared.Wiring.TheVariants.{Unjoined}
use Rattle.rules.specs.Facts.{asked_combined, Answering, answered_combined}
use Rattle.queries.specs.PortAnswer.{PortFacts}
use Rattle.table_cells.specs.Rows.{dataset_row, port_row}

-- port 7, mode 2, state 1, experiment 9
abbrev some_dataset : Number → Dataset
some_dataset n = record { port = 7; mode = 2; state = 1; experiment = 9; value = n }

-- -3, and the float -1
abbrev pub DatasetRows : Type 0
DatasetRows =
    (dataset_row (some_dataset (whole (neg_ℤ (pos 3)))) ≡ 0 ∷ 0xFFFFFFFFFFFFFFFD ∷ 7 ∷ 2 ∷ 1 ∷ 9 ∷ [])
    × (dataset_row (some_dataset (float (fin true 1 (pos 0)))) ≡ 1 ∷ 0xBF800000 ∷ 7 ∷ 2 ∷ 1 ∷ 9 ∷ [])

-- device 61, asked by the list 10, 21, 22 with number 9
abbrev listed_port : Option Answering → ℕ → PortFacts
listed_port answered state = record { device = 61; wiring = Unjoined; answered = answered; asked = some asked_combined; list = some (0x10 ∷ 0x21 ∷ 0x22 ∷ []); state = state; experiment = 9 }

-- its count, its entries, and zeros
abbrev three_entries : List ℕ
three_entries = 3 ∷ 0x10 ∷ 0x21 ∷ 0x22 ∷ replicate 13 0

-- not answered; and a 48 that points at the first entry and the third
abbrev pub PortRows : Type 0
PortRows =
    (port_row (some (listed_port none 1)) ≡ (1 ∷ 61 ∷ 0 ∷ 0 ∷ 1 ∷ 2 ∷ 0 ∷ 0 ∷ 0 ∷ 0 ∷ 0 ∷ 0 ∷ 0 ∷ 9 ∷ 0 ∷ []) ++ three_entries ++ replicate 17 0)
    × (port_row (some (listed_port (some (answered_combined 5 (0x10 ∷ 0x21 ∷ 0x22 ∷ []))) 3)) ≡ (1 ∷ 61 ∷ 0 ∷ 0 ∷ 3 ∷ 2 ∷ 0 ∷ 0 ∷ 0 ∷ 2 ∷ 0 ∷ 0 ∷ 0 ∷ 9 ∷ 5 ∷ []) ++ three_entries ++ three_entries)
