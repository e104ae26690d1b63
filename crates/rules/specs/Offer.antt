-- Offering a message with its experiment number, and handing out a dataset: by the lent cells of a table, and by the list of
-- earlier entries.
use Rattle.std.specs.Prelude.{ℕ, cond, List, [], ◌∷◌}
use Rattle.protocol.specs.Decode as Decode
use Rattle.protocol.specs.Decode.{decode, open_of}
use Rattle.protocol.specs.Answer.{message_of}
use Rattle.protocol.specs.declared.Way.{Way}
use Rattle.rules.specs.Answer.{Answer, refused, accepted, unless_refused}
use Rattle.rules.specs.Effect.{Event, event, effect_of}
use Rattle.rules.specs.Facts.{View, Modes, Ports}
use Rattle.rules.specs.Judge.{judge}
use Rattle.rules.specs.OpenBytes.{heard}
use Rattle.rules.specs.Dataset.{Dataset, dataset_answer}
use Rattle.rules.specs.Datasets.{all_datasets}
use Rattle.rules.specs.History.{History, view_of_history, modes_of_history, ports_of_history}
use Rattle.rules.specs.Table.{view_of_table, modes_of_table, ports_of_table, apply}
use Rattle.rules.specs.Cells.{cells_of, table_at, sound}

-- an entry of a list: a message, any bytes with their direction, and the experiment number that comes with it
pub record Entry : Type 0 where
  pub way : Way
  pub bytes : List ℕ
  pub experiment : ℕ

-- what an accepted message is to a table, with the open bytes that a table looks at; reading comes first, then 10 to 16 and 20 to 22
abbrev pub judge_reading : Ports → List ℕ → ℕ → Decode.Answer → Answer Event
judge_reading ports s experiment (Decode.refused n place) = refused n place
judge_reading ports s experiment (Decode.accepted f vs) =
    let e = effect_of experiment (message_of f vs) in
    let opens = heard e (open_of s (Decode.accepted f vs)) in
    unless_refused (judge ports e opens) (accepted (event e opens))

unfoldable pub judge_entry : Ports → Entry → Answer Event
judge_entry ports e = judge_reading ports e.bytes e.experiment (decode e.way e.bytes)

-- handing out takes no experiment number: the 0 is that of an asking, which has no datasets
abbrev pub dataset_reading : Ports → List ℕ → ℕ → Decode.Answer → Answer Dataset
dataset_reading ports s number (Decode.refused n place) = refused n place
dataset_reading ports s number (Decode.accepted f vs) =
    let e = effect_of 0 (message_of f vs) in
    dataset_answer ports e (heard e (open_of s (Decode.accepted f vs))) number

unfoldable pub dataset_message : Ports → Way → List ℕ → ℕ → Answer Dataset
dataset_message ports way bytes number = dataset_reading ports bytes number (decode way bytes)

-- ---- by the cells of a table

abbrev pub ports_of_cells : List ℕ → Ports
ports_of_cells cells = ports_of_table (table_at cells)

-- 9: the table isn't sound; then as the rules say
unfoldable pub offer_by_cells : List ℕ → Entry → Answer Event
offer_by_cells cells e = cond (sound cells) (judge_entry (ports_of_cells cells) e) (refused 9 0)

-- the lent cells afterwards: changed by an accepted message only
abbrev pub applied_to : List ℕ → Answer Event → List ℕ
applied_to cells (refused n place) = cells
applied_to cells (accepted (event e opens)) = cells_of (apply e opens (table_at cells))

unfoldable pub cells_after : List ℕ → Entry → List ℕ
cells_after cells e = applied_to cells (offer_by_cells cells e)

unfoldable pub dataset_by_cells : List ℕ → Way → List ℕ → ℕ → Answer Dataset
dataset_by_cells cells way bytes number = cond (sound cells) (dataset_message (ports_of_cells cells) way bytes number) (refused 9 0)

-- all datasets of a message
abbrev pub values_by_cells : List ℕ → Way → List ℕ → Answer (List Dataset)
values_by_cells cells way bytes = all_datasets (dataset_by_cells cells way bytes)

abbrev pub view_of_cells : List ℕ → View
view_of_cells cells = view_of_table (table_at cells)

abbrev pub modes_of_cells : List ℕ → Modes
modes_of_cells cells = modes_of_table (table_at cells)

-- ---- without a table, by the earlier entries, the latest first

abbrev pub extend_history : History → Answer Event → History
extend_history h (refused n place) = h
extend_history h (accepted e) = e ∷ h

-- the accepted ones, each judged by those before it
abbrev pub accepted_history : List Entry → History
accepted_history [] = []
accepted_history (e ∷ past) = extend_history (accepted_history past) (judge_entry (ports_of_history (accepted_history past)) e)

abbrev pub offer_by_past : List Entry → Entry → Answer Event
offer_by_past past e = judge_entry (ports_of_history (accepted_history past)) e

abbrev pub dataset_by_past : List Entry → Way → List ℕ → ℕ → Answer Dataset
dataset_by_past past way bytes number = dataset_message (ports_of_history (accepted_history past)) way bytes number

abbrev pub values_by_past : List Entry → Way → List ℕ → Answer (List Dataset)
values_by_past past way bytes = all_datasets (dataset_by_past past way bytes)

abbrev pub view_of_past : List Entry → View
view_of_past past = view_of_history (accepted_history past)

abbrev pub modes_of_past : List Entry → Modes
modes_of_past past = modes_of_history (accepted_history past)
