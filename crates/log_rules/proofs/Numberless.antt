-- A log whose experiment numbers are 0: so are those of its values.
use Prim.Native.Nat.{ℕ, zero, suc, ◌*◌}
use mathlib.Core.Path.{◌≡◌, refl}
use mathlib.Core.Bool.{true}
use mathlib.Core.List.{List, [], ◌∷◌, ◌++◌}
use lib.ListN.{take, drop}
use Rattle.protocol.specs.Number.{Bytes}
use Rattle.protocol.proofs.Bytes.{Bytes-take, Bytes-drop}
use Rattle.rules.specs.Answer.{Answer}
use Rattle.rules.specs.Cells.{table_at, sound, empty_cells}
use Rattle.rules.specs.Dataset.{Dataset}
use Rattle.rules.specs.Datasets.{all_datasets}
use Rattle.rules.specs.Laws.{NoNumbers, dataset_experiment}
use Rattle.rules.specs.Offer.{Entry, offer_by_cells, cells_after, dataset_by_cells}
use Rattle.rules.specs.Effect.{Event, event}
use Rattle.rules.specs.declared.Effect.{Effect}
use Rattle.rules.specs.declared.Effect.TheVariants as Effect'
use Rattle.rules.proofs.Experiments.{empty_no_numbers, step_keeps_no_numbers, values_no_numbers}
use Rattle.rules.proofs.Laws.{empty_sound}
use Rattle.rules.proofs.SettingsFit.{either_way}
use Rattle.log_rules.specs.Record.{record_size, experiment_in, entry_of, malformed}
use Rattle.log_rules.specs.Line as Line'
use Rattle.log_rules.specs.Line.{Line, refused, with_datasets, value_line, with_pointers, accepted_line, answer_line, entry_line, record_line, cells_after_record}
use Rattle.log_rules.specs.Output.{lines_of, records, last_line, all_lines}
use Rattle.log_rules.specs.Laws.{NumbersZero, line_experiment, ValuesZero, NumberlessLog}
use Rattle.log_rules.proofs.AfterRecord.{entry_fits_lem, record_keeps_sound}

-- ---- a line

with_zero : (a : Answer Dataset) → dataset_experiment a ≡ 0 → (all : Answer (List Dataset)) → line_experiment (with_datasets a all) ≡ 0
with_zero a e (Answer.refused n place) = refl
with_zero (Answer.refused n place) e (Answer.accepted ds) = refl
with_zero (Answer.accepted d) e (Answer.accepted ds) = e

pointers_zero : (p : ℕ) (l : Line) → line_experiment l ≡ 0 → line_experiment (with_pointers p l) ≡ 0
pointers_zero p (refused n) e = refl
pointers_zero p Line'.accepted e = refl
pointers_zero p (Line'.values port mode state experiment ns) e = e
pointers_zero p (Line'.combined_values port state experiment q ns) e = e

accepted_zero : (dataset : ℕ → Answer Dataset) → dataset_experiment (dataset 0) ≡ 0 → (x : Effect) → line_experiment (accepted_line dataset x) ≡ 0
unfolding value_line
accepted_zero dataset e Effect'.Nothing = refl
accepted_zero dataset e (Effect'.ToPort port c) = refl
accepted_zero dataset e (Effect'.Attach port device) = refl
accepted_zero dataset e (Effect'.AttachVirtual port device a b) = refl
accepted_zero dataset e (Effect'.Detach port) = refl
accepted_zero dataset e (Effect'.Value port) = with_zero (dataset 0) e (all_datasets dataset)
accepted_zero dataset e (Effect'.Disconnect port) = refl
accepted_zero dataset e (Effect'.Connect a b) = refl
accepted_zero dataset e Effect'.Empty = refl
accepted_zero dataset e (Effect'.ToVirtual port) = refl
accepted_zero dataset e Effect'.Feedback = refl
accepted_zero dataset e (Effect'.CombinedValue port p) = pointers_zero p (value_line dataset) (with_zero (dataset 0) e (all_datasets dataset))

answer_zero : (dataset : ℕ → Answer Dataset) → dataset_experiment (dataset 0) ≡ 0 → (a : Answer Event) → line_experiment (answer_line dataset a) ≡ 0
answer_zero dataset e (Answer.refused n place) = refl
answer_zero dataset e (Answer.accepted (event x opens)) = accepted_zero dataset e x

-- ---- a record

-- the table before it is sound, and has no numbers
record Numberless (cells : List ℕ) : Type 0 where
  good : sound cells ≡ true
  numbers : NoNumbers (table_at cells)

module _ (part : ℕ) (cells s : List ℕ) (k : Numberless cells) where
  record_zero : line_experiment (record_line part cells s) ≡ 0
  unfolding record_line
  record_zero =
      let e : Entry = entry_of part s in
      either_way (λ (l : Line). line_experiment l ≡ 0) (malformed part s) (refused 19) (entry_line cells e) refl
      (answer_zero (dataset_by_cells cells e.way e.bytes) (values_no_numbers cells k.numbers e.way e.bytes 0) (offer_by_cells cells e))

  module _ (b : Bytes s) (plain : experiment_in s ≡ 0) where
    after_record : Numberless (cells_after_record part cells s)
    unfolding cells_after_record
    after_record =
        record {
          good = record_keeps_sound part cells s b k.good;
          numbers =
              either_way (λ (c : List ℕ). NoNumbers (table_at c)) (malformed part s) cells (cells_after cells (entry_of part s)) k.numbers
              (step_keeps_no_numbers cells (entry_of part s) (entry_fits_lem part s b) k.good plain k.numbers);
        }

-- ---- all records

lines_zero : (part n : ℕ) (cells s : List ℕ) → Numberless cells → Bytes s → NumbersZero part n s → (after : List Line) → ValuesZero after → ValuesZero (lines_of part n cells s ++ after)
lines_zero part zero cells s k b z after rest = rest
lines_zero part (suc n) cells s k b z after rest =
    let size : ℕ = record_size part in
    let x : List ℕ = take size s in
    (record_zero part cells x k, lines_zero part n (cells_after_record part cells x) (drop size s) (after_record part cells x k (Bytes-take size s b) z.0) (Bytes-drop size s b) z.1 after rest)

last_zero : (s : List ℕ) → ValuesZero (last_line s)
last_zero [] = tt
last_zero (c ∷ cs) = (refl, tt)

pub numberless : NumberlessLog
unfolding all_lines
numberless part s b z =
    lines_zero part (records part s) empty_cells s (record { good = empty_sound; numbers = empty_no_numbers }) b z (last_line (drop (records part s * record_size part) s)) (last_zero (drop (records part s * record_size part) s))
