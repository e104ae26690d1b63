-- The examples of order hold: by demand 3 the cells have what the reader without a table finds, and that is computed.
use Prim.Native.Nat.{ℕ}
use mathlib.Core.Path.{◌≡◌, refl, ap}
use mathlib.Core.Bool.{Bool, true, ◌&&◌}
use mathlib.Core.List.{List, [], ◌∷◌, ◌++◌}
use borrow.Author.Tests.{ltb-true}
use lib.Dec.{ltb}
use Rattle.protocol.specs.Number.{Bytes, little_endian}
use Rattle.protocol.specs.Decode.{decode, decode_way, decode_type, decode_form}
use Rattle.protocol.specs.Form.{layout, first_time}
use Rattle.protocol.specs.Types.{types, hub_attached_io, port_mode_information, combined_format_setup}
use Rattle.protocol.proofs.Tests.{and_left, and_right}
use Rattle.rules.specs.Answer.{outcome}
use Rattle.rules.specs.Cells.{empty_cells}
use Rattle.rules.specs.Demand3.{Agree, AgreeThrough, EntriesFit}
use Rattle.rules.specs.Effect.{effect_of}
use Rattle.rules.specs.Examples.{latest_first, attached, detached, joined, asked, answered}
use Rattle.rules.specs.History.{since_attached, view_of_history, modes_of_history, full_history}
use Rattle.rules.specs.Judge.{judge}
use Rattle.rules.specs.Latest.{settings_of}
use Rattle.rules.specs.Layout.{experiment_count}
use Rattle.rules.specs.Offer.{Entry, judge_entry, offer_by_cells, offer_by_past, cells_after, view_of_cells, view_of_past}
use Rattle.rules.specs.OrderExamples.{asked_at, cells_through, state_of, OrderExamplesHold}
use Rattle.rules.specs.WellFormed.{all_bytes}
use Rattle.rules.proofs.Demand3.{demand_3}

-- ---- entries whose bytes and numbers are tested

bytes_by_lem : (s : List ℕ) → all_bytes s ≡ true → Bytes s
bytes_by_lem [] e = tt
bytes_by_lem (b ∷ s) e = (ltb-true b 256 (and_left (ltb b 256) (all_bytes s) e), bytes_by_lem s (and_right (ltb b 256) (all_bytes s) e))

abbrev entry_fits : Entry → Bool
entry_fits e = all_bytes e.bytes && ltb e.experiment experiment_count

abbrev all_fit : List Entry → Bool
all_fit [] = true
all_fit (e ∷ es) = entry_fits e && all_fit es

entries_fit : (es : List Entry) → all_fit es ≡ true → EntriesFit es
entries_fit [] k = tt
entries_fit (e ∷ es) k =
    let here : entry_fits e ≡ true = and_left (entry_fits e) (all_fit es) k in
    let bytes : Bool = all_bytes e.bytes in
    let small : Bool = ltb e.experiment experiment_count in
    ((bytes_by_lem e.bytes (and_left bytes small here), and_right bytes small here), entries_fit es (and_right (entry_fits e) (all_fit es) k))

-- ---- demand 3 at the end of a list

agree_then : (cells : List ℕ) (past es : List Entry) → AgreeThrough cells past es → Agree (cells_through cells es) (latest_first past es)
agree_then cells past [] k = k
agree_then cells past (e ∷ es) k = agree_then (cells_after cells e) (e ∷ past) es k.2

answer_then : (cells : List ℕ) (past es : List Entry) (e : Entry) → AgreeThrough cells past (es ++ (e ∷ [])) → offer_by_cells (cells_through cells es) e ≡ offer_by_past (latest_first past es) e
answer_then cells past [] e k = k.1
answer_then cells past (d ∷ es) e k = answer_then (cells_after cells d) (d ∷ past) es e k.2

seen : (es : List Entry) → all_fit es ≡ true → (port : ℕ) → view_of_cells (cells_through empty_cells es) port ≡ view_of_past (latest_first [] es) port
seen es k port = (agree_then empty_cells [] es (demand_3 es (entries_fit es k))).ports port

said : (es : List Entry) (e : Entry) → all_fit (es ++ (e ∷ [])) ≡ true → offer_by_cells (cells_through empty_cells es) e ≡ offer_by_past (latest_first [] es) e
said es e k = answer_then empty_cells [] es e (demand_3 (es ++ (e ∷ [])) (entries_fit (es ++ (e ∷ [])) k))

pub order_examples_hold : OrderExamplesHold
unfolding decode decode_way decode_type decode_form layout first_time little_endian types hub_attached_io port_mode_information combined_format_setup effect_of judge settings_of since_attached view_of_history modes_of_history full_history judge_entry
order_examples_hold = (
  (refl, refl, refl, refl, refl),
  (
    ap state_of (seen (attached 0 ∷ asked 2 1 1 ∷ answered 2 1 1 ∷ []) refl 0),
    ap state_of (seen (attached 0 ∷ answered 2 1 1 ∷ asked 2 1 1 ∷ []) refl 0),
  ),
  (refl, ap outcome (said joined (asked_at 16) refl), ap outcome (said (joined ++ (detached 0 ∷ [])) (asked_at 16) refl)),
)
