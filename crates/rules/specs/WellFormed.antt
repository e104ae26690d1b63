-- A sound table, in document 01's words: no port twice; a virtual record names two different physical records, both joined
-- to it, and nothing else is joined; fields within their lists; state fits its rule. The experiment number is 0 before any asking. Then
-- document 02's lists of modes and datasets.
use Rattle.std.specs.Prelude.{ℕ, zero, suc, Bool, true, false, not, ◌&&◌, ◌||◌, List, [], ◌∷◌, eqb, leb, ltb, length}
use Rattle.std.proofs.Math.Option.{Option, none, some}
use Rattle.protocol.specs.Form.{last_mode, last_notify, most_datasets, last_kind, most_entries, mode_dataset_list, wrong_byte}
use Rattle.protocol.specs.Rule.{between}
use Rattle.rules.specs.Layout.{port_count, mode_count, experiment_count}
use Rattle.rules.specs.Facts.{Setup, Format, Asking, asked_single, asked_combined, Answering, answered_single, answered_combined, Settings, Wiring, Unjoined, Joined, Virtual, Facts, View, known, same_list}
use Rattle.rules.specs.Learn.{answered_state, combined_state}
use Rattle.rules.specs.Pointers.{pointers_fit}
use Rattle.rules.specs.Table.{Record, Table, view_of_table}

abbrev pub setup_fits : Setup → Bool
setup_fits s = leb s.mode last_mode && ltb s.delta 4294967296 && leb s.notify last_notify

abbrev pub format_fits : Option Format → Bool
format_fits none = true
format_fits (some f) = between 1 most_datasets f.datasets && leb f.kind last_kind && ltb f.figures 256 && ltb f.decimals 256

-- the formats of the modes below a number
abbrev pub formats_fit : ℕ → (ℕ → Option Format) → Bool
formats_fit zero formats = true
formats_fit (suc m) formats = format_fits (formats m) && formats_fit m formats

-- a list: 1 to 16 bytes, none twice
abbrev pub all_bytes : List ℕ → Bool
all_bytes [] = true
all_bytes (b ∷ bs) = ltb b 256 && all_bytes bs

abbrev pub is_none : {A : Type 0} → Option A → Bool
is_none none = true
is_none (some a) = false

unfoldable pub list_fits : List ℕ → Bool
list_fits list = between 1 most_entries (length list) && all_bytes list && is_none (wrong_byte mode_dataset_list list)

abbrev pub kept_fits : Option (List ℕ) → Bool
kept_fits none = true
kept_fits (some list) = list_fits list

-- where nothing was asked there is no list; an asking by list is the kept one
abbrev pub asked_fits : Option Asking → Option (List ℕ) → Bool
asked_fits none list = is_none list
asked_fits (some (asked_single s)) list = setup_fits s
asked_fits (some asked_combined) list = not (is_none list)

-- a combined port keeps a list; its pointers are some, and within the list that was taken over
abbrev pub answered_fits : Option Answering → Option (List ℕ) → Bool
answered_fits none list = true
answered_fits (some (answered_single s)) list = setup_fits s
answered_fits (some (answered_combined p taken)) list = not (is_none list) && list_fits taken && pointers_fit p (length taken)

-- 2 or 3, by an answer that came after the asking
abbrev pub answer_state : Asking → Answering → ℕ
answer_state x (answered_single t) = answered_state (some x) t
answer_state x (answered_combined p taken) = combined_state (some x) p taken

-- a 48 after the asking took over the list that is kept
abbrev pub kept_is : List ℕ → Option (List ℕ) → Bool
kept_is taken none = false
kept_is taken (some list) = same_list taken list

abbrev pub taken_fits : Answering → Option (List ℕ) → Bool
taken_fits (answered_single t) list = true
taken_fits (answered_combined p taken) list = kept_is taken list

-- 0 nothing asked; 1 asked; 2 or 3 by the latest answer
abbrev pub state_after : Asking → Option Answering → Option (List ℕ) → ℕ → Bool
state_after x none list state = eqb state 1
state_after x (some a) list state = eqb state 1 || (eqb state (answer_state x a) && taken_fits a list)

abbrev pub state_fits : Option Asking → Option Answering → Option (List ℕ) → ℕ → Bool
state_fits none answered list state = eqb state 0
state_fits (some x) answered list state = state_after x answered list state

-- before any asking only 0
abbrev pub experiment_fits : Option Asking → ℕ → Bool
experiment_fits none n = eqb n 0
experiment_fits (some x) n = ltb n experiment_count

abbrev pub joined_to : ℕ → Wiring → Bool
joined_to v Unjoined = false
joined_to v (Joined w) = eqb w v
joined_to v (Virtual a b) = false

abbrev pub is_joined_to : ℕ → Option Facts → Bool
is_joined_to v none = false
is_joined_to v (some f) = joined_to v f.wiring

abbrev pub pair_with : ℕ → Wiring → Bool
pair_with port Unjoined = false
pair_with port (Joined w) = false
pair_with port (Virtual a b) = eqb a port || eqb b port

abbrev pub is_pair_with : ℕ → Option Facts → Bool
is_pair_with port none = false
is_pair_with port (some f) = pair_with port f.wiring

abbrev pub wiring_fits : View → ℕ → Wiring → Bool
wiring_fits view port Unjoined = true
wiring_fits view port (Joined v) = ltb v port_count && is_pair_with port (view v)
wiring_fits view port (Virtual a b) = ltb a port_count && ltb b port_count && not (eqb a b) && is_joined_to port (view a) && is_joined_to port (view b)

-- fields within their lists, the state and the experiment number by their rules
abbrev pub settings_fit : Settings → Bool
settings_fit s =
    formats_fit mode_count s.formats
    && kept_fits s.list
    && answered_fits s.answered s.list
    && asked_fits s.asked s.list
    && state_fits s.asked s.answered s.list s.state
    && experiment_fits s.asked s.experiment

abbrev pub facts_fit : Facts → Bool
facts_fit f = ltb f.device 65536 && settings_fit f.settings

abbrev pub record_fits : View → Record → Bool
record_fits view r = ltb r.port port_count && facts_fit r.facts && wiring_fits view r.port r.facts.wiring

-- every record fits, and no port stands in a later place too
abbrev pub places_fit : View → Table → Bool
places_fit view [] = true
places_fit view (none ∷ t) = places_fit view t
places_fit view (some r ∷ t) = record_fits view r && not (known (view_of_table t r.port)) && places_fit view t

unfoldable pub well_formed : Table → Bool
well_formed t = places_fit (view_of_table t) t
