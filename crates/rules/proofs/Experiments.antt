-- Experiment numbers: only an accepted asking's is kept; where all are 0, so is every value's.
use Prim.Native.Nat.{ℕ, zero, suc, ◌*◌, ◌≤◌}
use mathlib.Core.Path.{◌≡◌, refl, sym, ap, subst}
use mathlib.Core.Bool.{Bool, true, false, cond}
use mathlib.Core.List.{List, [], ◌∷◌, map}
use mathlib.Core.Option.{Option, none, some}
use native.Mathlib.Omega.{arith}
use lib.Dec.{eqb, ltb}
use lib.Ieee.{binary32, of_bits}
use lib.ListN.{drop}
use Rattle.protocol.specs.Number.{little_endian, is_finite}
use Rattle.protocol.specs.Decode as Decode
use Rattle.protocol.specs.Decode.{decode, open_of}
use Rattle.protocol.specs.Answer.{message_of}
use Rattle.protocol.specs.declared.Way.{Way}
use Rattle.protocol.specs.declared.Message.{Message}
use Rattle.protocol.specs.declared.Message.TheVariants as Message'
use Rattle.rules.specs.Answer.{Answer, refused, accepted, outcome, unless_refused}
use Rattle.rules.specs.Effect.{setup, Change, Unchanged, Formatted, Answered, Asked, Listed, Combined, told, Event, event, Effect, Nothing, ToPort, Attach, AttachVirtual, Detach, Value, Disconnect, Connect, Empty, ToVirtual, Feedback, CombinedValue, empties_table, effect_of}
use Rattle.rules.specs.Entries.{entry_mode, format_width}
use Rattle.rules.specs.Facts.{Format, Settings, Wiring, Unjoined, Joined, Virtual, Facts, Ports, Mode, single, combined}
use Rattle.rules.specs.OpenBytes.{looks_at_opens, heard}
use Rattle.rules.specs.Pointers.{pointed}
use Rattle.std.specs.Prelude.{Result, Ok, Err}
use Rattle.protocol.specs.declared.refusal.Refusal.{Refusal}
use Rattle.rules.specs.ValueLookup.{ValueLookup, with_format, with_facts, value_experiment, value_lookup}
use Rattle.rules.specs.Judge.{change_refusal, told_refusal, judge}
use Rattle.rules.specs.Dataset.{Dataset, value_at, dataset_of, value_dataset, entry_value, entries_dataset, mode_dataset, combined_dataset, accepted_dataset, dataset_answer}
use Rattle.rules.specs.Latest.{asking_number, or_zero}
use Rattle.rules.specs.Learn.{take_over, learn}
use Rattle.rules.specs.Table.{Record, Table, view_of_table, ports_of_table, insert, change, remove, wired, wired_as, on_settings, dissolve_by, detach_by, freed, apply}
use Rattle.rules.specs.Cells.{table_at, sound}
use Rattle.rules.specs.Offer.{judge_reading, judge_entry, dataset_reading, dataset_message, ports_of_cells, offer_by_cells, applied_to, cells_after, dataset_by_cells}
use Rattle.rules.specs.Laws.{is_asking, accepted_asking, numbered, NumberOfAskingOnly, NoNumbers, dataset_experiment, EmptyNoNumbers, StepKeepsNoNumbers, ValuesNoNumbers}
use Rattle.rules.proofs.SettingsFit.{either_way}
use Rattle.rules.proofs.CellsSound.{empty_table}
use Rattle.rules.proofs.Offered.{was_accepted, back, kept}
use Rattle.rules.proofs.Laws.{table_sound}

-- ---- a message with two numbers

-- the number that a message hands on; 0 where it hands on none
abbrev effect_number : Effect → ℕ
effect_number Nothing = 0
effect_number (ToPort port c) = or_zero (asking_number (told c []))
effect_number (Attach port device) = 0
effect_number (AttachVirtual port device a b) = 0
effect_number (Detach port) = 0
effect_number (Value port) = 0
effect_number (Disconnect port) = 0
effect_number (Connect a b) = 0
effect_number Empty = 0
effect_number (ToVirtual port) = 0
effect_number Feedback = 0
effect_number (CombinedValue port p) = 0

-- a message with two numbers is judged alike and has the same datasets; where it is no asking it is the same to a table
record TwoNumbers (n m : ℕ) (message : Message) : Type 0 where
  judges : (ports : Ports) (opens : List ℕ) → judge ports (effect_of n message) opens ≡ judge ports (effect_of m message) opens
  datasets : (ports : Ports) (bytes : List ℕ) (k : ℕ) → dataset_answer ports (effect_of n message) bytes k ≡ dataset_answer ports (effect_of m message) bytes k
  opens : looks_at_opens (effect_of n message) ≡ looks_at_opens (effect_of m message)
  effects : is_asking (effect_of n message) ≡ false → effect_of n message ≡ effect_of m message
  number : effect_number (effect_of n message) ≤ n

no_asking : {n m : ℕ} {message : Message} → effect_of n message ≡ effect_of m message → effect_number (effect_of n message) ≡ 0 → TwoNumbers n m message
no_asking e none_told = record {
  judges = λ ports opens. ap (λ (x : Effect). judge ports x opens) e;
  datasets = λ ports bytes k. ap (λ (x : Effect). dataset_answer ports x bytes k) e;
  opens = ap looks_at_opens e;
  effects = λ h. e;
  number = omega (arith, none_told);
}

-- two changes that are judged alike at every port that is present
same_told : (c d : Change) → ((s : Settings) → change_refusal c s ≡ change_refusal d s) → (x : Option Facts) → told_refusal c x ≡ told_refusal d x
same_told c d same none = refl
same_told c d same (some f) = same f.settings

two_numbers : (n m : ℕ) (message : Message) → TwoNumbers n m message
unfolding effect_of judge dataset_answer
two_numbers n m (Message'.PropertyCommand p o) = no_asking refl refl
two_numbers n m (Message'.PropertyText p o) = no_asking refl refl
two_numbers n m (Message'.PropertyByte p o v) = no_asking refl refl
two_numbers n m (Message'.PropertyRssi o v) = no_asking refl refl
two_numbers n m (Message'.PropertyVersion p o v) = no_asking refl refl
two_numbers n m (Message'.PropertyProtocol o v) = no_asking refl refl
two_numbers n m (Message'.PropertyAddress p o v) = no_asking refl refl
two_numbers n m (Message'.HubAction a) = no_asking refl (either_way (λ (x : Effect). effect_number x ≡ 0) (empties_table a) Empty Nothing refl refl)
two_numbers n m (Message'.AlertCommand a o) = no_asking refl refl
two_numbers n m (Message'.AlertUpdate a v) = no_asking refl refl
two_numbers n m (Message'.Detached p) = no_asking refl refl
two_numbers n m (Message'.Attached p d h v) = no_asking refl refl
two_numbers n m (Message'.AttachedVirtual p d a b) = no_asking refl refl
two_numbers n m (Message'.GenericError c e) = no_asking refl refl
two_numbers n m Message'.GoIntoBootMode = no_asking refl refl
two_numbers n m Message'.LockMemory = no_asking refl refl
two_numbers n m Message'.LockStatusRequest = no_asking refl refl
two_numbers n m (Message'.LockStatus v) = no_asking refl refl
two_numbers n m (Message'.PortInformationRequest p i) = no_asking refl refl
two_numbers n m (Message'.ModeInformationRequest p k i) = no_asking refl refl
two_numbers n m (Message'.InputFormatSetup p k d o) = record {
  judges = λ ports opens. same_told (Asked (setup k d o) n) (Asked (setup k d o) m) (λ x. refl) (ports.view p);
  datasets = λ ports bytes i. ap (λ (r : ℕ). unless_refused r (refused 17 0)) (same_told (Asked (setup k d o) n) (Asked (setup k d o) m) (λ x. refl) (ports.view p));
  opens = refl;
  effects = λ h. let z : ◌≡◌ {A = ℕ} 0 1 = cc in absurd (omega arith);
  number = omega arith;
}
two_numbers n m (Message'.PortModes p c k i o) = no_asking refl refl
two_numbers n m (Message'.PortCombinations p c) = no_asking refl refl
two_numbers n m (Message'.ModeText p k i) = no_asking refl refl
two_numbers n m (Message'.ModeRange p k i l h) = no_asking refl refl
two_numbers n m (Message'.ModeMapping p k v) = no_asking refl refl
two_numbers n m (Message'.ModeBias p k v) = no_asking refl refl
two_numbers n m (Message'.ModeCapabilities p k v) = no_asking refl refl
two_numbers n m (Message'.ValueFormat p k c d f e) = no_asking refl refl
two_numbers n m (Message'.PortValue p) = no_asking refl refl
two_numbers n m (Message'.InputFormat p k d o) = no_asking refl refl
two_numbers n m (Message'.VirtualDisconnect p) = no_asking refl refl
two_numbers n m (Message'.VirtualConnect a b) = no_asking refl refl
two_numbers n m (Message'.StartSpeedForDegrees p s d l r w e u) = no_asking refl refl
two_numbers n m (Message'.GotoAbsolutePosition p s a v w e u) = no_asking refl refl
two_numbers n m (Message'.GotoAbsolutePositions p s a b v w e u) = no_asking refl refl
two_numbers n m (Message'.PresetEncoders p s l r) = no_asking refl refl
two_numbers n m Message'.OutputFeedback = no_asking refl refl
two_numbers n m (Message'.CombinedSetup p c) = no_asking refl refl
two_numbers n m (Message'.ModeDatasets p x) = record {
  judges = λ ports opens. same_told (Listed n) (Listed m) (λ x. refl) (ports.view p);
  datasets = λ ports bytes i. ap (λ (r : ℕ). unless_refused r (refused 17 0)) (same_told (Listed n) (Listed m) (λ x. refl) (ports.view p));
  opens = refl;
  effects = λ h. let z : ◌≡◌ {A = ℕ} 0 1 = cc in absurd (omega arith);
  number = omega arith;
}
two_numbers n m (Message'.PortValueCombined p w) = no_asking refl refl
two_numbers n m (Message'.InputFormatCombined p c w) = no_asking refl refl

-- handing out takes any number
pub same_datasets : (n m : ℕ) (message : Message) (ports : Ports) (bytes : List ℕ) (k : ℕ) → dataset_answer ports (effect_of n message) bytes k ≡ dataset_answer ports (effect_of m message) bytes k
same_datasets n m message = (two_numbers n m message).datasets

pub same_heard : (n m : ℕ) (message : Message) (opens : List ℕ) → heard (effect_of n message) opens ≡ heard (effect_of m message) opens
same_heard n m message opens = ap (λ (b : Bool). cond b opens []) (two_numbers n m message).opens

-- two answers: accepted alike, and the cells after them
record Close (cells : List ℕ) (a b : Answer Event) : Type 0 where
  accepts : outcome a ≡ outcome b
  leaves : accepted_asking a ≡ false → applied_to cells a ≡ applied_to cells b

close_refl : (cells : List ℕ) (a : Answer Event) → Close cells a a
close_refl cells a = record { accepts = refl; leaves = λ h. refl }

close_unless : (cells : List ℕ) (i j : ℕ) (x y : Effect) (o : List ℕ) → i ≡ j → (is_asking x ≡ false → x ≡ y) → Close cells (unless_refused i (accepted (event x o))) (unless_refused j (accepted (event y o)))
close_unless cells i j x y o e same =
    subst (λ (k : ℕ). Close cells (unless_refused i (accepted (event x o))) (unless_refused k (accepted (event y o)))) e (by_test (eqb i 0))
  where
    by_test : (b : Bool) → Close cells (cond b (accepted (event x o)) (refused i 0)) (cond b (accepted (event y o)) (refused i 0))
    by_test true = record { accepts = refl; leaves = λ h. ap (λ (z : Effect). applied_to cells (accepted (event z o))) (same h) }
    by_test false = close_refl cells (refused i 0)

close_reading : (cells : List ℕ) (ports : Ports) (s : List ℕ) (n m : ℕ) (a : Decode.Answer) → Close cells (judge_reading ports s n a) (judge_reading ports s m a)
close_reading cells ports s n m (Decode.refused k place) = close_refl cells (refused k place)
close_reading cells ports s n m (Decode.accepted f vs) =
    let message : Message = message_of f vs in
    let opens : List ℕ = open_of s (Decode.accepted f vs) in
    let two = two_numbers n m message in
    let x : Effect = effect_of n message in
    let y : Effect = effect_of m message in
    let o : List ℕ = heard x opens in
    let alike : o ≡ heard y opens = ap (λ (b : Bool). cond b opens []) two.opens in
    subst (λ (l : List ℕ). Close cells (unless_refused (judge ports x o) (accepted (event x o))) (unless_refused (judge ports y l) (accepted (event y l)))) alike
    (close_unless cells (judge ports x o) (judge ports y o) x y o (two.judges ports o) two.effects)

close_offers : (cells : List ℕ) (way : Way) (bytes : List ℕ) (n m : ℕ) → Close cells (offer_by_cells cells (numbered way bytes n)) (offer_by_cells cells (numbered way bytes m))
unfolding offer_by_cells judge_entry
close_offers cells way bytes n m = by_test (sound cells)
  where
    by_test : (b : Bool) → Close cells (cond b (judge_reading (ports_of_cells cells) bytes n (decode way bytes)) (refused 9 0)) (cond b (judge_reading (ports_of_cells cells) bytes m (decode way bytes)) (refused 9 0))
    by_test true = close_reading cells (ports_of_cells cells) bytes n m (decode way bytes)
    by_test false = close_refl cells (refused 9 0)

pub number_of_asking_only : NumberOfAskingOnly
unfolding cells_after
number_of_asking_only cells way bytes n m = let k = close_offers cells way bytes n m in (k.accepts, k.leaves)

-- ---- no numbers in a table

no_change : (port : ℕ) (g : Facts → Facts) (t : Table) → ((f : Facts) → f.settings.experiment ≡ 0 → (g f).settings.experiment ≡ 0) → NoNumbers t → NoNumbers (change port g t)
no_change port g [] keeps k = tt
no_change port g (none ∷ t) keeps k = no_change port g t keeps k
no_change port g (some r ∷ t) keeps k = (either_way (λ (f : Facts). f.settings.experiment ≡ 0) (eqb r.port port) (g r.facts) r.facts (keeps r.facts k.0) k.0, no_change port g t keeps k.1)

no_remove : (port : ℕ) (t : Table) → NoNumbers t → NoNumbers (remove port t)
no_remove port [] k = tt
no_remove port (none ∷ t) k = no_remove port t k
no_remove port (some r ∷ t) k = let rest = no_remove port t k.1 in either_way (λ (p : Option Record). NoNumbers (p ∷ remove port t)) (eqb r.port port) none (some r) rest (k.0, rest)

no_insert : (new : Record) (t : Table) → new.facts.settings.experiment ≡ 0 → NoNumbers t → NoNumbers (insert new t)
no_insert new [] e k = tt
no_insert new (none ∷ t) e k = (e, k)
no_insert new (some r ∷ t) e k = (k.0, no_insert new t e k.1)

no_freed : (t : Table) → NoNumbers (map freed t)
no_freed [] = tt
no_freed (p ∷ t) = no_freed t

no_wired : (port : ℕ) (w : Wiring) (t : Table) → NoNumbers t → NoNumbers (change port (wired w) t)
no_wired port w t k = no_change port (wired w) t (λ f e. e) k

no_dissolve : (port : ℕ) (w : Wiring) (t : Table) → NoNumbers t → NoNumbers (dissolve_by port w t)
no_dissolve port Unjoined t k = k
no_dissolve port (Joined v) t k = k
no_dissolve port (Virtual a b) t k = no_remove port (change b (wired Unjoined) (change a (wired Unjoined) t)) (no_wired b Unjoined (change a (wired Unjoined) t) (no_wired a Unjoined t k))

no_detach : (port : ℕ) (w : Wiring) (t : Table) → NoNumbers t → NoNumbers (detach_by port w t)
no_detach port Unjoined t k = no_remove port t k
no_detach port (Joined v) t k = let w = wired_as (view_of_table t v) in no_remove port (dissolve_by v w t) (no_dissolve v w t k)
no_detach port (Virtual a b) t k = no_dissolve port (Virtual a b) t k

no_take : (p : ℕ) (list : Option (List ℕ)) (s : Settings) → s.experiment ≡ 0 → (take_over p list s).experiment ≡ 0
no_take p none s e = e
no_take p (some list) s e = e

no_learn : (c : Change) (o : List ℕ) → or_zero (asking_number (told c [])) ≡ 0 → (s : Settings) → s.experiment ≡ 0 → (learn c o s).experiment ≡ 0
unfolding learn
no_learn Unchanged o z s e = e
no_learn (Formatted mode f) o z s e = e
no_learn (Answered x) o z s e = e
no_learn (Asked x n) o z s e = z
no_learn (Listed n) o z s e = z
no_learn (Combined p) o z s e = no_take p s.list s e

no_apply : (x : Effect) (o : List ℕ) → effect_number x ≡ 0 → (t : Table) → NoNumbers t → NoNumbers (apply x o t)
unfolding apply
no_apply Nothing o z t k = k
no_apply (ToPort port c) o z t k = no_change port (on_settings (learn c o)) t (λ f e. no_learn c o z f.settings e) k
no_apply (Attach port device) o z t k = no_insert _ t refl k
no_apply (AttachVirtual port device a b) o z t k = no_insert _ (change b (wired (Joined port)) (change a (wired (Joined port)) t)) refl (no_wired b (Joined port) (change a (wired (Joined port)) t) (no_wired a (Joined port) t k))
no_apply (Detach port) o z t k = no_detach port (wired_as (view_of_table t port)) t k
no_apply (Value port) o z t k = k
no_apply (Disconnect port) o z t k = k
no_apply (Connect a b) o z t k = k
no_apply Empty o z t k = no_freed t
no_apply (ToVirtual port) o z t k = k
no_apply Feedback o z t k = k
no_apply (CombinedValue port p) o z t k = k

pub step_keeps_no_numbers : StepKeepsNoNumbers
unfolding cells_after offer_by_cells
step_keeps_no_numbers cells e b s plain k = rw s (go (judge_entry (ports_of_table (table_at cells)) e) refl)
  where
    go : (v : Answer Event) → judge_entry (ports_of_table (table_at cells)) e ≡ v → NoNumbers (table_at (applied_to cells v))
    go (refused n place) j = k
    go (accepted (event x o)) j =
        let t : Table = table_at cells in
        let a = was_accepted (ports_of_table t) e x o j in
        let most = (two_numbers e.experiment 0 (message_of a.form a.values)).number in
        let is : effect_number x ≡ effect_number (effect_of e.experiment (message_of a.form a.values)) = ap effect_number a.is in
        let none_told : effect_number x ≡ 0 = omega (arith, most, is, plain) in
        subst NoNumbers (sym (back (apply x o t) (kept t (table_sound cells s) e b x o j))) (no_apply x o none_told t k)

pub empty_no_numbers : EmptyNoNumbers
empty_no_numbers = subst NoNumbers (sym empty_table) tt

-- ---- and then in a value

abbrev lookup_number : Result ValueLookup Refusal → ℕ
lookup_number (Err r) = 0
lookup_number (Ok l) = l.experiment

no_value : (s : Settings) → s.experiment ≡ 0 → value_experiment s ≡ 0
no_value s e = either_way (λ (n : ℕ). n ≡ 0) (eqb s.state 2) s.experiment 0 e refl

no_lookup : (f : Facts) (mode : Option Mode) → f.settings.experiment ≡ 0 → lookup_number (with_facts (some f) mode) ≡ 0
no_lookup f none e = refl
no_lookup f (some (combined p list)) e = refl
no_lookup f (some (single mode)) e = go (f.settings.formats mode)
  where
    go : (x : Option Format) → lookup_number (with_format mode f.settings.state (value_experiment f.settings) x) ≡ 0
    go none = refl
    go (some x) = no_value f.settings e

-- of whatever is known of a port
no_number : Option Facts → Type 0
no_number none = Unit {0}
no_number (some f) = f.settings.experiment ≡ 0

no_view : (t : Table) → NoNumbers t → (q : ℕ) → no_number (view_of_table t q)
unfolding no_number
no_view [] k q = tt
no_view (none ∷ t) k q = no_view t k q
no_view (some r ∷ t) k q = either_way no_number (eqb r.port q) (some r.facts) (view_of_table t q) k.0 (no_view t k.1 q)

no_found : (x : Option Facts) (mode : Option Mode) → no_number x → lookup_number (with_facts x mode) ≡ 0
unfolding no_number
no_found none mode e = refl
no_found (some f) mode e = no_lookup f mode e

no_choice : (b : Bool) (x y : Answer Dataset) → dataset_experiment x ≡ 0 → dataset_experiment y ≡ 0 → dataset_experiment (cond b x y) ≡ 0
no_choice = either_way (λ (a : Answer Dataset). dataset_experiment a ≡ 0)

no_value_at : (port mode state experiment kind : ℕ) → experiment ≡ 0 → (bytes : List ℕ) (n : ℕ) → dataset_experiment (value_at port mode state experiment kind bytes n) ≡ 0
unfolding value_at
no_value_at port mode state experiment kind e bytes n =
    let bits : ℕ = little_endian bytes (n * 4) 4 in
    no_choice (eqb kind 3) _ _ (no_choice (is_finite (of_bits binary32 bits)) _ _ e refl) e

no_dataset : (port : ℕ) (l : Result ValueLookup Refusal) → lookup_number l ≡ 0 → (bytes : List ℕ) (n : ℕ) → dataset_experiment (value_dataset port l bytes n) ≡ 0
unfolding dataset_of
no_dataset port (Err r) e bytes n = refl
no_dataset port (Ok l) e bytes n = no_choice (ltb n l.format.datasets) _ _ (no_value_at port l.mode l.state l.experiment l.format.kind e bytes n) refl

-- of a 46
no_entry : (port : ℕ) (s : Settings) → s.experiment ≡ 0 → (entry : ℕ) (f : Option Format) (bytes : List ℕ) → dataset_experiment (entry_value port s entry f bytes) ≡ 0
no_entry port s e entry none bytes = refl
no_entry port s e entry (some f) bytes = no_value_at port (entry_mode entry) s.state (value_experiment s) f.kind (no_value s e) bytes 0

no_entries : (port : ℕ) (s : Settings) → s.experiment ≡ 0 → (entries bytes : List ℕ) (n : ℕ) → dataset_experiment (entries_dataset port s entries bytes n) ≡ 0
no_entries port s e [] bytes n = refl
no_entries port s e (x ∷ xs) bytes zero = no_entry port s e x (s.formats (entry_mode x)) bytes
no_entries port s e (x ∷ xs) bytes (suc n) = no_entries port s e xs (drop (format_width (s.formats (entry_mode x))) bytes) n

no_mode : (port : ℕ) (s : Settings) → s.experiment ≡ 0 → (mode : Option Mode) (p : ℕ) (bytes : List ℕ) (n : ℕ) → dataset_experiment (mode_dataset port s mode p bytes n) ≡ 0
no_mode port s e none p bytes n = refl
no_mode port s e (some (single mode)) p bytes n = refl
no_mode port s e (some (combined q list)) p bytes n = no_entries port s e (pointed p list) bytes n

no_combined : (port : ℕ) (x : Option Facts) → no_number x → (mode : Option Mode) (p : ℕ) (bytes : List ℕ) (n : ℕ) → dataset_experiment (combined_dataset port x mode p bytes n) ≡ 0
unfolding no_number
no_combined port none e mode p bytes n = refl
no_combined port (some f) e mode p bytes n = no_mode port f.settings e mode p bytes n

no_accepted : (ports : Ports) → ((port : ℕ) → no_number (ports.view port)) → (x : Effect) (bytes : List ℕ) (n : ℕ) → dataset_experiment (accepted_dataset ports x bytes n) ≡ 0
unfolding value_lookup
no_accepted ports k Nothing bytes n = refl
no_accepted ports k (ToPort port c) bytes n = refl
no_accepted ports k (Attach port device) bytes n = refl
no_accepted ports k (AttachVirtual port device a b) bytes n = refl
no_accepted ports k (Detach port) bytes n = refl
no_accepted ports k (Value port) bytes n = no_dataset port (value_lookup ports port) (no_found (ports.view port) (ports.modes port) (k port)) bytes n
no_accepted ports k (Disconnect port) bytes n = refl
no_accepted ports k (Connect a b) bytes n = refl
no_accepted ports k Empty bytes n = refl
no_accepted ports k (ToVirtual port) bytes n = refl
no_accepted ports k Feedback bytes n = refl
no_accepted ports k (CombinedValue port p) bytes n = no_combined port (ports.view port) (k port) (ports.modes port) p bytes n

no_reading : (ports : Ports) → ((port : ℕ) → no_number (ports.view port)) → (s : List ℕ) (n : ℕ) (a : Decode.Answer) → dataset_experiment (dataset_reading ports s n a) ≡ 0
unfolding dataset_answer
no_reading ports k s n (Decode.refused m place) = refl
no_reading ports k s n (Decode.accepted f vs) =
    let x : Effect = effect_of 0 (message_of f vs) in
    let bytes : List ℕ = heard x (open_of s (Decode.accepted f vs)) in
    no_choice (eqb (judge ports x bytes) 0) _ _ (no_accepted ports k x bytes n) refl

pub values_no_numbers : ValuesNoNumbers
unfolding dataset_by_cells dataset_message
values_no_numbers cells k way bytes n =
    let t : Table = table_at cells in
    no_choice (sound cells) _ _ (no_reading (ports_of_table t) (no_view t k) bytes n (decode way bytes)) refl
