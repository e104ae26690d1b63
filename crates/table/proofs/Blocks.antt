-- The cells of one record after each of its fields is replaced.
use Prim.Native.Nat.{ℕ, zero, suc, ◌+◌, ◌≤◌, ◌<◌}
use native.Mathlib.Nat.{zero-add}
use native.Mathlib.Numerals.{add-one}
use native.Mathlib.Omega.{arith}
use mathlib.Core.Path.{◌≡◌, refl, sym, ◌∙◌, ap}
use mathlib.Core.Bool.{Bool, true, cond}
use mathlib.Core.List.{List, [], ◌∷◌, ◌++◌, append_assoc, append-nil}
use mathlib.Core.Option.{Option, none, some}
use borrow.Author.Tests.{eq-eqb, ne_eqb}
use lib.Dec.{eqb}
use lib.ListN.{length, get_or, set, take, drop, replicate, length-append}
use lib.Seq.{sets, sets-eq, take_at, drop_at, set-append_left}
use Rattle.protocol.specs.Form.{up_from, last_mode, most_entries}
use Rattle.rules.specs.Facts.{Asking, asked_single, asked_combined, Answering, answered_single, answered_combined, Settings, Facts}
use Rattle.rules.specs.declared.Setup.{Setup}
use Rattle.rules.specs.declared.Format.{Format}
use Rattle.rules.specs.declared.Wiring.{Wiring}
use Rattle.rules.specs.declared.Wiring.TheVariants.{Unjoined, Virtual}
use Rattle.rules.specs.declared.Change.TheVariants.{Formatted, Answered, Asked, Listed, Combined}
use Rattle.rules.specs.Layout.{mode_count, stride, wiring_index, port_index, device_index, first_index, second_index, asked_index, answered_index, formats_index, list_index, taken_index}
use Rattle.rules.specs.Learn.{answered_state, combined_state, take_over, learn}
use Rattle.rules.specs.WellFormed.{asked_fits}
use Rattle.rules.proofs.CellsRecord.{list_length, asked_back}
use Rattle.rules.specs.Table.{Record, new_record, wired, on_settings}
use Rattle.rules.specs.Cells.{format_cell, combined_cell, asked_cells, answered_cells, taken_by, list_cells, wiring_cell, first_partner, second_partner, format_cells, modes, settings_cells, record_cells, place_cells, asked_from}
use Rattle.stores.specs.Stores.{Store, put, three_stores, asking_stores, cell_stores, asked_stores, answered_stores, listed_stores, taken_stores}
use Rattle.stores.proofs.Stores.{stored_in, Within, set_past}

-- a record with other facts
abbrev pub with_facts_lem : Record → Facts → Record
with_facts_lem r f = record { port = r.port; facts = f }

-- ---- wiring

abbrev pub wiring_stores : Wiring → List Store
wiring_stores y = put wiring_index (wiring_cell y) ∷ put first_index (first_partner y) ∷ []

pub wiring_block : (r : Record) (y : Wiring) → second_partner y ≡ second_partner r.facts.wiring
    → stored_in (record_cells r) (wiring_stores y) ≡ record_cells (with_facts_lem r (wired y r.facts))
unfolding record_cells
wiring_block r y e =
    let f : Facts = r.facts in
    ap
    (λ (n : ℕ). wiring_cell y ∷ r.port ∷ f.device ∷ first_partner y ∷ n ∷ settings_cells f.settings)
    (sym e)

-- ---- a format

same_cells : (n from : ℕ) (f g : ℕ → Option Format) → ((m : ℕ) → from ≤ m → f m ≡ g m) → format_cells f (up_from from n) ≡ format_cells g (up_from from n)
same_cells zero from f g e = refl
same_cells (suc n) from f g e =
    let rest = same_cells n (suc from) f g (λ m h. e m (omega arith)) in
    λ i. format_cell (e from (omega arith) i) ∷ rest i

-- over the first mode and the number of modes
formats_set : (n from k mode : ℕ) (formats : ℕ → Option Format) (new : Format) → mode ≡ from + k → k < n
    → set (format_cells formats (up_from from n)) k (format_cell (some new)) ≡ format_cells (λ m. cond (eqb mode m) (some new) (formats m)) (up_from from n)
formats_set zero from k mode formats new e h = absurd (omega arith)
formats_set (suc n) from zero mode formats new e h =
    let here : eqb mode from ≡ _ = eq-eqb mode from (omega arith) in
    let later : (m : ℕ) → suc from ≤ m → formats m ≡ cond (eqb mode m) (some new) (formats m) =
    λ m b. sym (ap (λ (x : Bool). cond x (some new) (formats m)) (ne_eqb mode m (λ (i : mode ≡ m). omega arith)))
    in
    let rest = same_cells n (suc from) formats (λ m. cond (eqb mode m) (some new) (formats m)) later in
    λ i. format_cell (cond (sym here i) (some new) (formats from)) ∷ rest i
formats_set (suc n) from (suc k) mode formats new e h =
    let here : eqb mode from ≡ _ = ne_eqb mode from (λ (i : mode ≡ from). omega arith) in
    let rest = formats_set n (suc from) k mode formats new (omega arith) (omega arith) in
    λ i. format_cell (cond (sym here i) (some new) (formats from)) ∷ rest i

-- ---- cells in a row

-- stores within, one list of them after another
pub stored_in_append : (b : List ℕ) (xs ys : List Store) → stored_in b (xs ++ ys) ≡ stored_in (stored_in b xs) ys
stored_in_append b [] ys = refl
stored_in_append b (put k v ∷ xs) ys = stored_in_append (set b k v) xs ys

stores_sets : (b : List ℕ) (index : ℕ) (xs : List ℕ) → stored_in b (cell_stores index xs) ≡ sets b index xs
unfolding cell_stores
stores_sets b index [] = refl
stores_sets b index (x ∷ xs) = stores_sets (set b index x) (suc index) xs

-- as many cells as there were, between others
cells_between : (front old rest xs : List ℕ) (index : ℕ) → length front ≡ index → length old ≡ length xs → stored_in (front ++ (old ++ rest)) (cell_stores index xs) ≡ front ++ (xs ++ rest)
cells_between front old rest xs index e same =
    let c : List ℕ = front ++ (old ++ rest) in
    let size : length c ≡ length front + (length old + length rest) = length-append front (old ++ rest) ∙ ap (λ (n : ℕ). length front + n) (length-append old rest) in
    let before : length (front ++ old) ≡ index + length xs = length-append front old ∙ (λ i. e i + same i) in
    stores_sets c index xs ∙ sets-eq xs c index (omega arith)
    ∙ (λ i. take_at front (old ++ rest) index e i ++ xs ++ drop (index + length xs) (sym (append_assoc front old rest) i))
    ∙ ap (λ (l : List ℕ). front ++ xs ++ l) (drop_at (front ++ old) rest (index + length xs) before)
    ∙ append_assoc front xs rest

pub cells_within : (index : ℕ) (xs : List ℕ) → index + length xs ≤ stride → (ys : List Store) → Within ys → Within (cell_stores index xs ++ ys)
unfolding cell_stores
cells_within index [] h ys k = k
cells_within index (x ∷ xs) h ys k = (omega arith, cells_within (suc index) xs (omega arith) ys k)

-- ---- a record's cells: those up to the state, what was asked, its number, what was answered, the formats, and the two lists

abbrev shape : Record → ℕ → List ℕ → ℕ → List ℕ → List ℕ → List ℕ
shape r state asked experiment answered rest =
    let f = r.facts in
    wiring_cell f.wiring ∷ r.port ∷ f.device ∷ first_partner f.wiring ∷ second_partner f.wiring ∷ state ∷ (asked ++ (experiment ∷ (answered ++ rest)))

three_asked : (x : Option Asking) → length (asked_cells x) ≡ 3
three_asked none = refl
three_asked (some (asked_single s)) = refl
three_asked (some asked_combined) = refl

three_answered : (x : Option Answering) → length (answered_cells x) ≡ 3
three_answered none = refl
three_answered (some (answered_single s)) = refl
three_answered (some (answered_combined p l)) = refl

-- the cells before the formats, and what stands behind them
module _ (r : Record) (state : ℕ) (asked : List ℕ) (experiment : ℕ) (answered : List ℕ) where
  pub split : (rest : List ℕ) → shape r state asked experiment answered rest ≡ shape r state asked experiment answered [] ++ rest
  split rest =
      let f = r.facts in
      let six : List ℕ → List ℕ = λ l. wiring_cell f.wiring ∷ r.port ∷ f.device ∷ first_partner f.wiring ∷ second_partner f.wiring ∷ state ∷ l in
      ap six (ap (λ (l : List ℕ). asked ++ (experiment ∷ (l ++ rest))) (sym (append-nil answered)) ∙ sym (append_assoc asked (experiment ∷ (answered ++ [])) rest))

  pub front_length : length asked ≡ 3 → length answered ≡ 3 → length (shape r state asked experiment answered []) ≡ formats_index
  front_length x y =
      ap (λ (n : ℕ). suc (suc (suc (suc (suc (suc n)))))) (length-append asked (experiment ∷ (answered ++ [])) ∙ (λ i. x i + suc ((length-append answered [] ∙ ap (λ (n : ℕ). n + 0) y) i)))

  module _ (x : length asked ≡ 3) (y : length answered ≡ 3) where
    -- a list in place of another, behind the formats and behind the first list
    pub first_list : (fs old rest xs : List ℕ) → length fs ≡ 16 → length old ≡ length xs → stored_in (shape r state asked experiment answered (fs ++ (old ++ rest))) (cell_stores list_index xs) ≡ shape r state asked experiment answered (fs ++ (xs ++ rest))
    first_list fs old rest xs many same =
        let front : List ℕ = shape r state asked experiment answered [] in
        let join : (l : List ℕ) → shape r state asked experiment answered (fs ++ l) ≡ (front ++ fs) ++ l = λ l. split (fs ++ l) ∙ sym (append_assoc front fs l) in
        ap (λ (l : List ℕ). stored_in l (cell_stores list_index xs)) (join (old ++ rest))
        ∙ cells_between (front ++ fs) old rest xs list_index (length-append front fs ∙ (λ i. front_length x y i + many i)) same
        ∙ sym (join (xs ++ rest))

    pub second_list : (fs kept old xs : List ℕ) → length fs ≡ 16 → length kept ≡ 17 → length old ≡ length xs → stored_in (shape r state asked experiment answered (fs ++ (kept ++ old))) (cell_stores taken_index xs) ≡ shape r state asked experiment answered (fs ++ (kept ++ xs))
    second_list fs kept old xs many seventeen same =
        let front : List ℕ = shape r state asked experiment answered [] in
        let join : (l : List ℕ) → shape r state asked experiment answered (fs ++ (kept ++ l)) ≡ (front ++ (fs ++ kept)) ++ (l ++ []) =
        λ l. split (fs ++ (kept ++ l)) ∙ ap (λ (k : List ℕ). front ++ k) (sym (append_assoc fs kept l)) ∙ sym (append_assoc front (fs ++ kept) l) ∙ ap (λ (k : List ℕ). (front ++ (fs ++ kept)) ++ k) (sym (append-nil l))
        in
        ap (λ (l : List ℕ). stored_in l (cell_stores taken_index xs)) (join old)
        ∙ cells_between (front ++ (fs ++ kept)) old [] xs taken_index (length-append front (fs ++ kept) ∙ (λ i. front_length x y i + (length-append fs kept ∙ (λ j. many j + seventeen j)) i)) same
        ∙ sym (join xs)

abbrev pub format_stores : ℕ → Format → List Store
format_stores mode new = put (formats_index + mode) (format_cell (some new)) ∷ []

pub format_block : (r : Record) (mode : ℕ) (new : Format) → mode ≤ last_mode
    → stored_in (record_cells r) (format_stores mode new) ≡ record_cells (with_facts_lem r (on_settings (learn (Formatted mode new) []) r.facts))
unfolding record_cells learn
format_block r mode new h =
    let s : Settings = r.facts.settings in
    let x : List ℕ = asked_cells s.asked in
    let y : List ℕ = answered_cells s.answered in
    let front : List ℕ = shape r s.state x s.experiment y [] in
    let lists : List ℕ = list_cells s.list ++ list_cells (taken_by s.answered) in
    let told : ℕ → Option Format = λ m. cond (eqb mode m) (some new) (s.formats m) in
    let here : List ℕ = format_cells s.formats modes in
    ap (λ (l : List ℕ). set l (formats_index + mode) (format_cell (some new))) (split r s.state x s.experiment y (here ++ lists))
    ∙ set_past front (here ++ lists) formats_index mode (format_cell (some new)) (front_length r s.state x s.experiment y (three_asked s.asked) (three_answered s.answered))
    ∙ ap (λ (l : List ℕ). front ++ l) (set-append_left here lists mode (format_cell (some new)) (omega arith) ∙ ap (λ (l : List ℕ). l ++ lists) (formats_set mode_count 0 mode mode s.formats new (sym (zero-add mode)) (omega arith)))
    ∙ sym (split r s.state x s.experiment y (format_cells told modes ++ lists))

-- ---- askings and answers

asking_cells : (r : Record) (state m d n x experiment : ℕ) (asked : Option Asking) (answered rest : List ℕ)
    → stored_in (shape r state (asked_cells asked) experiment answered rest) (asking_stores m d n x) ≡ shape r 1 (m ∷ d ∷ n ∷ []) x answered rest
asking_cells r state m d n x experiment none answered rest = refl
asking_cells r state m d n x experiment (some (asked_single s)) answered rest = refl
asking_cells r state m d n x experiment (some asked_combined) answered rest = refl

answer_cells : (r : Record) (state m d n new experiment : ℕ) (asked : Option Asking) (answered : Option Answering) (rest : List ℕ)
    → stored_in (shape r state (asked_cells asked) experiment (answered_cells answered) rest) (three_stores answered_index m d n new) ≡ shape r new (asked_cells asked) experiment (m ∷ d ∷ n ∷ []) rest
answer_cells r state m d n new experiment none none rest = refl
answer_cells r state m d n new experiment none (some (answered_single s)) rest = refl
answer_cells r state m d n new experiment none (some (answered_combined p l)) rest = refl
answer_cells r state m d n new experiment (some (asked_single t)) none rest = refl
answer_cells r state m d n new experiment (some (asked_single t)) (some (answered_single s)) rest = refl
answer_cells r state m d n new experiment (some (asked_single t)) (some (answered_combined p l)) rest = refl
answer_cells r state m d n new experiment (some asked_combined) none rest = refl
answer_cells r state m d n new experiment (some asked_combined) (some (answered_single s)) rest = refl
answer_cells r state m d n new experiment (some asked_combined) (some (answered_combined p l)) rest = refl

pub ask_block : (r : Record) (s : Setup) (x : ℕ)
    → stored_in (record_cells r) (asked_stores s x) ≡ record_cells (with_facts_lem r (on_settings (learn (Asked s x) []) r.facts))
unfolding record_cells learn
ask_block r s x =
    let t : Settings = r.facts.settings in
    rw add-one (asking_cells r t.state (suc s.mode) s.delta s.notify x t.experiment t.asked (answered_cells t.answered) (format_cells t.formats modes ++ (list_cells t.list ++ list_cells (taken_by t.answered))))

pub list_block : (r : Record) (o : List ℕ) (x : ℕ)
    → stored_in (record_cells r) (listed_stores o x) ≡ record_cells (with_facts_lem r (on_settings (learn (Listed x) o) r.facts))
unfolding record_cells learn
list_block r o x =
    let t : Settings = r.facts.settings in
    let fs : List ℕ = format_cells t.formats modes in
    let taken : List ℕ = list_cells (taken_by t.answered) in
    stored_in_append (record_cells r) (cell_stores list_index (list_cells (some o))) (asking_stores combined_cell 0 0 x)
    ∙ ap (λ (l : List ℕ). stored_in l (asking_stores combined_cell 0 0 x))
    (first_list r t.state (asked_cells t.asked) t.experiment (answered_cells t.answered) (three_asked t.asked) (three_answered t.answered) fs (list_cells t.list) taken (list_cells (some o)) refl (list_length t.list ∙ sym (list_length (some o))))
    ∙ asking_cells r t.state combined_cell 0 0 x t.experiment t.asked (answered_cells t.answered) (fs ++ (list_cells (some o) ++ taken))

-- another answer, with the cells of the list that it took over
answered_block : (r : Record) (m d n state : ℕ) (xs : List ℕ) → length xs ≡ 17
    → stored_in (record_cells r) (cell_stores taken_index xs ++ three_stores answered_index m d n state)
    ≡ shape r state (asked_cells r.facts.settings.asked) r.facts.settings.experiment (m ∷ d ∷ n ∷ []) (format_cells r.facts.settings.formats modes ++ (list_cells r.facts.settings.list ++ xs))
unfolding record_cells
answered_block r m d n state xs many =
    let t : Settings = r.facts.settings in
    let fs : List ℕ = format_cells t.formats modes in
    stored_in_append (record_cells r) (cell_stores taken_index xs) (three_stores answered_index m d n state)
    ∙ ap (λ (l : List ℕ). stored_in l (three_stores answered_index m d n state))
    (second_list r t.state (asked_cells t.asked) t.experiment (answered_cells t.answered) (three_asked t.asked) (three_answered t.answered) fs (list_cells t.list) (list_cells (taken_by t.answered)) xs refl (list_length t.list) (list_length (taken_by t.answered) ∙ sym many))
    ∙ answer_cells r t.state m d n state t.experiment t.asked t.answered (fs ++ (list_cells t.list ++ xs))

pub answer_block : (r : Record) (s : Setup)
    → stored_in (record_cells r) (answered_stores s (answered_state r.facts.settings.asked s)) ≡ record_cells (with_facts_lem r (on_settings (learn (Answered s) []) r.facts))
unfolding record_cells learn list_cells
answer_block r s = answered_block r (s.mode + 1) s.delta s.notify (answered_state r.facts.settings.asked s) (replicate (suc most_entries) 0) refl ∙ rw add-one

-- a 48, where the port keeps a list
pub combine_block : (r : Record) (p : ℕ) (list : List ℕ) → r.facts.settings.list ≡ some list
    → stored_in (record_cells r) (taken_stores p (combined_state r.facts.settings.asked p list) (list_cells (some list))) ≡ record_cells (with_facts_lem r (on_settings (learn (Combined p) []) r.facts))
unfolding record_cells learn
combine_block r p list is =
    let s : Settings = r.facts.settings in
    answered_block r combined_cell p 0 (combined_state s.asked p list) (list_cells (some list)) (list_length (some list))
    ∙ sym (ap (λ (l : Option (List ℕ)). record_cells (with_facts_lem r (on_settings (take_over p l) r.facts))) is)

-- what was asked, and the list that is kept
asked_cells_lem : (r : Record) (state : ℕ) (asked : Option Asking) (list : Option (List ℕ)) (experiment : ℕ) (answered rest : List ℕ) → asked_fits asked list ≡ true → asked_from (shape r state (asked_cells asked) experiment answered rest) asked_index ≡ asked
asked_cells_lem r state none list experiment answered rest e = refl
asked_cells_lem r state (some (asked_single s)) list experiment answered rest e = asked_back (some (asked_single s)) list e
asked_cells_lem r state (some asked_combined) list experiment answered rest e = refl

pub asked_block : (r : Record) → asked_fits r.facts.settings.asked r.facts.settings.list ≡ true → asked_from (record_cells r) asked_index ≡ r.facts.settings.asked
unfolding record_cells
asked_block r e =
    let t : Settings = r.facts.settings in
    asked_cells_lem r t.state t.asked t.list t.experiment (answered_cells t.answered) (format_cells t.formats modes ++ (list_cells t.list ++ list_cells (taken_by t.answered))) e

-- its cells
pub kept_block : (r : Record) → take (suc most_entries) (drop list_index (record_cells r)) ≡ list_cells r.facts.settings.list
unfolding record_cells
kept_block r =
    let t : Settings = r.facts.settings in
    let fs : List ℕ = format_cells t.formats modes in
    let kept : List ℕ = list_cells t.list in
    let taken : List ℕ = list_cells (taken_by t.answered) in
    let x : List ℕ = asked_cells t.asked in
    let y : List ℕ = answered_cells t.answered in
    let front : List ℕ = shape r t.state x t.experiment y [] in
    ap (λ (l : List ℕ). take (suc most_entries) (drop list_index l)) (split r t.state x t.experiment y (fs ++ (kept ++ taken)) ∙ sym (append_assoc front fs (kept ++ taken)))
    ∙ ap (take (suc most_entries)) (drop_at (front ++ fs) (kept ++ taken) list_index (length-append front fs ∙ ap (λ (n : ℕ). n + 16) (front_length r t.state x t.experiment y (three_asked t.asked) (three_answered t.answered))))
    ∙ take_at kept taken (suc most_entries) (list_length t.list)

-- ---- who a record is wired to

pub kind_block : (r : Record) → get_or (record_cells r) wiring_index 0 ≡ wiring_cell r.facts.wiring
unfolding record_cells
kind_block r = refl

pub first_block : (r : Record) → get_or (record_cells r) first_index 0 ≡ first_partner r.facts.wiring
unfolding record_cells
first_block r = refl

pub second_block : (r : Record) → get_or (record_cells r) second_index 0 ≡ second_partner r.facts.wiring
unfolding record_cells
second_block r = refl

-- ---- a new record in a free place

abbrev pub attach_stores : ℕ → ℕ → List Store
attach_stores port device = put wiring_index (wiring_cell Unjoined) ∷ put port_index port ∷ put device_index device ∷ []

pub attach_block : (port device : ℕ) → stored_in (place_cells none) (attach_stores port device) ≡ place_cells (some (new_record port device Unjoined))
unfolding record_cells list_cells
attach_block port device = refl

abbrev pub virtual_stores : ℕ → ℕ → ℕ → ℕ → List Store
virtual_stores port device a b = put wiring_index (wiring_cell (Virtual a b)) ∷ put port_index port ∷ put device_index device ∷ put first_index a ∷ put second_index b ∷ []

pub virtual_block : (port device a b : ℕ) → stored_in (place_cells none) (virtual_stores port device a b) ≡ place_cells (some (new_record port device (Virtual a b)))
unfolding record_cells list_cells
virtual_block port device a b = refl
