-- Demand 3: the table and the reader without a table agree, through every list of messages.
use Prim.Native.Nat.{ℕ, zero, suc}
use mathlib.Core.Path.{◌≡◌, refl, sym, ◌∙◌, ap}
use mathlib.Core.List.{List, [], ◌∷◌}
use mathlib.Core.Option.{none, some}
use native.Mathlib.Omega.{arith}
use lib.Dec.{leb}
use lib.ListN.{replicate}
use Rattle.protocol.specs.declared.Way.{Way}
use Rattle.rules.specs.Layout.{port_count, places}
use Rattle.rules.specs.Answer.{Answer, refused, accepted}
use Rattle.rules.specs.Effect.{Event, event}
use Rattle.rules.specs.Facts.{View, Ports}
use Rattle.rules.specs.History.{History, since_attached, view_of_history, present_below, full_history, ports_of_history}
use Rattle.rules.specs.Table.{Table, view_of_table, modes_of_table, ports_of_table, full_table, apply}
use Rattle.rules.specs.Cells.{cells_of, table_at, empty_cells}
use Rattle.rules.specs.Datasets.{all_datasets}
use Rattle.rules.specs.Present.{present_ports}
use Rattle.rules.specs.Offer.{Entry, judge_entry, dataset_message, offer_by_cells, applied_to, cells_after, dataset_by_cells, dataset_by_past, view_of_cells, view_of_past, extend_history, accepted_history}
use Rattle.rules.specs.Demand3.{Agree, AgreeThrough, EntryFits, EntriesFit, Demand3}
use Rattle.rules.proofs.Lookup.{map_facts}
use Rattle.rules.proofs.Pairs.{pairs_none}
use Rattle.rules.proofs.Sound.{wiring?, wired_in, Distinct, Sound}
use Rattle.rules.proofs.CellsSound.{empty_cells_lem}
use Rattle.rules.proofs.Follows.{unwire, Follows}
use Rattle.rules.proofs.Step.{follows_step}
use Rattle.rules.proofs.Views.{same_view, same_mode}
use Rattle.rules.proofs.Count.{same_full}
use Rattle.rules.proofs.Offered.{was_accepted, back, is_sound, judges, kept}

-- ---- what holds throughout: the cells are those of a sound table that follows the accepted messages

record Holds (cells : List ℕ) (h : History) : Type 0 where
  table : Table
  cells_are : cells ≡ cells_of table
  good : Sound table
  follows : Follows table h

-- the two views, as functions of the port
views : (t : Table) (h : History) → Sound t → Follows t h → view_of_table t ≡ view_of_history h
views t h s f = λ i q. same_view t s h f q i

fulls : (t : Table) (h : History) → Sound t → Follows t h → full_table t ≡ full_history h
unfolding full_history
fulls t h s f = same_full t s ∙ ap (λ (v : View). leb places (present_below port_count v)) (views t h s f)

-- what judging and handing out look at
all_ports : (t : Table) (h : History) → Sound t → Follows t h → ports_of_table t ≡ ports_of_history h
all_ports t h s f = λ i. record { view = views t h s f i; modes = λ q. same_mode t s h f q i; full = fulls t h s f i }

same_verdict : (t : Table) (h : History) → Sound t → Follows t h → (e : Entry) → judge_entry (ports_of_table t) e ≡ judge_entry (ports_of_history h) e
same_verdict t h s f e = ap (λ (p : Ports). judge_entry p e) (all_ports t h s f)

same_dataset : (t : Table) (h : History) → Sound t → Follows t h → (way : Way) (bytes : List ℕ) (n : ℕ) → dataset_by_cells (cells_of t) way bytes n ≡ dataset_message (ports_of_history h) way bytes n
unfolding dataset_by_cells
same_dataset t h s f way bytes n = rw (is_sound t s, back t s) (ap (λ (p : Ports). dataset_message p way bytes n) (all_ports t h s f))

-- ---- through the list

agrees : (cells : List ℕ) (past : List Entry) → Holds cells (accepted_history past) → Agree cells past
agrees cells past k =
    let t : Table = k.table in
    let h : History = accepted_history past in
    let seen : (p : ℕ) → view_of_cells cells p ≡ view_of_past past p =
    λ p. ap (λ (c : List ℕ). view_of_table (table_at c) p) k.cells_are ∙ ap (λ (u : Table). view_of_table u p) (back t k.good) ∙ same_view t k.good h k.follows p
    in
    let handed : (way : Way) (bytes : List ℕ) (n : ℕ) → dataset_by_cells cells way bytes n ≡ dataset_by_past past way bytes n =
    λ way bytes n. ap (λ (c : List ℕ). dataset_by_cells c way bytes n) k.cells_are ∙ same_dataset t h k.good k.follows way bytes n
    in
    record {
      ports = seen;
      modes = λ p. ap (λ (c : List ℕ). modes_of_table (table_at c) p) k.cells_are ∙ ap (λ (u : Table). modes_of_table u p) (back t k.good) ∙ same_mode t k.good h k.follows p;
      datasets = handed;
      values = λ way bytes. λ i. all_datasets (λ n. handed way bytes n i);
      present = λ i. present_ports (λ p. seen p i);
    }

answers : (cells : List ℕ) (h : History) → Holds cells h → (e : Entry) → offer_by_cells cells e ≡ judge_entry (ports_of_history h) e
answers cells h k e = ap (λ (c : List ℕ). offer_by_cells c e) k.cells_are ∙ judges k.table k.good e ∙ same_verdict k.table h k.good k.follows e

-- an answer changes the cells and the history alike
next : (cells : List ℕ) (h : History) → Holds cells h → (e : Entry) → EntryFits e → (v : Answer Event) → judge_entry (ports_of_history h) e ≡ v → Holds (applied_to cells v) (extend_history h v)
next cells h k e b (refused n place) j = k
next cells h k e b (accepted (event x o)) j =
    let t : Table = k.table in
    let said : judge_entry (ports_of_table t) e ≡ accepted (event x o) = same_verdict t h k.good k.follows e ∙ j in
    let a = was_accepted (ports_of_table t) e x o said in
    record {
      table = apply x o t;
      cells_are = ap (λ (c : List ℕ). cells_of (apply x o (table_at c))) k.cells_are ∙ ap (λ (u : Table). cells_of (apply x o u)) (back t k.good);
      good = kept t k.good e b x o said;
      follows = follows_step x t h o k.good k.follows a.good;
    }

through : (cells : List ℕ) (past rest : List Entry) → EntriesFit rest → Holds cells (accepted_history past) → AgreeThrough cells past rest
unfolding cells_after
through cells past [] b k = agrees cells past k
through cells past (e ∷ rest) b k =
    let h : History = accepted_history past in
    let same : offer_by_cells cells e ≡ judge_entry (ports_of_history h) e = answers cells h k e in
    let after : Holds (applied_to cells (offer_by_cells cells e)) (accepted_history (e ∷ past)) =
    rw same (next cells h k e b.0 (judge_entry (ports_of_history h) e) refl)
    in
    (agrees cells past k, same, through (applied_to cells (offer_by_cells cells e)) (e ∷ past) rest b.1 after)

-- ---- at the start

none_seen : (n q : ℕ) → view_of_table (replicate n none) q ≡ none
none_seen zero q = refl
none_seen (suc n) q = none_seen n q

none_twice : (n : ℕ) → Distinct (replicate n none)
none_twice zero = tt
none_twice (suc n) = none_twice n

pub empty_table_sound : Sound (replicate places none)
empty_table_sound = record {
  loose = record {
    size = refl;
    distinct = none_twice places;
    fit = λ p f e. let there : none ≡ some f = sym (none_seen places p) ∙ e in let z : ◌≡◌ {A = ℕ} 0 1 = cc in absurd (omega arith);
  };
  pairs = pairs_none (wired_in (replicate places none)) (λ q. ap wiring? (none_seen places q));
}

at_start : Holds empty_cells (accepted_history [])
unfolding since_attached
at_start = record {
  table = replicate places none;
  cells_are = empty_cells_lem;
  good = empty_table_sound;
  follows = λ q. ap (map_facts unwire) (none_seen places q);
}

pub demand_3 : Demand3
demand_3 entries b = through empty_cells [] entries b at_start
