-- A well formed table is sound, as facts about its ports.
use Prim.Native.Nat.{ℕ, ◌<◌}
use mathlib.Core.Path.{◌≡◌, refl, sym, ◌∙◌, ap}
use mathlib.Core.Bool.{true, false, not, ◌&&◌}
use mathlib.Core.List.{[], ◌∷◌}
use mathlib.Core.Option.{Option, none, some}
use mathlib.Core.Logic.{⊎_elim}
use native.Mathlib.Omega.{arith}
use borrow.Author.Tests.{eqb-true, eqb-false, ltb-true}
use lib.Dec.{eqb, ltb}
use lib.ListN.{length}
use Rattle.protocol.proofs.Tests.{which, and_left, and_right}
use Rattle.rules.specs.Layout.{port_count, places}
use Rattle.rules.specs.Facts.{Wiring, Unjoined, Joined, Virtual, Facts, View, known}
use Rattle.rules.specs.Table.{Record, Table, view_of_table}
use Rattle.rules.specs.WellFormed.{joined_to, is_joined_to, pair_with, is_pair_with, wiring_fits, settings_fit, facts_fit, record_fits, places_fit, well_formed}
use Rattle.rules.proofs.SettingsFit.{NoHigh, five_passed}
use Rattle.rules.proofs.CellsTable.{NoHighFormats}
use Rattle.rules.proofs.Kept.{not_same}
use Rattle.rules.proofs.Pairs.{Wired, Named}
use Rattle.rules.proofs.Sound.{wiring?, wired_in, Distinct, Sound, seen}
use Rattle.rules.proofs.Step.{either_is}

-- what the tests of a port's record say
record Passed (view : View) (p : ℕ) (f : Facts) : Type 0 where
  small : p < port_count
  lists : facts_fit f ≡ true
  wires : wiring_fits view p f.wiring ≡ true

passed : (view : View) (r : Record) → record_fits view r ≡ true → Passed view r.port r.facts
passed view r e =
    let front = and_left (ltb r.port port_count && facts_fit r.facts) (wiring_fits view r.port r.facts.wiring) e in
    record {
      small = ltb-true r.port port_count (and_left (ltb r.port port_count) (facts_fit r.facts) front);
      lists = and_right (ltb r.port port_count) (facts_fit r.facts) front;
      wires = and_right (ltb r.port port_count && facts_fit r.facts) (wiring_fits view r.port r.facts.wiring) e;
    }

-- the tests of the first record and of the places after it
record Split (view : View) (r : Record) (u : Table) : Type 0 where
  here : record_fits view r ≡ true
  once : known (view_of_table u r.port) ≡ false
  rest : places_fit view u ≡ true

split : (view : View) (r : Record) (u : Table) → places_fit view (some r ∷ u) ≡ true → Split view r u
split view r u e =
    let front = and_left (record_fits view r && not (known (view_of_table u r.port))) (places_fit view u) e in
    record {
      here = and_left (record_fits view r) (not (known (view_of_table u r.port))) front;
      once = not_same (known (view_of_table u r.port)) (and_right (record_fits view r) (not (known (view_of_table u r.port))) front);
      rest = and_right (record_fits view r && not (known (view_of_table u r.port))) (places_fit view u) e;
    }

distinct : (view : View) (u : Table) → places_fit view u ≡ true → Distinct u
distinct view [] e = tt
distinct view (none ∷ u) e = distinct view u e
distinct view (some r ∷ u) e = let k = split view r u e in (k.once, distinct view u k.rest)

-- a port that is found is that of a record
found : (view : View) (u : Table) → places_fit view u ≡ true → NoHighFormats u → (p : ℕ) (f : Facts) → view_of_table u p ≡ some f → Passed view p f × NoHigh f.settings.formats
found view [] e high p f k = let z : ◌≡◌ {A = ℕ} 0 1 = cc in absurd (omega arith)
found view (none ∷ u) e high p f k = found view u e high p f k
found view (some r ∷ u) e high p f k =
    let parts = split view r u e in
    ⊎_elim
    (λ (i : eqb r.port p ≡ true).
    let there : some r.facts ≡ some f = rw i at k in
    let same : r.facts ≡ f = cc in
    rw (sym same, sym (eqb-true r.port p i)) (passed view r parts.here, high.0))
    (λ (i : eqb r.port p ≡ false). found view u parts.rest high.1 p f (rw i at k))
    (which (eqb r.port p))

-- ---- who is joined to whom

joined_from : (x : Option Facts) (v : ℕ) → is_joined_to v x ≡ true → wiring? x ≡ some (Joined v)
joined_from none v e = let z : ◌≡◌ {A = ℕ} 0 1 = cc in absurd (omega arith)
joined_from (some f) v e = ap some (go f.wiring e)
  where
    go : (w : Wiring) → joined_to v w ≡ true → w ≡ Joined v
    go Unjoined k = let z : ◌≡◌ {A = ℕ} 0 1 = cc in absurd (omega arith)
    go (Joined u) k = ap Joined (eqb-true u v k)
    go (Virtual a b) k = let z : ◌≡◌ {A = ℕ} 0 1 = cc in absurd (omega arith)

named_from : (w : Wired) (p v : ℕ) (x : Option Facts) → w v ≡ wiring? x → is_pair_with p x ≡ true → Named w p v
named_from w p v none k e = let z : ◌≡◌ {A = ℕ} 0 1 = cc in absurd (omega arith)
named_from w p v (some f) k e = go f.wiring k e
  where
    go : (y : Wiring) → w v ≡ some y → pair_with p y ≡ true → Named w p v
    go Unjoined i j = let z : ◌≡◌ {A = ℕ} 0 1 = cc in absurd (omega arith)
    go (Joined u) i j = let z : ◌≡◌ {A = ℕ} 0 1 = cc in absurd (omega arith)
    go (Virtual a b) i j = record { a = a; b = b; pair = i; member = either_is a b p j }

-- the tests of a virtual record
record PairTests (view : View) (v a b : ℕ) : Type 0 where
  apart : a ≡ b → ⊥
  first : is_joined_to v (view a) ≡ true
  second : is_joined_to v (view b) ≡ true

pair_tests : (view : View) (v a b : ℕ) → wiring_fits view v (Virtual a b) ≡ true → PairTests view v a b
pair_tests view v a b e =
    let k = five_passed (ltb a port_count) (ltb b port_count) (not (eqb a b)) (is_joined_to v (view a)) (is_joined_to v (view b)) e in
    record { apart = eqb-false a b (not_same (eqb a b) k.2); first = k.3; second = k.4 }

pub formed_sound : (t : Table) → length t ≡ places → NoHighFormats t → well_formed t ≡ true → Sound t
unfolding well_formed
formed_sound t size high e =
    let view : View = view_of_table t in
    let at : (p : ℕ) (f : Facts) → view p ≡ some f → Passed view p f × NoHigh f.settings.formats = found view t e high in
    let wires : (p : ℕ) (y : Wiring) → wired_in t p ≡ some y → wiring_fits view p y ≡ true =
    λ p y k. let s = seen (view p) y k in sym (ap (wiring_fits view p) s.wired) ∙ (at p s.facts s.is).0.wires
    in
    record {
      loose = record {
        size = size;
        distinct = distinct view t e;
        fit = λ p f k. let x = at p f k in record {
          small = x.0.small;
          device = and_left (ltb f.device 65536) (settings_fit f.settings) x.0.lists;
          settings = record { lists = and_right (ltb f.device 65536) (settings_fit f.settings) x.0.lists; high = x.1 };
        };
      };
      pairs = record {
        up = λ p v k. named_from (wired_in t) p v (view v) refl (and_right (ltb v port_count) (is_pair_with p (view v)) (wires p (Joined v) k));
        first = λ v a b k. joined_from (view a) v (pair_tests view v a b (wires v (Virtual a b) k)).first;
        second = λ v a b k. joined_from (view b) v (pair_tests view v a b (wires v (Virtual a b) k)).second;
        apart = λ v a b k. (pair_tests view v a b (wires v (Virtual a b) k)).apart;
      };
    }
