-- A well formed table, as facts about its ports; every change keeps it so.
use Prim.Native.Nat.{ℕ, ◌<◌}
use mathlib.Core.Path.{◌≡◌, refl, ◌∙◌, ap}
use mathlib.Core.Bool.{Bool, true, false, ◌&&◌, ◌||◌}
use mathlib.Core.List.{[], ◌∷◌}
use mathlib.Core.Option.{Option, none, some}
use mathlib.Core.Logic.{◌⊎◌, inl, inr}
use native.Mathlib.Omega.{arith}
use borrow.Author.Tests.{eq-eqb, ne_eqb, lt-ltb}
use lib.Dec.{eqb, ltb}
use lib.ListN.{length}
use Rattle.rules.specs.Layout.{port_count, places}
use Rattle.rules.specs.Facts.{Wiring, Unjoined, Joined, Virtual, Facts, known}
use Rattle.rules.specs.Table.{Record, Table, view_of_table}
use Rattle.rules.specs.WellFormed.{joined_to, is_joined_to, pair_with, is_pair_with, wiring_fits, record_fits, places_fit, well_formed}
use Rattle.rules.proofs.Pairs.{Wired, Pairs}
use Rattle.rules.proofs.SettingsFit.{Fits}

abbrev pub wiring? : Option Facts → Option Wiring
wiring? none = none
wiring? (some f) = some f.wiring

abbrev pub wired_in : Table → Wired
wired_in t q = wiring? (view_of_table t q)

-- no port stands in a later place too
abbrev pub Distinct : Table → Type 0
Distinct [] = Unit {0}
Distinct (none ∷ t) = Distinct t
Distinct (some r ∷ t) = (known (view_of_table t r.port) ≡ false) × Distinct t

-- a port's facts by themselves
pub record Fit (p : ℕ) (f : Facts) : Type 0 where
  pub small : p < port_count
  pub device : ltb f.device 65536 ≡ true
  pub settings : Fits f.settings

-- all but who is joined to whom
pub record Loose (t : Table) : Type 0 where
  pub size : length t ≡ places
  pub distinct : Distinct t
  pub fit : (p : ℕ) (f : Facts) → view_of_table t p ≡ some f → Fit p f

pub record Sound (t : Table) : Type 0 where
  pub loose : Loose t
  pub pairs : Pairs (wired_in t)

-- the facts of a port whose wiring is known
pub record Seen (x : Option Facts) (y : Wiring) : Type 0 where
  pub facts : Facts
  pub is : x ≡ some facts
  pub wired : facts.wiring ≡ y

pub seen : (x : Option Facts) (y : Wiring) → wiring? x ≡ some y → Seen x y
seen none y e = let z : ◌≡◌ {A = ℕ} 0 1 = cc in absurd (omega arith)
seen (some f) y e = record { facts = f; is = refl; wired = cc }

joined_to_lem : (x : Option Facts) (v : ℕ) → wiring? x ≡ some (Joined v) → is_joined_to v x ≡ true
joined_to_lem x v e =
    let s = seen x (Joined v) e in
    ap (is_joined_to v) s.is ∙ ap (joined_to v) s.wired ∙ eq-eqb v v refl

pub or_either : (a b p : ℕ) → (a ≡ p) ⊎ (b ≡ p) → (eqb a p || eqb b p) ≡ true
or_either a b p (inl e) = rw (eq-eqb a p e)
or_either a b p (inr e) = last (eqb a p) (eqb b p) (eq-eqb b p e)
  where
    last : (x y : Bool) → y ≡ true → (x || y) ≡ true
    last true y k = refl
    last false y k = k

pair_with_lem : (x : Option Facts) (a b p : ℕ) → wiring? x ≡ some (Virtual a b) → (a ≡ p) ⊎ (b ≡ p) → is_pair_with p x ≡ true
pair_with_lem x a b p e m =
    let s = seen x (Virtual a b) e in
    ap (is_pair_with p) s.is ∙ ap (pair_with p) s.wired ∙ or_either a b p m

both : (a b : Bool) → a ≡ true → b ≡ true → (a && b) ≡ true
both a b x y = rw (x, y)

-- a port of the later places is found past a record
pub found_later : (r : Record) (u : Table) → known (view_of_table u r.port) ≡ false → (p : ℕ) (f : Facts) → view_of_table u p ≡ some f → view_of_table (some r ∷ u) p ≡ some f
found_later r u fresh p f e =
    rw
    (ne_eqb r.port p
    (λ (k : r.port ≡ p).
    let yes : known (view_of_table u r.port) ≡ true = ap (λ (q : ℕ). known (view_of_table u q)) k ∙ ap known e in
    let z : ◌≡◌ {A = ℕ} 0 1 = cc fresh in
    absurd (omega arith)))
    e

module _ (t : Table) (s : Sound t) where
  small_port : (q : ℕ) (y : Wiring) → wired_in t q ≡ some y → ltb q port_count ≡ true
  small_port q y e =
      let k = seen (view_of_table t q) y e in
      lt-ltb q port_count (s.loose.fit q k.facts k.is).small

  pub wiring_fits_lem : (p : ℕ) (y : Wiring) → wired_in t p ≡ some y → wiring_fits (view_of_table t) p y ≡ true
  wiring_fits_lem p Unjoined e = refl
  wiring_fits_lem p (Joined v) e =
      let n = s.pairs.up p v e in
      both (ltb v port_count) (is_pair_with p (view_of_table t v)) (small_port v (Virtual n.a n.b) n.pair) (pair_with_lem (view_of_table t v) n.a n.b p n.pair n.member)
  wiring_fits_lem p (Virtual a b) e =
      let one = s.pairs.first p a b e in
      let two = s.pairs.second p a b e in
      rw (small_port a (Joined p) one, small_port b (Joined p) two, ne_eqb a b (s.pairs.apart p a b e), joined_to_lem (view_of_table t a) p one, joined_to_lem (view_of_table t b) p two)

  record_fits_lem : (r : Record) → view_of_table t r.port ≡ some r.facts → record_fits (view_of_table t) r ≡ true
  record_fits_lem r e =
      let k = s.loose.fit r.port r.facts e in
      rw (lt-ltb r.port port_count k.small, k.device, k.settings.lists) (wiring_fits_lem r.port r.facts.wiring (ap wiring? e))

  -- of a part of the table whose records are found by their ports
  places_fit_lem : (u : Table) → Distinct u → ((p : ℕ) (f : Facts) → view_of_table u p ≡ some f → view_of_table t p ≡ some f) → places_fit (view_of_table t) u ≡ true
  places_fit_lem [] d found = refl
  places_fit_lem (none ∷ u) d found = places_fit_lem u d found
  places_fit_lem (some r ∷ u) d found =
      let here : view_of_table t r.port ≡ some r.facts = found r.port r.facts (rw (eq-eqb r.port r.port refl)) in
      rw (record_fits_lem r here, d.0) (places_fit_lem u d.1 (λ p f e. found p f (found_later r u d.0 p f e)))

  pub sound_formed : well_formed t ≡ true
  unfolding well_formed
  sound_formed = places_fit_lem t s.loose.distinct (λ p f e. e)
