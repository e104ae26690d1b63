-- All sixteen places are in use exactly if sixteen ports are present.
use Prim.Native.Nat.{ℕ, zero, suc, ◌+◌, ◌≤◌, ◌<◌}
use mathlib.Core.Path.{◌≡◌, refl, sym, ◌∙◌, ap}
use mathlib.Core.Bool.{Bool, true, false, cond}
use mathlib.Core.List.{[], ◌∷◌}
use mathlib.Core.Option.{Option, none, some}
use mathlib.Core.Logic.{◌⊎◌, inl, inr, ⊎_elim}
use native.Mathlib.Omega.{arith}
use borrow.Author.Tests.{eqb-true, eqb-false, eq-eqb, lt-ltb, le-ltb, le-leb, lt-leb, ltb-true, ltb-false}
use lib.Dec.{eqb, leb, ltb}
use lib.ListN.{length}
use Rattle.protocol.proofs.Tests.{which}
use Rattle.rules.specs.Layout.{port_count, places}
use Rattle.rules.specs.Facts.{Facts, known}
use Rattle.rules.specs.History.{one_if, present_below}
use Rattle.rules.specs.Table.{Record, Table, full_table, view_of_table}
use Rattle.rules.proofs.Sound.{Distinct, Sound}

-- how many places are in use
abbrev pub used : Table → ℕ
used [] = 0
used (none ∷ t) = used t
used (some r ∷ t) = suc (used t)

pub used_le : (t : Table) → used t ≤ length t
used_le [] = omega arith
used_le (none ∷ t) = omega (arith, used_le t)
used_le (some r ∷ t) = omega (arith, used_le t)

full_used : (t : Table) → full_table t ≡ true → used t ≡ length t
full_used [] e = refl
full_used (none ∷ t) e = let z : ◌≡◌ {A = ℕ} 0 1 = cc in absurd (omega arith)
full_used (some r ∷ t) e = ap suc (full_used t e)

room_used : (t : Table) → full_table t ≡ false → suc (used t) ≤ length t
room_used [] e = let z : ◌≡◌ {A = ℕ} 0 1 = cc in absurd (omega arith)
room_used (none ∷ t) e = omega (arith, used_le t)
room_used (some r ∷ t) e = omega (arith, room_used t e)

-- a record counts once, where its port is below the number
record_counts : (r : Record) (t : Table) → known (view_of_table t r.port) ≡ false → (n : ℕ) → present_below n (view_of_table (some r ∷ t)) ≡ one_if (ltb r.port n) + present_below n (view_of_table t)
record_counts r t fresh zero = rw (le-ltb r.port 0 (omega arith))
record_counts r t fresh (suc p) =
    ⊎_elim
    (λ (e : eqb r.port p ≡ true).
    let same : r.port ≡ p = eqb-true r.port p e in
    let none_there : known (view_of_table t p) ≡ false = ap (λ (q : ℕ). known (view_of_table t q)) (sym same) ∙ fresh in
    rw (e, none_there, lt-ltb r.port (suc p) (omega arith), record_counts r t fresh p, le-ltb r.port p (omega arith)) (omega arith))
    (λ (e : eqb r.port p ≡ false).
    rw (e, record_counts r t fresh p) (other (which (ltb r.port p)) (eqb-false r.port p e)))
    (which (eqb r.port p))
  where
    other : (ltb r.port p ≡ true) ⊎ (ltb r.port p ≡ false) → (r.port ≡ p → ⊥)
        → one_if (known (view_of_table t p)) + (one_if (ltb r.port p) + present_below p (view_of_table t)) ≡ one_if (ltb r.port (suc p)) + (one_if (known (view_of_table t p)) + present_below p (view_of_table t))
    other (inl k) n = rw (k, lt-ltb r.port (suc p) (omega (arith, ltb-true r.port p k))) (omega arith)
    other (inr k) n = rw (k, le-ltb r.port (suc p) (omega (arith, ltb-false r.port p k))) (omega arith)

empty_counts : (n : ℕ) → present_below n (view_of_table []) ≡ 0
empty_counts zero = refl
empty_counts (suc n) = rw (empty_counts n)

counted : (t : Table) → Distinct t → ((p : ℕ) → known (view_of_table t p) ≡ true → p < port_count) → present_below port_count (view_of_table t) ≡ used t
counted [] d low = empty_counts port_count
counted (none ∷ t) d low = counted t d low
counted (some r ∷ t) d low =
    let small : r.port < port_count = low r.port (rw (eq-eqb r.port r.port refl)) in
    record_counts r t d.0 port_count ∙ rw (lt-ltb r.port port_count small, counted t d.1 (λ p e. low p (past p e))) (omega arith)
  where
    past : (p : ℕ) → known (view_of_table t p) ≡ true → known (view_of_table (some r ∷ t) p) ≡ true
    past p e = go (eqb r.port p)
      where
        go : (b : Bool) → known (cond b (some r.facts) (view_of_table t p)) ≡ true
        go true = refl
        go false = e

known_some : (x : Option Facts) → known x ≡ true → (f : Facts) × (x ≡ some f)
known_some none e = let z : ◌≡◌ {A = ℕ} 0 1 = cc in absurd (omega arith)
known_some (some f) e = (f, refl)

-- as many ports are present as places are in use
pub present_used : (t : Table) → Sound t → present_below port_count (view_of_table t) ≡ used t
present_used t s = counted t s.loose.distinct (λ p e. let k = known_some (view_of_table t p) e in (s.loose.fit p k.0 k.1).small)

pub same_full : (t : Table) → Sound t → full_table t ≡ leb places (present_below port_count (view_of_table t))
same_full t s =
    let total : present_below port_count (view_of_table t) ≡ used t = present_used t s in
    ⊎_elim
    (λ (e : full_table t ≡ true). e ∙ sym (ap (leb places) total ∙ le-leb places (used t) (omega (arith, full_used t e, s.loose.size))))
    (λ (e : full_table t ≡ false). e ∙ sym (ap (leb places) total ∙ lt-leb places (used t) (omega (arith, room_used t e, s.loose.size))))
    (which (full_table t))
