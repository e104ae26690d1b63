-- The changes of a table by the places of its ports.
use Prim.Native.Nat.{ℕ, suc, ◌<◌}
use native.Mathlib.Omega.{arith}
use mathlib.Core.Path.{◌≡◌, refl, sym, ◌∙◌, ap}
use mathlib.Core.Bool.{Bool, true, false, cond}
use mathlib.Core.List.{[], ◌∷◌, map}
use mathlib.Core.Option.{none, some}
use mathlib.Core.Logic.{⊎_elim}
use borrow.Author.Tests.{eqb-true, ne_eqb}
use lib.Dec.{eqb}
use lib.ListN.{length, get_or, set, replicate}
use Rattle.protocol.proofs.Tests.{which}
use Rattle.rules.specs.Facts.{Facts, known}
use Rattle.rules.specs.Table.{Record, Table, full_table, view_of_table, insert, changed, change, remove, freed}
use Rattle.rules.proofs.Sound.{Distinct}
use Rattle.soundness.specs.Place.{place_of, first_free}

-- ---- the place of a port that is present

-- the record of a port stands at its place
pub record Stands (t : Table) (port : ℕ) (f : Facts) : Type 0 where
  pub below : place_of t port < length t
  pub here : get_or t (place_of t port) none ≡ some (record { port = port; facts = f })

pub stands : (t : Table) (port : ℕ) (f : Facts) → view_of_table t port ≡ some f → Stands t port f
stands [] port f e = let one : ◌≡◌ {A = ℕ} 0 1 = cc in absurd (omega arith)
stands (none ∷ t) port f e = let k = stands t port f e in record { below = omega (arith, k.below); here = k.here }
stands (some r ∷ t) port f e =
    ⊎_elim
    (λ (k : eqb r.port port ≡ true).
    let facts : some r.facts ≡ some f = rw k at e in
    let same : r.facts ≡ f = cc in
    let its : r.port ≡ port = eqb-true r.port port k in
    record {
      below = rw k (omega arith);
      here = rw k (λ i. some (record { port = its i; facts = same i }));
    })
    (λ (k : eqb r.port port ≡ false).
    let j = stands t port f (rw k at e) in
    record { below = rw k (omega (arith, j.below)); here = rw k j.here })
    (which (eqb r.port port))

-- ---- a port that is not present

change_absent : (t : Table) (port : ℕ) (g : Facts → Facts) → known (view_of_table t port) ≡ false → change port g t ≡ t
change_absent [] port g n = refl
change_absent (none ∷ t) port g n = ap (λ (u : Table). none ∷ u) (change_absent t port g n)
change_absent (some r ∷ t) port g n =
    ⊎_elim
    (λ (k : eqb r.port port ≡ true). let z : true ≡ false = rw k at n in let one : ◌≡◌ {A = ℕ} 0 1 = cc in absurd (omega arith))
    (λ (k : eqb r.port port ≡ false).
    let rest = change_absent t port g (rw k at n) in
    λ i. some (record { port = r.port; facts = cond (k i) (g r.facts) r.facts }) ∷ rest i)
    (which (eqb r.port port))

remove_absent : (t : Table) (port : ℕ) → known (view_of_table t port) ≡ false → remove port t ≡ t
remove_absent [] port n = refl
remove_absent (none ∷ t) port n = ap (λ (u : Table). none ∷ u) (remove_absent t port n)
remove_absent (some r ∷ t) port n =
    ⊎_elim
    (λ (k : eqb r.port port ≡ true). let z : true ≡ false = rw k at n in let one : ◌≡◌ {A = ℕ} 0 1 = cc in absurd (omega arith))
    (λ (k : eqb r.port port ≡ false).
    let rest = remove_absent t port (rw k at n) in
    λ i. cond (k i) none (some r) ∷ rest i)
    (which (eqb r.port port))

-- ---- changes in one place

-- no later place has the port
alone : (t : Table) (r : Record) (port : ℕ) → known (view_of_table t r.port) ≡ false → eqb r.port port ≡ true → known (view_of_table t port) ≡ false
alone t r port n k = ap (λ (q : ℕ). known (view_of_table t q)) (sym (eqb-true r.port port k)) ∙ n

pub change_place : (t : Table) (port : ℕ) (g : Facts → Facts) (f : Facts) → Distinct t → view_of_table t port ≡ some f
    → change port g t ≡ set t (place_of t port) (some (record { port = port; facts = g f }))
change_place [] port g f d e = refl
change_place (none ∷ t) port g f d e = ap (λ (u : Table). none ∷ u) (change_place t port g f d e)
change_place (some r ∷ t) port g f d e =
    ⊎_elim
    (λ (k : eqb r.port port ≡ true).
    let facts : some r.facts ≡ some f = rw k at e in
    let same : r.facts ≡ f = cc in
    let its : r.port ≡ port = eqb-true r.port port k in
    let rest = change_absent t port g (alone t r port d.0 k) in
    let first : changed port g r ≡ record { port = port; facts = g f } = λ i. record { port = its i; facts = cond (k i) (g (same i)) (same i) } in
    (λ i. some (first i) ∷ rest i) ∙ sym (ap (λ (b : Bool). set (some r ∷ t) (cond b 0 (suc (place_of t port))) (some (record { port = port; facts = g f }))) k))
    (λ (k : eqb r.port port ≡ false).
    let rest = change_place t port g f d.1 (rw k at e) in
    (λ i. some (record { port = r.port; facts = cond (k i) (g r.facts) r.facts }) ∷ rest i)
    ∙ sym (ap (λ (b : Bool). set (some r ∷ t) (cond b 0 (suc (place_of t port))) (some (record { port = port; facts = g f }))) k))
    (which (eqb r.port port))

pub remove_place : (t : Table) (port : ℕ) (f : Facts) → Distinct t → view_of_table t port ≡ some f → remove port t ≡ set t (place_of t port) none
remove_place [] port f d e = refl
remove_place (none ∷ t) port f d e = ap (λ (u : Table). none ∷ u) (remove_place t port f d e)
remove_place (some r ∷ t) port f d e =
    ⊎_elim
    (λ (k : eqb r.port port ≡ true).
    let rest = remove_absent t port (alone t r port d.0 k) in
    (λ i. cond (k i) none (some r) ∷ rest i) ∙ sym (ap (λ (b : Bool). set (some r ∷ t) (cond b 0 (suc (place_of t port))) none) k))
    (λ (k : eqb r.port port ≡ false).
    let rest = remove_place t port f d.1 (rw k at e) in
    (λ i. cond (k i) none (some r) ∷ rest i) ∙ sym (ap (λ (b : Bool). set (some r ∷ t) (cond b 0 (suc (place_of t port))) none) k))
    (which (eqb r.port port))

pub insert_place : (t : Table) (new : Record) → insert new t ≡ set t (first_free t) (some new)
insert_place [] new = refl
insert_place (none ∷ t) new = refl
insert_place (some r ∷ t) new = ap (λ (u : Table). some r ∷ u) (insert_place t new)

-- ---- the lowest free place is free, and within the table unless that is full

pub free_none : (t : Table) → get_or t (first_free t) none ≡ none
free_none [] = refl
free_none (none ∷ t) = refl
free_none (some r ∷ t) = free_none t

pub free_below : (t : Table) → full_table t ≡ false → first_free t < length t
free_below [] e = let one : ◌≡◌ {A = ℕ} 0 1 = cc in absurd (omega arith)
free_below (none ∷ t) e = omega arith
free_below (some r ∷ t) e = omega (arith, free_below t e)

-- ---- places do not move

pub place_change : (t : Table) (q : ℕ) (g : Facts → Facts) (port : ℕ) → place_of (change q g t) port ≡ place_of t port
place_change [] q g port = refl
place_change (none ∷ t) q g port = ap suc (place_change t q g port)
place_change (some r ∷ t) q g port = ap (λ (n : ℕ). cond (eqb r.port port) 0 (suc n)) (place_change t q g port)

pub free_change : (t : Table) (q : ℕ) (g : Facts → Facts) → first_free (change q g t) ≡ first_free t
free_change [] q g = refl
free_change (none ∷ t) q g = refl
free_change (some r ∷ t) q g = ap suc (free_change t q g)

pub place_remove : (t : Table) (q port : ℕ) → (q ≡ port → ⊥) → place_of (remove q t) port ≡ place_of t port
place_remove [] q port n = refl
place_remove (none ∷ t) q port n = ap suc (place_remove t q port n)
place_remove (some r ∷ t) q port n =
    ⊎_elim
    (λ (k : eqb r.port q ≡ true).
    let other : eqb r.port port ≡ false = ne_eqb r.port port (λ (e : r.port ≡ port). n (sym (eqb-true r.port q k) ∙ e)) in
    ap (λ (b : Bool). place_of (cond b none (some r) ∷ remove q t) port) k ∙ ap suc (place_remove t q port n) ∙ sym (ap (λ (b : Bool). cond b 0 (suc (place_of t port))) other))
    (λ (k : eqb r.port q ≡ false).
    ap (λ (b : Bool). place_of (cond b none (some r) ∷ remove q t) port) k ∙ ap (λ (m : ℕ). cond (eqb r.port port) 0 (suc m)) (place_remove t q port n))
    (which (eqb r.port q))

-- ---- every place freed

pub freed_none : (t : Table) → map freed t ≡ replicate (length t) none
freed_none [] = refl
freed_none (p ∷ t) = ap (λ (u : Table). none ∷ u) (freed_none t)
