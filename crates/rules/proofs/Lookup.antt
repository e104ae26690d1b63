-- What is known of a port after each of the three changes of a table, and after it was emptied.
use Prim.Native.Nat.{ℕ}
use mathlib.Core.Path.{◌≡◌, refl, sym, ◌∙◌, ap}
use mathlib.Core.Bool.{Bool, true, false, cond}
use mathlib.Core.List.{[], ◌∷◌, map}
use mathlib.Core.Option.{Option, none, some}
use mathlib.Core.Logic.{◌⊎◌, inl, inr, ⊎_elim}
use native.Mathlib.Omega.{arith}
use borrow.Author.Tests.{eqb-true, eq-eqb, ne_eqb, eqb-false}
use lib.Dec.{eqb}
use Rattle.protocol.proofs.Tests.{which}
use Rattle.rules.specs.Facts.{Facts}
use Rattle.rules.specs.Table.{Record, Table, full_table, view_of_table, insert, change, remove, freed}

abbrev pub map_facts : (Facts → Facts) → Option Facts → Option Facts
map_facts f none = none
map_facts f (some x) = some (f x)

-- facts after a change of one port's
abbrev pub after : ℕ → (Facts → Facts) → ℕ → Option Facts → Option Facts
after port f q x = cond (eqb port q) (map_facts f x) x

eqb_sym : (a b : ℕ) → eqb a b ≡ eqb b a
eqb_sym a b =
    ⊎_elim (λ (yes : eqb a b ≡ true). yes ∙ sym (eq-eqb b a (sym (eqb-true a b yes))))
    (λ (no : eqb a b ≡ false). no ∙ sym (ne_eqb b a (λ e. eqb-false a b no (sym e))))
    (which (eqb a b))

same_both : {A : Type 0} (b : Bool) (x : A) → cond b x x ≡ x
same_both true x = refl
same_both false x = refl

-- a function of a choice
pub cond_ap : {A B : Type 0} (k : A → B) (b : Bool) (x y : A) → k (cond b x y) ≡ cond b (k x) (k y)
cond_ap k true x y = refl
cond_ap k false x y = refl

pub view_change : (port : ℕ) (f : Facts → Facts) (t : Table) (q : ℕ) → view_of_table (change port f t) q ≡ after port f q (view_of_table t q)
view_change port f [] q = sym (same_both (eqb port q) none)
view_change port f (none ∷ t) q = view_change port f t q
view_change port f (some r ∷ t) q =
    ⊎_elim
    (λ (yes : eqb r.port q ≡ true).
    let swap : eqb r.port port ≡ eqb port q = ap (λ (k : ℕ). eqb k port) (eqb-true r.port q yes) ∙ eqb_sym q port in
    rw (yes, swap) (cond_ap some (eqb port q) (f r.facts) r.facts))
    (λ (no : eqb r.port q ≡ false). rw no (view_change port f t q))
    (which (eqb r.port q))

pub view_remove : (port : ℕ) (t : Table) (q : ℕ) → view_of_table (remove port t) q ≡ cond (eqb port q) none (view_of_table t q)
view_remove port [] q = sym (same_both (eqb port q) none)
view_remove port (none ∷ t) q = view_remove port t q
view_remove port (some r ∷ t) q =
    ⊎_elim
    (λ (gone : eqb r.port port ≡ true).
    let same : eqb r.port q ≡ eqb port q = ap (λ (k : ℕ). eqb k q) (eqb-true r.port port gone) in
    rw (gone, view_remove port t q, same) (twice (eqb port q) r.facts (view_of_table t q)))
    (λ (stays : eqb r.port port ≡ false).
    rw (stays, view_remove port t q) (other (eqb r.port q) (which (eqb r.port q)) stays))
    (which (eqb r.port port))
  where
    twice : (b : Bool) (x : Facts) (y : Option Facts) → cond b none y ≡ cond b none (cond b (some x) y)
    twice true x y = refl
    twice false x y = refl

    other : (b : Bool) → (eqb r.port q ≡ true) ⊎ (eqb r.port q ≡ false) → eqb r.port port ≡ false
        → cond (eqb r.port q) (some r.facts) (cond (eqb port q) none (view_of_table t q)) ≡ cond (eqb port q) none (cond (eqb r.port q) (some r.facts) (view_of_table t q))
    other b (inl k) stays =
        let apart : eqb port q ≡ false = ne_eqb port q (λ e. eqb-false r.port port stays (eqb-true r.port q k ∙ sym e)) in
        rw (k, apart)
    other b (inr k) stays = rw k

pub view_insert : (new : Record) (t : Table) (q : ℕ) → full_table t ≡ false → view_of_table t new.port ≡ none → view_of_table (insert new t) q ≡ cond (eqb new.port q) (some new.facts) (view_of_table t q)
view_insert new [] q room fresh = let z : ◌≡◌ {A = ℕ} 0 1 = cc in absurd (omega arith)
view_insert new (none ∷ t) q room fresh = refl
view_insert new (some r ∷ t) q room fresh =
    ⊎_elim
    (λ (yes : eqb r.port new.port ≡ true). let there : some r.facts ≡ none = rw yes at fresh in let z : ◌≡◌ {A = ℕ} 0 1 = cc in absurd (omega arith))
    (λ (no : eqb r.port new.port ≡ false).
    let rest : view_of_table t new.port ≡ none = rw no at fresh in
    let past : view_of_table (insert new (some r ∷ t)) q ≡ cond (eqb r.port q) (some r.facts) (view_of_table (insert new t) q) = refl in
    past ∙ ap (λ (x : Option Facts). cond (eqb r.port q) (some r.facts) x) (view_insert new t q room rest) ∙ swap (which (eqb r.port q)) no)
    (which (eqb r.port new.port))
  where
    swap : (eqb r.port q ≡ true) ⊎ (eqb r.port q ≡ false) → eqb r.port new.port ≡ false
        → cond (eqb r.port q) (some r.facts) (cond (eqb new.port q) (some new.facts) (view_of_table t q)) ≡ cond (eqb new.port q) (some new.facts) (cond (eqb r.port q) (some r.facts) (view_of_table t q))
    swap (inl k) apart =
        let other : eqb new.port q ≡ false = ne_eqb new.port q (λ e. eqb-false r.port new.port apart (eqb-true r.port q k ∙ sym e)) in
        rw (k, other)
    swap (inr k) apart = rw k

pub view_freed : (t : Table) (q : ℕ) → view_of_table (map freed t) q ≡ none
view_freed [] q = refl
view_freed (none ∷ t) q = view_freed t q
view_freed (some r ∷ t) q = view_freed t q
