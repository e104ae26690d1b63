-- Every change of a table keeps it sound.
use Prim.Native.Nat.{ℕ, suc}
use mathlib.Core.Path.{◌≡◌, refl, sym, ◌∙◌, ap}
use mathlib.Core.Bool.{Bool, true, false, cond}
use mathlib.Core.List.{[], ◌∷◌, map}
use mathlib.Core.Option.{Option, none, some}
use mathlib.Core.Logic.{◌⊎◌, inl, inr, ⊎_elim}
use native.Mathlib.Omega.{arith}
use borrow.Author.Tests.{eqb-true, eqb-false, ne_eqb}
use lib.Dec.{eqb}
use lib.ListN.{length}
use Rattle.protocol.proofs.Tests.{which}
use Rattle.rules.specs.Layout.{places}
use Rattle.rules.specs.Facts.{Facts, known}
use Rattle.rules.specs.Table.{Record, Table, full_table, view_of_table, insert, change, remove, freed}
use Rattle.rules.proofs.Lookup.{map_facts, after, view_change, view_remove, view_insert, view_freed}
use Rattle.rules.proofs.Sound.{Distinct, Fit, Loose}

-- ---- sizes

length_change : (p : ℕ) (g : Facts → Facts) (t : Table) → length (change p g t) ≡ length t
length_change p g [] = refl
length_change p g (none ∷ t) = ap suc (length_change p g t)
length_change p g (some r ∷ t) = ap suc (length_change p g t)

length_remove : (p : ℕ) (t : Table) → length (remove p t) ≡ length t
length_remove p [] = refl
length_remove p (none ∷ t) = ap suc (length_remove p t)
length_remove p (some r ∷ t) = ap suc (length_remove p t)

length_insert : (r : Record) (t : Table) → length (insert r t) ≡ length t
length_insert r [] = refl
length_insert r (none ∷ t) = refl
length_insert r (some s ∷ t) = ap suc (length_insert r t)

length_freed : (t : Table) → length (map freed t) ≡ length t
length_freed [] = refl
length_freed (x ∷ t) = ap suc (length_freed t)

-- ---- no port twice

known_after : (b : Bool) (g : Facts → Facts) (x : Option Facts) → known (cond b (map_facts g x) x) ≡ known x
known_after true g none = refl
known_after true g (some f) = refl
known_after false g x = refl

known_gone : (b : Bool) (x : Option Facts) → known x ≡ false → known (cond b none x) ≡ false
known_gone true x e = refl
known_gone false x e = e

distinct_change : (p : ℕ) (g : Facts → Facts) (t : Table) → Distinct t → Distinct (change p g t)
distinct_change p g [] d = d
distinct_change p g (none ∷ t) d = distinct_change p g t d
distinct_change p g (some r ∷ t) d =
    (ap known (view_change p g t r.port) ∙ known_after (eqb p r.port) g (view_of_table t r.port) ∙ d.0, distinct_change p g t d.1)

distinct_remove : (p : ℕ) (t : Table) → Distinct t → Distinct (remove p t)
distinct_remove p [] d = d
distinct_remove p (none ∷ t) d = distinct_remove p t d
distinct_remove p (some r ∷ t) d = one (eqb r.port p) (ap known (view_remove p t r.port) ∙ known_gone (eqb p r.port) (view_of_table t r.port) d.0) (distinct_remove p t d.1)
  where
    one : (b : Bool) → known (view_of_table (remove p t) r.port) ≡ false → Distinct (remove p t) → Distinct (cond b none (some r) ∷ remove p t)
    one true k x = x
    one false k x = (k, x)

unknown : (x : Option Facts) → x ≡ none → known x ≡ false
unknown x e = ap known e

distinct_insert : (new : Record) (t : Table) → full_table t ≡ false → view_of_table t new.port ≡ none → Distinct t → Distinct (insert new t)
distinct_insert new [] room fresh d = d
distinct_insert new (none ∷ t) room fresh d = (unknown (view_of_table t new.port) fresh, d)
distinct_insert new (some r ∷ t) room fresh d =
    ⊎_elim
    (λ (e : eqb r.port new.port ≡ true). let there : some r.facts ≡ none = rw e at fresh in let z : ◌≡◌ {A = ℕ} 0 1 = cc in absurd (omega arith))
    (λ (e : eqb r.port new.port ≡ false).
    let rest : view_of_table t new.port ≡ none = rw e at fresh in
    let apart : eqb new.port r.port ≡ false = ne_eqb new.port r.port (λ (k : new.port ≡ r.port). eqb-false r.port new.port e (sym k)) in
    (ap known (view_insert new t r.port room rest ∙ ap (λ (b : Bool). cond b (some new.facts) (view_of_table t r.port)) apart) ∙ d.0, distinct_insert new t room rest d.1))
    (which (eqb r.port new.port))

distinct_freed : (t : Table) → Distinct (map freed t)
distinct_freed [] = tt
distinct_freed (x ∷ t) = distinct_freed t

-- ---- facts by themselves

-- a port's facts afterwards come from its facts before
pub record From (p : ℕ) (g : Facts → Facts) (q : ℕ) (x : Option Facts) (new : Facts) : Type 0 where
  pub before : Facts
  pub was : x ≡ some before
  pub is : new ≡ cond (eqb p q) (g before) before

pub from_change : (p : ℕ) (g : Facts → Facts) (q : ℕ) (x : Option Facts) (new : Facts) → after p g q x ≡ some new → From p g q x new
from_change p g q none new e = go (eqb p q) e
  where
    go : (b : Bool) → cond b (map_facts g none) none ≡ some new → From p g q none new
    go true k = let z : ◌≡◌ {A = ℕ} 0 1 = cc in absurd (omega arith)
    go false k = let z : ◌≡◌ {A = ℕ} 0 1 = cc in absurd (omega arith)
from_change p g q (some f) new e = record { before = f; was = refl; is = go (eqb p q) e }
  where
    go : (b : Bool) → cond b (map_facts g (some f)) (some f) ≡ some new → new ≡ cond b (g f) f
    go true k = cc
    go false k = cc

some_of_cond : (b : Bool) (x : Option Facts) (f : Facts) → cond b none x ≡ some f → (b ≡ false) × (x ≡ some f)
some_of_cond true x f e = let z : ◌≡◌ {A = ℕ} 0 1 = cc in absurd (omega arith)
some_of_cond false x f e = (refl, e)

pub loose_change : (p : ℕ) (g : Facts → Facts) (t : Table) → Loose t → ((f : Facts) → view_of_table t p ≡ some f → Fit p f → Fit p (g f)) → Loose (change p g t)
loose_change p g t l keeps = record {
  size = length_change p g t ∙ l.size;
  distinct = distinct_change p g t l.distinct;
  fit = λ q new e. one q new (from_change p g q (view_of_table t q) new (sym (view_change p g t q) ∙ e));
}
  where
    one : (q : ℕ) (new : Facts) → From p g q (view_of_table t q) new → Fit q new
    one q new k =
        let old : Fit q k.before = l.fit q k.before k.was in
        ⊎_elim
        (λ (e : eqb p q ≡ true).
        let same : p ≡ q = eqb-true p q e in
        let at : Fit p k.before = rw same old in
        rw (k.is, e) (rw same at (keeps k.before (ap (view_of_table t) same ∙ k.was) at)))
        (λ (e : eqb p q ≡ false). rw (k.is, e) old)
        (which (eqb p q))

pub loose_remove : (p : ℕ) (t : Table) → Loose t → Loose (remove p t)
loose_remove p t l = record {
  size = length_remove p t ∙ l.size;
  distinct = distinct_remove p t l.distinct;
  fit = λ q f e. l.fit q f (some_of_cond (eqb p q) (view_of_table t q) f (sym (view_remove p t q) ∙ e)).1;
}

pub loose_insert : (new : Record) (t : Table) → full_table t ≡ false → view_of_table t new.port ≡ none → Loose t → Fit new.port new.facts → Loose (insert new t)
loose_insert new t room fresh l good = record {
  size = length_insert new t ∙ l.size;
  distinct = distinct_insert new t room fresh l.distinct;
  fit = λ q f e. one q f (which (eqb new.port q)) (sym (view_insert new t q room fresh) ∙ e);
}
  where
    one : (q : ℕ) (f : Facts) → (eqb new.port q ≡ true) ⊎ (eqb new.port q ≡ false) → cond (eqb new.port q) (some new.facts) (view_of_table t q) ≡ some f → Fit q f
    one q f (inl k) e =
        let here : some new.facts ≡ some f = rw k at e in
        let same : new.facts ≡ f = cc in
        rw (sym same, sym (eqb-true new.port q k)) good
    one q f (inr k) e = l.fit q f (rw k at e)

pub loose_freed : (t : Table) → length t ≡ places → Loose (map freed t)
loose_freed t n = record {
  size = length_freed t ∙ n;
  distinct = distinct_freed t;
  fit = λ q f e. let there : none ≡ some f = sym (view_freed t q) ∙ e in let z : ◌≡◌ {A = ℕ} 0 1 = cc in absurd (omega arith);
}
