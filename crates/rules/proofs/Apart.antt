-- What two ports are told: the changes commute, and each is judged by its own port alone. Nothing here depends on what a port is told.
use Prim.Native.Nat.{ℕ}
use mathlib.Core.Path.{◌≡◌, refl, sym, ◌∙◌, ap}
use mathlib.Core.Bool.{Bool, true, false, cond}
use mathlib.Core.List.{List, [], ◌∷◌}
use mathlib.Core.Option.{none, some}
use borrow.Author.Tests.{eqb-true, eq-eqb, ne_eqb}
use lib.Dec.{eqb}
use Rattle.rules.specs.Effect.{Change, ToPort}
use Rattle.rules.specs.Facts.{Facts}
use Rattle.rules.specs.Judge.{told_refusal, judge}
use Rattle.rules.specs.Learn.{learn}
use Rattle.rules.specs.Table.{Table, view_of_table, ports_of_table, change, on_settings, apply}
use Rattle.rules.proofs.Lookup.{map_facts, view_change}

-- facts that at most one of two changes is about
facts_apart : (b c : Bool) → (b ≡ true → c ≡ true → ⊥) → (f g : Facts → Facts) (x : Facts)
    → cond b (f (cond c (g x) x)) (cond c (g x) x) ≡ cond c (g (cond b (f x) x)) (cond b (f x) x)
facts_apart true true n f g x = absurd (n refl refl)
facts_apart true false n f g x = refl
facts_apart false true n f g x = refl
facts_apart false false n f g x = refl

change_apart : (p q : ℕ) (f g : Facts → Facts) (t : Table) → (p ≡ q → ⊥) → change p f (change q g t) ≡ change q g (change p f t)
change_apart p q f g [] n = refl
change_apart p q f g (none ∷ t) n = ap (λ (u : Table). none ∷ u) (change_apart p q f g t n)
change_apart p q f g (some r ∷ t) n =
    let one = facts_apart (eqb r.port p) (eqb r.port q) (λ a b. n (sym (eqb-true r.port p a) ∙ eqb-true r.port q b)) f g r.facts in
    λ i. some (record { port = r.port; facts = one i }) ∷ change_apart p q f g t n i

pub apply_apart : (p q : ℕ) (c d : Change) (o o' : List ℕ) (t : Table) → (p ≡ q → ⊥) → apply (ToPort p c) o (apply (ToPort q d) o' t) ≡ apply (ToPort q d) o' (apply (ToPort p c) o t)
unfolding apply
apply_apart p q c d o o' t n = change_apart p q (on_settings (learn c o)) (on_settings (learn d o')) t n

-- what another port is told leaves this one as it was
pub view_apart : (p q : ℕ) (c : Change) (o : List ℕ) (t : Table) → (p ≡ q → ⊥) → view_of_table (apply (ToPort p c) o t) q ≡ view_of_table t q
unfolding apply
view_apart p q c o t n =
    let f : Facts → Facts = on_settings (learn c o) in
    view_change p f t q ∙ ap (λ (b : Bool). cond b (map_facts f (view_of_table t q)) (view_of_table t q)) (ne_eqb p q n)

-- and this one learns it
pub view_own : (p : ℕ) (c : Change) (o : List ℕ) (t : Table) → view_of_table (apply (ToPort p c) o t) p ≡ map_facts (on_settings (learn c o)) (view_of_table t p)
unfolding apply
view_own p c o t =
    let f : Facts → Facts = on_settings (learn c o) in
    view_change p f t p ∙ ap (λ (b : Bool). cond b (map_facts f (view_of_table t p)) (view_of_table t p)) (eq-eqb p p refl)

-- judging looks at its own port only
pub judge_apart : (p q : ℕ) (c d : Change) (o o' : List ℕ) (t : Table) → (p ≡ q → ⊥)
    → judge (ports_of_table (apply (ToPort p c) o t)) (ToPort q d) o' ≡ judge (ports_of_table t) (ToPort q d) o'
unfolding judge
judge_apart p q c d o o' t n = ap (told_refusal d) (view_apart p q c o t n)
