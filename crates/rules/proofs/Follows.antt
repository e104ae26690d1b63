-- A table follows a history: at every port it has what the history says, but for who is joined to whom, which follows
-- from soundness. What a port was told is a list here, and what the table learns of it is left shut.
use Prim.Native.Nat.{ℕ}
use mathlib.Core.Path.{◌≡◌, refl, sym, ◌∙◌, ap}
use mathlib.Core.Bool.{Bool, true, false, cond}
use mathlib.Core.List.{List}
use mathlib.Core.Option.{Option, none, some}
use mathlib.Core.Logic.{⊎_elim}
use borrow.Author.Tests.{eqb-true}
use lib.Dec.{eqb}
use Rattle.protocol.proofs.Tests.{which}
use Rattle.rules.specs.Effect.{Change, told}
use Rattle.rules.specs.Facts.{Wiring, Unjoined, Joined, Virtual, Facts}
use Rattle.rules.specs.History.{History, Attachment, plain, pair, Since, absent, since, add_change, unless_member, since_attached, is_partner, device_of}
use Rattle.rules.specs.Learn.{learn}
use Rattle.rules.specs.Table.{Record, Table, full_table, view_of_table, insert, change, remove, wired, on_settings}
use Rattle.rules.proofs.Lookup.{map_facts, cond_ap, after, view_change, view_remove, view_insert}
use Rattle.rules.proofs.Settings.{learnt}
use Rattle.rules.proofs.Sound.{wiring?, wired_in}

-- a wiring without the partner of a joined port
abbrev pub unwired : Wiring → Wiring
unwired Unjoined = Unjoined
unwired (Joined v) = Unjoined
unwired (Virtual a b) = Virtual a b

abbrev pub unwire : Facts → Facts
unwire f = wired (unwired f.wiring) f

abbrev pub attached_as : Attachment → Wiring
attached_as (plain device) = Unjoined
attached_as (pair device a b) = Virtual a b

-- what a history says of a port, but for a joined port's partner
abbrev pub facts_since : Since → Option Facts
facts_since absent = none
facts_since (since a changes) = some (record { device = device_of a; wiring = attached_as a; settings = learnt changes })

abbrev pub Follows : Table → History → Type 0
Follows t h = (q : ℕ) → map_facts unwire (view_of_table t q) ≡ facts_since (since_attached q h)

-- ---- on the side of the history

-- one port is told something
pub facts_told : (b : Bool) (c : Change) (opens : List ℕ) (s : Since) → facts_since (cond b (add_change (told c opens) s) s) ≡ cond b (map_facts (on_settings (learn c opens)) (facts_since s)) (facts_since s)
facts_told true c opens absent = refl
facts_told true c opens (since a changes) = refl
facts_told false c opens s = refl

-- a member's detachment ends a virtual port, and no other
pub not_ended : (p : ℕ) (s : Since) → is_partner p s ≡ false → unless_member p s ≡ s
not_ended p absent e = refl
not_ended p (since a changes) e = ap (λ (b : Bool). cond b absent (since a changes)) e

pub ended : (p : ℕ) (s : Since) → is_partner p s ≡ true → unless_member p s ≡ absent
ended p absent e = refl
ended p (since a changes) e = ap (λ (b : Bool). cond b absent (since a changes)) e

-- ---- on the side of the table

core_map : (g : Facts → Facts) → ((f : Facts) → unwire (g f) ≡ g (unwire f)) → (x : Option Facts) → map_facts unwire (map_facts g x) ≡ map_facts g (map_facts unwire x)
core_map g k none = refl
core_map g k (some f) = ap some (k f)

-- a change that leaves the wiring alone
pub core_change : (p : ℕ) (g : Facts → Facts) → ((f : Facts) → unwire (g f) ≡ g (unwire f)) → (t : Table) (q : ℕ) → map_facts unwire (view_of_table (change p g t) q) ≡ after p g q (map_facts unwire (view_of_table t q))
core_change p g k t q =
    ap (map_facts unwire) (view_change p g t q) ∙ cond_ap (map_facts unwire) (eqb p q) (map_facts g (view_of_table t q)) (view_of_table t q)
    ∙ ap (λ (x : Option Facts). cond (eqb p q) x (map_facts unwire (view_of_table t q))) (core_map g k (view_of_table t q))

-- a physical port that is joined or freed
core_rewired : (x : Option Facts) (y z : Wiring) → wiring? x ≡ some z → unwired y ≡ unwired z → map_facts unwire (map_facts (wired y) x) ≡ map_facts unwire x
core_rewired none y z e k = refl
core_rewired (some f) y z e k =
    let is : f.wiring ≡ z = cc in
    ap (λ (w : Wiring). some (wired w f)) (k ∙ ap unwired (sym is))

pub core_wired : (p : ℕ) (y z : Wiring) (t : Table) → wired_in t p ≡ some z → unwired y ≡ unwired z → (q : ℕ) → map_facts unwire (view_of_table (change p (wired y) t) q) ≡ map_facts unwire (view_of_table t q)
core_wired p y z t e k q =
    ap (map_facts unwire) (view_change p (wired y) t q) ∙ cond_ap (map_facts unwire) (eqb p q) (map_facts (wired y) (view_of_table t q)) (view_of_table t q)
    ∙ ⊎_elim
    (λ (c : eqb p q ≡ true). rw c (core_rewired (view_of_table t q) y z (ap (wired_in t) (sym (eqb-true p q c)) ∙ e) k))
    (λ (c : eqb p q ≡ false). rw c)
    (which (eqb p q))

pub core_remove : (p : ℕ) (t : Table) (q : ℕ) → map_facts unwire (view_of_table (remove p t) q) ≡ cond (eqb p q) none (map_facts unwire (view_of_table t q))
core_remove p t q = ap (map_facts unwire) (view_remove p t q) ∙ cond_ap (map_facts unwire) (eqb p q) none (view_of_table t q)

pub core_insert : (new : Record) (t : Table) → full_table t ≡ false → view_of_table t new.port ≡ none → (q : ℕ) → map_facts unwire (view_of_table (insert new t) q) ≡ cond (eqb new.port q) (some (unwire new.facts)) (map_facts unwire (view_of_table t q))
core_insert new t room fresh q = ap (map_facts unwire) (view_insert new t q room fresh) ∙ cond_ap (map_facts unwire) (eqb new.port q) (some new.facts) (view_of_table t q)
