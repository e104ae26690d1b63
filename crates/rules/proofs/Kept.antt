-- An accepted message keeps a sound table sound: one law over what messages are to a table.
use Prim.Native.Nat.{ℕ}
use mathlib.Core.Path.{◌≡◌, refl, sym, ◌∙◌, ap, subst}
use mathlib.Core.Bool.{Bool, true, false, cond, not, ◌&&◌}
use mathlib.Core.List.{List, map}
use mathlib.Core.Option.{Option, none, some}
use mathlib.Core.Logic.{◌⊎◌, inl, inr}
use native.Mathlib.Omega.{arith}
use borrow.Author.Tests.{eqb-false, ltb-true}
use lib.Dec.{eqb, ltb}
use Rattle.protocol.proofs.Tests.{and_left, and_right}
use Rattle.rules.specs.Layout.{port_count}
use Rattle.rules.specs.Effect.{Change, Effect, Nothing, ToPort, Attach, AttachVirtual, Detach, Value, Disconnect, Connect, Empty, ToVirtual, Feedback, CombinedValue}
use Rattle.rules.specs.Facts.{Wiring, Unjoined, Joined, Virtual, is_unjoined, Facts, known}
use Rattle.rules.specs.Judge.{present_unjoined, pair_test, change_refusal, told_refusal, judge}
use Rattle.rules.specs.Learn.{learn}
use Rattle.rules.specs.Ranges.{change_fits, effect_fits}
use Rattle.rules.specs.Table.{Table, full_table, view_of_table, ports_of_table, freed, wired_as, dissolve, detach_by, bare, new_record, on_settings, apply, remove, dissolve_by}
use Rattle.rules.proofs.Lookup.{view_freed}
use Rattle.rules.proofs.Pairs.{Wired, Pairs, pairs_none, three, at_first, at_second, port_first, port_second}
use Rattle.rules.proofs.SettingsFit.{bare_fits, learn_fits}
use Rattle.rules.proofs.Sound.{wiring?, wired_in, Fit, Sound}
use Rattle.rules.proofs.Keep.{loose_freed}
use Rattle.rules.proofs.Apply.{sound_keep, sound_attach, sound_remove, sound_dissolve, wired_dissolve, sound_virtual}

-- ---- facts within their lists

fit_bare : (p d : ℕ) (w : Wiring) → ltb p port_count ≡ true → ltb d 65536 ≡ true → Fit p (bare d w)
fit_bare p d w small e = record { small = ltb-true p port_count small; device = e; settings = bare_fits }

fit_learn : (p : ℕ) (c : Change) (o : List ℕ) → change_fits c o ≡ true → (f : Facts) → change_refusal c f.settings ≡ 0 → Fit p f → Fit p (on_settings (learn c o) f)
fit_learn p c o good f ok k = record { small = k.small; device = k.device; settings = learn_fits c o good f.settings ok k.settings }

-- ---- what an accepted message was judged by

pub record Fresh (t : Table) (p : ℕ) : Type 0 where
  pub absent : view_of_table t p ≡ none
  pub room : full_table t ≡ false

pub fresh_by : (x : Option Facts) (full : Bool) → ◌≡◌ {A = ℕ} (cond (known x) 11 (cond full 13 0)) 0 → (x ≡ none) × (full ≡ false)
fresh_by none true e = let z : ◌≡◌ {A = ℕ} 13 0 = e in absurd (omega arith)
fresh_by none false e = (refl, refl)
fresh_by (some f) full e = let z : ◌≡◌ {A = ℕ} 11 0 = e in absurd (omega arith)

unjoined_wired : (x : Option Facts) → present_unjoined x ≡ true → wiring? x ≡ some Unjoined
unjoined_wired none e = let z : ◌≡◌ {A = ℕ} 0 1 = cc in absurd (omega arith)
unjoined_wired (some f) e = ap some (go f.wiring e)
  where
    go : (w : Wiring) → is_unjoined w ≡ true → w ≡ Unjoined
    go Unjoined k = refl
    go (Joined v) k = let z : ◌≡◌ {A = ℕ} 0 1 = cc in absurd (omega arith)
    go (Virtual a b) k = let z : ◌≡◌ {A = ℕ} 0 1 = cc in absurd (omega arith)

pub record Good (t : Table) (a b : ℕ) : Type 0 where
  pub one : wired_in t a ≡ some Unjoined
  pub two : wired_in t b ≡ some Unjoined
  pub apart : a ≡ b → ⊥

pub not_same : (b : Bool) → not b ≡ true → b ≡ false
not_same true e = let z : ◌≡◌ {A = ℕ} 0 1 = cc in absurd (omega arith)
not_same false e = refl

pub good_pair : (t : Table) (a b : ℕ) → pair_test (view_of_table t) a b ≡ true → Good t a b
good_pair t a b e =
    let both = and_left (present_unjoined (view_of_table t a) && present_unjoined (view_of_table t b)) (not (eqb a b)) e in
    record {
      one = unjoined_wired (view_of_table t a) (and_left (present_unjoined (view_of_table t a)) (present_unjoined (view_of_table t b)) both);
      two = unjoined_wired (view_of_table t b) (and_right (present_unjoined (view_of_table t a)) (present_unjoined (view_of_table t b)) both);
      apart = eqb-false a b (not_same (eqb a b) (and_right (present_unjoined (view_of_table t a) && present_unjoined (view_of_table t b)) (not (eqb a b)) e));
    }

pub virtual_by : (x : Option Facts) (good full : Bool) → ◌≡◌ {A = ℕ} (cond (known x) 11 (cond good (cond full 13 0) 12)) 0 → (x ≡ none) × (good ≡ true) × (full ≡ false)
virtual_by none true true e = let z : ◌≡◌ {A = ℕ} 13 0 = e in absurd (omega arith)
virtual_by none true false e = (refl, refl, refl)
virtual_by none false full e = let z : ◌≡◌ {A = ℕ} 12 0 = e in absurd (omega arith)
virtual_by (some f) good full e = let z : ◌≡◌ {A = ℕ} 11 0 = e in absurd (omega arith)

-- ---- detachment

not_virtual_lem : (w : Wired) (s : Pairs w) (v a b p : ℕ) → w v ≡ some (Virtual a b) → (a ≡ p) ⊎ (b ≡ p) → three v a b none (some Unjoined) w p ≡ some Unjoined
not_virtual_lem w s v a b p here (inl e) = at_first w v a b none (some Unjoined) (port_first w s v a b here) (port_second w s v a b here) p e
not_virtual_lem w s v a b p here (inr e) = at_second w v a b none (some Unjoined) (port_first w s v a b here) (port_second w s v a b here) p e

pub wired_as_lem : (x : Option Facts) (y : Wiring) → wiring? x ≡ some y → wired_as x ≡ y
wired_as_lem none y e = let z : ◌≡◌ {A = ℕ} 0 1 = cc in absurd (omega arith)
wired_as_lem (some f) y e = cc

pub sound_detach : (t : Table) → Sound t → (p : ℕ) (y : Wiring) → wired_in t p ≡ some y → Sound (detach_by p y t)
sound_detach t s p Unjoined e = sound_remove p t s (inr e)
sound_detach t s p (Joined v) e =
    let n = s.pairs.up p v e in
    let known_as : wired_as (view_of_table t v) ≡ Virtual n.a n.b = wired_as_lem (view_of_table t v) (Virtual n.a n.b) n.pair in
    let free : wired_in (dissolve v n.a n.b t) p ≡ some Unjoined =
    wired_dissolve t s v n.a n.b n.pair p ∙ not_virtual_lem (wired_in t) s.pairs v n.a n.b p n.pair n.member
    in
    subst (λ (y : Wiring). Sound (remove p (dissolve_by v y t))) (sym known_as) (sound_remove p (dissolve v n.a n.b t) (sound_dissolve t s v n.a n.b n.pair) (inr free))
sound_detach t s p (Virtual a b) e = sound_dissolve t s p a b e

pub wanted : (x : Option Facts) → ◌≡◌ {A = ℕ} (cond (known x) 0 10) 0 → known x ≡ true
wanted none e = let z : ◌≡◌ {A = ℕ} 10 0 = e in absurd (omega arith)
wanted (some f) e = refl

detach_known : (t : Table) → Sound t → (p : ℕ) (x : Option Facts) → view_of_table t p ≡ x → known x ≡ true → Sound (detach_by p (wired_as x) t)
detach_known t s p none e k = let z : ◌≡◌ {A = ℕ} 0 1 = cc in absurd (omega arith)
detach_known t s p (some f) e k = sound_detach t s p f.wiring (ap wiring? e)

-- ---- every message

pub keeps : (e : Effect) (t : Table) (opens : List ℕ) → Sound t → effect_fits e opens ≡ true → judge (ports_of_table t) e opens ≡ 0 → Sound (apply e opens t)
unfolding judge apply
keeps Nothing t o s fits ok = s
keeps (ToPort p c) t o s fits ok =
    sound_keep p (on_settings (learn c o)) t s (λ g. refl) (λ f is. fit_learn p c o fits f (sym (ap (told_refusal c) is) ∙ ok))
keeps (Attach p d) t o s fits ok =
    let fresh = fresh_by (view_of_table t p) (full_table t) ok in
    sound_attach (new_record p d Unjoined) t s fresh.1 fresh.0 refl (fit_bare p d Unjoined (and_left (ltb p port_count) (ltb d 65536) fits) (and_right (ltb p port_count) (ltb d 65536) fits))
keeps (AttachVirtual p d a b) t o s fits ok =
    let fresh = virtual_by (view_of_table t p) (pair_test (view_of_table t) a b) (full_table t) ok in
    let good = good_pair t a b fresh.1 in
    let three_fit = and_left (ltb p port_count && ltb d 65536 && ltb a port_count) (ltb b port_count) fits in
    let two_fit = and_left (ltb p port_count && ltb d 65536) (ltb a port_count) three_fit in
    sound_virtual t s p d a b fresh.2 fresh.0 good.one good.two good.apart (fit_bare p d (Virtual a b) (and_left (ltb p port_count) (ltb d 65536) two_fit) (and_right (ltb p port_count) (ltb d 65536) two_fit))
keeps (Detach p) t o s fits ok = detach_known t s p (view_of_table t p) refl (wanted (view_of_table t p) ok)
keeps (Value p) t o s fits ok = s
keeps (Disconnect p) t o s fits ok = s
keeps (Connect a b) t o s fits ok = s
keeps Empty t o s fits ok = record {
  loose = loose_freed t s.loose.size;
  pairs = pairs_none (wired_in (map freed t)) (λ q. ap wiring? (view_freed t q));
}
keeps (ToVirtual p) t o s fits ok = s
keeps Feedback t o s fits ok = s
keeps (CombinedValue p w) t o s fits ok = s
