-- An accepted message: the table follows the history with it.
use Prim.Native.Nat.{ℕ}
use mathlib.Core.Path.{◌≡◌, refl, sym, ◌∙◌, ap}
use mathlib.Core.Bool.{Bool, true, false, cond, ◌||◌}
use mathlib.Core.List.{List, [], ◌∷◌}
use mathlib.Core.Option.{Option, none, some}
use mathlib.Core.Logic.{◌⊎◌, inl, inr, ⊎_elim}
use native.Mathlib.Omega.{arith}
use borrow.Author.Tests.{eqb-true, eqb-false}
use lib.Dec.{eqb}
use Rattle.protocol.proofs.Tests.{which}
use Rattle.rules.specs.Effect.{event, Effect, Nothing, ToPort, Attach, AttachVirtual, Detach, Value, Disconnect, Connect, Empty, ToVirtual, Feedback, CombinedValue}
use Rattle.rules.specs.Facts.{Wiring, Unjoined, Joined, Virtual, Facts, known}
use Rattle.rules.specs.Judge.{pair_test, judge}
use Rattle.rules.specs.History.{History, plain, pair, Since, absent, since, unless_member, since_attached, is_partner}
use Rattle.rules.specs.Learn.{learn}
use Rattle.rules.specs.Table.{Table, full_table, view_of_table, ports_of_table, insert, change, remove, wired, on_settings, wired_as, dissolve, detach_by, bare, new_record, apply}
use Rattle.rules.specs.WellFormed.{pair_with}
use Rattle.rules.proofs.Lookup.{map_facts, cond_ap, after, view_change, view_freed}
use Rattle.rules.proofs.Pairs.{Wired, Pairs, put_other, joined_same, unjoined_joined, joined_virtual}
use Rattle.rules.proofs.Sound.{wiring?, wired_in, Sound, or_either}
use Rattle.rules.proofs.Apply.{wired_change, full_change}
use Rattle.rules.proofs.Kept.{fresh_by, virtual_by, good_pair, wanted, wired_as_lem}
use Rattle.rules.proofs.Follows.{unwired, unwire, facts_since, Follows, facts_told, not_ended, ended, core_change, core_wired, core_remove, core_insert}

-- ---- whose member a port is

abbrev pub pair_in : ℕ → Option Wiring → Bool
pair_in p none = false
pair_in p (some w) = pair_with p w

names_pair : (p : ℕ) (s : Since) → is_partner p s ≡ pair_in p (wiring? (facts_since s))
names_pair p absent = refl
names_pair p (since (plain d) l) = refl
names_pair p (since (pair d a b) l) = refl

core_pair : (p : ℕ) (x : Option Facts) → pair_in p (wiring? (map_facts unwire x)) ≡ pair_in p (wiring? x)
core_pair p none = refl
core_pair p (some f) = go f.wiring
  where
    go : (w : Wiring) → pair_with p (unwired w) ≡ pair_with p w
    go Unjoined = refl
    go (Joined v) = refl
    go (Virtual a b) = refl

-- the history and the table say alike which virtual port names which member
pub member_is : (t : Table) (h : History) → Follows t h → (q p : ℕ) → is_partner p (since_attached q h) ≡ pair_in p (wired_in t q)
member_is t h f q p = names_pair p (since_attached q h) ∙ sym (ap (λ (x : Option Facts). pair_in p (wiring? x)) (f q)) ∙ core_pair p (view_of_table t q)

pub either_is : (a b p : ℕ) → (eqb a p || eqb b p) ≡ true → (a ≡ p) ⊎ (b ≡ p)
either_is a b p e =
    ⊎_elim (λ (k : eqb a p ≡ true). inl (eqb-true a p k))
    (λ (k : eqb a p ≡ false). inr (eqb-true b p (rw k at e)))
    (which (eqb a p))

-- a port that a virtual port names is joined to it
pub pair_joins : (w : Wired) → Pairs w → (p q : ℕ) (x : Option Wiring) → w q ≡ x → pair_in p x ≡ true → w p ≡ some (Joined q)
pair_joins w s p q none k e = let z : ◌≡◌ {A = ℕ} 0 1 = cc in absurd (omega arith)
pair_joins w s p q (some Unjoined) k e = let z : ◌≡◌ {A = ℕ} 0 1 = cc in absurd (omega arith)
pair_joins w s p q (some (Joined v)) k e = let z : ◌≡◌ {A = ℕ} 0 1 = cc in absurd (omega arith)
pair_joins w s p q (some (Virtual a b)) k e =
    ⊎_elim (λ (i : a ≡ p). ap w (sym i) ∙ s.first q a b k) (λ (i : b ≡ p). ap w (sym i) ∙ s.second q a b k) (either_is a b p e)

-- no virtual port names a port that is not joined to it
module _ (t : Table) (s : Sound t) (h : History) (f : Follows t h) (p : ℕ) where
  no_member : (q : ℕ) → (wired_in t p ≡ some (Joined q) → ⊥) → is_partner p (since_attached q h) ≡ false
  no_member q n =
      member_is t h f q p
      ∙ ⊎_elim (λ (e : pair_in p (wired_in t q) ≡ true). absurd (n (pair_joins (wired_in t) s.pairs p q (wired_in t q) refl e)))
      (λ (e : pair_in p (wired_in t q) ≡ false). e)
      (which (pair_in p (wired_in t q)))

  -- a port's detachment, where its virtual port, if it has one, goes too
  gone : (o : List ℕ) (u : Table) → ((q : ℕ) → map_facts unwire (view_of_table u q) ≡ cond (eqb p q) none (facts_since (unless_member p (since_attached q h)))) → Follows u (event (Detach p) o ∷ h)
  unfolding since_attached
  gone o u core q = core q ∙ sym (cond_ap facts_since (eqb p q) absent (unless_member p (since_attached q h)))

  -- what a port keeps that is not the virtual port of this one
  stays : (q : ℕ) → (wired_in t p ≡ some (Joined q) → ⊥) → map_facts unwire (view_of_table t q) ≡ facts_since (unless_member p (since_attached q h))
  stays q n = f q ∙ ap facts_since (sym (not_ended p (since_attached q h) (no_member q n)))

  -- the virtual port of this one goes with it
  goes : (v : ℕ) → wired_in t p ≡ some (Joined v) → is_partner p (since_attached v h) ≡ true → (q : ℕ) → cond (eqb v q) none (map_facts unwire (view_of_table t q)) ≡ facts_since (unless_member p (since_attached q h))
  goes v here m q =
      ⊎_elim
      (λ (e : eqb v q ≡ true). rw e (ap facts_since (sym (ended p (since_attached q h) (ap (λ (n : ℕ). is_partner p (since_attached n h)) (sym (eqb-true v q e)) ∙ m)))))
      (λ (e : eqb v q ≡ false). rw e (stays q (λ (j : wired_in t p ≡ some (Joined q)). eqb-false v q e (joined_same v q (sym here ∙ j)))))
      (which (eqb v q))

-- what is known of the others
unless : (p q : ℕ) {x y : Option Facts} → x ≡ y → cond (eqb p q) none x ≡ cond (eqb p q) none y
unless p q e = ap (λ (z : Option Facts). cond (eqb p q) none z) e

-- a virtual port that goes leaves its members as they were, but for being joined
core_dissolve : (t : Table) → Sound t → (p a b : ℕ) → wired_in t p ≡ some (Virtual a b) → (q : ℕ) → map_facts unwire (view_of_table (dissolve p a b t) q) ≡ cond (eqb p q) none (map_facts unwire (view_of_table t q))
core_dissolve t s p a b here q =
    let one = s.pairs.first p a b here in
    let two : wired_in (change a (wired Unjoined) t) b ≡ some (Joined p) =
    wired_change a Unjoined (Joined p) t one b ∙ put_other a (some Unjoined) (wired_in t) b (s.pairs.apart p a b here) ∙ s.pairs.second p a b here
    in
    core_remove p (change b (wired Unjoined) (change a (wired Unjoined) t)) q
    ∙ unless p q (core_wired b Unjoined (Joined p) (change a (wired Unjoined) t) two refl q ∙ core_wired a Unjoined (Joined p) t one refl q)

follows_detach : (t : Table) → Sound t → (h : History) → Follows t h → (p : ℕ) (o : List ℕ) (y : Wiring) → wired_in t p ≡ some y → Follows (detach_by p y t) (event (Detach p) o ∷ h)
follows_detach t s h f p o Unjoined e =
    gone t s h f p o (remove p t) λ q. core_remove p t q ∙ unless p q (stays t s h f p q (λ (k : wired_in t p ≡ some (Joined q)). unjoined_joined q (sym e ∙ k)))
follows_detach t s h f p o (Joined v) e =
    let n = s.pairs.up p v e in
    let known_as : wired_as (view_of_table t v) ≡ Virtual n.a n.b = wired_as_lem (view_of_table t v) (Virtual n.a n.b) n.pair in
    let u : Table = dissolve v n.a n.b t in
    let m : is_partner p (since_attached v h) ≡ true = member_is t h f v p ∙ ap (pair_in p) n.pair ∙ or_either n.a n.b p n.member in
    rw known_as (gone t s h f p o (remove p u) λ q. core_remove p u q ∙ unless p q (core_dissolve t s v n.a n.b n.pair q ∙ goes t s h f p v e m q))
follows_detach t s h f p o (Virtual a b) e =
    gone t s h f p o (dissolve p a b t) λ q. core_dissolve t s p a b e q ∙ unless p q (stays t s h f p q (λ (k : wired_in t p ≡ some (Joined q)). joined_virtual q a b (sym k ∙ e)))

detach_known : (t : Table) → Sound t → (h : History) → Follows t h → (p : ℕ) (o : List ℕ) (x : Option Facts) → view_of_table t p ≡ x → known x ≡ true → Follows (detach_by p (wired_as x) t) (event (Detach p) o ∷ h)
detach_known t s h f p o none e k = let z : ◌≡◌ {A = ℕ} 0 1 = cc in absurd (omega arith)
detach_known t s h f p o (some g) e k = follows_detach t s h f p o g.wiring (ap wiring? e)

-- ---- attachments

absent_after : (a b p : ℕ) (g : Facts → Facts) (t : Table) → view_of_table t p ≡ none → view_of_table (change b g (change a g t)) p ≡ none
absent_after a b p g t e =
    view_change b g (change a g t) p ∙ ap (after b g p) (view_change a g t p ∙ ap (after a g p) e ∙ nothing_there (eqb a p)) ∙ nothing_there (eqb b p)
  where
    nothing_there : (c : Bool) → cond c (map_facts g none) none ≡ none
    nothing_there true = refl
    nothing_there false = refl

follows_attach : (t : Table) (h : History) → Follows t h → (p d : ℕ) (o : List ℕ) → full_table t ≡ false → view_of_table t p ≡ none → Follows (insert (new_record p d Unjoined) t) (event (Attach p d) o ∷ h)
unfolding since_attached
follows_attach t h f p d o room fresh q =
    core_insert (new_record p d Unjoined) t room fresh q ∙ ap (λ (x : Option Facts). cond (eqb p q) (some (bare d Unjoined)) x) (f q) ∙ sym (cond_ap facts_since (eqb p q) (since (plain d) []) (since_attached q h))

follows_virtual : (t : Table) (h : History) → Follows t h → (p d a b : ℕ) (o : List ℕ) → full_table t ≡ false → view_of_table t p ≡ none → wired_in t a ≡ some Unjoined → wired_in t b ≡ some Unjoined → (a ≡ b → ⊥)
    → Follows (insert (new_record p d (Virtual a b)) (change b (wired (Joined p)) (change a (wired (Joined p)) t))) (event (AttachVirtual p d a b) o ∷ h)
unfolding since_attached
follows_virtual t h f p d a b o room fresh one two ab q =
    let u : Table = change b (wired (Joined p)) (change a (wired (Joined p)) t) in
    let room' : full_table u ≡ false = full_change b (wired (Joined p)) (change a (wired (Joined p)) t) ∙ full_change a (wired (Joined p)) t ∙ room in
    let second : wired_in (change a (wired (Joined p)) t) b ≡ some Unjoined = wired_change a (Joined p) Unjoined t one b ∙ put_other a (some (Joined p)) (wired_in t) b ab ∙ two in
    core_insert (new_record p d (Virtual a b)) u room' (absent_after a b p (wired (Joined p)) t fresh) q
    ∙ ap (λ (x : Option Facts). cond (eqb p q) (some (bare d (Virtual a b))) x) (core_wired b (Joined p) Unjoined (change a (wired (Joined p)) t) second refl q ∙ core_wired a (Joined p) Unjoined t one refl q ∙ f q)
    ∙ sym (cond_ap facts_since (eqb p q) (since (pair d a b) []) (since_attached q h))

-- ---- every message

pub follows_step : (e : Effect) (t : Table) (h : History) (opens : List ℕ) → Sound t → Follows t h → judge (ports_of_table t) e opens ≡ 0 → Follows (apply e opens t) (event e opens ∷ h)
unfolding judge apply since_attached
follows_step Nothing t h o s f ok = f
follows_step (ToPort p c) t h o s f ok =
    λ q.
    core_change p (on_settings (learn c o)) (λ g. refl) t q ∙ ap (after p (on_settings (learn c o)) q) (f q) ∙ sym (facts_told (eqb p q) c o (since_attached q h))
follows_step (Attach p d) t h o s f ok =
    let fresh = fresh_by (view_of_table t p) (full_table t) ok in
    follows_attach t h f p d o fresh.1 fresh.0
follows_step (AttachVirtual p d a b) t h o s f ok =
    let fresh = virtual_by (view_of_table t p) (pair_test (view_of_table t) a b) (full_table t) ok in
    let good = good_pair t a b fresh.1 in
    follows_virtual t h f p d a b o fresh.2 fresh.0 good.one good.two good.apart
follows_step (Detach p) t h o s f ok = detach_known t s h f p o (view_of_table t p) refl (wanted (view_of_table t p) ok)
follows_step (Value p) t h o s f ok = f
follows_step (Disconnect p) t h o s f ok = f
follows_step (Connect a b) t h o s f ok = f
follows_step Empty t h o s f ok = λ q. ap (map_facts unwire) (view_freed t q)
follows_step (ToVirtual p) t h o s f ok = f
follows_step Feedback t h o s f ok = f
follows_step (CombinedValue p w) t h o s f ok = f
