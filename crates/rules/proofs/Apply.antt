-- An accepted message keeps a sound table sound.
use Prim.Native.Nat.{ℕ}
use mathlib.Core.Path.{◌≡◌, refl, sym, ◌∙◌, ap}
use mathlib.Core.Bool.{Bool, true, false, cond}
use mathlib.Core.List.{[], ◌∷◌}
use mathlib.Core.Option.{Option, none, some}
use mathlib.Core.Logic.{◌⊎◌, inl, inr, ⊎_elim}
use native.Mathlib.Omega.{arith}
use borrow.Author.Tests.{eqb-true}
use lib.Dec.{eqb}
use Rattle.protocol.proofs.Tests.{which}
use Rattle.rules.specs.Facts.{Wiring, Unjoined, Joined, Virtual, Facts, known}
use Rattle.rules.specs.Table.{Record, Table, full_table, view_of_table, insert, change, remove, wired, dissolve, bare, new_record}
use Rattle.rules.proofs.Lookup.{map_facts, cond_ap, view_change, view_remove, view_insert}
use Rattle.rules.proofs.Pairs.{Wired, put, same?, put_same, put_other, Pairs, pairs_loose, three, pairs_virtual, pairs_dissolve}
use Rattle.rules.proofs.Sound.{wiring?, wired_in, Fit, Loose, Sound}
use Rattle.rules.proofs.Keep.{loose_change, loose_remove, loose_insert}

-- ---- who is joined to whom, after each change

pub pairs_ext : (w u : Wired) → ((q : ℕ) → w q ≡ u q) → Pairs w → Pairs u
pairs_ext w u e s = record {
  up =
      λ p v k.
      let n = s.up p v (e p ∙ k) in
      record { a = n.a; b = n.b; pair = sym (e v) ∙ n.pair; member = n.member };
  first = λ v a b k. sym (e a) ∙ s.first v a b (e v ∙ k);
  second = λ v a b k. sym (e b) ∙ s.second v a b (e v ∙ k);
  apart = λ v a b k. s.apart v a b (e v ∙ k);
}

put_cong : (p : ℕ) (x : Option Wiring) (w u : Wired) → ((q : ℕ) → w q ≡ u q) → (q : ℕ) → put p x w q ≡ put p x u q
put_cong p x w u e q = ap (λ (y : Option Wiring). cond (eqb p q) x y) (e q)

kept_wiring : (g : Facts → Facts) → ((f : Facts) → (g f).wiring ≡ f.wiring) → (b : Bool) (x : Option Facts) → wiring? (cond b (map_facts g x) x) ≡ wiring? x
kept_wiring g k true none = refl
kept_wiring g k true (some f) = ap some (k f)
kept_wiring g k false x = refl

pub wired_keep : (p : ℕ) (g : Facts → Facts) (t : Table) → ((f : Facts) → (g f).wiring ≡ f.wiring) → (q : ℕ) → wired_in (change p g t) q ≡ wired_in t q
wired_keep p g t k q = ap wiring? (view_change p g t q) ∙ kept_wiring g k (eqb p q) (view_of_table t q)

rewired : (x : Option Facts) (y z : Wiring) → wiring? x ≡ some z → wiring? (map_facts (wired y) x) ≡ some y
rewired none y z e = e ∙ (let k : none ≡ some z = e in let c : ◌≡◌ {A = ℕ} 0 1 = cc in absurd (omega arith))
rewired (some f) y z e = refl

pub wired_change : (p : ℕ) (y z : Wiring) (t : Table) → wired_in t p ≡ some z → (q : ℕ) → wired_in (change p (wired y) t) q ≡ put p (some y) (wired_in t) q
wired_change p y z t e q =
    ap wiring? (view_change p (wired y) t q) ∙ cond_ap wiring? (eqb p q) (map_facts (wired y) (view_of_table t q)) (view_of_table t q)
    ∙ ⊎_elim
    (λ (k : eqb p q ≡ true). rw k (rewired (view_of_table t q) y z (ap (wired_in t) (sym (eqb-true p q k)) ∙ e)))
    (λ (k : eqb p q ≡ false). rw k)
    (which (eqb p q))

pub wired_remove : (p : ℕ) (t : Table) (q : ℕ) → wired_in (remove p t) q ≡ put p none (wired_in t) q
wired_remove p t q = ap wiring? (view_remove p t q) ∙ cond_ap wiring? (eqb p q) none (view_of_table t q)

pub wired_insert : (new : Record) (t : Table) → full_table t ≡ false → view_of_table t new.port ≡ none → (q : ℕ) → wired_in (insert new t) q ≡ put new.port (some new.facts.wiring) (wired_in t) q
wired_insert new t room fresh q = ap wiring? (view_insert new t q room fresh) ∙ cond_ap wiring? (eqb new.port q) (some new.facts) (view_of_table t q)

-- a port that is known stays so when another's wiring is replaced
put_known : (p : ℕ) (y z : Wiring) (w : Wired) (q : ℕ) → w q ≡ some z → (k : Wiring) × (put p (some y) w q ≡ some k)
put_known p y z w q e =
    ⊎_elim (λ (s : p ≡ q). (y, put_same p (some y) w q s)) (λ (n : p ≡ q → ⊥). (z, put_other p (some y) w q n ∙ e)) (same? p q)

module _ (t : Table) (a b : ℕ) (y z u : Wiring) (one : wired_in t a ≡ some z) (two : wired_in t b ≡ some u) where
  abbrev pub members : Table
  members = change b (wired y) (change a (wired y) t)

  pub wired_members : (q : ℕ) → wired_in members q ≡ put b (some y) (put a (some y) (wired_in t)) q
  wired_members q =
      let first : (r : ℕ) → wired_in (change a (wired y) t) r ≡ put a (some y) (wired_in t) r = wired_change a y z t one in
      let k = put_known a y u (wired_in t) b two in
      wired_change b y k.0 (change a (wired y) t) (first b ∙ k.1) q ∙ put_cong b (some y) (wired_in (change a (wired y) t)) (put a (some y) (wired_in t)) first q

-- ---- facts

pub fit_wired : (p : ℕ) (y : Wiring) (f : Facts) → Fit p f → Fit p (wired y f)
fit_wired p y f k = record { small = k.small; device = k.device; settings = k.settings }

pub loose_members : (t : Table) (a b : ℕ) (y : Wiring) → Loose t → Loose (change b (wired y) (change a (wired y) t))
loose_members t a b y l = loose_change b (wired y) (change a (wired y) t) (loose_change a (wired y) t l (λ f is. fit_wired a y f)) (λ f is. fit_wired b y f)

-- ---- the changes

pub sound_keep : (p : ℕ) (g : Facts → Facts) (t : Table) → Sound t → ((f : Facts) → (g f).wiring ≡ f.wiring) → ((f : Facts) → view_of_table t p ≡ some f → Fit p f → Fit p (g f)) → Sound (change p g t)
sound_keep p g t s same fits = record {
  loose = loose_change p g t s.loose fits;
  pairs = pairs_ext (wired_in t) (wired_in (change p g t)) (λ q. sym (wired_keep p g t same q)) s.pairs;
}

pub sound_attach : (new : Record) (t : Table) → Sound t → full_table t ≡ false → view_of_table t new.port ≡ none → new.facts.wiring ≡ Unjoined → Fit new.port new.facts → Sound (insert new t)
sound_attach new t s room fresh plain good = record {
  loose = loose_insert new t room fresh s.loose good;
  pairs =
      pairs_ext (put new.port (some new.facts.wiring) (wired_in t)) (wired_in (insert new t)) (λ q. sym (wired_insert new t room fresh q))
      (pairs_loose (wired_in t) s.pairs new.port (inl (ap wiring? fresh)) (some new.facts.wiring) (inr (ap some plain)));
}

pub sound_remove : (p : ℕ) (t : Table) → Sound t → (wired_in t p ≡ none) ⊎ (wired_in t p ≡ some Unjoined) → Sound (remove p t)
sound_remove p t s loose = record {
  loose = loose_remove p t s.loose;
  pairs = pairs_ext (put p none (wired_in t)) (wired_in (remove p t)) (λ q. sym (wired_remove p t q)) (pairs_loose (wired_in t) s.pairs p loose none (inl refl));
}

module _ (t : Table) (s : Sound t) (p a b : ℕ) (here : wired_in t p ≡ some (Virtual a b)) where
  abbrev one : wired_in t a ≡ some (Joined p)
  one = s.pairs.first p a b here

  abbrev two : wired_in t b ≡ some (Joined p)
  two = s.pairs.second p a b here

  pub wired_dissolve : (q : ℕ) → wired_in (dissolve p a b t) q ≡ three p a b none (some Unjoined) (wired_in t) q
  wired_dissolve q =
      wired_remove p (change b (wired Unjoined) (change a (wired Unjoined) t)) q
      ∙ put_cong p none (wired_in (change b (wired Unjoined) (change a (wired Unjoined) t))) (put b (some Unjoined) (put a (some Unjoined) (wired_in t)))
      (wired_members t a b Unjoined (Joined p) (Joined p) one two) q

  pub sound_dissolve : Sound (dissolve p a b t)
  sound_dissolve = record {
    loose = loose_remove p (change b (wired Unjoined) (change a (wired Unjoined) t)) (loose_members t a b Unjoined s.loose);
    pairs = pairs_ext (three p a b none (some Unjoined) (wired_in t)) (wired_in (dissolve p a b t)) (λ q. sym (wired_dissolve q)) (pairs_dissolve (wired_in t) s.pairs p a b here);
  }

pub full_change : (p : ℕ) (g : Facts → Facts) (t : Table) → full_table (change p g t) ≡ full_table t
full_change p g [] = refl
full_change p g (none ∷ t) = refl
full_change p g (some r ∷ t) = full_change p g t

known_none : (x : Option Facts) → known x ≡ false → x ≡ none
known_none none e = refl
known_none (some f) e = let z : ◌≡◌ {A = ℕ} 0 1 = cc in absurd (omega arith)

unwired : (x : Option Facts) → wiring? x ≡ none → x ≡ none
unwired none e = refl
unwired (some f) e = let z : ◌≡◌ {A = ℕ} 0 1 = cc in absurd (omega arith)

pub sound_virtual : (t : Table) → Sound t → (p d a b : ℕ) → full_table t ≡ false → view_of_table t p ≡ none → wired_in t a ≡ some Unjoined → wired_in t b ≡ some Unjoined → (a ≡ b → ⊥)
    → Fit p (bare d (Virtual a b)) → Sound (insert (new_record p d (Virtual a b)) (change b (wired (Joined p)) (change a (wired (Joined p)) t)))
sound_virtual t s p d a b room fresh one two ab good =
    let u : Table = change b (wired (Joined p)) (change a (wired (Joined p)) t) in
    let w : Wired = wired_in t in
    let inner : (q : ℕ) → wired_in u q ≡ put b (some (Joined p)) (put a (some (Joined p)) w) q = wired_members t a b (Joined p) Unjoined Unjoined one two in
    let pa : p ≡ a → ⊥ = λ (e : p ≡ a). let z : none ≡ some Unjoined = sym (ap wiring? fresh) ∙ ap w e ∙ one in let c : ◌≡◌ {A = ℕ} 0 1 = cc in absurd (omega arith) in
    let pb : p ≡ b → ⊥ = λ (e : p ≡ b). let z : none ≡ some Unjoined = sym (ap wiring? fresh) ∙ ap w e ∙ two in let c : ◌≡◌ {A = ℕ} 0 1 = cc in absurd (omega arith) in
    let still : view_of_table u p ≡ none =
    unwired (view_of_table u p)
    (inner p ∙ put_other b (some (Joined p)) (put a (some (Joined p)) w) p (λ (e : b ≡ p). pb (sym e)) ∙ put_other a (some (Joined p)) w p (λ (e : a ≡ p). pa (sym e)) ∙ ap wiring? fresh)
    in
    let room' : full_table u ≡ false = full_change b (wired (Joined p)) (change a (wired (Joined p)) t) ∙ full_change a (wired (Joined p)) t ∙ room in
    record {
      loose = loose_insert (new_record p d (Virtual a b)) u room' still (loose_members t a b (Joined p) s.loose) good;
      pairs =
          pairs_ext (three p a b (some (Virtual a b)) (some (Joined p)) w) (wired_in (insert (new_record p d (Virtual a b)) u))
          (λ q. sym (wired_insert (new_record p d (Virtual a b)) u room' still q ∙ put_cong p (some (Virtual a b)) (wired_in u) (put b (some (Joined p)) (put a (some (Joined p)) w)) inner q))
          (pairs_virtual w s.pairs p a b (ap wiring? fresh) one two ab);
    }
