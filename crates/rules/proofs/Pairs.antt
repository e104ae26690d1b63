-- Who is joined to whom: a joined port names a virtual port that names it, a virtual port two different ports joined to it.
-- Over any function from ports to wirings, so that nothing of a table's places is seen here.
use Prim.Native.Nat.{ℕ}
use mathlib.Core.Path.{◌≡◌, sym, ◌∙◌, ap}
use mathlib.Core.Bool.{true, false, cond}
use mathlib.Core.Option.{Option, none, some}
use mathlib.Core.Logic.{◌⊎◌, inl, inr, ⊎_elim}
use native.Mathlib.Omega.{arith}
use borrow.Author.Tests.{eqb-true, eqb-false, eq-eqb, ne_eqb}
use lib.Dec.{eqb}
use Rattle.protocol.proofs.Tests.{which}
use Rattle.rules.specs.Facts.{Wiring, Unjoined, Joined, Virtual}

abbrev pub Wired : Type 0
Wired = ℕ → Option Wiring

-- a port's wiring replaced
abbrev pub put : ℕ → Option Wiring → Wired → Wired
put p x w q = cond (eqb p q) x (w q)

pub same? : (p q : ℕ) → (p ≡ q) ⊎ (p ≡ q → ⊥)
same? p q =
    ⊎_elim (λ (e : eqb p q ≡ true). inl (eqb-true p q e))
    (λ (e : eqb p q ≡ false). inr (eqb-false p q e))
    (which (eqb p q))

pub put_same : (p : ℕ) (x : Option Wiring) (w : Wired) (q : ℕ) → p ≡ q → put p x w q ≡ x
put_same p x w q e = rw (eq-eqb p q e)

pub put_other : (p : ℕ) (x : Option Wiring) (w : Wired) (q : ℕ) → (p ≡ q → ⊥) → put p x w q ≡ w q
put_other p x w q n = rw (ne_eqb p q n)

-- the virtual port that names a port
pub record Named (w : Wired) (p v : ℕ) : Type 0 where
  pub a : ℕ
  pub b : ℕ
  pub pair : w v ≡ some (Virtual a b)
  pub member : (a ≡ p) ⊎ (b ≡ p)

pub record Pairs (w : Wired) : Type 0 where
  pub up : (p v : ℕ) → w p ≡ some (Joined v) → Named w p v
  pub first : (v a b : ℕ) → w v ≡ some (Virtual a b) → w a ≡ some (Joined v)
  pub second : (v a b : ℕ) → w v ≡ some (Virtual a b) → w b ≡ some (Joined v)
  pub apart : (v a b : ℕ) → w v ≡ some (Virtual a b) → a ≡ b → ⊥

clash : {A : Type 0} → ◌≡◌ {A = ℕ} 0 1 → A
clash e = absurd (omega arith)

-- no port at all
pub pairs_none : (w : Wired) → ((q : ℕ) → w q ≡ none) → Pairs w
pairs_none w e = record {
  up = λ p v k. never p (Joined v) k;
  first = λ v a b k. never v (Virtual a b) k;
  second = λ v a b k. never v (Virtual a b) k;
  apart = λ v a b k. never v (Virtual a b) k;
}
  where
    never : {A : Type 0} (q : ℕ) (y : Wiring) → w q ≡ some y → A
    never q y k = let there : none ≡ some y = sym (e q) ∙ k in let z : ◌≡◌ {A = ℕ} 0 1 = cc in clash z

-- two ports with different wirings are different
pub unlike : (w : Wired) (p q : ℕ) (x y : Option Wiring) → w p ≡ x → w q ≡ y → (x ≡ y → ⊥) → p ≡ q → ⊥
unlike w p q x y a b n e = n (sym a ∙ ap w e ∙ b)

pub none_some : (x : Wiring) → none ≡ some x → ⊥
none_some x e = let z : ◌≡◌ {A = ℕ} 0 1 = cc in clash z

pub some_none : (x : Wiring) → some x ≡ none → ⊥
some_none x e = let z : ◌≡◌ {A = ℕ} 0 1 = cc in clash z

pub unjoined_joined : (v : ℕ) → some Unjoined ≡ some (Joined v) → ⊥
unjoined_joined v e = let z : ◌≡◌ {A = ℕ} 0 1 = cc in clash z

pub unjoined_virtual : (a b : ℕ) → some Unjoined ≡ some (Virtual a b) → ⊥
unjoined_virtual a b e = let z : ◌≡◌ {A = ℕ} 0 1 = cc in clash z

pub joined_virtual : (v a b : ℕ) → some (Joined v) ≡ some (Virtual a b) → ⊥
joined_virtual v a b e = let z : ◌≡◌ {A = ℕ} 0 1 = cc in clash z

-- a port whose wiring is none or unjoined is no partner of another; so what changes there leaves the others' as they were
module _ (w : Wired) (s : Pairs w) (p : ℕ) (loose : (w p ≡ none) ⊎ (w p ≡ some Unjoined)) (x : Option Wiring) (new : (x ≡ none) ⊎ (x ≡ some Unjoined)) where
  not_joined : (v : ℕ) → w p ≡ some (Joined v) → ⊥
  not_joined v e = ⊎_elim (λ (k : w p ≡ none). none_some (Joined v) (sym k ∙ e)) (λ (k : w p ≡ some Unjoined). unjoined_joined v (sym k ∙ e)) loose

  not_pair : (a b : ℕ) → w p ≡ some (Virtual a b) → ⊥
  not_pair a b e = ⊎_elim (λ (k : w p ≡ none). none_some (Virtual a b) (sym k ∙ e)) (λ (k : w p ≡ some Unjoined). unjoined_virtual a b (sym k ∙ e)) loose

  new_joined : (v : ℕ) → x ≡ some (Joined v) → ⊥
  new_joined v e = ⊎_elim (λ (k : x ≡ none). none_some (Joined v) (sym k ∙ e)) (λ (k : x ≡ some Unjoined). unjoined_joined v (sym k ∙ e)) new

  new_pair : (a b : ℕ) → x ≡ some (Virtual a b) → ⊥
  new_pair a b e = ⊎_elim (λ (k : x ≡ none). none_some (Virtual a b) (sym k ∙ e)) (λ (k : x ≡ some Unjoined). unjoined_virtual a b (sym k ∙ e)) new

  -- what is joined or virtual afterwards was so before
  old : (q : ℕ) (y : Wiring) → (x ≡ some y → ⊥) → put p x w q ≡ some y → w q ≡ some y
  old q y n e =
      ⊎_elim (λ (k : p ≡ q). absurd (n (sym (put_same p x w q k) ∙ e)))
      (λ (k : p ≡ q → ⊥). sym (put_other p x w q k) ∙ e)
      (same? p q)

  -- and what was joined or virtual before is so afterwards
  still : (q : ℕ) (y : Wiring) → (w p ≡ some y → ⊥) → w q ≡ some y → put p x w q ≡ some y
  still q y n e = put_other p x w q (λ (k : p ≡ q). n (ap w k ∙ e)) ∙ e

  pub pairs_loose : Pairs (put p x w)
  pairs_loose = record {
    up =
        λ q v e.
        let named = s.up q v (old q (Joined v) (new_joined v) e) in
        record { a = named.a; b = named.b; pair = still v (Virtual named.a named.b) (not_pair named.a named.b) named.pair; member = named.member };
    first = λ v a b e. still a (Joined v) (not_joined v) (s.first v a b (old v (Virtual a b) (new_pair a b) e));
    second = λ v a b e. still b (Joined v) (not_joined v) (s.second v a b (old v (Virtual a b) (new_pair a b) e));
    apart = λ v a b e. s.apart v a b (old v (Virtual a b) (new_pair a b) e);
  }

-- ---- three ports at once: a virtual port and its members

-- which of three ports a port is
pub data Among (p a b q : ℕ) : Type 0 where
  is_port : p ≡ q → Among p a b q
  is_first : a ≡ q → Among p a b q
  is_second : b ≡ q → Among p a b q
  other : (p ≡ q → ⊥) → (a ≡ q → ⊥) → (b ≡ q → ⊥) → Among p a b q

pub among : (p a b q : ℕ) → Among p a b q
among p a b q =
    ⊎_elim (λ (k : p ≡ q). is_port k)
    (λ (np : p ≡ q → ⊥).
    ⊎_elim (λ (k : a ≡ q). is_first k)
    (λ (na : a ≡ q → ⊥).
    ⊎_elim (λ (k : b ≡ q). is_second k) (λ (nb : b ≡ q → ⊥). other np na nb) (same? b q))
    (same? a q))
    (same? p q)

-- a port's wiring replaced by one, and its members' by another
abbrev pub three : ℕ → ℕ → ℕ → Option Wiring → Option Wiring → Wired → Wired
three p a b x y w = put p x (put b y (put a y w))

module _ (w : Wired) (p a b : ℕ) (x y : Option Wiring) (pa : p ≡ a → ⊥) (pb : p ≡ b → ⊥) where
  pub at_port : (q : ℕ) → p ≡ q → three p a b x y w q ≡ x
  at_port q e = put_same p x (put b y (put a y w)) q e

  pub at_second : (q : ℕ) → b ≡ q → three p a b x y w q ≡ y
  at_second q e = put_other p x (put b y (put a y w)) q (λ (k : p ≡ q). pb (k ∙ sym e)) ∙ put_same b y (put a y w) q e

  pub at_first : (q : ℕ) → a ≡ q → three p a b x y w q ≡ y
  at_first q e =
      ⊎_elim (λ (k : b ≡ q). at_second q k)
      (λ (k : b ≡ q → ⊥). put_other p x (put b y (put a y w)) q (λ (j : p ≡ q). pa (j ∙ sym e)) ∙ put_other b y (put a y w) q k ∙ put_same a y w q e)
      (same? b q)

  pub elsewhere : (q : ℕ) → (p ≡ q → ⊥) → (a ≡ q → ⊥) → (b ≡ q → ⊥) → three p a b x y w q ≡ w q
  elsewhere q np na nb = put_other p x (put b y (put a y w)) q np ∙ put_other b y (put a y w) q nb ∙ put_other a y w q na

pub joined_same : (u v : ℕ) → some (Joined u) ≡ some (Joined v) → u ≡ v
joined_same u v e = cc

virtual_first : (a b c d : ℕ) → some (Virtual a b) ≡ some (Virtual c d) → a ≡ c
virtual_first a b c d e = cc

virtual_second : (a b c d : ℕ) → some (Virtual a b) ≡ some (Virtual c d) → b ≡ d
virtual_second a b c d e = cc

-- ---- a virtual port comes

module _ (w : Wired) (s : Pairs w) (p a b : ℕ) (fresh : w p ≡ none) (one : w a ≡ some Unjoined) (two : w b ≡ some Unjoined) (ab : a ≡ b → ⊥) where
  pa : p ≡ a → ⊥
  pa e = none_some Unjoined (sym fresh ∙ ap w e ∙ one)

  pb : p ≡ b → ⊥
  pb e = none_some Unjoined (sym fresh ∙ ap w e ∙ two)

  abbrev w' : Wired
  w' = three p a b (some (Virtual a b)) (some (Joined p)) w

  -- a port that was joined or virtual is none of the three
  kept : (q : ℕ) (z : Wiring) → (Unjoined ≡ z → ⊥) → w q ≡ some z → w' q ≡ some z
  kept q z n e =
      elsewhere w p a b (some (Virtual a b)) (some (Joined p)) pa pb q (λ (k : p ≡ q). none_some z (sym fresh ∙ ap w k ∙ e)) (λ (k : a ≡ q). n (inner (sym one ∙ ap w k ∙ e)))
      (λ (k : b ≡ q). n (inner (sym two ∙ ap w k ∙ e)))
      ∙ e
    where
      inner : some Unjoined ≡ some z → Unjoined ≡ z
      inner k = cc

  was : (q : ℕ) (z : Option Wiring) → (p ≡ q → ⊥) → (a ≡ q → ⊥) → (b ≡ q → ⊥) → w' q ≡ z → w q ≡ z
  was q z np na nb e = sym (elsewhere w p a b (some (Virtual a b)) (some (Joined p)) pa pb q np na nb) ∙ e

  not_joined_unjoined : (v : ℕ) → Unjoined ≡ Joined v → ⊥
  not_joined_unjoined v e = unjoined_joined v (ap some e)

  not_virtual_unjoined : (c d : ℕ) → Unjoined ≡ Virtual c d → ⊥
  not_virtual_unjoined c d e = unjoined_virtual c d (ap some e)

  -- the members are named by the new port
  member_named : (q v : ℕ) → (a ≡ q) ⊎ (b ≡ q) → w' q ≡ some (Joined p) → w' q ≡ some (Joined v) → Named w' q v
  member_named q v m here e =
      record { a = a; b = b; pair = at_port w p a b (some (Virtual a b)) (some (Joined p)) pa pb v (joined_same p v (sym here ∙ e)); member = m }

  up_new : (q v : ℕ) → Among p a b q → w' q ≡ some (Joined v) → Named w' q v
  up_new q v (is_port k) e = absurd (joined_virtual v a b (sym e ∙ at_port w p a b (some (Virtual a b)) (some (Joined p)) pa pb q k))
  up_new q v (is_first k) e = member_named q v (inl k) (at_first w p a b (some (Virtual a b)) (some (Joined p)) pa pb q k) e
  up_new q v (is_second k) e = member_named q v (inr k) (at_second w p a b (some (Virtual a b)) (some (Joined p)) pa pb q k) e
  up_new q v (other np na nb) e =
      let named = s.up q v (was q (some (Joined v)) np na nb e) in
      record { a = named.a; b = named.b; pair = kept v (Virtual named.a named.b) (not_virtual_unjoined named.a named.b) named.pair; member = named.member }

  -- a pair afterwards is the new one or an old one
  data Pair (v c d : ℕ) : Type 0 where
    newer : p ≡ v → a ≡ c → b ≡ d → Pair v c d
    older : w v ≡ some (Virtual c d) → Pair v c d

  pair_of : (v c d : ℕ) → Among p a b v → w' v ≡ some (Virtual c d) → Pair v c d
  pair_of v c d (is_port k) e =
      let same = sym (at_port w p a b (some (Virtual a b)) (some (Joined p)) pa pb v k) ∙ e in
      newer k (virtual_first a b c d same) (virtual_second a b c d same)
  pair_of v c d (is_first k) e = absurd (joined_virtual p c d (sym (at_first w p a b (some (Virtual a b)) (some (Joined p)) pa pb v k) ∙ e))
  pair_of v c d (is_second k) e = absurd (joined_virtual p c d (sym (at_second w p a b (some (Virtual a b)) (some (Joined p)) pa pb v k) ∙ e))
  pair_of v c d (other np na nb) e = older (was v (some (Virtual c d)) np na nb e)

  first_new : (v c d : ℕ) → Pair v c d → w' c ≡ some (Joined v)
  first_new v c d (newer k i j) = at_first w p a b (some (Virtual a b)) (some (Joined p)) pa pb c i ∙ ap (λ (n : ℕ). some (Joined n)) k
  first_new v c d (older e) = kept c (Joined v) (not_joined_unjoined v) (s.first v c d e)

  second_new : (v c d : ℕ) → Pair v c d → w' d ≡ some (Joined v)
  second_new v c d (newer k i j) = at_second w p a b (some (Virtual a b)) (some (Joined p)) pa pb d j ∙ ap (λ (n : ℕ). some (Joined n)) k
  second_new v c d (older e) = kept d (Joined v) (not_joined_unjoined v) (s.second v c d e)

  apart_new : (v c d : ℕ) → Pair v c d → c ≡ d → ⊥
  apart_new v c d (newer k i j) e = ab (i ∙ e ∙ sym j)
  apart_new v c d (older k) e = s.apart v c d k e

  pub pairs_virtual : Pairs w'
  pairs_virtual = record {
    up = λ q v e. up_new q v (among p a b q) e;
    first = λ v c d e. first_new v c d (pair_of v c d (among p a b v) e);
    second = λ v c d e. second_new v c d (pair_of v c d (among p a b v) e);
    apart = λ v c d e. apart_new v c d (pair_of v c d (among p a b v) e);
  }

-- ---- a virtual port goes, and its members are freed

module _ (w : Wired) (s : Pairs w) (p a b : ℕ) (here : w p ≡ some (Virtual a b)) where
  abbrev one : w a ≡ some (Joined p)
  one = s.first p a b here

  abbrev two : w b ≡ some (Joined p)
  two = s.second p a b here

  pub port_first : p ≡ a → ⊥
  port_first e = joined_virtual p a b (sym one ∙ sym (ap w e) ∙ here)

  pub port_second : p ≡ b → ⊥
  port_second e = joined_virtual p a b (sym two ∙ sym (ap w e) ∙ here)

  abbrev without : Wired
  without = three p a b none (some Unjoined) w

  abbrev gone : (q : ℕ) → p ≡ q → without q ≡ none
  gone q k = at_port w p a b none (some Unjoined) port_first port_second q k

  abbrev free_first : (q : ℕ) → a ≡ q → without q ≡ some Unjoined
  free_first q k = at_first w p a b none (some Unjoined) port_first port_second q k

  abbrev free_second : (q : ℕ) → b ≡ q → without q ≡ some Unjoined
  free_second q k = at_second w p a b none (some Unjoined) port_first port_second q k

  abbrev rest : (q : ℕ) → (p ≡ q → ⊥) → (a ≡ q → ⊥) → (b ≡ q → ⊥) → without q ≡ w q
  rest q np na nb = elsewhere w p a b none (some Unjoined) port_first port_second q np na nb

  -- who names a port that is no member of p is not p, and stays
  name_stays : (q v c d : ℕ) → (a ≡ q → ⊥) → (b ≡ q → ⊥) → w v ≡ some (Virtual c d) → (c ≡ q) ⊎ (d ≡ q) → without v ≡ some (Virtual c d)
  name_stays q v c d na nb e m =
      rest v
      (λ (k : p ≡ v).
      let same = sym here ∙ ap w k ∙ e in
      ⊎_elim (λ (i : c ≡ q). na (virtual_first a b c d same ∙ i)) (λ (i : d ≡ q). nb (virtual_second a b c d same ∙ i)) m)
      (λ (k : a ≡ v). joined_virtual p c d (sym one ∙ ap w k ∙ e))
      (λ (k : b ≡ v). joined_virtual p c d (sym two ∙ ap w k ∙ e))
      ∙ e

  -- a member of another virtual port stays joined
  joined_stays : (q v : ℕ) → (p ≡ v → ⊥) → w q ≡ some (Joined v) → without q ≡ some (Joined v)
  joined_stays q v np e =
      rest q (λ (k : p ≡ q). joined_virtual v a b (sym e ∙ sym (ap w k) ∙ here)) (λ (k : a ≡ q). np (joined_same p v (sym one ∙ ap w k ∙ e)))
      (λ (k : b ≡ q). np (joined_same p v (sym two ∙ ap w k ∙ e)))
      ∙ e

  up_without : (q v : ℕ) → Among p a b q → without q ≡ some (Joined v) → Named without q v
  up_without q v (is_port k) e = absurd (none_some (Joined v) (sym (gone q k) ∙ e))
  up_without q v (is_first k) e = absurd (unjoined_joined v (sym (free_first q k) ∙ e))
  up_without q v (is_second k) e = absurd (unjoined_joined v (sym (free_second q k) ∙ e))
  up_without q v (other np na nb) e =
      let named = s.up q v (sym (rest q np na nb) ∙ e) in
      record { a = named.a; b = named.b; pair = name_stays q v named.a named.b na nb named.pair named.member; member = named.member }

  pub record Before (v c d : ℕ) : Type 0 where
    pub not_port : p ≡ v → ⊥
    pub was_pair : w v ≡ some (Virtual c d)

  pair_before : (v c d : ℕ) → Among p a b v → without v ≡ some (Virtual c d) → Before v c d
  pair_before v c d (is_port k) e = absurd (none_some (Virtual c d) (sym (gone v k) ∙ e))
  pair_before v c d (is_first k) e = absurd (unjoined_virtual c d (sym (free_first v k) ∙ e))
  pair_before v c d (is_second k) e = absurd (unjoined_virtual c d (sym (free_second v k) ∙ e))
  pair_before v c d (other np na nb) e = record { not_port = np; was_pair = sym (rest v np na nb) ∙ e }

  pub pairs_dissolve : Pairs without
  pairs_dissolve = record {
    up = λ q v e. up_without q v (among p a b q) e;
    first = λ v c d e. let k = pair_before v c d (among p a b v) e in joined_stays c v k.not_port (s.first v c d k.was_pair);
    second = λ v c d e. let k = pair_before v c d (among p a b v) e in joined_stays d v k.not_port (s.second v c d k.was_pair);
    apart = λ v c d e. s.apart v c d (pair_before v c d (among p a b v) e).was_pair;
  }
