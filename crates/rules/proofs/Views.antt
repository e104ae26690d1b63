-- A sound table that follows a history says of every port what the reader without a table says, partners included.
use Prim.Native.Nat.{ℕ, zero, suc, ◌<◌}
use mathlib.Core.Path.{◌≡◌, refl, sym, ◌∙◌, ap}
use mathlib.Core.Bool.{true, false}
use mathlib.Core.Option.{Option, none, some}
use mathlib.Core.Logic.{⊎_elim}
use native.Mathlib.Omega.{arith}
use Rattle.protocol.proofs.Tests.{which}
use Rattle.rules.specs.Layout.{port_count}
use Rattle.rules.specs.Facts.{Wiring, Unjoined, Joined, Virtual, Settings, Facts, mode_in}
use Rattle.rules.specs.History.{History, Attachment, plain, pair, Since, absent, since, since_attached, is_partner, partner_below, joined_by, wiring_of, device_of, facts_of, view_of_history, mode_since, modes_of_history}
use Rattle.rules.specs.Latest.{settings_of}
use Rattle.rules.specs.Table.{Table, view_of_table, mode_by, modes_of_table, wired}
use Rattle.rules.proofs.Lookup.{map_facts}
use Rattle.rules.proofs.Pairs.{joined_same, unjoined_joined}
use Rattle.rules.proofs.Sound.{wiring?, wired_in, Sound, seen, or_either}
use Rattle.rules.proofs.Follows.{unwired, unwire, attached_as, facts_since, Follows}
use Rattle.rules.proofs.Settings.{learnt, same_settings}
use Rattle.rules.proofs.Step.{pair_in, member_is, pair_joins}

module _ (t : Table) (s : Sound t) (h : History) (f : Follows t h) (q : ℕ) where
  named : (v : ℕ) → is_partner q (since_attached v h) ≡ pair_in q (wired_in t v)
  named v = member_is t h f v q

  -- the port's own virtual port is found
  partner_some : (n v : ℕ) → v < n → wired_in t q ≡ some (Joined v) → pair_in q (wired_in t v) ≡ true → partner_below n h q ≡ some v
  partner_some zero v low here mine = absurd (omega arith)
  partner_some (suc m) v low here mine =
      ⊎_elim
      (λ (e : is_partner q (since_attached m h) ≡ true).
      let joins : wired_in t q ≡ some (Joined m) = pair_joins (wired_in t) s.pairs q m (wired_in t m) refl (sym (named m) ∙ e) in
      rw e (ap some (joined_same m v (sym joins ∙ here))))
      (λ (e : is_partner q (since_attached m h) ≡ false).
      let apart : (v ≡ m) → ⊥ =
      λ (k : v ≡ m).
      let both : false ≡ true = sym e ∙ named m ∙ ap (λ (n : ℕ). pair_in q (wired_in t n)) (sym k) ∙ mine in
      let z : ◌≡◌ {A = ℕ} 0 1 = cc in absurd (omega arith)
      in
      rw e (partner_some m v (omega arith) here mine))
      (which (is_partner q (since_attached m h)))

  partner_none : (n : ℕ) → ((v : ℕ) → wired_in t q ≡ some (Joined v) → ⊥) → partner_below n h q ≡ none
  partner_none zero loose = refl
  partner_none (suc m) loose =
      ⊎_elim
      (λ (e : is_partner q (since_attached m h) ≡ true). absurd (loose m (pair_joins (wired_in t) s.pairs q m (wired_in t m) refl (sym (named m) ∙ e))))
      (λ (e : is_partner q (since_attached m h) ≡ false). rw e (partner_none m loose))
      (which (is_partner q (since_attached m h)))

  -- the wiring of a present port
  plain_wiring : (w : Wiring) → wired_in t q ≡ some w → unwired w ≡ Unjoined → w ≡ joined_by (partner_below port_count h q)
  plain_wiring Unjoined e k = sym (ap joined_by (partner_none port_count (λ (v : ℕ) (j : wired_in t q ≡ some (Joined v)). unjoined_joined v (sym e ∙ j))))
  plain_wiring (Joined v) e k =
      let n = s.pairs.up q v e in
      let there = seen (view_of_table t v) (Virtual n.a n.b) n.pair in
      let low : v < port_count = (s.loose.fit v there.facts there.is).small in
      sym (ap joined_by (partner_some port_count v low e (ap (pair_in q) n.pair ∙ or_either n.a n.b q n.member)))
  plain_wiring (Virtual a b) e k = let z : ◌≡◌ {A = ℕ} 0 1 = cc in absurd (omega arith)

  pair_wiring : (a b : ℕ) (w : Wiring) → unwired w ≡ Virtual a b → w ≡ Virtual a b
  pair_wiring a b Unjoined k = let z : ◌≡◌ {A = ℕ} 0 1 = cc in absurd (omega arith)
  pair_wiring a b (Joined v) k = let z : ◌≡◌ {A = ℕ} 0 1 = cc in absurd (omega arith)
  pair_wiring a b (Virtual c d) k = k

  attached_wiring : (a : Attachment) (w : Wiring) → wired_in t q ≡ some w → unwired w ≡ attached_as a → w ≡ wiring_of a h q
  attached_wiring (plain d) w e k = plain_wiring w e k
  attached_wiring (pair d a b) w e k = pair_wiring a b w k

  -- what the table has of the port, and what the history says
  same_facts : (x : Option Facts) (c : Since) → view_of_table t q ≡ x → map_facts unwire x ≡ facts_since c → x ≡ facts_of q h c
  same_facts none absent e k = refl
  same_facts none (since a l) e k = let z : ◌≡◌ {A = ℕ} 0 1 = cc in absurd (omega arith)
  same_facts (some g) absent e k = let z : ◌≡◌ {A = ℕ} 0 1 = cc in absurd (omega arith)
  same_facts (some g) (since a l) e k =
      let w : g.wiring ≡ wiring_of a h q = attached_wiring a g.wiring (ap wiring? e) (some_wiring k) in
      ap (map_facts (wired g.wiring)) k ∙ λ i. some (record { device = device_of a; wiring = w i; settings = same_settings l i })
    where
      some_wiring : map_facts unwire (some g) ≡ facts_since (since a l) → unwired g.wiring ≡ attached_as a
      some_wiring k = inner (ap wiring? k)
        where
          inner : some (unwired g.wiring) ≡ some (attached_as a) → unwired g.wiring ≡ attached_as a
          inner j = cc

  pub same_view : view_of_table t q ≡ view_of_history h q
  unfolding view_of_history
  same_view = same_facts (view_of_table t q) (since_attached q h) refl (f q)

  -- and so of its mode
  same_mode_of : (x : Option Facts) (c : Since) → map_facts unwire x ≡ facts_since c → mode_by x ≡ mode_since c
  unfolding settings_of
  same_mode_of none absent k = refl
  same_mode_of none (since a l) k = let z : ◌≡◌ {A = ℕ} 0 1 = cc in absurd (omega arith)
  same_mode_of (some g) absent k = let z : ◌≡◌ {A = ℕ} 0 1 = cc in absurd (omega arith)
  same_mode_of (some g) (since a l) k =
      let by : mode_by (facts_since (since a l)) ≡ mode_in (learnt l).answered = refl in
      ap mode_by k ∙ by ∙ ap (λ (s : Settings). mode_in s.answered) (same_settings l)

  pub same_mode : modes_of_table t q ≡ modes_of_history h q
  unfolding modes_of_history
  same_mode = same_mode_of (view_of_table t q) (since_attached q h) (f q)
