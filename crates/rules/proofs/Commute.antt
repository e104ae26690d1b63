-- Ports don't wait for each other: two messages whose ports differ commute.
use Prim.Native.Nat.{ℕ, suc}
use native.Mathlib.Omega.{arith}
use mathlib.Core.Path.{◌≡◌, refl, sym, ◌∙◌, ap, subst}
use mathlib.Core.Bool.{true, false}
use mathlib.Core.List.{List}
use mathlib.Core.Option.{Option, none, some}
use mathlib.Core.Logic.{◌⊎◌, inl, inr, ⊎_elim}
use borrow.Author.Tests.{eqb-false}
use lib.Dec.{eqb}
use Rattle.protocol.specs.Decode.{decode, open_of}
use Rattle.protocol.specs.Decode as Decode
use Rattle.protocol.proofs.FieldTrip.{never}
use Rattle.protocol.proofs.Tests.{which}
use Rattle.rules.specs.Answer.{Answer, refused, accepted, unless_refused}
use Rattle.rules.specs.Effect.{Change, Event, event, Effect, ToPort}
use Rattle.rules.specs.Facts.{Facts}
use Rattle.rules.specs.Judge.{told_refusal, judge}
use Rattle.rules.specs.Laws.{asks, is_asking, accepted_asking}
use Rattle.rules.specs.Learn.{learn}
use Rattle.rules.specs.OpenBytes.{heard}
use Rattle.rules.specs.Table.{Table, view_of_table, ports_of_table, on_settings, apply}
use Rattle.rules.specs.Cells.{cells_of, table_at, sound}
use Rattle.rules.specs.Offer.{Entry, judge_reading, judge_entry, offer_by_cells, cells_after, dataset_by_cells, values_by_cells, view_of_cells}
use Rattle.rules.specs.Demand3.{EntryFits}
use Rattle.rules.specs.Commute.{port_byte, readable, of_port_type, ports_differ, experiment_of, KeepsOwn, SameTable, Commute, PortsCommute}
use Rattle.rules.proofs.Lookup.{map_facts}
use Rattle.rules.proofs.Apart.{apply_apart, view_apart, view_own, judge_apart}
use Rattle.rules.proofs.PortTypes.{OwnNumber, Tells, tells_port, unread_tells}
use Rattle.rules.proofs.Sound.{Sound}
use Rattle.rules.proofs.CellsSound.{sound_is}
use Rattle.rules.proofs.Kept.{not_same}
use Rattle.rules.proofs.Offered.{was_accepted, back, judges, judged, after, cells_after_lem, sound_after}
use Rattle.rules.proofs.Laws.{table_sound}

-- ---- on tables

-- an answer by which no port but one is told anything
abbrev OnlyTo : ℕ → Answer Event → Type 0
OnlyTo p v = (x : Effect) (o : List ℕ) → v ≡ accepted (event x o) → (c : Change) × (x ≡ ToPort p c)

only_to : (t : Table) (e : Entry) (p : ℕ) → Tells e p → OnlyTo p (judged t e)
only_to t e p told x o k =
    let a = was_accepted (ports_of_table t) e x o k in
    let c = told a.form a.values a.read in
    (c.change, a.is ∙ c.is)

-- a message to a port is answered alike after another port was told something
alike_told : (t : Table) (p q : ℕ) (c : Change) (o : List ℕ) → (p ≡ q → ⊥) → (e : Entry) → Tells e q → judged (apply (ToPort p c) o t) e ≡ judged t e
unfolding judge_entry
alike_told t p q c o apart e told = go (decode e.way e.bytes) refl
  where
    by : Table → Effect → List ℕ → Answer Event
    by u x bytes = let opens = heard x bytes in unless_refused (judge (ports_of_table u) x opens) (accepted (event x opens))

    go : (a : Decode.Answer) → decode e.way e.bytes ≡ a
        → judge_reading (ports_of_table (apply (ToPort p c) o t)) e.bytes e.experiment a ≡ judge_reading (ports_of_table t) e.bytes e.experiment a
    go (Decode.refused n place) k = refl
    go (Decode.accepted f vs) k =
        let bytes : List ℕ = open_of e.bytes (Decode.accepted f vs) in
        let d = told f vs k in
        let x : Effect = ToPort q d.change in
        let opens : List ℕ = heard x bytes in
        ap (λ (y : Effect). by (apply (ToPort p c) o t) y bytes) d.is
        ∙ ap (λ (n : ℕ). unless_refused n (accepted (event x opens))) (judge_apart p q c d.change o opens t apart)
        ∙ sym (ap (λ (y : Effect). by t y bytes) d.is)

module _ (t : Table) (p q : ℕ) (apart : p ≡ q → ⊥) where
  alike : (v : Answer Event) → OnlyTo p v → (e : Entry) → Tells e q → judged (after v t) e ≡ judged t e
  alike (refused n place) only e told = refl
  alike (accepted (event x o)) only e told =
      let c = only x o refl in
      ap (λ (y : Effect). judged (apply y o t) e) c.1 ∙ alike_told t p q c.0 o apart e told

  -- and leaves at the other port what was known there
  others : (v : Answer Event) → OnlyTo p v → view_of_table (after v t) q ≡ view_of_table t q
  others (refused n place) only = refl
  others (accepted (event x o)) only =
      let c = only x o refl in
      ap (λ (y : Effect). view_of_table (apply y o t) q) c.1 ∙ view_apart p q c.0 o t apart

  both : (v w : Answer Event) → OnlyTo p v → OnlyTo q w → after w (after v t) ≡ after v (after w t)
  both (refused n place) w k l = refl
  both (accepted (event x o)) (refused n place) k l = refl
  both (accepted (event x o)) (accepted (event y o')) k l =
      let c = k x o refl in
      let d = l y o' refl in
      (λ i. apply (d.1 i) o' (apply (c.1 i) o t))
      ∙ sym (apply_apart p q c.0 d.0 o o' t apart)
      ∙ (λ i. apply (sym c.1 i) o (apply (sym d.1 i) o' t))

-- an accepted asking leaves its own number at its port
own_number : (t : Table) (e : Entry) (p : ℕ) → Tells e p → (v : Answer Event) → judged t e ≡ v → accepted_asking v ≡ true → experiment_of (view_of_table (after v t) p) ≡ some e.experiment
unfolding judge
own_number t e p told (refused n place) k asking = never asking
own_number t e p told (accepted (event x o)) k asking =
    let a = was_accepted (ports_of_table t) e x o k in
    let c = told a.form a.values a.read in
    let is : x ≡ ToPort p c.change = a.is ∙ c.is in
    ap (λ (y : Effect). experiment_of (view_of_table (apply y o t) p)) is
    ∙ ap experiment_of (view_own p c.change o t)
    ∙ go c.change c.own (view_of_table t p) (sym (ap is_asking is) ∙ asking) (sym (ap (λ (y : Effect). judge (ports_of_table t) y o) is) ∙ a.good)
  where
    go : (c : Change) → OwnNumber e.experiment c → (x : Option Facts) → asks c ≡ true → told_refusal c x ≡ 0 → experiment_of (map_facts (on_settings (learn c o)) x) ≡ some e.experiment
    go c own none asking ok = let z : ◌≡◌ {A = ℕ} 10 0 = ok in absurd (omega arith)
    go c own (some f) asking ok = ap some (own o f.settings asking)

-- ---- on cells

same_table : (cells cells' : List ℕ) → cells ≡ cells' → SameTable cells cells'
same_table cells cells' e = record {
  same = e;
  ports = λ port. ap (λ (c : List ℕ). view_of_cells c port) e;
  datasets = λ way bytes number. ap (λ (c : List ℕ). dataset_by_cells c way bytes number) e;
  values = λ way bytes. ap (λ (c : List ℕ). values_by_cells c way bytes) e;
}

-- two messages, and for each a port, the only one that it may tell something
record Apart (one two : Entry) : Type 0 where
  p : ℕ
  q : ℕ
  first_tells : Tells one p
  second_tells : Tells two q
  differ : p ≡ q → ⊥
  first_is : readable one ≡ true → p ≡ port_byte one
  second_is : readable two ≡ true → q ≡ port_byte two

abbrev swap : (one two : Entry) → Apart one two → Apart two one
swap one two a = record {
  p = a.q;
  q = a.p;
  first_tells = a.second_tells;
  second_tells = a.first_tells;
  differ = λ e. a.differ (sym e);
  first_is = a.second_is;
  second_is = a.first_is;
}

-- in one order: the cells at the end, the second message answered as if it came first, and what the first keeps
record InOrder (t : Table) (one two : Entry) (p : ℕ) : Type 0 where
  cells : cells_after (cells_after (cells_of t) one) two ≡ cells_of (after (judged t two) (after (judged t one) t))
  second : offer_by_cells (cells_after (cells_of t) one) two ≡ offer_by_cells (cells_of t) two
  own : KeepsOwn (cells_of t) (cells_after (cells_after (cells_of t) one) two) one p

in_order : (t : Table) → Sound t → (one two : Entry) → EntryFits one → EntryFits two → (a : Apart one two) → InOrder t one two a.p
in_order t s one two fits fits' a =
    let p : ℕ = a.p in
    let q : ℕ = a.q in
    let v : Answer Event = judged t one in
    let w : Answer Event = judged t two in
    let u : Table = after v t in
    let su : Sound u = sound_after t s one fits in
    let same : judged u two ≡ w = alike t p q a.differ v (only_to t one p a.first_tells) two a.second_tells in
    let end : Sound (after w u) = subst (λ (x : Answer Event). Sound (after x u)) same (sound_after u su two fits') in
    let one_then : cells_after (cells_of t) one ≡ cells_of u = cells_after_lem t s one in
    let both_then : cells_after (cells_after (cells_of t) one) two ≡ cells_of (after w u) =
    ap (λ (c : List ℕ). cells_after c two) one_then ∙ cells_after_lem u su two ∙ ap (λ (x : Answer Event). cells_of (after x u)) same
    in
    let known : view_of_cells (cells_after (cells_of t) one) p ≡ view_of_table u p = ap (λ (c : List ℕ). view_of_cells c p) one_then ∙ ap (λ (x : Table). view_of_table x p) (back u su) in
    let known_then : view_of_cells (cells_after (cells_after (cells_of t) one) two) p ≡ view_of_table u p =
    ap (λ (c : List ℕ). view_of_cells c p) both_then ∙ ap (λ (x : Table). view_of_table x p) (back (after w u) end)
    ∙ others u q p (λ e. a.differ (sym e)) w (only_to t two q a.second_tells)
    in
    record {
      cells = both_then;
      second = ap (λ (c : List ℕ). offer_by_cells c two) one_then ∙ judges u su two ∙ same ∙ sym (judges t s two);
      own = record {
        facts = known_then ∙ sym known;
        experiment = λ asking. ap experiment_of known_then ∙ own_number t one p a.first_tells v refl (sym (ap accepted_asking (judges t s one)) ∙ asking);
      };
    }

commute : (t : Table) → Sound t → (one two : Entry) → EntryFits one → EntryFits two → Apart one two → Commute (cells_of t) one two
commute t s one two fits fits' a =
    let v : Answer Event = judged t one in
    let w : Answer Event = judged t two in
    let there = in_order t s one two fits fits' a in
    let back_there = in_order t s two one fits' fits (swap one two a) in
    let swapped : after w (after v t) ≡ after v (after w t) =
    both t a.p a.q a.differ v w (only_to t one a.p a.first_tells) (only_to t two a.q a.second_tells)
    in
    let same : cells_after (cells_after (cells_of t) one) two ≡ cells_after (cells_after (cells_of t) two) one = there.cells ∙ ap cells_of swapped ∙ sym back_there.cells in
    record {
      table = same_table (cells_after (cells_after (cells_of t) one) two) (cells_after (cells_after (cells_of t) two) one) same;
      first = back_there.second;
      second = there.second;
      first_own = λ r. subst (KeepsOwn (cells_of t) (cells_after (cells_after (cells_of t) one) two) one) (a.first_is r) there.own;
      second_own = λ r. subst (KeepsOwn (cells_of t) (cells_after (cells_after (cells_of t) one) two) two) (a.second_is r) (subst (λ (c : List ℕ). KeepsOwn (cells_of t) c two a.q) (sym same) back_there.own);
    }

-- ---- the ports of two messages

-- one that reading refuses tells no port anything, so that any port will do for it
apart : (one two : Entry) → of_port_type one ≡ true → of_port_type two ≡ true → ports_differ one two ≡ true → Apart one two
apart one two k l n = go (which (readable one)) (which (readable two))
  where
    go : (readable one ≡ true) ⊎ (readable one ≡ false) → (readable two ≡ true) ⊎ (readable two ≡ false) → Apart one two
    go (inr unread) second = record {
      p = suc (port_byte two);
      q = port_byte two;
      first_tells = unread_tells one unread (suc (port_byte two));
      second_tells = tells_port two l;
      differ = λ e. omega arith;
      first_is = λ r. never (sym unread ∙ r);
      second_is = λ r. refl;
    }
    go (inl read) (inr unread) = record {
      p = port_byte one;
      q = suc (port_byte one);
      first_tells = tells_port one k;
      second_tells = unread_tells two unread (suc (port_byte one));
      differ = λ e. omega arith;
      first_is = λ r. refl;
      second_is = λ r. never (sym unread ∙ r);
    }
    go (inl read) (inl read') = record {
      p = port_byte one;
      q = port_byte two;
      first_tells = tells_port one k;
      second_tells = tells_port two l;
      differ = eqb-false (port_byte one) (port_byte two) (not_same (eqb (port_byte one) (port_byte two)) (rw (read, read') at n));
      first_is = λ r. refl;
      second_is = λ r. refl;
    }

-- ---- a table that is not sound

module _ (cells : List ℕ) (unsound : sound cells ≡ false) where
  stays : (e : Entry) → cells_after cells e ≡ cells
  unfolding cells_after offer_by_cells
  stays e = rw unsound

  says_nine : (e : Entry) → accepted_asking (offer_by_cells cells e) ≡ false
  unfolding offer_by_cells
  says_nine e = rw unsound

  stays_twice : (e f : Entry) → cells_after (cells_after cells e) f ≡ cells
  stays_twice e f = ap (λ (c : List ℕ). cells_after c f) (stays e) ∙ stays f

  own_unsound : (after : List ℕ) → after ≡ cells → (e : Entry) (port : ℕ) → KeepsOwn cells after e port
  own_unsound after same e port = record {
    facts = ap (λ (c : List ℕ). view_of_cells c port) (same ∙ sym (stays e));
    experiment = λ asking. never (sym (says_nine e) ∙ asking);
  }

  commute_unsound : (one two : Entry) → Commute cells one two
  commute_unsound one two = record {
    table = same_table (cells_after (cells_after cells one) two) (cells_after (cells_after cells two) one) (stays_twice one two ∙ sym (stays_twice two one));
    first = ap (λ (c : List ℕ). offer_by_cells c one) (stays two);
    second = ap (λ (c : List ℕ). offer_by_cells c two) (stays one);
    first_own = λ r. own_unsound (cells_after (cells_after cells one) two) (stays_twice one two) one (port_byte one);
    second_own = λ r. own_unsound (cells_after (cells_after cells one) two) (stays_twice one two) two (port_byte two);
  }

pub ports_commute : PortsCommute
ports_commute cells one two fits fits' k l n =
    ⊎_elim
    (λ (s : sound cells ≡ true).
    subst (λ (c : List ℕ). Commute c one two) (sym (sound_is cells s).0) (commute (table_at cells) (table_sound cells s) one two fits fits' (apart one two k l n)))
    (λ (unsound : sound cells ≡ false). commute_unsound cells unsound one two)
    (which (sound cells))
