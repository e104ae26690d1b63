-- Offering a message to the cells of a sound table.
use Prim.Native.Nat.{ℕ}
use mathlib.Core.Path.{◌≡◌, refl, sym, ◌∙◌, ap}
use mathlib.Core.Bool.{true, false}
use mathlib.Core.List.{List, [], ◌∷◌}
use mathlib.Core.Option.{none, some}
use mathlib.Core.Logic.{⊎_elim}
use native.Mathlib.Omega.{arith}
use borrow.Author.Tests.{eqb-true, eq-eqb}
use lib.Dec.{eqb}
use Rattle.protocol.proofs.Tests.{which}
use Rattle.protocol.specs.Field.{Value}
use Rattle.protocol.specs.Form.{Form}
use Rattle.protocol.specs.Decode.{decode, open_of}
use Rattle.protocol.specs.Decode as Decode
use Rattle.protocol.specs.Answer.{message_of}
use Rattle.rules.specs.Answer.{Answer, refused, accepted, unless_refused}
use Rattle.rules.specs.Effect.{Event, event, Effect, effect_of}
use Rattle.rules.specs.Facts.{Facts, Ports}
use Rattle.rules.specs.Judge.{judge}
use Rattle.rules.specs.OpenBytes.{heard}
use Rattle.rules.specs.Ranges.{effect_fits}
use Rattle.rules.specs.Table.{Table, view_of_table, ports_of_table, apply}
use Rattle.rules.specs.Cells.{cells_of, table_at, sound}
use Rattle.rules.specs.Demand3.{EntryFits}
use Rattle.rules.specs.Offer.{Entry, judge_reading, judge_entry, offer_by_cells, applied_to, cells_after}
use Rattle.rules.proofs.Sound.{Distinct, Sound, found_later, sound_formed}
use Rattle.rules.proofs.CellsTable.{NoHighFormats, table_back}
use Rattle.rules.proofs.CellsSound.{sound_cells}
use Rattle.rules.proofs.Ranges.{effect_fits_lem}
use Rattle.rules.proofs.Kept.{keeps}

-- ---- a message that was accepted

pub record Accepted (ports : Ports) (e : Entry) (x : Effect) (opens : List ℕ) : Type 0 where
  pub form : Form
  pub values : List Value
  pub read : decode e.way e.bytes ≡ Decode.accepted form values
  pub is : x ≡ effect_of e.experiment (message_of form values)
  pub hears : opens ≡ heard (effect_of e.experiment (message_of form values)) (open_of e.bytes (Decode.accepted form values))
  pub good : judge ports x opens ≡ 0

never : {A : Type 0} (n place : ℕ) (y : A) → refused n place ≡ accepted y → ⊥
never n place y e = let z : ◌≡◌ {A = ℕ} 0 1 = cc in omega arith

same : {A : Type 0} (x y : A) → accepted x ≡ accepted y → x ≡ y
same x y e = cc

-- the test passed, and this is the answer
unless_accepted : {A : Type 0} (n : ℕ) (a : Answer A) (y : A) → unless_refused n a ≡ accepted y → (n ≡ 0) × (a ≡ accepted y)
unless_accepted n a y e =
    ⊎_elim
    (λ (k : eqb n 0 ≡ true). (eqb-true n 0 k, rw k at e))
    (λ (k : eqb n 0 ≡ false). absurd (never _ _ y (rw k at e)))
    (which (eqb n 0))

abbrev effect_in : Event → Effect
effect_in (event x opens) = x

abbrev opens_of : Event → List ℕ
opens_of (event x opens) = opens

pub was_accepted : (ports : Ports) (e : Entry) (x : Effect) (opens : List ℕ) → judge_entry ports e ≡ accepted (event x opens) → Accepted ports e x opens
unfolding judge_entry
was_accepted ports e x opens k = go (decode e.way e.bytes) refl k
  where
    go : (a : Decode.Answer) → decode e.way e.bytes ≡ a → judge_reading ports e.bytes e.experiment a ≡ accepted (event x opens) → Accepted ports e x opens
    go (Decode.refused n place) r j = let z : ◌≡◌ {A = ℕ} 0 1 = cc in absurd (omega arith)
    go (Decode.accepted f vs) r j =
        let y : Effect = effect_of e.experiment (message_of f vs) in
        let o : List ℕ = heard y (open_of e.bytes (Decode.accepted f vs)) in
        let v = unless_accepted (judge ports y o) (accepted (event y o)) (event x opens) j in
        let both : event x opens ≡ event y o = sym (same (event y o) (event x opens) v.1) in
        record { form = f; values = vs; read = r; is = ap effect_in both; hears = ap opens_of both; good = ap (λ (z : Event). judge ports (effect_in z) (opens_of z)) both ∙ v.0 }

-- ---- the cells of a sound table

no_high : (t u : Table) → Sound t → Distinct u → ((p : ℕ) (f : Facts) → view_of_table u p ≡ some f → view_of_table t p ≡ some f) → NoHighFormats u
no_high t [] s d found = tt
no_high t (none ∷ u) s d found = no_high t u s d found
no_high t (some r ∷ u) s d found =
    let here : view_of_table t r.port ≡ some r.facts = found r.port r.facts (rw (eq-eqb r.port r.port refl)) in
    ((s.loose.fit r.port r.facts here).settings.high, no_high t u s d.1 (λ p f e. found p f (found_later r u d.0 p f e)))

module _ (t : Table) (s : Sound t) where
  high : NoHighFormats t
  high = no_high t t s s.loose.distinct (λ p f e. e)

  pub back : table_at (cells_of t) ≡ t
  back = table_back t s.loose.size high (sound_formed t s)

  pub is_sound : sound (cells_of t) ≡ true
  is_sound = sound_cells t s.loose.size high (sound_formed t s)

  pub judges : (e : Entry) → offer_by_cells (cells_of t) e ≡ judge_entry (ports_of_table t) e
  unfolding offer_by_cells
  judges e = rw (is_sound, back)

  pub kept : (e : Entry) → EntryFits e → (x : Effect) (opens : List ℕ) → judge_entry (ports_of_table t) e ≡ accepted (event x opens) → Sound (apply x opens t)
  kept e b x opens k =
      let a = was_accepted (ports_of_table t) e x opens k in
      keeps x t opens s
      ((λ i. effect_fits (a.is i) (a.hears i)) ∙ effect_fits_lem e.experiment b.1 e.way e.bytes b.0 a.form a.values a.read)
      a.good

-- ---- and what it then is

abbrev pub judged : Table → Entry → Answer Event
judged t e = judge_entry (ports_of_table t) e

abbrev pub after : Answer Event → Table → Table
after (refused n place) t = t
after (accepted (event x o)) t = apply x o t

module _ (t : Table) (s : Sound t) (e : Entry) where
  pub cells_after_lem : cells_after (cells_of t) e ≡ cells_of (after (judged t e) t)
  unfolding cells_after
  cells_after_lem = ap (applied_to (cells_of t)) (judges t s e) ∙ go (judged t e)
    where
      go : (v : Answer Event) → applied_to (cells_of t) v ≡ cells_of (after v t)
      go (refused n place) = refl
      go (accepted (event x o)) = ap (λ (u : Table). cells_of (apply x o u)) (back t s)

  pub sound_after : EntryFits e → Sound (after (judged t e) t)
  sound_after b = go (judged t e) refl
    where
      go : (v : Answer Event) → judged t e ≡ v → Sound (after v t)
      go (refused n place) k = s
      go (accepted (event x o)) k = kept t s e b x o k
