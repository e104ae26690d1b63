-- Offering a message: what judging says of the table, what changes, and what is answered.
use Prim.Native.Nat.{ℕ, ◌<◌}
use mathlib.Core.Path.{◌≡◌, refl, sym, ◌∙◌, ap}
use mathlib.Core.Bool.{true, false}
use mathlib.Core.List.{List}
use Rattle.protocol.specs.Number.{Bytes}
use Rattle.protocol.specs.Decode as Decode
use Rattle.protocol.specs.Decode.{decode, open_of}
use Rattle.protocol.specs.Answer.{form_of, values_of}
use Rattle.protocol.specs.declared.Message.{Message}
use Rattle.protocol.specs.declared.Way.{Way}
use Rattle.protocol.proofs.Answers.{message_back}
use Rattle.rules.specs.Answer.{Answer, refused, accepted, unless_refused}
use Rattle.rules.specs.Effect.{Event, event, effect_of}
use Rattle.rules.specs.Facts.{known}
use Rattle.rules.specs.declared.Change.{Change}
use Rattle.rules.specs.declared.Effect.{Effect}
use Rattle.rules.specs.declared.Effect.TheVariants as Case
use Rattle.rules.specs.Judge.{judge, pair_test, told_refusal}
use Rattle.rules.specs.OpenBytes.{heard, list_in, opens_in}
use Rattle.rules.specs.Ranges.{change_fits, effect_fits}
use Rattle.rules.specs.Table.{full_table, apply}
use Rattle.rules.specs.Cells.{cells_of, table_at, sound}
use Rattle.rules.specs.Offer.{Entry, judge_reading, judge_entry, ports_of_cells, offer_by_cells, applied_to, cells_after, view_of_cells}
use Rattle.rules.proofs.CellsSound.{sound_is}
use Rattle.rules.proofs.Kept.{fresh_by, virtual_by, wanted}
use Rattle.rules.proofs.OpenBytes.{opens_are}
use Rattle.rules.proofs.Ranges.{effect_fits_lem}
use Rattle.rules.specs.Layout.{experiment_count}
use Rattle.table.specs.Judged.{refusal_by, judged_by}
use borrow.Author.Tests.{lt-ltb}

-- ---- what judging says of the table

module _ (cells s : List ℕ) (e : Effect) (good : refusal_by cells e s ≡ 0) where
  by : (case : Effect) → e ≡ case → refusal_by cells case s ≡ 0
  by case is = sym (ap (λ (x : Effect). refusal_by cells x s) is) ∙ good

  pub tell_ready : (port : ℕ) (c : Change) → e ≡ Case.ToPort port c → told_refusal c (view_of_cells cells port) ≡ 0
  unfolding judge
  tell_ready port c is = by (Case.ToPort port c) is

  pub attach_ready : (port device : ℕ) → e ≡ Case.Attach port device → full_table (table_at cells) ≡ false
  unfolding judge
  attach_ready port device is = (fresh_by (view_of_cells cells port) (full_table (table_at cells)) (by (Case.Attach port device) is)).1

  pub virtual_ready : (port device a b : ℕ) → e ≡ Case.AttachVirtual port device a b → (full_table (table_at cells) ≡ false) × (pair_test (view_of_cells cells) a b ≡ true)
  unfolding judge
  virtual_ready port device a b is =
      let k = virtual_by (view_of_cells cells port) (pair_test (view_of_cells cells) a b) (full_table (table_at cells)) (by (Case.AttachVirtual port device a b) is) in
      (k.2, k.1)

  pub detach_ready : (port : ℕ) → e ≡ Case.Detach port → known (view_of_cells cells port) ≡ true
  unfolding judge
  detach_ready port is = wanted (view_of_cells cells port) (by (Case.Detach port) is)

-- what a port is told is within its lists
pub change_ready : (e : Effect) (s : List ℕ) → effect_fits e (opens_in e s) ≡ true → (port : ℕ) (c : Change) → e ≡ Case.ToPort port c → change_fits c (list_in c s) ≡ true
change_ready e s fits port c is = sym (ap (λ (x : Effect). effect_fits x (opens_in x s)) is) ∙ fits

-- ---- what changes

pub changed_as : (cells out s : List ℕ) (e case : Effect) → e ≡ case → out ≡ cells_of (apply case (opens_in case s) (table_at cells)) → out ≡ cells_of (apply e (opens_in e s) (table_at cells))
changed_as cells out s e case is k = k ∙ sym (ap (λ (x : Effect). cells_of (apply x (opens_in x s) (table_at cells))) is)

-- an effect by which nothing changes
pub record NoChange (e : Effect) : Type 0 where
  pub not_told : (p : ℕ) (c : Change) → e ≡ Case.ToPort p c → ⊥
  pub not_attached : (p d : ℕ) → e ≡ Case.Attach p d → ⊥
  pub not_joined : (p d a b : ℕ) → e ≡ Case.AttachVirtual p d a b → ⊥
  pub not_detached : (p : ℕ) → e ≡ Case.Detach p → ⊥
  pub not_emptied : e ≡ Case.Empty → ⊥

stays : (cells opens : List ℕ) (e : Effect) → NoChange e → apply e opens (table_at cells) ≡ table_at cells
unfolding apply
stays cells opens Case.Nothing t = refl
stays cells opens (Case.ToPort p c) t = absurd (t.not_told p c refl)
stays cells opens (Case.Attach p d) t = absurd (t.not_attached p d refl)
stays cells opens (Case.AttachVirtual p d a b) t = absurd (t.not_joined p d a b refl)
stays cells opens (Case.Detach p) t = absurd (t.not_detached p refl)
stays cells opens (Case.Value p) t = refl
stays cells opens (Case.Disconnect p) t = refl
stays cells opens (Case.Connect a b) t = refl
stays cells opens Case.Empty t = absurd (t.not_emptied refl)
stays cells opens (Case.ToVirtual p) t = refl
stays cells opens Case.Feedback t = refl
stays cells opens (Case.CombinedValue p w) t = refl

pub unchanged : (cells opens : List ℕ) (e : Effect) → sound cells ≡ true → NoChange e → cells ≡ cells_of (apply e opens (table_at cells))
unchanged cells opens e s t = (sound_is cells s).0 ∙ sym (ap cells_of (stays cells opens e t))

-- ---- any message

offer_sound : (cells : List ℕ) (e : Entry) → sound cells ≡ true → offer_by_cells cells e ≡ judge_entry (ports_of_cells cells) e
unfolding offer_by_cells
offer_sound cells e s = rw s

module _ (cells s : List ℕ) (way : Way) (experiment : ℕ) (good : sound cells ≡ true) where
  abbrev entry : Entry
  entry = record { way = way; bytes = s; experiment = experiment }

  pub offered_unread : (n place : ℕ) → decode way s ≡ Decode.refused n place → offer_by_cells cells entry ≡ refused n place
  unfolding judge_entry
  offered_unread n place e = offer_sound cells entry good ∙ ap (judge_reading (ports_of_cells cells) s experiment) e

  pub offered_message : (m : Message) (e : Effect) → decode way s ≡ Decode.accepted (form_of m) (values_of m) → e ≡ effect_of experiment m → offer_by_cells cells entry ≡ judged_by cells e s
  unfolding judge_entry
  offered_message m e read is =
      let ports = ports_of_cells cells in
      let heard_by : Effect → List ℕ → Answer Event = λ x opens. unless_refused (judge ports x opens) (accepted (event x opens)) in
      offer_sound cells entry good
      ∙ ap (judge_reading ports s experiment) read
      ∙ ap (λ (x : Message). heard_by (effect_of experiment x) (heard (effect_of experiment x) (open_of s (Decode.accepted (form_of m) (values_of m))))) (message_back m)
      ∙ ap (heard_by (effect_of experiment m)) (opens_are experiment m s)
      ∙ ap (λ (x : Effect). judged_by cells x s) (sym is)

  pub cells_by : (v : Answer Event) → offer_by_cells cells entry ≡ v → cells_after cells entry ≡ applied_to cells v
  unfolding cells_after
  cells_by v e = ap (applied_to cells) e

-- the fields of an accepted message are within their lists
pub fits_by : (s : List ℕ) (way : Way) (experiment : ℕ) (m : Message) (e : Effect) → Bytes s → experiment < experiment_count → decode way s ≡ Decode.accepted (form_of m) (values_of m) → e ≡ effect_of experiment m → effect_fits e (opens_in e s) ≡ true
fits_by s way experiment m e bytes small read is =
    ap (λ (x : Effect). effect_fits x (opens_in x s)) is
    ∙ sym (ap (effect_fits (effect_of experiment m)) (opens_are experiment m s))
    ∙ sym (ap (λ (x : Message). effect_fits (effect_of experiment x) (heard (effect_of experiment x) (open_of s (Decode.accepted (form_of m) (values_of m))))) (message_back m))
    ∙ effect_fits_lem experiment (lt-ltb experiment experiment_count small) way s bytes (form_of m) (values_of m) read
