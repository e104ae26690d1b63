-- What follows from a judgement that is known.
use Prim.Native.Nat.{ℕ, ◌+◌}
use mathlib.Core.Path.{◌≡◌, refl, sym, ◌∙◌, ap, subst}
use mathlib.Core.List.{List}
use lib.ListN.{length}
use Rattle.protocol.proofs.RoundTrip.{written_short}
use Rattle.protocol.specs.Answer.{form_of, values_of}
use Rattle.protocol.specs.Encode.{encode, encode_form, refused}
use Rattle.protocol.specs.declared.Message.{Message}
use Rattle.protocol.specs.declared.Way.{Way}
use Rattle.selectors.specs.Choice.{Choice}
use Rattle.slots.specs.Slot.{Slotted}
use Rattle.slots.specs.declared.Slot.{Slot}
use Rattle.writer.proofs.Encoding.{all_inside}
use Rattle.writer.proofs.Whole.{size_is}
use Rattle.writer.specs.Judged.{Good, Judged}
use Rattle.writer.specs.Open.{open_fits, open_outside}
use Rattle.writer.specs.Slots.{first_outside, slots_bytes, type_place}
use Rattle.writer.specs.Writing.{written, answered}
use mathlib.Core.Bool.{true, false}
use Rattle.std.specs.Prelude.{◌↔◌, IsOk, IfErr, Ok, Err}
use Rattle.protocol.specs.declared.refusal.Refusal.TheVariants.{OutsideList}

pub never : false ≡ true → ⊥
never e = cc

module _ (way : Way) (m : Message) (opens : List ℕ) (slots : List Slot) where
  -- no refusal came
  pub all_good : Slotted m slots → encode way m opens ≡ encode_form (form_of m) (values_of m) opens → open_fits m (length opens) ≡ true → first_outside type_place slots ≡ 0 → open_outside m opens ≡ 0 → Good way m opens slots
  all_good x own right none known =
      let e = all_inside m opens slots x right none known in
      record { inside = none; short = written_short m opens _ e; bytes = own ∙ e }

  pub known : (r c : Choice) → Judged way m opens slots r → r ≡ c → Judged way m opens slots c
  known r c x e = subst (Judged way m opens slots) e x

  -- what is left is a refusal 7 at a place, where that is not 0
  pub judged_by : (place : ℕ) (r : Choice) → IsOk r ↔ (place ≡ 0) → IfErr r (λ e. e ≡ OutsideList place)
      → (place ≡ 0 → Good way m opens slots) → ((place ≡ 0 → ⊥) → encode way m opens ≡ refused 7 place) → Judged way m opens slots r
  judged_by place (Ok t) ok err good bad = good (ok.0 refl)
  judged_by place (Err e) ok err good bad = rw err (bad (λ z. never (ok.1 z)))

  -- the length of a message that is good
  pub length_is : Good way m opens slots → (w : ℕ) → w ≡ length (slots_bytes slots) → written (type_place + w + length opens) ≡ answered (encode way m opens)
  length_is g w is = ap written (size_is slots opens w is) ∙ sym (ap answered g.bytes)
