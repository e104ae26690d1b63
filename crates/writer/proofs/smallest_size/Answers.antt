use Prim.Native.Nat.{ℕ, ◌+◌}
use native.Mathlib.Omega.{arith}
use mathlib.Core.List.{List, []}
use Rattle.protocol.specs.Field.{Value}
use Rattle.slots.specs.Slot.{word_fields}
use native.Mathlib.Nat.{add-zero}
use mathlib.Core.Path.{◌≡◌, refl, sym, ◌∙◌, ap}
use Rattle.protocol.specs.Form.{nothing, layout, least_rest}
use Rattle.protocol.specs.Answer.{form_of}
use Rattle.protocol.specs.Decode.{smallest_size}
use Rattle.protocol.specs.declared.Message.{Message}
use Rattle.writer.specs.Slots.{type_place}
use Rattle.writer.proofs.Rests.{Ended, nothing_follows}
use Rattle.writer.proofs.Sizes.{smallest_is, smallest_of}
use Rattle.writer.proofs.smallest_size.Goals as goal

pub returns-in-PropertyText : goal.returns-in-PropertyText
unfolding layout
returns-in-PropertyText c =
    let m = c.args.m in
    let none : (vs : List Value) → word_fields (layout (form_of m)).rest vs ≡ [] = λ vs. grind arith in
    let one : least_rest (layout (form_of m)).rest ≡ 1 = grind arith in
    ap (λ (n : ℕ). type_place + c.widths.result + n) (sym one) ∙ smallest_is m c.args.slots c.requires c.widths.result c.widths.ensures.0 (layout (form_of m)).rest refl none

pub returns-in-PortCombinations : goal.returns-in-PortCombinations
unfolding layout
returns-in-PortCombinations c = sym (ap (λ (m : Message). smallest_size (form_of m)) c.in-PortCombinations.is)

pub returns-in-OutputFeedback : goal.returns-in-OutputFeedback
unfolding layout
returns-in-OutputFeedback c = smallest_of c.in-OutputFeedback.is c.requires c.widths.ensures.0 (λ vs. refl)

pub returns-in_default : goal.returns-in_default
returns-in_default c =
    let widths = c.widths in
    let ended : Ended c.args.m = record {
      no_text = c.in_default.not-PropertyText;
      no_list = c.in_default.not-PortCombinations;
      no_mode_text = c.in_default.not-ModeText;
      no_value = c.in_default.not-PortValue;
      no_feedback = c.in_default.not-OutputFeedback;
      no_datasets = c.in_default.not-ModeDatasets;
      no_combined = c.in_default.not-PortValueCombined;
    } in
    sym (add-zero (type_place + widths.result))
    ∙ smallest_is c.args.m c.args.slots c.requires widths.result widths.ensures.0 nothing
    (nothing_follows c.args.m ended) (λ vs. refl)
