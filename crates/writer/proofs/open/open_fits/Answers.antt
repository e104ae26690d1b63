use mathlib.Core.Path.{sym, ap}
use Rattle.protocol.specs.Form.{Rest, layout}
use Rattle.protocol.specs.Answer.{form_of, values_of}
use Rattle.protocol.specs.Encode.{rest_fits, after_fields}
use Rattle.writer.proofs.Rests.{Ended, nothing_follows}
use Rattle.writer.specs.Open.{open_fits}
use Rattle.writer.proofs.open.open_fits.Goals as goal

pub returns-in_default : goal.returns-in_default
unfolding open_fits
returns-in_default c =
    let m = c.args.m in
    let ended : Ended m = record {
      no_text = c.in_default.not-PropertyText;
      no_list = c.in_default.not-PortCombinations;
      no_mode_text = c.in_default.not-ModeText;
      no_value = c.in_default.not-PortValue;
      no_feedback = c.in_default.not-OutputFeedback;
      no_datasets = c.in_default.not-ModeDatasets;
      no_combined = c.in_default.not-PortValueCombined;
    } in
    sym (ap (λ (r : Rest). rest_fits r (after_fields (layout (form_of m)).fields (values_of m)) c.args.count) (nothing_follows m ended))
