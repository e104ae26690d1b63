use native.Mathlib.Omega.{arith}
use borrow.Author.Rules.{rules}
use mathlib.Core.Path.{◌≡◌, refl}
use Rattle.std.specs.Prelude.{IsOk, IfErr, ◌↔◌}
use Rattle.protocol.specs.Form.{layout, feedback_pairs, mode_dataset_list}
use Rattle.protocol.specs.declared.refusal.Refusal.TheVariants.{OutsideList}
use Rattle.writer.proofs.Rests.{never_outside, few_before, first_wrong}
use Rattle.writer.specs.Open.{place_of, open_outside}
use Rattle.writer.proofs.open.open_listed.Goals as goal

pub none_wrong-requires : goal.none_wrong-requires
unfolding layout
none_wrong-requires c =
    let a = c.args in
    record {
      after_type = omega arith;
      small = omega arith;
      near = few_before a.m _ c.in-OutputFeedback.is a.«open».now 2 124 feedback_pairs refl c.wrong_feedback.result c.wrong_feedback.ensures.inside c.requires (omega arith);
    }

pub returns-in-OutputFeedback : goal.returns-in-OutputFeedback
unfolding layout
returns-in-OutputFeedback c =
    let a = c.args in
    let e : place_of 3 c.wrong_feedback.result ≡ open_outside a.m a.«open».now = first_wrong a.m _ c.in-OutputFeedback.is a.«open».now 2 124 feedback_pairs refl 3 _ c.wrong_feedback.result refl refl c.wrong_feedback.ensures.first in
    let at = c.none_wrong in
    let ok : IsOk at.result ↔ (place_of 3 c.wrong_feedback.result ≡ 0) = at.ensures.ok in
    let err : IfErr at.result (λ r. r ≡ OutsideList (place_of 3 c.wrong_feedback.result)) = at.ensures.err in
    record { ok = rw e at ok; err = rw e at err }

pub none_wrong-requires-in-ModeDatasets : goal.none_wrong-requires-in-ModeDatasets
unfolding layout
none_wrong-requires-in-ModeDatasets c =
    let a = c.args in
    record {
      after_type = omega arith;
      small = omega arith;
      near = few_before a.m _ c.in-ModeDatasets.is a.«open».now 1 16 mode_dataset_list refl c.repeated_entry.result c.repeated_entry.ensures.inside c.requires (omega arith);
    }

pub returns-in-ModeDatasets : goal.returns-in-ModeDatasets
unfolding layout
returns-in-ModeDatasets c =
    let a = c.args in
    let e : place_of 6 c.repeated_entry.result ≡ open_outside a.m a.«open».now = first_wrong a.m _ c.in-ModeDatasets.is a.«open».now 1 16 mode_dataset_list refl 6 _ c.repeated_entry.result refl refl c.repeated_entry.ensures.first in
    let at = c.none_wrong-in-ModeDatasets in
    let ok : IsOk at.result ↔ (place_of 6 c.repeated_entry.result ≡ 0) = at.ensures.ok in
    let err : IfErr at.result (λ r. r ≡ OutsideList (place_of 6 c.repeated_entry.result)) = at.ensures.err in
    record { ok = rw e at ok; err = rw e at err }

pub returns-in_default : goal.returns-in_default
returns-in_default c =
    let a = c.args in
    let e : open_outside a.m a.«open».now ≡ 0 = never_outside a.m a.«open».now c.in_default.not-OutputFeedback c.in_default.not-ModeDatasets in
    rw e (search rules)
