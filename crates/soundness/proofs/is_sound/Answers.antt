use mathlib.Core.Path.{sym, ◌∙◌, ap}
use lib.ListN.{length}
use Rattle.rules.specs.Cells.{sound}
use Rattle.soundness.proofs.Loops.{stops, goes_on}
use Rattle.soundness.proofs.Sound.{sound_start, sound_next, sound_done, wrong_size}
use Rattle.soundness.proofs.is_sound.Goals as goal

pub returns-in_default : goal.returns-in_default
returns-in_default c = wrong_size c.args.table.now c.in_default.ensures.cases

pub returns-then-not-note_all : goal.returns-then-not-note_all
returns-then-not-note_all c = sym (c.note_all.ensures.wrong c.if-not-note_all.true) ∙ ap sound c.in-Some.ensures.cases.same

pub loop-i-init : goal.loop-i-init
loop-i-init c = sound_start c.in-Some.table.now

pub slice_bounds-is_sound_place-end : goal.slice_bounds-is_sound_place-end
slice_bounds-is_sound_place-end c =
    sym (c.note_all.ensures.right c.if-not-note_all.false).size

pub is_sound_place-requires : goal.is_sound_place-requires
is_sound_place-requires c = (c.note_all.ensures.right c.if-not-note_all.false, c.loop-i-test.true)

pub returns-then-not-is_sound_place : goal.returns-then-not-is_sound_place
returns-then-not-is_sound_place c =
    let loop = c.loop-i in
    let chunk = c.in-Some.ensures.cases in
    stops _ (loop.invariant ∙ sound_next c.in-Some.table.now loop.i (ap length chunk.same ∙ chunk.long) c.loop-i-test.true) (sym c.is_sound_place.ensures ∙ c.if-not-is_sound_place.true)
    ∙ ap sound chunk.same

pub loop-i-preserved : goal.loop-i-preserved
loop-i-preserved c =
    let loop = c.loop-i in
    let chunk = c.in-Some.ensures.cases in
    goes_on (loop.invariant ∙ sound_next c.in-Some.table.now loop.i (ap length chunk.same ∙ chunk.long) c.loop-i-test.true) (sym c.is_sound_place.ensures ∙ c.if-not-is_sound_place.false)

pub returns : goal.returns
returns c =
    let loop = c.loop-i in
    let chunk = c.in-Some.ensures.cases in
    sym (loop.invariant ∙ sound_done c.in-Some.table.now loop.i (ap length chunk.same ∙ chunk.long) c.loop-i-test.false) ∙ ap sound chunk.same
