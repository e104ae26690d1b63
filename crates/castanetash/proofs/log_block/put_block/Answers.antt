use native.Mathlib.Omega.{arith}
use mathlib.Core.Path.{◌≡◌, ◌∙◌, ap}
use Prim.Native.Nat.{◌≤◌}
use lib.ListN.{length}
use Rattle.std.specs.Prelude.{Err}
use Rattle.std.proofs.lemmas.Result.{err_from_is_err_and}
use Rattle.protocol.specs.declared.refusal.Refusal.{Refusal}
use Rattle.answers.specs.Call.{counted}
use Rattle.castanetash.specs.Answers.{text_room}
use Rattle.castanetash.proofs.LogBlocks.{room_is, few_called, refused_called, done_called}
use Rattle.castanetash.proofs.log_block.put_block.Goals as goal

pub returns-then-totals-lt2 : goal.returns-then-totals-lt2
returns-then-totals-lt2 c =
    let a = c.args in
    few_called a.table.now a.totals.now a.log.now a.text.now c.if-totals-lt2.true (counted (Err c.few_totals.result)) c.few_totals.ensures

pub returns-in_err-block : goal.returns-in_err-block
returns-in_err-block c =
    let a = c.args in
    let q = c.min-room in
    let room : q.result ≡ text_room (length a.text.now) = q.ensures ∙ room_is (length a.text.now) in
    let inside : q.result ≤ length a.text.now = omega (arith, q.ensures) in
    let r = c.read_block in
    let exit = err_from_is_err_and c.from_residual.result c.from_residual.ensures.1 in
    let k = refused_called a.table.now a.totals.now a.log.now a.text.now q.result room inside r.result _ _ r.ensures.0 r.ensures.1 r.ensures.2 c.in_err-block.field-0.0 c.in_err-block.was in
    (ap counted (exit.1 ∙ ap (λ (x : Refusal). Err x) exit.2) ∙ k.0, k.1, k.2, k.3)

pub returns : goal.returns
returns c =
    let a = c.args in
    let q = c.min-room in
    let room : q.result ≡ text_room (length a.text.now) = q.ensures ∙ room_is (length a.text.now) in
    let inside : q.result ≤ length a.text.now = omega (arith, q.ensures) in
    let r = c.read_block in
    done_called a.table.now a.totals.now a.log.now a.text.now q.result room inside r.result _ _ r.ensures.0 r.ensures.1 r.ensures.2 c.in_ok-block.block c.in_ok-block.was c.in_ok-block.ensures.3.1 c.if-totals-lt2.false
