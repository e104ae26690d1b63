use Prim.Native.Nat.{ℕ}
use native.Mathlib.Omega.{arith}
use mathlib.Core.Path.{sym, ◌∙◌, ap}
use Rattle.rules.specs.Answer.{outcome}
use Rattle.std.proofs.lemmas.Result.{err_from_is_err_and}
use Rattle.table.proofs.Offers.{offered_message, offered_unread, cells_by, fits_by}
use Rattle.log_lines.proofs.ValueLines.{all_bytes_lem}
use Rattle.table.proofs.offering.offer_sound.Goals as goal

pub offer_effect-requires : goal.offer_effect-requires
offer_effect-requires c =
    let a = c.args in
    (c.requires, fits_by a.message.now a.way a.experiment _ c.effect_of.result (all_bytes_lem a.message.now (λ (k : ℕ). omega (arith, c.type_inv.message k))) (omega arith) (sym c.in_ok-m.ensures) c.effect_of.ensures)

pub returns-in_err-m : goal.returns-in_err-m
returns-in_err-m c =
    let a = c.args in
    let cells = c.args.table.now in
    let k = offered_unread cells a.message.now a.way a.experiment c.requires _ _ (sym c.in_err-m.ensures) in
    let p = err_from_is_err_and c.from_residual.result c.from_residual.ensures.1 in
    rw (p.1, p.2) (sym (ap outcome k), sym (cells_by cells a.message.now a.way a.experiment c.requires _ k))

pub returns : goal.returns
returns c =
    let a = c.args in
    let cells = c.args.table.now in
    let k = offered_message cells a.message.now a.way a.experiment c.requires _ c.effect_of.result (sym c.in_ok-m.ensures) c.effect_of.ensures in
    (c.offer_effect.ensures.0 ∙ sym (ap outcome k), c.offer_effect.ensures.1 ∙ sym (cells_by cells a.message.now a.way a.experiment c.requires _ k))
