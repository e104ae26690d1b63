use Prim.Native.Nat.{ℕ}
use native.Mathlib.Omega.{arith}
use mathlib.Core.Path.{refl, sym, ◌∙◌, ap}
use mathlib.Core.Bool.{Bool, true}
use mathlib.Core.List.{List, []}
use lib.ListN.{length}
use Rattle.log_rules.specs.Output.{total_text}
use Rattle.log_rules.specs.Ending.{ending_in}
use Rattle.protocol.proofs.Overwrite.{overwrite_nothing}
use Rattle.log_rules.proofs.Endings.{in_none, in_whole, ending_written}
use Rattle.log_lines.proofs.totals.put_ending.Goals as goal

pub returns-then-out-lt128 : goal.returns-then-out-lt128
returns-then-out-lt128 c =
    let a = c.args in
    ending_written a.out.now [] (ending_in (length a.out.now) a.totals.lines a.totals.refused a.cut) (sym (in_none (length a.out.now) a.totals.lines a.totals.refused a.cut c.if-out-lt128.true)) refl (omega arith) (sym (overwrite_nothing a.out.now 0))

pub returns-then-cut : goal.returns-then-cut
returns-then-cut c =
    let a = c.args in
    let ending : Bool → List ℕ = ending_in (length a.out.now) a.totals.lines a.totals.refused in
    let e = c.put_cut.ensures in
    ending_written a.out.now (ending true) (ending a.cut) (ap ending (sym c.if-cut.true)) e.0 (omega (arith, e.1, c.if-out-lt128.false)) e.2

pub returns-else-cut : goal.returns-else-cut
returns-else-cut c =
    let a = c.args in
    let ending : Bool → List ℕ = ending_in (length a.out.now) a.totals.lines a.totals.refused in
    let e = c.put_total.ensures in
    let room = c.if-out-lt128.false in
    ending_written a.out.now (total_text a.totals.lines a.totals.refused) (ending a.cut) (sym (in_whole (length a.out.now) a.totals.lines a.totals.refused room) ∙ ap ending (sym c.if-cut.false)) e.0 (omega (arith, e.1, room)) e.2
