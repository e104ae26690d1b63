use Prim.Native.Nat.{◌+◌}
use mathlib.Core.List.{[], ◌∷◌}
use lib.ListN.{length}
use Rattle.log_rules.specs.Line as Line
use Rattle.log_rules.specs.Output.{numbered, total_text}
use Rattle.log_rules.proofs.Endings.{in_most_lines, in_most_refused, in_cut, none_written, cut_written}
use Rattle.log_lines.proofs.totals.put_cut.Goals.{then-totals-eq-MOST_COUNT-via-then-totals-eq-MOST_COUNT, then-totals-eq-MOST_COUNT-via-else-totals-eq-MOST_COUNT+then-totals-eq-MOST_COUNT-2}
use Rattle.log_lines.proofs.totals.put_cut.Goals as goal

pub returns-then-totals-eq-MOST_COUNT : goal.returns-then-totals-eq-MOST_COUNT
returns-then-totals-eq-MOST_COUNT c =
    let a = c.args in
    let room = length a.out.now in
    none_written a.out.now (elim c.then-totals-eq-MOST_COUNT.branch [
      | then-totals-eq-MOST_COUNT-via-then-totals-eq-MOST_COUNT w ↦ in_most_lines room a.totals.lines a.totals.refused c.requires w.if-totals-eq-MOST_COUNT.true
      | then-totals-eq-MOST_COUNT-via-else-totals-eq-MOST_COUNT+then-totals-eq-MOST_COUNT-2 w ↦ in_most_refused room a.totals.lines a.totals.refused c.requires w.if-totals-eq-MOST_COUNT.false w.if-totals-eq-MOST_COUNT-2.true
    ])

pub returns : goal.returns
returns c =
    let a = c.args in
    let t = a.totals in
    let last = c.put_last-n in
    let total = c.put_total in
    cut_written a.out.now (numbered t.lines (Line.refused 19 ∷ [])) (total_text (t.lines + 1) (t.refused + 1)) last.result total.result last.new.out total.new.out
    (in_cut (length a.out.now) t.lines t.refused c.requires c.if-totals-eq-MOST_COUNT.false c.if-totals-eq-MOST_COUNT-2.false) c.requires last.ensures total.ensures
