use lib.ListN.{length}
use Rattle.std.proofs.Common.{rules, ◌≡◌}
use Rattle.std.specs.Prelude.{Ok}
use Rattle.std.proofs.lemmas.Result.{IfOk-at_ok}
use Rattle.logread.specs.Reading.{Went, run_at}
use Rattle.logread.proofs.Endings.{end_printable}
use Rattle.logread.proofs.Reached.{After, after_step}
use Rattle.logread.proofs.reading.LogReader.print_log.Goals as goal
use Rattle.logread.proofs.reading.LogReader.print_log.Goals.{else-loop-test, then-loop-test+in_ok-came+then-not-came}

pub loop-preserved : goal.loop-preserved
loop-preserved g c =
    let next = run_at c.step.new.self in
    let is : c.step.result ≡ Ok c.in_ok-came.came = search rules in
    after_step {next = next} c.in_ok-came.came c.loop.invariant (IfOk-at_ok (Went (run_at c.loop.self) next) is c.step.ensures)

pub print-requires : goal.print-requires
print-requires g c =
    let r = c.loop-test.self in
    let after : After (run_at r) = elim c.loop-test.branch [
      | else-loop-test w ↦ rw w.self-is c.loop.invariant
      | then-loop-test+in_ok-came+then-not-came w ↦
          let next = run_at w.step.new.self in
          let is : w.step.result ≡ Ok w.in_ok-came.came = search rules in
          rw w.self-is (after_step {next = next} w.in_ok-came.came c.loop.invariant (IfOk-at_ok (Went (run_at c.loop.self) next) is w.step.ensures))
    ] in
    end_printable r (length r.printer.out) after c.put_end-size.ensures.1
