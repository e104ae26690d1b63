use Rattle.logread.specs.Reading.{run_at}
use Rattle.logread.proofs.Reached.{After}
use Rattle.logread.proofs.reading.LogReader.print_log.Given as goal

-- the run after some pieces
abbrev pub invariant-loop : goal.invariant-loop
invariant-loop g l = After (run_at l.self)
