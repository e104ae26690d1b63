use lib.ListN.{length}
use Rattle.logread.specs.Reading.{run_with}
use Rattle.logread.proofs.Records.{Passed}
use Rattle.logread.proofs.reading.Printer.print_records.Given as goal

-- some records were worked through
abbrev pub invariant-loop-rest : goal.invariant-loop-rest
invariant-loop-rest g l = Passed (run_with l.initial.self l.input) l.self l.rest

abbrev pub decreases-loop-rest : goal.decreases-loop-rest
decreases-loop-rest g l = length l.rest
