use mathlib.Core.Path.{◌≡◌}
use Rattle.std.specs.Slice.Iter.{chunks_rest, chunks_size}
use Rattle.rules.specs.Judge.{all_present, ports_named}
use Rattle.rules.specs.Offer.{view_of_cells}
use Rattle.table.proofs.judge.feedback.Given as goal

abbrev pub invariant-loop-pair : goal.invariant-loop-pair
invariant-loop-pair l = (chunks_size l.pair-iterator ≡ 2) × (all_present (view_of_cells l.table.cells.now) (ports_named l.pairs) ≡ all_present (view_of_cells l.table.cells.now) (ports_named (chunks_rest l.pair-iterator)))
