use native.Mathlib.Omega.{arith}
use mathlib.Core.Path.{◌∙◌}
use lib.ListN.{length-set}
use Rattle.log_rules.proofs.Spelling.{spelled_start, spelled_left, spelled_length, spelled_room, spelled_more, spelled_all}
use Rattle.log_lines.proofs.decimal.spell.Goals as goal

pub loop-rest-init : goal.loop-rest-init
loop-rest-init c = spelled_start c.args.out.now c.args.at c.args.k c.args.n c.requires.0 c.requires.1

pub overflow_sub-i : goal.overflow_sub-i
overflow_sub-i c = spelled_left c.loop-rest.invariant

pub overflow_add-out-in-loop-rest : goal.overflow_add-out-in-loop-rest
overflow_add-out-in-loop-rest c = record { fits = omega (arith, spelled_room c.loop-rest.invariant, spelled_length c.loop-rest.invariant) }

pub bounds-out-at : goal.bounds-out-at
bounds-out-at c = omega (arith, spelled_left c.loop-rest.invariant, spelled_room c.loop-rest.invariant)

pub loop-rest-smaller : goal.loop-rest-smaller
loop-rest-smaller c = omega (arith, c.loop-rest-test.true)

pub loop-rest-preserved : goal.loop-rest-preserved
loop-rest-preserved c = spelled_more c.loop-rest.invariant c.loop-rest-test.true

pub overflow_cast-out-2 : goal.overflow_cast-out-2
overflow_cast-out-2 c = record { fits = omega (arith, c.loop-rest-test.false) }

pub overflow_add-out-2 : goal.overflow_add-out-2
overflow_add-out-2 c = record { fits = omega (arith, c.loop-rest-test.false) }

pub bounds-out-at-2 : goal.bounds-out-at-2
bounds-out-at-2 c = omega (arith, spelled_left c.loop-rest.invariant, spelled_room c.loop-rest.invariant)

pub shape_of-out : goal.shape_of-out
shape_of-out c = length-set c.loop-rest.out c.args.at _ ∙ spelled_length c.loop-rest.invariant

pub returns : goal.returns
returns c = spelled_all c.loop-rest.invariant c.loop-rest-test.false
