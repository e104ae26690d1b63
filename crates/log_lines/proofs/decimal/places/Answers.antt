use native.Mathlib.Omega.{arith}
use Rattle.log_rules.proofs.Decimals.{counted_start, counted_few, counted_more, counted_all}
use Rattle.log_lines.proofs.decimal.places.Goals as goal

pub loop-rest-init : goal.loop-rest-init
loop-rest-init c = counted_start c.args.n

pub overflow_add-k : goal.overflow_add-k
overflow_add-k c = record { fits = omega (arith, counted_few c.ranges.n.fits c.loop-rest.invariant) }

pub loop-rest-smaller : goal.loop-rest-smaller
loop-rest-smaller c = omega (arith, c.loop-rest-test.true)

pub loop-rest-preserved : goal.loop-rest-preserved
loop-rest-preserved c = counted_more c.loop-rest.invariant c.loop-rest-test.true

pub returns : goal.returns
returns c = (counted_all c.loop-rest.invariant c.loop-rest-test.false, c.loop-rest.invariant.some, counted_few c.ranges.n.fits c.loop-rest.invariant)
