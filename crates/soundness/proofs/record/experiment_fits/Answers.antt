use borrow.Author.Tests.{eq-eqb, ne_eqb}
use Rattle.soundness.proofs.FactsFit.{experiment_by}
use Rattle.soundness.proofs.record.experiment_fits.Goals as goal

pub returns-then-place-eq0 : goal.returns-then-place-eq0
returns-then-place-eq0 c = experiment_by c.args.place.now (eq-eqb _ _ c.if-place-eq0.true)

pub returns : goal.returns
returns c = experiment_by c.args.place.now (ne_eqb _ _ c.if-place-eq0.false)
