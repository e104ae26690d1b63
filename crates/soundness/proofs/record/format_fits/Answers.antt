use native.Mathlib.Omega.{arith}
use Rattle.soundness.proofs.FactsFit.{format_fits_lem}
use Rattle.soundness.proofs.record.format_fits.Goals as goal

pub returns : goal.returns
returns c = format_fits_lem c.args.format c.saturating_sub-less.result c.saturating_sub-less.ensures (omega arith)
