use native.Mathlib.Omega.{arith}
use Rattle.soundness.proofs.row.place_in.Goals as goal

pub overflow_cast-result-2 : goal.overflow_cast-result-2
overflow_cast-result-2 c = omega (arith, c.type_inv.row c.args.port)
