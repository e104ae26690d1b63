use mathlib.Core.Path.{sym, ◌∙◌, ap}
use mathlib.Core.Bool.{not}
use native.Mathlib.Omega.{arith}
use lib.Ieee.{binary32}
use lib.Ieee.Bits.{to_bits-lt}
use Rattle.protocol.proofs.Bits.{self_equal, unequal_nan}
use Rattle.message_rows.proofs.float.Goals as goal

pub overflow_cast-result : goal.overflow_cast-result
overflow_cast-result c = record { fits = omega (arith, to_bits-lt binary32 c.args.x (rw c.well_formed.0.1 tt)) }

pub returns-then-is_nan : goal.returns-then-is_nan
returns-then-is_nan c =
    let x = c.args.x in
    sym (unequal_nan x (self_equal x ∙ ap not (sym c.is_nan.ensures.value ∙ c.if-is_nan.true)))
