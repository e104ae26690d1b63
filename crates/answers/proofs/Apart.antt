-- The number of a call tells acceptances and refusals apart.
use native.Mathlib.Omega.{arith}
use Rattle.answers.specs.Call.{CallsApart}

pub calls_apart : CallsApart
calls_apart = (λ count n place few some e. omega (arith, few, some, e), λ n place m other small few e. (omega (arith, small, few, e), omega (arith, small, few, e)))
