-- The bits of the finite f32: those below the infinity's, the sign's bit left out.
use Rattle.std.proofs.Common.{◌≡◌, ℕ, ◌∙◌, ◌<◌, ◌/◌, ◌%◌, nat_eq, nat_lt, arith}
use Rattle.std.proofs.lemmas.Bool.Decides.{nat_tests}
use mathlib.Core.Path.{sym}
use mathlib.Core.Bool.{not}
use lib.Ieee.{binary32, of_bits}
use Rattle.protocol.specs.Number.{is_finite}
use Rattle.protocol.proofs.Floats.{finite_bits}

below : (m : ℕ) → m < 2147483648 → nat_lt m 2139095040 ≡ not (nat_eq (m / 8388608) 255)
below m h = grind (arith, nat_tests)

pub finite_below : (n : ℕ) → nat_lt (n % 2147483648) 2139095040 ≡ is_finite (of_bits binary32 n)
finite_below n = below (n % 2147483648) (omega arith) ∙ sym (finite_bits n)
