use Rattle.std.proofs.Common.{ℕ, ◌∙◌, ap}
use lib.Ieee.{binary32, of_bits}
use Rattle.protocol.specs.Number.{is_finite}
use Rattle.numbers.proofs.Floats.{finite_below}
use Rattle.numbers.proofs.finite_at.Goals as goal

pub returns : goal.returns
returns c = finite_below c.u32_at.result ∙ ap (λ (n : ℕ). is_finite (of_bits binary32 n)) c.u32_at.ensures
