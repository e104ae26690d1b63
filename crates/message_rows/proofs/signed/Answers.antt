use mathlib.Core.Path.{◌≡◌, ◌∙◌, ap}
use native.Mathlib.Omega.{arith}
use mir.Syntax.{w32, w64}
use mir.Facts.{to_z-of_z}
use mir.Val.{of_z, to_z}
use Rattle.protocol.proofs.Unsigned.{wider}
use Rattle.message_rows.proofs.Cases.{number_is}
use Rattle.message_rows.proofs.signed.Goals as goal

pub returns : goal.returns
returns c =
    let from : c.from.result ≡ c.args.v = c.from.ensures ∙ to_z-of_z c.ranges.v in
    let same : to_z w64 (of_z w64 c.from.result) ≡ c.args.v = rw from (to_z-of_z (wider w32 w64 (omega arith) c.args.v c.ranges.v)) in
    c.cast_unsigned.ensures ∙ ap (of_z w64) same ∙ number_is c.args.v
