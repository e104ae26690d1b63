use mathlib.Core.Path.{◌∙◌}
use native.Mathlib.Omega.{arith}
use Rattle.std.proofs.lemmas.Bool.Decides.{nat_tests}
use Rattle.selectors.proofs.Choices.{up_alone, down_alone}
use Rattle.selectors.proofs.choose.Goals as goal

pub returns-in_default : goal.returns-in_default
returns-in_default c =
    let a = c.args in
    c.goes-in_default.ensures ∙ down_alone a.form a.way a.a a.b a.c (grind (arith, nat_tests))

pub returns-in-14 : goal.returns-in-14
returns-in-14 c =
    let a = c.args in
    c.goes-in-14.ensures ∙ up_alone a.form a.way a.a a.b a.c (grind (arith, nat_tests))
