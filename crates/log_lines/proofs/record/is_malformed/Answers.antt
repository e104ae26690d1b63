use native.Mathlib.Omega.{arith}
use mathlib.Core.Path.{sym, ◌∙◌, ap}
use mathlib.Core.Bool.{not}
use borrow.Author.Tests.{ne_eqb}
use Rattle.std.proofs.lemmas.Bool.{false≢true}
use Rattle.std.proofs.lemmas.Bool.Decides.{nat_tests}
use Rattle.log_rules.proofs.Records.{wrong_size, wrong_way, wrong_zero, by_end}
use Rattle.log_lines.proofs.record.is_malformed.Goals.{then-s-ne-RECORD_SIZE, else-s-ne-RECORD_SIZE, then-s-gt1, else-s-gt1}
use Rattle.log_lines.proofs.record.is_malformed.Goals as goal

pub returns-then-s-ne0 : goal.returns-then-s-ne0
returns-then-s-ne0 c =
    let s = c.args.s.now in
    c.if-s-ne0.true ∙ elim c.if-s-gt1.branch [
      | then-s-gt1 w ↦ elim c.if-s-ne-RECORD_SIZE.branch [
        | then-s-ne-RECORD_SIZE v ↦ wrong_size 128 s v.if-s-ne-RECORD_SIZE.true
        | else-s-ne-RECORD_SIZE v ↦ wrong_way 128 s v.if-s-ne-RECORD_SIZE.false (grind (arith, nat_tests, v.value-is, w.if-s-gt1.true))
      ]
      | else-s-gt1 w ↦ elim c.if-s-ne-RECORD_SIZE.branch [
        | then-s-ne-RECORD_SIZE v ↦ absurd (false≢true (sym w.if-s-gt1.false ∙ v.value-is ∙ ap not (ne_eqb _ _ v.if-s-ne-RECORD_SIZE.true)))
        | else-s-ne-RECORD_SIZE v ↦ wrong_zero 128 s v.if-s-ne-RECORD_SIZE.false (grind (arith, nat_tests, v.value-is, w.if-s-gt1.false)) (λ e. grind (arith, nat_tests, w.value-is, c.if-s-ne0.true))
      ]
    ]

pub returns-else-s-ne0 : goal.returns-else-s-ne0
returns-else-s-ne0 c =
    let s = c.args.s.now in
    let size = c.message_size in
    ap not c.all_zero.ensures ∙ elim c.if-s-gt1.branch [
      | then-s-gt1 w ↦ absurd (false≢true (sym c.if-s-ne0.false ∙ w.value-is ∙ w.if-s-gt1.true))
      | else-s-gt1 w ↦ elim c.if-s-ne-RECORD_SIZE.branch [
        | then-s-ne-RECORD_SIZE v ↦ absurd (false≢true (sym w.if-s-gt1.false ∙ v.value-is ∙ ap not (ne_eqb _ _ v.if-s-ne-RECORD_SIZE.true)))
        | else-s-ne-RECORD_SIZE v ↦ by_end 128 s size.result v.if-s-ne-RECORD_SIZE.false (grind (arith, nat_tests, v.value-is, w.if-s-gt1.false)) (grind (arith, nat_tests, w.value-is, c.if-s-ne0.false)) size.ensures.0
      ]
    ]
