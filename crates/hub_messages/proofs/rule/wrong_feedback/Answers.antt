use Rattle.std.proofs.Common.{◌<◌, ◌≤◌, ◌*◌, ◌+◌, ℕ, arith, rules, tests}
use Rattle.std.proofs.lemmas.Iterator.{first_from_Range}
use Rattle.std.proofs.lemmas.List.{get_or_read}
use lib.ListN.{get_or}
use Rattle.hub_messages.proofs.Pairs.{none_found, first_found}
use Rattle.hub_messages.proofs.rule.wrong_feedback.Goals as goal

pub returns-in_err-pair-clause-first : goal.returns-in_err-pair-clause-first
returns-in_err-pair-clause-first c =
    let run = c.args.pairs.now in
    let none = none_found run c.find.result
    (first_from_Range _ _ _ _ (λ (k : ℕ). 31 < get_or run (2 * k + 1) 0) (λ (k : ℕ). get_or run (2 * k + 1) 0 ≤ 31) c.find.ensures.ran
    (λ x q k. grind (arith, tests, get_or_read))
    (λ x q k. (search rules, grind (arith, tests, get_or_read))))
    c.in_err-pair.was in
    rw c.from_residual.ensures none

pub returns-clause-first : goal.returns-clause-first
returns-clause-first c =
    let run = c.args.pairs.now in
    first_found run c.find.result
    (first_from_Range _ _ _ _ (λ (k : ℕ). 31 < get_or run (2 * k + 1) 0) (λ (k : ℕ). get_or run (2 * k + 1) 0 ≤ 31) c.find.ensures.ran
    (λ x q k. grind (arith, tests, get_or_read))
    (λ x q k. (search rules, grind (arith, tests, get_or_read))))
    c.in_ok-pair.pair c.in_ok-pair.was
