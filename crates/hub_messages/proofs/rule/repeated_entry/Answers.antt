use Rattle.std.proofs.Common.{◌≡◌, ℕ, true, false, arith, rules, tests}
use Rattle.std.proofs.lemmas.Iterator.{first_from_Range}
use Rattle.std.proofs.lemmas.List.{get_or_read}
use Rattle.protocol.specs.Form.{first_time}
use Rattle.hub_messages.proofs.Runs.{one_of_any, found}
use Rattle.hub_messages.proofs.rule.repeated_entry.Goals as goal

pub returns : goal.returns
unfolding first_time
returns c =
    let run = c.args.entries.now in
    let f = found first_time run c.find.result
    (first_from_Range _ _ _ _ (λ (i : ℕ). first_time run i ≡ false) (λ (i : ℕ). first_time run i ≡ true) c.find.ensures.ran
    (λ x q k. grind (arith, tests, get_or_read, one_of_any))
    (λ x q k. (search rules, grind (arith, tests, get_or_read, one_of_any)))) in
    record { first = f.first; inside = f.inside }
