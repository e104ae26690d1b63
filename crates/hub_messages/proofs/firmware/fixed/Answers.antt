use Rattle.std.proofs.Common.{Some, None, ◌≡◌, ℕ, ◌+◌, get_or, arith, rules, tests}
use Rattle.std.proofs.lemmas.Iterator.{first_from_Range}
use Rattle.std.proofs.lemmas.List.{get_or_read}
use Rattle.hub_messages.proofs.FixedText.{compared}
use Rattle.hub_messages.proofs.firmware.fixed.Goals as goal

pub returns-in-Some : goal.returns-in-Some
returns-in-Some c =
    let a = c.args in
    compared a.s.now a.text.now a.at (Some c.in-Some.i) (first_from_Range _ _ _ (Some c.in-Some.i) (λ (i : ℕ). get_or a.s.now (a.at + i) 0 ≡ get_or a.text.now i 0 → ⊥) (λ (i : ℕ). get_or a.s.now (a.at + i) 0 ≡ get_or a.text.now i 0) c.in-Some.ensures.ran
    (λ x q k. grind (arith, tests, get_or_read))
    (λ x q k. (search rules, grind (arith, tests, get_or_read))))

pub returns-in-None : goal.returns-in-None
returns-in-None c =
    let a = c.args in
    compared a.s.now a.text.now a.at None (first_from_Range _ _ _ None (λ (i : ℕ). get_or a.s.now (a.at + i) 0 ≡ get_or a.text.now i 0 → ⊥) (λ (i : ℕ). get_or a.s.now (a.at + i) 0 ≡ get_or a.text.now i 0) c.in-None.ensures.ran
    (λ x q k. grind (arith, tests, get_or_read))
    (λ x q k. (search rules, grind (arith, tests, get_or_read))))
