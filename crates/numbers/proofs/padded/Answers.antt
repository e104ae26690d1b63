use Rattle.std.proofs.Common.{ℕ, get_or, arith, rules, tests}
use Rattle.std.proofs.lemmas.List.{get_or_read}
use Rattle.numbers.proofs.FromFn.{each}
use Rattle.numbers.proofs.padded.Goals as goal

pub returns : goal.returns
returns g c =
    λ k h.
    each _ _ (λ (i : ℕ). get_or c.args.rest.now i 0) (λ i y q called. (search rules, grind (arith, tests, get_or_read))) c.from_fn.result g.row.N 0 c.from_fn.ensures.items.each k (omega arith) (omega arith)
