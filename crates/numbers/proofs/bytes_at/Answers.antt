use Rattle.std.proofs.Common.{◌≡◌, ℕ, ◌∙◌, ap, List, get_or, drop, arith}
use Rattle.std.proofs.lemmas.Grind.{common_steps}
use Rattle.std.proofs.lemmas.List.{get_or-drop}
use Rattle.numbers.proofs.bytes_at.Goals as goal

pub returns-in-None : goal.returns-in-None
returns-in-None g c =
    let a = c.args in
    let rest = c.unwrap_or-rest.result.now in
    let part : rest ≡ drop a.at a.s.now = grind (arith, common_steps) in
    λ k h.
    c.padded.ensures k h ∙ ap (λ (l : List ℕ). get_or l k 0) part ∙ get_or-drop a.at a.s.now k 0
