use Prim.Native.Nat.{ℕ}
use mathlib.Core.Path.{◌∙◌, ap}
use mathlib.Core.List.{List}
use lib.ListN.{take}
use Rattle.log_rules.proofs.Records.{message_in_lem}
use Rattle.log_lines.proofs.record.message_in.Goals as goal

pub returns : goal.returns
returns c =
    let n : ℕ = c.message_size.result in
    c.front.ensures ∙ ap (λ (l : List ℕ). take n l) c.tail.ensures
    ∙ message_in_lem 128 c.args.s.now n c.message_size.ensures.0
