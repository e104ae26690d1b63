use Prim.Native.Nat.{ℕ, ◌+◌, ◌-◌}
use native.Mathlib.Omega.{arith}
use mathlib.Core.Path.{◌≡◌, ◌∙◌, ap}
use mathlib.Core.List.{List, ◌∷◌, ◌++◌}
use lib.ListN.{length, drop, replicate}
use Rattle.std.proofs.lemmas.List.{drop-replicate}
use Rattle.message_rows.proofs.Cases.{padded_is}
use Rattle.message_rows.proofs.row.Goals as goal

-- the cells after so many values
left : (n : ℕ) → drop {A = ℕ} (4 + n - 4) (replicate 12 0) ≡ replicate (12 - n) 0
left n = let k : 4 + n - 4 ≡ n = omega arith in ap (λ (i : ℕ). drop {A = ℕ} i (replicate 12 0)) k ∙ drop-replicate n 12 0

pub returns : goal.returns
returns c =
    let a = c.args in
    let vs : List ℕ = a.values.now in
    let all = ap (λ (l : List ℕ). vs ++ l) (left (length vs)) ∙ padded_is 12 vs c.requires in
    rw c.copy_from_slice.ensures.after (ap (λ (l : List ℕ). a.form ∷ 0 ∷ 0 ∷ length vs ∷ l) all)
