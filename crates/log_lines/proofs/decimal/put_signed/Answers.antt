use Prim.Native.Nat.{ℕ, suc, ◌+◌, ◌≤◌}
use native.Mathlib.Omega.{arith}
use mathlib.Core.Path.{◌≡◌, ◌∙◌, ap}
use mathlib.Core.List.{List, ◌∷◌}
use lib.ListN.{length, set}
use Rattle.protocol.specs.Overwrite.{overwrite}
use Rattle.protocol.proofs.Overwrite.{overwrite_before}
use Rattle.log_rules.specs.Decimal.{minus, decimal, signed_decimal}
use Rattle.log_rules.proofs.Decimals.{length_nineteen}
use Rattle.log_lines.proofs.Magnitudes.{upper_text, lower_text}
use Rattle.log_lines.proofs.decimal.put_signed.Goals as goal

pub put_digits-requires : goal.put_digits-requires
put_digits-requires c = let m = c.unsigned_abs-size in omega (arith, length_nineteen m.result m.ensures.bound, c.requires)

pub returns-then-n-ge0 : goal.returns-then-n-ge0
returns-then-n-ge0 c =
    let a = c.args in
    let m = c.unsigned_abs-size in
    let put = c.put_digits.ensures in
    let text : decimal m.result ≡ signed_decimal a.n = upper_text a.n c.ranges.n c.if-n-ge0.true m.result m.ensures.value in
    (put.0 ∙ ap length text, omega (arith, put.0, length_nineteen m.result m.ensures.bound), put.1 ∙ ap (overwrite a.out.now a.at) text)

pub put_digits-k-requires : goal.put_digits-k-requires
put_digits-k-requires c = let m = c.unsigned_abs-size in omega (arith, length_nineteen m.result m.ensures.bound, c.requires)

pub overflow_add-result : goal.overflow_add-result
overflow_add-result c = let m = c.unsigned_abs-size in record { fits = omega (arith, c.put_digits-k.ensures.0, length_nineteen m.result m.ensures.bound) }

pub returns : goal.returns
returns c =
    let a = c.args in
    let m = c.unsigned_abs-size in
    let put = c.put_digits-k.ensures in
    let few : length (decimal m.result) ≤ 19 = length_nineteen m.result m.ensures.bound in
    let room : a.at + 20 ≤ length a.out.now = c.requires in
    let next : a.at + 1 ≡ suc a.at = omega arith in
    let text : minus ∷ decimal m.result ≡ signed_decimal a.n = lower_text a.n c.ranges.n c.if-n-ge0.false m.result m.ensures.value in (
      omega (arith, put.0, ap length text),
      omega (arith, put.0),
      ap (λ (l : List ℕ). set l a.at minus) (put.1 ∙ ap (λ (k : ℕ). overwrite a.out.now k (decimal m.result)) next)
          ∙ overwrite_before a.out.now a.at minus (decimal m.result) (omega arith) ∙ ap (overwrite a.out.now a.at) text,
    )
