-- A number's digits put over those of an output one by one, the last one first.
use Prim.Native.Nat.{ℕ, suc, ◌+◌, ◌-◌, ◌/◌, ◌%◌, ◌≤◌, ◌<◌}
use native.Mathlib.Omega.{arith}
use mathlib.Core.Path.{◌≡◌, sym, ◌∙◌, ap}
use mathlib.Core.List.{List, [], ◌∷◌, ◌++◌, append-nil}
use lib.ListN.{length, set, length-append}
use lib.Seq.{append_snoc}
use Rattle.log_rules.specs.Decimal.{digit, decimal}
use Rattle.protocol.specs.Overwrite.{overwrite}
use Rattle.log_rules.proofs.Decimals.{decimal_one, decimal_more, length_one, length_more, length_some}
use Rattle.protocol.proofs.Overwrite.{overwrite_length, overwrite_nothing, overwrite_before}

-- the digits of what is left are still to be written, so many; those after them are there
pub record Spelled (d : List ℕ) (at n : ℕ) (out : List ℕ) (i rest : ℕ) : Type 0 where
  pub after : List ℕ
  pub whole : decimal n ≡ decimal rest ++ after
  pub size : i ≡ length (decimal rest)
  pub done : out ≡ overwrite d (at + i) after
  pub room : at + length (decimal n) ≤ length d

pub spelled_start : (d : List ℕ) (at k n : ℕ) → k ≡ length (decimal n) → at + k ≤ length d → Spelled d at n d k n
spelled_start d at k n e h = record { after = []; whole = sym (append-nil (decimal n)); size = e; done = sym (overwrite_nothing d (at + k)); room = omega arith }

module _ {d : List ℕ} {at n : ℕ} {out : List ℕ} {i rest : ℕ} (p : Spelled d at n out i rest) where
  sizes : length (decimal n) ≡ i + length p.after
  sizes = ap length p.whole ∙ length-append (decimal rest) p.after ∙ ap (λ (k : ℕ). k + length p.after) (sym p.size)

  pub spelled_left : 1 ≤ i
  spelled_left = omega (arith, length_some rest, p.size)

  pub spelled_length : length out ≡ length d
  spelled_length = ap length p.done ∙ overwrite_length d (at + i) p.after (omega (arith, sizes, p.room))

  pub spelled_room : at + i ≤ length out
  spelled_room = omega (arith, sizes, p.room, spelled_length)

  -- the next one
  pub spelled_more : 10 ≤ rest → Spelled d at n (set out (at + (i - 1)) (digit (rest % 10))) (i - 1) (rest / 10)
  spelled_more h =
      let b : ℕ = digit (rest % 10) in
      let some : 1 ≤ i = spelled_left in
      let place : at + i ≡ suc (at + (i - 1)) = omega arith in
      record {
        after = b ∷ p.after;
        whole = p.whole ∙ ap (λ (l : List ℕ). l ++ p.after) (decimal_more rest h) ∙ append_snoc (decimal (rest / 10)) b p.after;
        size = omega (arith, p.size, length_more rest h);
        done =
            ap (λ (l : List ℕ). set l (at + (i - 1)) b) (p.done ∙ ap (λ (k : ℕ). overwrite d k p.after) place)
            ∙ overwrite_before d (at + (i - 1)) b p.after (omega (arith, sizes, p.room));
        room = p.room;
      }

  -- the first one
  pub spelled_all : rest < 10 → set out at (digit rest) ≡ overwrite d at (decimal n)
  spelled_all h =
      let place : at + i ≡ suc at = omega (arith, p.size, length_one rest h) in
      ap (λ (l : List ℕ). set l at (digit rest)) (p.done ∙ ap (λ (k : ℕ). overwrite d k p.after) place)
      ∙ overwrite_before d at (digit rest) p.after (omega (arith, sizes, p.room))
      ∙ ap (overwrite d at) (sym (p.whole ∙ ap (λ (l : List ℕ). l ++ p.after) (decimal_one rest h)))
