-- Bytes that are moved to the start of the list in which they stand.
use Prim.Native.Nat.{ℕ, ◌+◌, ◌-◌, ◌≤◌}
use native.Mathlib.Omega.{arith}
use mathlib.Core.Path.{◌≡◌, ◌∙◌, ap}
use mathlib.Core.List.{List}
use lib.ListN.{length, take, drop, length-drop}
use lib.Seq.{take-append_seam}
use Rattle.std.specs.List.{copy_within}
use Rattle.std.proofs.lemmas.List.Edits.{take-paste}
use Rattle.protocol.specs.Overwrite.{overwrite}

module _ (d : List ℕ) (from to : ℕ) (h : from ≤ to) (k : to ≤ length d) where
  inside : to - from ≤ length (drop from d)
  inside = omega (arith, length-drop from d, h, k)

  -- the front is the bytes from one index to another
  pub moved_front : take (to - from) (copy_within d from to 0) ≡ take (to - from) (drop from d)
  moved_front =
      let n : ℕ = to - from in
      let zero_n : n ≡ 0 + n = omega arith in
      ap (λ (k : ℕ). take k (copy_within d from to 0)) zero_n ∙ take-paste d 0 (drop from d) n (omega arith) inside

-- the front of what was overwritten from the start is what was put
pub front_text : (d s : List ℕ) → take (length s) (overwrite d 0 s) ≡ s
unfolding overwrite
front_text d s = take-append_seam s (drop (0 + length s) d)
