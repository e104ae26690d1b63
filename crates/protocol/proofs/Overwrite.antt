-- Bytes put over those of an output: the length stays, and one after the other is both at once.
use Prim.Native.Nat.{ℕ, suc, ◌+◌, ◌≤◌, ◌<◌}
use native.Mathlib.Nat.{add-zero}
use native.Mathlib.Omega.{arith}
use mathlib.Core.Path.{◌≡◌, sym, ◌∙◌, ap}
use mathlib.Core.List.{List, [], ◌∷◌, ◌++◌, append_assoc, append-nil}
use lib.ListN.{length, set, take, drop, length-append, length-drop, take-append-drop}
use lib.Seq.{paste, set_split, take_at, drop_at, take-append-le, take-take, take-length, drop-drop, length-take-le}
use Rattle.protocol.specs.Overwrite.{overwrite}

-- the length stays
pub overwrite_length : (d : List ℕ) (at : ℕ) (s : List ℕ) → at + length s ≤ length d → length (overwrite d at s) ≡ length d
unfolding overwrite
overwrite_length d at s h =
    length-append (take at d ++ s) (drop (at + length s) d) ∙ rw (length-append (take at d) s, length-take-le at d (omega arith), length-drop (at + length s) d) (omega arith)

pub overwrite_nothing : (d : List ℕ) (at : ℕ) → overwrite d at [] ≡ d
unfolding overwrite
overwrite_nothing d at = rw (append-nil, add-zero) (take-append-drop at d)

-- one after the other
pub overwrite_then : (d : List ℕ) (at : ℕ) (xs ys : List ℕ) → at + length xs ≤ length d → overwrite (overwrite d at xs) (at + length xs) ys ≡ overwrite d at (xs ++ ys)
unfolding overwrite
overwrite_then d at xs ys h =
    let front : List ℕ = take at d ++ xs in
    let rest : List ℕ = drop (at + length xs) d in
    let size : length front ≡ at + length xs = length-append (take at d) xs ∙ rw (length-take-le at d (omega arith)) in
    let head : take (at + length xs) (front ++ rest) ≡ front = take_at front rest (at + length xs) size in
    let joined : at + length xs + length ys ≡ at + length (xs ++ ys) = rw (length-append xs ys) (omega arith) in
    let tail : drop (at + length xs + length ys) (front ++ rest) ≡ drop (at + length (xs ++ ys)) d =
    sym (drop-drop (length ys) (at + length xs) (front ++ rest)) ∙ ap (drop (length ys)) (drop_at front rest (at + length xs) size) ∙ drop-drop (length ys) (at + length xs) d
    ∙ ap (λ (k : ℕ). drop k d) joined
    in
    rw (head, tail) (ap (λ (l : List ℕ). l ++ drop (at + length (xs ++ ys)) d) (append_assoc (take at d) xs ys))

-- one more byte, in front
pub overwrite_before : (d : List ℕ) (at b : ℕ) (s : List ℕ) → suc at + length s ≤ length d → set (overwrite d (suc at) s) at b ≡ overwrite d at (b ∷ s)
unfolding overwrite
overwrite_before d at b s h =
    let rest : List ℕ = s ++ drop (suc at + length s) d in
    let front : length (take (suc at) d) ≡ suc at = length-take-le (suc at) d (omega arith) in
    let long : at < length (take (suc at) d ++ rest) = rw (length-append (take (suc at) d) rest) (omega arith) in
    let head : take at (take (suc at) d ++ rest) ≡ take at d = take-append-le at (take (suc at) d) rest (omega arith) ∙ take-take at (suc at) d (omega arith) in
    let tail : drop (suc at) (take (suc at) d ++ rest) ≡ rest = drop_at (take (suc at) d) rest (suc at) front in
    let place : suc at + length s ≡ at + suc (length s) = omega arith in
    ap (λ (l : List ℕ). set l at b) (append_assoc (take (suc at) d) s (drop (suc at + length s) d)) ∙ set_split (take (suc at) d ++ rest) at b long
    ∙ rw (head, tail) (ap (λ (k : ℕ). take at d ++ b ∷ (s ++ drop k d)) place ∙ sym (append_assoc (take at d) (b ∷ s) (drop (at + suc (length s)) d)))

-- all bytes pasted one by one
pub overwrite_paste : (d : List ℕ) (at : ℕ) (s : List ℕ) → paste d at s (length s) ≡ overwrite d at s
unfolding overwrite
overwrite_paste d at s = rw (take-length s)
