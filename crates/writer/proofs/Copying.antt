-- A loop that copies bytes one by one.
use Prim.Native.Nat.{ℕ, ◌+◌, ◌≤◌, ◌<◌}
use native.Mathlib.Numerals.{add-one}
use native.Mathlib.Omega.{arith}
use mathlib.Core.Path.{◌≡◌, ◌∙◌, ap}
use mathlib.Core.List.{List}
use lib.ListN.{length, get_or, set}
use lib.Seq.{paste, paste-zero, paste-suc, length-paste}
use Rattle.protocol.specs.Overwrite.{overwrite}
use Rattle.protocol.proofs.Overwrite.{overwrite_paste}

-- so many are copied
abbrev pub Copied : List ℕ → ℕ → List ℕ → ℕ → List ℕ → Type 0
Copied d at s i e = (i ≤ length s) × (e ≡ paste d at s i)

pub copied_none : (d : List ℕ) (at : ℕ) (s : List ℕ) → Copied d at s 0 d
copied_none d at s = (omega arith, paste-zero d at s)

pub copied_length : (d : List ℕ) (at : ℕ) (s : List ℕ) (i : ℕ) (e : List ℕ) → Copied d at s i e → at + length s ≤ length d → length e ≡ length d
copied_length d at s i e inv pre = ap length inv.1 ∙ length-paste d at s i (omega arith) inv.0

pub copied_one : (d : List ℕ) (at : ℕ) (s : List ℕ) (i : ℕ) (e : List ℕ) (b : ℕ) → Copied d at s i e → at + length s ≤ length d → i < length s → b ≡ get_or s i 0 → Copied d at s (i + 1) (set e (at + i) b)
copied_one d at s i e b inv pre h is =
    (omega arith, rw (inv.1, is, add-one) (paste-suc d at s i 0 (omega arith) h))

pub copied_all : (d : List ℕ) (at : ℕ) (s : List ℕ) (i : ℕ) (e : List ℕ) → Copied d at s i e → length s ≤ i → e ≡ overwrite d at s
copied_all d at s i e inv h =
    let end : i ≡ length s = omega arith in
    inv.1 ∙ ap (paste d at s) end ∙ overwrite_paste d at s
