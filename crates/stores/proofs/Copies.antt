-- Cells stored one after the other.
use Prim.Native.Nat.{ℕ, suc, ◌+◌, ◌*◌, ◌≤◌, ◌<◌}
use native.Mathlib.Nat.{add-suc}
use native.Mathlib.Numerals.{add-one}
use native.Mathlib.Omega.{arith}
use mathlib.Core.Path.{◌≡◌, refl, sym, ◌∙◌, ap}
use mathlib.Core.List.{List, [], ◌∷◌, ◌++◌}
use lib.ListN.{length, get_or, set, take, drop}
use lib.Seq.{paste, paste-zero, paste-suc, length-paste, take_all, sets, sets-eq}
use Rattle.rules.specs.Layout.{stride}
use Rattle.stores.specs.Stores.{Store, put, stored, cell_stores}

-- the first so many of the cells stand there
abbrev pub Copied : List ℕ → ℕ → List ℕ → ℕ → List ℕ → Type 0
Copied cells at xs i now = (i ≤ length xs) × (now ≡ paste cells at xs i)

module _ (cells : List ℕ) (at : ℕ) (xs : List ℕ) where
  pub copied_none : Copied cells at xs 0 cells
  copied_none = (omega arith, paste-zero cells at xs)

  module _ (room : at + length xs ≤ length cells) (i : ℕ) (now : List ℕ) (k : Copied cells at xs i now) where
    pub copied_length : length now ≡ length cells
    copied_length = ap length k.1 ∙ length-paste cells at xs i (omega (arith, k.0)) k.0

    pub copied_one : i < length xs → (v : ℕ) → v ≡ get_or xs i 0 → Copied cells at xs (i + 1) (set now (at + i) v)
    copied_one h v is = (omega arith, (λ j. set (k.1 j) (at + i) (is j)) ∙ paste-suc cells at xs i 0 (omega arith) h ∙ ap (paste cells at xs) (sym (add-one i)))

    pub copied_all : length xs ≤ i → now ≡ take at cells ++ xs ++ drop (at + length xs) cells
    copied_all h =
        let end : i ≡ length xs = omega (arith, k.0) in
        k.1 ∙ ap (paste cells at xs) end ∙ ap (λ (l : List ℕ). take at cells ++ l ++ drop (at + length xs) cells) (take_all (length xs) xs (omega arith))

-- ---- as stores in a place

stores_sets : (cells : List ℕ) (place index : ℕ) (xs : List ℕ) → stored cells place (cell_stores index xs) ≡ sets cells (stride * place + index) xs
unfolding cell_stores
stores_sets cells place index [] = refl
stores_sets cells place index (x ∷ xs) =
    stores_sets (set cells (stride * place + index) x) place (suc index) xs ∙ ap (λ (n : ℕ). sets (set cells (stride * place + index) x) n xs) (add-suc (stride * place) index)

pub stores_are : (cells : List ℕ) (place index : ℕ) (xs : List ℕ) → stride * place + index + length xs ≤ length cells
    → stored cells place (cell_stores index xs) ≡ take (stride * place + index) cells ++ xs ++ drop (stride * place + index + length xs) cells
stores_are cells place index xs h = stores_sets cells place index xs ∙ sets-eq xs cells (stride * place + index) h

pub stored_append : (cells : List ℕ) (place : ℕ) (xs ys : List Store) → stored cells place (xs ++ ys) ≡ stored (stored cells place xs) place ys
stored_append cells place [] ys = refl
stored_append cells place (put index v ∷ xs) ys = stored_append (set cells (stride * place + index) v) place xs ys
