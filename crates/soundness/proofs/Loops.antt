-- Tests after one another: what all of them say, by the next one and those after it.
use Prim.Native.Nat.{ℕ, suc, ◌+◌, ◌≤◌, ◌<◌}
use native.Mathlib.Numerals.{add-one}
use mathlib.Core.Path.{◌≡◌, refl, sym, ◌∙◌, ap}
use mathlib.Core.Bool.{Bool, true, false, cond, ◌&&◌, and-true, and_assoc}
use mathlib.Core.List.{List, [], ◌∷◌}
use lib.ListN.{length, get_or, drop, drop_of_length-le}
use lib.Seq.{drop-cons}

-- ---- a loop that stops at the first that fails

pub stops : (later : Bool) {all next : Bool} → all ≡ (next && later) → next ≡ false → false ≡ all
stops later e k = sym (e ∙ ap (λ (b : Bool). b && later) k)

pub goes_on : {all next later : Bool} → all ≡ (next && later) → next ≡ true → all ≡ later
goes_on {later = later} e k = e ∙ ap (λ (b : Bool). b && later) k

-- ---- a loop that goes on to the end

pub joins : (so_far next later : Bool) {all left : Bool} → all ≡ (so_far && left) → left ≡ (next && later) → all ≡ (so_far && next && later)
joins so_far next later e k = e ∙ ap (λ (b : Bool). so_far && b) k ∙ sym (and_assoc so_far next later)

pub joined : (so_far : Bool) {all left : Bool} → all ≡ (so_far && left) → left ≡ true → so_far ≡ all
joined so_far e k = sym (e ∙ ap (λ (b : Bool). so_far && b) k ∙ and-true so_far)

-- a test of every cell: those from an index on are left
module _ (all : List ℕ → Bool) (test : ℕ → Bool) (empty : all [] ≡ true) (first : (c : ℕ) (cs : List ℕ) → all (c ∷ cs) ≡ (test c && all cs)) (cells : List ℕ) (k : ℕ) where
  pub cell_next : k < length cells → all (drop k cells) ≡ (test (get_or cells k 0) && all (drop (k + 1) cells))
  cell_next h =
      ap all (drop-cons cells k 0 h) ∙ first (get_or cells k 0) (drop (suc k) cells) ∙ ap (λ (n : ℕ). test (get_or cells k 0) && all (drop n cells)) (sym (add-one k))

  pub cells_done : length cells ≤ k → all (drop k cells) ≡ true
  cells_done h = ap all (drop_of_length-le cells h) ∙ empty

-- ---- two tests, the second only where the first passes

pub passes : {a b x y r : Bool} → x ≡ a → x ≡ true → y ≡ b → r ≡ y → r ≡ (a && b)
passes {b = b} e k f g = g ∙ f ∙ sym (ap (λ (t : Bool). t && b) (sym e ∙ k))

pub fails : {a x r : Bool} (b : Bool) → x ≡ a → x ≡ false → r ≡ x → r ≡ (a && b)
fails b e k g = g ∙ k ∙ sym (ap (λ (t : Bool). t && b) (sym e ∙ k))

-- ---- two tests in another order

pub crossed : (a b x y : Bool) → (a && b && (x && y)) ≡ (a && x && (b && y))
crossed true true x y = refl
crossed true false true y = refl
crossed true false false y = refl
crossed false b x y = refl

-- ---- a test that is another one where those before it pass

pub and_when : (a : Bool) {x y : Bool} → (a ≡ true → x ≡ y) → (a && x) ≡ (a && y)
and_when true f = f refl
and_when false f = refl

-- ---- a choice whose test is known

pub first_of : {A : Type 0} (x y : A) {b : Bool} → b ≡ true → x ≡ cond b x y
first_of x y e = sym (ap (λ (b : Bool). cond b x y) e)

pub second_of : {A : Type 0} (x y : A) {b : Bool} → b ≡ false → y ≡ cond b x y
second_of x y e = sym (ap (λ (b : Bool). cond b x y) e)
