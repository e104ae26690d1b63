-- Judging by the record at a place.
use Prim.Native.Nat.{ℕ, ◌<◌, min}
use native.Mathlib.Omega.{arith}
use mathlib.Core.Path.{◌≡◌, refl, sym, ◌∙◌, ap}
use mathlib.Core.Bool.{Bool, true, false, cond}
use mathlib.Core.List.{List, [], ◌∷◌, ◌++◌}
use mathlib.Core.Logic.{◌⊎◌, inl, inr, ⊎_elim}
use borrow.Author.Tests.{eqb-true, ne_eqb}
use lib.Dec.{eqb}
use lib.ListN.{length, get_or}
use Rattle.protocol.proofs.Tests.{which}
use Rattle.rules.specs.Answer.{refused, accepted, tested, passed}
use Rattle.rules.specs.Cells.{wiring_at}
use Rattle.rules.specs.Facts.{is_unjoined, is_virtual}
use Rattle.rules.specs.Judge.{ports_named}
use Rattle.rules.specs.Layout.{wiring_index, first_index, second_index}
use Rattle.rules.specs.declared.Wiring.TheVariants.{Unjoined, Joined, Virtual}
use Rattle.soundness.specs.Place.{cell_of}
use Rattle.soundness.proofs.Records.{here, wiring_at_lem}
use Rattle.protocol.specs.Refusal.{number_of, place_of}
use Rattle.protocol.specs.declared.refusal.Refusal.{Refusal}
use Rattle.std.specs.Prelude.{Ok, Err}
use Rattle.values.proofs.ValueAnswers.{has_number}

-- ---- what judging asks of a place

unjoined_kind : (kind a b : ℕ) → is_unjoined (wiring_at kind a b) ≡ eqb kind 1
unjoined_kind kind a b = one (eqb kind 1) (eqb kind 2)
  where
    one : (x y : Bool) → is_unjoined (cond x Unjoined (cond y (Joined a) (Virtual a b))) ≡ x
    one true y = refl
    one false true = refl
    one false false = refl

pub unjoined_at : (cells : List ℕ) (i : ℕ) → is_unjoined (here cells i).wiring ≡ eqb (cell_of cells i wiring_index) 1
unjoined_at cells i = ap is_unjoined (wiring_at_lem cells i) ∙ unjoined_kind (cell_of cells i wiring_index) (cell_of cells i first_index) (cell_of cells i second_index)

-- a port that is not physical is virtual
module _ (cells : List ℕ) (i : ℕ) where
  abbrev kind : ℕ
  kind = cell_of cells i wiring_index

  pub physical_at : (kind ≡ 1) ⊎ ((kind ≡ 1 → ⊥) × (kind ≡ 2)) → is_virtual (here cells i).wiring ≡ false
  physical_at e = ap is_virtual (wiring_at_lem cells i) ∙ by e
    where
      by : (kind ≡ 1) ⊎ ((kind ≡ 1 → ⊥) × (kind ≡ 2)) → is_virtual (wiring_at kind (cell_of cells i first_index) (cell_of cells i second_index)) ≡ false
      by (inl e) = ap (λ (k : ℕ). is_virtual (wiring_at k (cell_of cells i first_index) (cell_of cells i second_index))) e
      by (inr e) = ap (λ (k : ℕ). is_virtual (wiring_at k (cell_of cells i first_index) (cell_of cells i second_index))) e.1

  pub virtual_at : (kind ≡ 1 → ⊥) → (kind ≡ 2 → ⊥) → is_virtual (here cells i).wiring ≡ true
  virtual_at one two = ap is_virtual (wiring_at_lem cells i) ∙ rw (ne_eqb kind 1 one, ne_eqb kind 2 two)

-- a refusal without a place is the one of a test
pub refusal_is : (r : Refusal) → place_of r ≡ 0 → passed (Err r) ≡ tested (number_of r)
refusal_is r e =
    ap (refused (number_of r)) e
    ∙ sym (ap (λ (b : Bool). cond b (accepted tt) (refused (number_of r) 0)) (ne_eqb (number_of r) 0 (λ (z : number_of r ≡ 0). omega (arith, has_number r, z))))

-- ---- the ports of pairs, by the first pair

pub named_first : (pair others : List ℕ) → length pair ≡ min 2 (length (pair ++ others)) → 0 < length (pair ++ others) → ports_named (pair ++ others) ≡ get_or pair 0 0 ∷ ports_named others
named_first [] [] size some_left = absurd (omega (arith, some_left))
named_first [] (x ∷ others) size some_left = absurd (omega (arith, size))
named_first (port ∷ []) [] size some_left = refl
named_first (port ∷ []) (x ∷ others) size some_left = absurd (omega (arith, size))
named_first (port ∷ feedback ∷ []) others size some_left = refl
named_first (port ∷ feedback ∷ x ∷ pair) others size some_left = absurd (omega (arith, size))

-- a test that passes has no refusal
pub passes : (n : ℕ) → passed (Ok tt) ≡ tested n → ◌≡◌ {A = ℕ} n 0
passes n e =
    ⊎_elim (λ (x : eqb n 0 ≡ true). eqb-true n 0 x)
    (λ (x : eqb n 0 ≡ false). let z : accepted tt ≡ refused n 0 = e ∙ ap (λ (b : Bool). cond b (accepted tt) (refused n 0)) x in cc)
    (which (eqb n 0))
