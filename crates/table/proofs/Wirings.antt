-- Wirings by their cells and by the tests of them.
use Prim.Native.Nat.{ℕ}
use native.Mathlib.Omega.{arith}
use mathlib.Core.Path.{◌≡◌, refl, ◌∙◌, ap}
use mathlib.Core.Bool.{true}
use mathlib.Core.Option.{Option, none, some}
use Rattle.rules.specs.Facts.{Facts, known, is_virtual}
use Rattle.rules.specs.declared.Wiring.{Wiring}
use Rattle.rules.specs.declared.Wiring.TheVariants.{Unjoined, Joined, Virtual}
use Rattle.rules.specs.Table.{wired_as}
use Rattle.rules.specs.Cells.{wiring_cell, first_partner, second_partner}
use Rattle.rules.proofs.Sound.{wiring?, seen}

-- the facts of a port that is present
pub record Present (x : Option Facts) : Type 0 where
  pub facts : Facts
  pub is : x ≡ some facts

pub present : (x : Option Facts) → known x ≡ true → Present x
present none e = let z : ◌≡◌ {A = ℕ} 0 1 = cc in absurd (omega arith)
present (some f) e = record { facts = f; is = refl }

-- ---- by the first cell

pub kind_unjoined : (w : Wiring) → wiring_cell w ≡ 1 → w ≡ Unjoined
kind_unjoined Unjoined e = refl
kind_unjoined (Joined v) e = absurd (omega arith)
kind_unjoined (Virtual a b) e = absurd (omega arith)

pub kind_virtual : (w : Wiring) → wiring_cell w ≡ 3 → is_virtual w ≡ true
kind_virtual Unjoined e = absurd (omega arith)
kind_virtual (Joined v) e = absurd (omega arith)
kind_virtual (Virtual a b) e = refl

pub kind_joined : (w : Wiring) → (wiring_cell w ≡ 3 → ⊥) → (wiring_cell w ≡ 1 → ⊥) → w ≡ Joined (first_partner w)
kind_joined Unjoined n m = absurd (m refl)
kind_joined (Joined v) n m = refl
kind_joined (Virtual a b) n m = absurd (n refl)

-- ---- by their tests

pub virtual_is : (w : Wiring) → is_virtual w ≡ true → w ≡ Virtual (first_partner w) (second_partner w)
virtual_is Unjoined e = let z : ◌≡◌ {A = ℕ} 0 1 = cc in absurd (omega arith)
virtual_is (Joined v) e = let z : ◌≡◌ {A = ℕ} 0 1 = cc in absurd (omega arith)
virtual_is (Virtual a b) e = refl

pub virtual_known : (x : Option Facts) → is_virtual (wired_as x) ≡ true → known x ≡ true
virtual_known none e = e
virtual_known (some f) e = refl

-- ---- a known wiring

pub wired_known : (x : Option Facts) (y : Wiring) → wiring? x ≡ some y → known x ≡ true
wired_known x y e = ap known (seen x y e).is

pub wired_as_lem : (x : Option Facts) (y : Wiring) → wiring? x ≡ some y → wired_as x ≡ y
wired_as_lem x y e = let s = seen x y e in ap wired_as s.is ∙ s.wired
