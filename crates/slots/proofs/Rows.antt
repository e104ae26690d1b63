-- The slots of a message are its fields.
use Prim.Native.Nat.{ℕ, zero, suc, ◌≤◌, ◌<◌}
use native.Mathlib.Omega.{arith}
use mathlib.Core.Path.{◌≡◌, refl}
use mathlib.Core.Bool.{true, false}
use mathlib.Core.List.{List, [], ◌∷◌}
use mathlib.Core.Logic.{⊎_elim}
use borrow.Author.Tests.{leb-true, leb-false, lt-ltb}
use lib.Dec.{leb, ltb}
use Rattle.protocol.proofs.Tests.{which}
use Rattle.protocol.specs.Form.{layout}
use Rattle.protocol.specs.declared.Combinations.{Combinations}
use Rattle.protocol.specs.declared.Message.{Message}
use Rattle.protocol.specs.declared.Message.TheVariants as Message'
use Rattle.slots.specs.Slot.{Slotted, word_slot}
use Rattle.slots.specs.declared.Slot.{Slot}
use Rattle.slots.specs.declared.Slot.TheVariants as Slot'

-- a number up to eight, one by one
eight : (P : ℕ → Type 0) → P 0 → P 1 → P 2 → P 3 → P 4 → P 5 → P 6 → P 7 → P 8 → (n : ℕ) → n ≤ 8 → P n
eight P p0 p1 p2 p3 p4 p5 p6 p7 p8 zero h = p0
eight P p0 p1 p2 p3 p4 p5 p6 p7 p8 (suc zero) h = p1
eight P p0 p1 p2 p3 p4 p5 p6 p7 p8 (suc (suc zero)) h = p2
eight P p0 p1 p2 p3 p4 p5 p6 p7 p8 (suc (suc (suc zero))) h = p3
eight P p0 p1 p2 p3 p4 p5 p6 p7 p8 (suc (suc (suc (suc zero)))) h = p4
eight P p0 p1 p2 p3 p4 p5 p6 p7 p8 (suc (suc (suc (suc (suc zero))))) h = p5
eight P p0 p1 p2 p3 p4 p5 p6 p7 p8 (suc (suc (suc (suc (suc (suc zero)))))) h = p6
eight P p0 p1 p2 p3 p4 p5 p6 p7 p8 (suc (suc (suc (suc (suc (suc (suc zero))))))) h = p7
eight P p0 p1 p2 p3 p4 p5 p6 p7 p8 (suc (suc (suc (suc (suc (suc (suc (suc zero)))))))) h = p8
eight P p0 p1 p2 p3 p4 p5 p6 p7 p8 (suc (suc (suc (suc (suc (suc (suc (suc (suc k))))))))) h = absurd (omega arith)

module _ (port e0 e1 e2 e3 e4 e5 e6 e7 : ℕ) where
  abbrev combined : ℕ → Message
  combined n = Message'.PortCombinations port (record { count = n; entry0 = e0; entry1 = e1; entry2 = e2; entry3 = e3; entry4 = e4; entry5 = e5; entry6 = e6; entry7 = e7 })

  abbrev word_row : ℕ → List Slot
  word_row n = Slot'.Byte 0x43 ∷ Slot'.Byte port ∷ Slot'.Byte 2 ∷ word_slot 0 n e0 ∷ word_slot 1 n e1 ∷ word_slot 2 n e2 ∷ word_slot 3 n e3 ∷ word_slot 4 n e4 ∷ word_slot 5 n e5 ∷ word_slot 6 n e6 ∷ word_slot 7 n e7 ∷ []

  few : (n : ℕ) → n ≤ 8 → Slotted (combined n) (word_row n)
  unfolding layout
  few =
      eight (λ (n : ℕ). Slotted (combined n) (word_row n))
      (record { eleven = refl; fields = refl; values = refl })
      (record { eleven = refl; fields = refl; values = refl })
      (record { eleven = refl; fields = refl; values = refl })
      (record { eleven = refl; fields = refl; values = refl })
      (record { eleven = refl; fields = refl; values = refl })
      (record { eleven = refl; fields = refl; values = refl })
      (record { eleven = refl; fields = refl; values = refl })
      (record { eleven = refl; fields = refl; values = refl })
      (record { eleven = refl; fields = refl; values = refl })

  many : (n : ℕ) → 8 < n → leb n 8 ≡ false → Slotted (combined n) (word_row n)
  unfolding layout
  many n h e =
      let below : (i : ℕ) → i ≤ 7 → ltb i n ≡ true = λ i k. lt-ltb i n (omega arith) in
      rw (below 0 (omega arith), below 1 (omega arith), below 2 (omega arith), below 3 (omega arith), below 4 (omega arith), below 5 (omega arith), below 6 (omega arith), below 7 (omega arith))
      (record { eleven = refl; fields = rw e; values = rw e })

  any_count : (n : ℕ) → Slotted (combined n) (word_row n)
  any_count n =
      ⊎_elim (λ (yes : leb n 8 ≡ true). few n (leb-true n 8 yes)) (λ (no : leb n 8 ≡ false). many n (leb-false n 8 no) no) (which (leb n 8))

pub combination_slots : (port : ℕ) (k : Combinations) → Slotted (Message'.PortCombinations port k) (word_row port k.entry0 k.entry1 k.entry2 k.entry3 k.entry4 k.entry5 k.entry6 k.entry7 k.count)
combination_slots port k = any_count port k.entry0 k.entry1 k.entry2 k.entry3 k.entry4 k.entry5 k.entry6 k.entry7 k.count

-- slots and a message that are known by equations
pub slotted : {m n : Message} {r s : List Slot} → m ≡ n → r ≡ s → Slotted n s → Slotted m r
slotted e k x = rw (e, k) x
