-- The one convention of all calls from C and Rust. A call is refused, and then nothing lent changes; or its answer stands in
-- front of what was lent, and it tells how much of it was written.
use Rattle.std.specs.Prelude.{ℕ, ◌+◌, ◌*◌, ◌≤◌, ◌<◌, ◌≡◌, cond, List, ◌++◌, ltb, length, drop, Result}
use Rattle.protocol.specs.declared.refusal.Refusal.{Refusal}
use Rattle.rules.specs.Answer.{Answer, refused, accepted, answered}

-- the answer that a result of the code is, where it tells how much was written
abbrev pub counted : Result ℕ Refusal → Answer ℕ
counted = answered (λ n. n)

-- as one number: a refusal's number above its place; accepted, how much was written
abbrev pub call_number : Answer ℕ → ℕ
call_number (refused n place) = n * 4294967296 + place
call_number (accepted count) = count

-- no count below 2 ^ 32 is taken for a refusal, and no refusal for another; proved in proofs/Apart.antt
abbrev pub CallsApart : Type 0
CallsApart =
    ((count n place : ℕ) → count < 4294967296 → 1 ≤ n → call_number (accepted count) ≡ call_number (refused n place) → ⊥)
    × ((n place m other : ℕ) → place < 4294967296 → other < 4294967296 → call_number (refused n place) ≡ call_number (refused m other) → (n ≡ m) × (place ≡ other))

-- the same answer, with something else for what an accepted call gives
abbrev pub mapped : {A B : Type 0} → (A → B) → Answer A → Answer B
mapped f (refused n place) = refused n place
mapped f (accepted a) = accepted (f a)

-- 255, which document 01 does not have: less room than the answer takes. All other refusals come first
abbrev pub in_room : {A : Type 0} → ℕ → (A → ℕ) → Answer A → Answer A
in_room room size (refused n place) = refused n place
in_room room size (accepted a) = cond (ltb room (size a)) (refused 255 0) (accepted a)

-- what was lent, afterwards
abbrev pub lent_after : List ℕ → Answer (List ℕ) → List ℕ
lent_after lent (refused n place) = lent
lent_after lent (accepted row) = row ++ drop (length row) lent

-- a call that answers nothing but whether it was accepted
abbrev pub plain_number : Answer (Unit {0}) → ℕ
plain_number a = call_number (mapped (λ u. 0) a)

-- a call whose answer is a row: by what was lent for it
abbrev pub row_count : List ℕ → Answer (List ℕ) → Answer ℕ
row_count lent a = mapped length (in_room (length lent) length a)

abbrev pub row_number : List ℕ → Answer (List ℕ) → ℕ
row_number lent a = call_number (row_count lent a)

abbrev pub row_after : List ℕ → Answer (List ℕ) → List ℕ
row_after lent a = lent_after lent (in_room (length lent) length a)
